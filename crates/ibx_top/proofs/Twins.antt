-- What `twin` answers tells of time.
use Rattle.std.proofs.Common.{◌≡◌, ℕ, ◌<◌, ◌≤◌, Bool, true, false, List, [], ◌∷◌, Option, Some, None}
use Rattle.std.proofs.Common.{Result, Ok, Err, length, refl, sym, ap, ◌∙◌, subst, arith}
use Rattle.std.specs.Prelude.{nat_lt}
use Rattle.std.proofs.lemmas.Bool.Decides.{nat_tests}
use Rattle.std.proofs.lemmas.Option.{same_Some}
use Rattle.ibx_base.specs.Files.{Contents, IsContent}
use Rattle.ibx_base.specs.Sinks.{with_more}
use Rattle.ibx_elf.specs.declared.fault.ElfFault.{ElfFault}
use Rattle.ibx_elf.specs.declared.ram.Ram.{Ram}
use Rattle.ibx_elf.specs.Faults.{first_fault}
use Rattle.ibx_elf.specs.Image.{Placed, image_of}
use Rattle.ibx_plan.specs.declared.bounds.Bounds.{Bounds}
use Rattle.ibx_plan.specs.declared.bounds.PlanFault.{PlanFault}
use Rattle.ibx_plan.specs.Plan.{PlanValue, empty_plan, plan_of}
use Rattle.ibx_command.specs.declared.options.Options.{Options}
use Rattle.ibx_top.specs.declared.outcome.Refusal.{Refusal}
use Rattle.ibx_top.specs.declared.outcome.Refusal.TheVariants as why
use Rattle.ibx_top.specs.Twins.{differs, twin_code}
use Rattle.ibx_top.specs.Answers.{Answer, IsAnsweredBy, IsBytesAnswer, IsFileAnswer, IsFollowedBy, IsImageIn, IsOneOf}
use Rattle.ibx_top.specs.Answers.{IsPair, IsPlanIn, IsSecond, IsTextAnswer, IsTwin, TellsTime, bounds_of}
use Rattle.ibx_top.specs.Answers.{compared_by, file_limit, plan_limit, refusal_code, refused, run_codes, setup_of, twinned_by}
use Rattle.ibx_top.proofs.TwinTimes.{twins_agree_in_time}

-- ---- what a comparison tells of time

-- an answer with one of these statuses is no refusal
abbrev IsRan : Answer → Type 0
IsRan answer = IsOneOf run_codes answer.code

-- a test can't fail and hold
impossible : false ≡ true → ⊥
impossible e = cc

-- a refusal has another status
no_refusal : (name : List ℕ) (refusal : Refusal) (answer : Answer) → (IsOneOf run_codes (refusal_code refusal) → ⊥)
    → answer ≡ refused name refusal → IsRan answer → ⊥
no_refusal name refusal answer none is ran = none (subst IsRan is ran)

-- what is known of a file whose answer is no refusal
record HasRun (told : Option Contents) (name : List ℕ) (ram : Ram) (Ran : Placed → Answer → Type 0) (answer : Answer) :
    Type 0 where
  pub image : Placed
  pub of_file : IsImageIn told name ram image
  pub ran : Ran image answer

-- the bytes of such a file
has_run_by : (told : Option Contents) (name : List ℕ) (ram : Ram) (Ran : Placed → Answer → Type 0) (answer : Answer)
    (bytes : List ℕ) (long : Bool) (fault : Option ElfFault) → nat_lt file_limit (length bytes) ≡ long
    → first_fault bytes ram ≡ fault → IsContent told name bytes
    → IsAnsweredBy name long fault (Ran (image_of bytes ram)) answer → IsRan answer → HasRun told name ram Ran answer
has_run_by told name ram Ran answer bytes true fault e f content is ran =
    absurd (no_refusal name why.FileTooLong answer impossible is ran)
has_run_by told name ram Ran answer bytes false (Some fault) e f content is ran =
    absurd (no_refusal name (why.File fault) answer impossible is ran)
has_run_by told name ram Ran answer bytes false None e f content is ran = record {
  image = image_of bytes ram;
  of_file = record { bytes = bytes; content = content; short = e; sound = f; placed = refl };
  ran = is;
}

-- a file whose answer is no refusal has an image, and the answer is one to that image
has_run : (told : Option Contents) (name : List ℕ) (ram : Ram) (Ran : Placed → Answer → Type 0) (answer : Answer)
    → IsFileAnswer told name ram Ran answer → IsRan answer → HasRun told name ram Ran answer
has_run told name ram Ran answer (bytes, (content, is)) ran =
    has_run_by told name ram Ran answer bytes (nat_lt file_limit (length bytes)) (first_fault bytes ram) refl refl
    content
    is ran

-- the RAM of a file's image is that of the options
ram_is : (told : Option Contents) (name : List ℕ) (ram : Ram) (image : Placed) → IsImageIn told name ram image
    → image.ram ≡ ram
ram_is told name ram image is = ap (λ (i : Placed). i.ram) is.placed

module _ (told : Option Contents) (first second : List ℕ) (plan : Option (List ℕ)) (options : Options)
    (answer : Answer)
    (code : ℕ) (before after : Option (List ℕ)) (status : code ≡ answer.code)
    (text : after ≡ with_more before answer.text) (ran : IsRan answer) where
  -- both images under a plan
  told_images : (planned : PlanValue) → IsPlanIn told plan (bounds_of 0 options) planned → (a b : Placed)
      → IsImageIn told first options.ram a → IsImageIn told second options.ram b
      → answer ≡ twinned_by options planned a b → TellsTime told first second plan options code before after
  told_images planned follows a b of_a of_b is =
      let rams : a.ram ≡ b.ram = ram_is told first options.ram a of_a ∙ sym (ram_is told second options.ram b of_b) in
      record {
        planned = planned;
        a = a;
        b = b;
        of_plan = follows;
        of_first = of_a;
        of_second = of_b;
        status = status ∙ ap (λ (r : Answer). r.code) is;
        text = text ∙ ap (λ (r : Answer). with_more before r.text) is;
        cycles =
            twins_agree_in_time (setup_of options planned a) (setup_of options planned b) options.cycles
            (ap (λ (ram : Ram). record { ram = ram; mul = options.mul; plan = planned }) rams);
      }

  -- both files
  told_pair : (planned : PlanValue) → IsPlanIn told plan (bounds_of 0 options) planned
      → IsPair told first second options planned answer → TellsTime told first second plan options code before after
  told_pair planned follows is =
      let one = has_run told first options.ram (IsSecond told second options planned) answer is ran in
      let other = has_run told second options.ram (λ (b : Placed) (r : Answer). r ≡ twinned_by options planned
      one.image b)
      answer one.ran ran in
      told_images planned follows one.image other.image one.of_file other.of_file other.ran

-- under the text of a plan
told_text : (told : Option Contents) (first second name : List ℕ) (options : Options) (answer : Answer) (code : ℕ)
    (before after : Option (List ℕ)) (text : List ℕ) (long : Bool) (read : Result PlanValue PlanFault)
    → nat_lt plan_limit (length text) ≡ long → plan_of (bounds_of 0 options) text ≡ read → IsContent told name text
    → code ≡ answer.code → after ≡ with_more before answer.text → IsRan answer
    → IsFollowedBy name long read (IsPair told first second options) answer
    → TellsTime told first second (Some name) options code before after
told_text told first second name options answer code before after text true read e f content status wrote ran is =
    absurd (no_refusal name why.PlanTooLong answer impossible is ran)
told_text told first second name options answer code before after text false (Err fault) e f content status wrote ran
    is =
    absurd (no_refusal name (why.Plan fault) answer impossible is ran)
told_text told first second name options answer code before after text false (Ok planned) e f content status wrote ran
    is =
    told_pair told first second (Some name) options answer code before after status wrote ran planned
    (text, (content, (e, f))) is

-- an answer of `twin` that is no refusal tells of time
pub tells_time : (told : Option Contents) (first second : List ℕ) (plan : Option (List ℕ)) (options : Options)
    (answer : Answer) (code : ℕ) (before after : Option (List ℕ)) → code ≡ answer.code
    → after ≡ with_more before answer.text → IsRan answer → IsTwin told first second plan options answer
    → TellsTime told first second plan options code before after
tells_time told first second None options answer code before after status wrote ran is =
    told_pair told first second None options answer code before after status wrote ran empty_plan refl is
tells_time told first second (Some name) options answer code before after status wrote ran (text, (content, is)) =
    told_text told first second name options answer code before after text (nat_lt plan_limit (length text))
    (plan_of (bounds_of 0 options) text) refl refl content status wrote ran is
