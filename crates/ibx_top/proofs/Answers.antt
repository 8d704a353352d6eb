-- What is answered to the bytes of files, case by case.
use Rattle.std.proofs.Common.{◌≡◌, ℕ, ◌<◌, ◌≤◌, Bool, true, false, List, [], ◌∷◌, Option, Some, None}
use Rattle.std.proofs.Common.{Result, Ok, Err, length, refl, sym, ap, ◌∙◌, subst, arith}
use Rattle.std.specs.Prelude.{nat_lt, is_some}
use Rattle.std.proofs.lemmas.Bool.Decides.{nat_tests}
use Rattle.std.proofs.lemmas.Option.{same_Some}
use Rattle.ibx_base.specs.Files.{Contents, IsContent}
use Rattle.ibx_elf.specs.declared.fault.ElfFault.{ElfFault}
use Rattle.ibx_elf.specs.declared.ram.Ram.{Ram}
use Rattle.ibx_elf.specs.Faults.{first_fault}
use Rattle.ibx_elf.specs.Image.{Placed, image_of}
use Rattle.ibx_plan.specs.declared.bounds.Bounds.{Bounds}
use Rattle.ibx_plan.specs.declared.bounds.PlanFault.{PlanFault}
use Rattle.ibx_plan.specs.declared.bounds.PlanFault.TheVariants.{Memory, NoFlip, TooMany, Line}
use Rattle.ibx_plan.specs.Plan.{PlanValue, empty_plan, plan_of, Fails}
use Rattle.ibx_command.specs.declared.options.Options.{Options}
use Rattle.ibx_command.specs.Command.{Meaning, Running, Injecting}
use Rattle.ibx_command.specs.Command.{Twinning, Generating, Assembling, Disassembling}
use Rattle.ibx_gen.specs.Image.{default_ram}
use Rattle.ibx_gen.specs.Words.{generated}
use Rattle.ibx_top.specs.declared.outcome.Refusal.TheVariants as why
use Rattle.ibx_top.specs.TimedStories.{timed_story}
use Rattle.ibx_top.specs.Twins.{differs, twin_code}
use Rattle.ibx_top.specs.Verdicts.{verdict_of}
use Rattle.ibx_top.specs.Answers.{Answer, IsAnswer, IsAnsweredBy, IsBytesAnswer, IsFileAnswer, IsFollowedBy}
use Rattle.ibx_top.specs.Answers.{IsInjectBy, IsInjectedBy, IsPair, IsRanBy, IsRunBy, IsTwinnedBy}
use Rattle.ibx_top.specs.Answers.{IsOneOf, IsPlanAnswer, IsPlanIn, IsTextAnswer, IsSecond, alert_code, asm_answer}
use Rattle.ibx_top.specs.Answers.{bounds_of, codes_of, compared_by, file_limit, generated_by, halt_code, injected_by}
use Rattle.ibx_top.specs.Answers.{listed, plan_codes, plan_limit, ran_by, refused, run_codes, setup_of, twinned_by}
use Rattle.ibx_top.proofs.Assembled.{asm_codes}

-- more bytes than a limit are told to be too long
pub is_long : (limit : ℕ) (bytes : List ℕ) → limit < length bytes → nat_lt limit (length bytes) ≡ true
is_long limit bytes h = grind (arith, nat_tests)

-- as many as the limit or fewer are not
pub is_short : (limit : ℕ) (bytes : List ℕ) → length bytes ≤ limit → nat_lt limit (length bytes) ≡ false
is_short limit bytes h = grind (arith, nat_tests)

-- ---- files

module _ (name : List ℕ) (ram : Ram) (Ran : Placed → Answer → Type 0) (bytes : List ℕ) where
  -- a file of too many bytes
  pub long_bytes : file_limit < length bytes → IsBytesAnswer name ram Ran bytes (refused name why.FileTooLong)
  long_bytes more =
      subst (λ (b : Bool). IsAnsweredBy name b (first_fault bytes ram) (Ran (image_of bytes ram))
      (refused name why.FileTooLong)) (sym (is_long file_limit bytes more)) refl

  -- a file that is refused
  pub bad_bytes : (fault : ElfFault) → length bytes ≤ file_limit → first_fault bytes ram ≡ Some fault
      → IsBytesAnswer name ram Ran bytes (refused name (why.File fault))
  bad_bytes fault fits e =
      let answer : Answer = refused name (why.File fault) in
      subst (λ (b : Bool). IsAnsweredBy name b (first_fault bytes ram) (Ran (image_of bytes ram)) answer)
      (sym (is_short file_limit bytes fits))
      (subst (λ (f : Option ElfFault). IsAnsweredBy name false f (Ran (image_of bytes ram)) answer) (sym e) refl)

  -- a file that is run
  pub good_bytes : (answer : Answer) → length bytes ≤ file_limit → first_fault bytes ram ≡ None
      → Ran (image_of bytes ram) answer → IsBytesAnswer name ram Ran bytes answer
  good_bytes answer fits e is =
      subst (λ (b : Bool). IsAnsweredBy name b (first_fault bytes ram) (Ran (image_of bytes ram)) answer)
      (sym (is_short file_limit bytes fits))
      (subst (λ (f : Option ElfFault). IsAnsweredBy name false f (Ran (image_of bytes ram)) answer) (sym e) is)

  -- a refusal by what no image answers is one by any
  refused_by : (long : Bool) (fault : Option ElfFault) (answer : Answer)
      → IsAnsweredBy name long fault (λ _. ⊥) answer → IsAnsweredBy name long fault (Ran (image_of bytes ram)) answer
  refused_by true fault answer is = is
  refused_by false (Some fault) answer is = is
  refused_by false None answer is = absurd is

  -- so it is of bytes
  pub bytes_refused : (answer : Answer) → IsBytesAnswer name ram (λ _ _. ⊥) bytes answer
      → IsBytesAnswer name ram Ran bytes answer
  bytes_refused answer is =
      refused_by (nat_lt file_limit (length bytes)) (first_fault bytes ram) answer is

-- ---- plans

module _ (name : List ℕ) (bounds : Bounds) (Followed : PlanValue → Answer → Type 0) (text : List ℕ) where
  -- a plan of too many bytes
  pub long_text : plan_limit < length text → IsTextAnswer name bounds Followed text (refused name why.PlanTooLong)
  long_text more =
      subst (λ (b : Bool). IsFollowedBy name b (plan_of bounds text) Followed (refused name why.PlanTooLong))
      (sym (is_long plan_limit text more)) refl

  -- a plan that is refused
  pub bad_text : (fault : PlanFault) → length text ≤ plan_limit → plan_of bounds text ≡ Err fault
      → IsTextAnswer name bounds Followed text (refused name (why.Plan fault))
  bad_text fault fits e =
      let answer : Answer = refused name (why.Plan fault) in
      subst (λ (b : Bool). IsFollowedBy name b (plan_of bounds text) Followed answer)
      (sym (is_short plan_limit text fits))
      (subst (λ (r : Result PlanValue PlanFault). IsFollowedBy name false r Followed answer) (sym e) refl)

  -- a plan that is followed
  good_text : (plan : PlanValue) (answer : Answer) → nat_lt plan_limit (length text) ≡ false
      → plan_of bounds text ≡ Ok plan → Followed plan answer → IsTextAnswer name bounds Followed text answer
  good_text plan answer short e is =
      subst (λ (b : Bool). IsFollowedBy name b (plan_of bounds text) Followed answer) (sym short)
      (subst (λ (r : Result PlanValue PlanFault). IsFollowedBy name false r Followed answer) (sym e) is)

  -- a refusal by what is answered under no plan is one by any
  unfollowed_by : (long : Bool) (read : Result PlanValue PlanFault) (answer : Answer)
      → IsFollowedBy name long read (λ _ _. ⊥) answer → IsFollowedBy name long read Followed answer
  unfollowed_by true read answer is = is
  unfollowed_by false (Err fault) answer is = is
  unfollowed_by false (Ok plan) answer is = absurd is

-- what is answered under a plan is answered to its text
pub by_plan : (told : Option Contents) (name : Option (List ℕ)) (bounds : Bounds)
    (Followed : PlanValue → Answer → Type 0) (plan : PlanValue) (answer : Answer) → IsPlanIn told name bounds plan
    → Followed plan answer → IsPlanAnswer told name bounds Followed answer
by_plan told None bounds Followed plan answer empty is = subst (λ (p : PlanValue). Followed p answer) empty is
by_plan told (Some name) bounds Followed plan answer (text, (content, (short, e))) is =
    (text, (content, good_text name bounds Followed text plan answer short e is))

-- a refusal by what is answered under no plan is one by any
pub plan_refused : (told : Option Contents) (name : Option (List ℕ)) (bounds : Bounds)
    (Followed : PlanValue → Answer → Type 0) (answer : Answer)
    → IsPlanAnswer told name bounds (λ _ _. ⊥) answer → IsPlanAnswer told name bounds Followed answer
plan_refused told None bounds Followed answer is = absurd is
plan_refused told (Some name) bounds Followed answer (text, (content, is)) = (
  text,
  (
    content,
    unfollowed_by name bounds Followed text (nat_lt plan_limit (length text)) (plan_of bounds text)
        answer is,
  ),
)

-- a fault of a plan that isn't want of memory is that of its text
pub fault_is : (fault : PlanFault) (wanted : Result PlanValue PlanFault) → (fault ≡ Memory → ⊥) → Fails fault wanted
    → wanted ≡ Err fault
fault_is Memory wanted other h = absurd (other refl)
fault_is NoFlip wanted other h = h
fault_is (TooMany line) wanted other h = h
fault_is (Line line kind) wanted other h = h

-- ---- the statuses

module _ (codes : List ℕ) where
  -- the statuses of an answer to bytes are 5 and those of what the image answers
  bytes_codes : (name : List ℕ) (long : Bool) (fault : Option ElfFault) (Ran : Answer → Type 0) (answer : Answer)
      → IsOneOf codes 5 → ((a : Answer) → Ran a → IsOneOf codes a.code) → IsAnsweredBy name long fault Ran answer
      → IsOneOf codes answer.code
  bytes_codes name true fault Ran answer five each is = subst (λ (a : Answer). IsOneOf codes a.code) (sym is) five
  bytes_codes name false (Some fault) Ran answer five each is =
      subst (λ (a : Answer). IsOneOf codes a.code) (sym is) five
  bytes_codes name false None Ran answer five each is = each answer is

  -- so it is of a file
  file_codes : (told : Option Contents) (name : List ℕ) (ram : Ram) (Ran : Placed → Answer → Type 0)
      (answer : Answer) → IsOneOf codes 5 → ((image : Placed) (a : Answer) → Ran image a → IsOneOf codes a.code)
      → IsFileAnswer told name ram Ran answer → IsOneOf codes answer.code
  file_codes told name ram Ran answer five each (bytes, (content, is)) =
      bytes_codes name (nat_lt file_limit (length bytes)) (first_fault bytes ram) (Ran (image_of bytes ram)) answer
      five (each (image_of bytes ram)) is

  -- the statuses of an answer to the text of a plan are 6 and those of the answers under it
  text_codes : (name : List ℕ) (long : Bool) (read : Result PlanValue PlanFault)
      (Followed : PlanValue → Answer → Type 0) (answer : Answer) → IsOneOf codes 6
      → ((plan : PlanValue) (a : Answer) → Followed plan a → IsOneOf codes a.code)
      → IsFollowedBy name long read Followed answer → IsOneOf codes answer.code
  text_codes name true read Followed answer six each is = subst (λ (a : Answer). IsOneOf codes a.code) (sym is) six
  text_codes name false (Err fault) Followed answer six each is =
      subst (λ (a : Answer). IsOneOf codes a.code) (sym is) six
  text_codes name false (Ok plan) Followed answer six each is = each plan answer is

-- the statuses of a command with a plan, if one is named
planned_codes : (codes : Option (List ℕ) → List ℕ) (told : Option Contents) (plan : Option (List ℕ)) (bounds : Bounds)
    (Followed : PlanValue → Answer → Type 0) (answer : Answer)
    → ((name : List ℕ) → IsOneOf (codes (Some name)) 6)
    → ((p : PlanValue) (a : Answer) → Followed p a → IsOneOf (codes plan) a.code)
    → IsPlanAnswer told plan bounds Followed answer → IsOneOf (codes plan) answer.code
planned_codes codes told None bounds Followed answer six each is = each empty_plan answer is
planned_codes codes told (Some name) bounds Followed answer six each (text, (content, is)) =
    text_codes (codes (Some name)) name (nat_lt plan_limit (length text)) (plan_of bounds text) Followed answer
    (six name) each is

-- a run ends by a halting store or by the budget
halt_one : (more : List ℕ) (halted : Bool) → IsOneOf (0 ∷ 1 ∷ more) (halt_code halted)
halt_one more true = refl
halt_one more false = refl

-- an injection has an alert, or none
alert_one : (alert : Bool) → IsOneOf (0 ∷ 3 ∷ 4 ∷ 5 ∷ 6 ∷ 7 ∷ 8 ∷ []) (alert_code alert)
alert_one true = refl
alert_one false = refl

-- two runs differ, or not
twin_one : (more : List ℕ) (differ : Bool) → IsOneOf (0 ∷ 3 ∷ 4 ∷ 5 ∷ 7 ∷ 9 ∷ more) (twin_code differ)
twin_one more true = refl
twin_one more false = refl

-- one of these statuses where the answer is another's
same_code : (codes : List ℕ) (answer other : Answer) → answer ≡ other → IsOneOf codes other.code
    → IsOneOf codes answer.code
same_code codes answer other is one = subst (λ (a : Answer). IsOneOf codes a.code) (sym is) one

-- whatever the words mean, their answer has a status of that command
pub command_code : (told : Option Contents) (command : Option Meaning) (answer : Answer) → IsAnswer told command answer
    → IsOneOf (codes_of command) answer.code
command_code told None answer is = absurd is
command_code told (Some (Running name plan options)) answer is =
    let codes : Option (List ℕ) → List ℕ = λ p. codes_of (Some (Running name p options)) in
    planned_codes codes told plan (bounds_of 0 options) (IsRunBy told name options) answer (λ _. refl)
    (λ planned a of_file. file_codes (codes plan) told name options.ram
    (IsRanBy options planned) a refl
    (λ image b same. same_code (codes plan) b (ran_by options planned image) same
    (halt_one (3 ∷ 4 ∷ 5 ∷ 7 ∷ plan_codes plan)
    (timed_story (setup_of options planned image) options.cycles).halted)) of_file) is
command_code told (Some (Injecting name plan options)) answer is =
    let codes : List ℕ = codes_of (Some (Injecting name plan options)) in
    planned_codes (λ _. codes) told (Some plan) (bounds_of 1 options) (IsInjectBy told name options) answer (λ _. refl)
    (λ planned a of_file. file_codes codes told name options.ram
    (IsInjectedBy options planned) a refl
    (λ image b same. same_code codes b (injected_by options planned image) same
    (alert_one (is_some (verdict_of image options planned).first_alert))) of_file) is
command_code told (Some (Twinning first second plan options)) answer is =
    let codes : Option (List ℕ) → List ℕ = λ p. codes_of (Some (Twinning first second p options)) in
    let ram : Ram = options.ram in
    planned_codes codes told plan (bounds_of 0 options) (IsPair told first second options) answer (λ _. refl)
    (λ planned a of_first. file_codes (codes plan) told first ram (IsSecond told second options planned) a refl
    (λ image b of_second. file_codes (codes plan) told second ram
    (IsTwinnedBy options planned image) b refl
    (λ other d same. same_code (codes plan) d (twinned_by options planned image other) same
    (twin_one (plan_codes plan) (differs (compared_by options planned image other)))) of_second) of_first) is
command_code told (Some (Generating number options)) answer is =
    same_code (0 ∷ 1 ∷ 4 ∷ 7 ∷ []) answer (generated_by number options) is
    (halt_one (4 ∷ 7 ∷ [])
    (timed_story (setup_of options empty_plan (image_of (generated number) default_ram)) options.cycles).halted)
command_code told (Some (Assembling name)) answer (text, (content, same)) =
    same_code (0 ∷ 3 ∷ 4 ∷ 7 ∷ 12 ∷ []) answer (asm_answer name text) same (asm_codes name text)
command_code told (Some (Disassembling name ram)) answer is =
    let codes : List ℕ = 0 ∷ 3 ∷ 4 ∷ 5 ∷ 7 ∷ [] in
    file_codes codes told name ram (λ image answer. answer ≡ listed image) answer refl
    (λ image a same. same_code codes a (listed image) same refl) is

-- ---- one answer

-- a name that is told has one content
one_content : (contents : Contents) (name bytes others : List ℕ) → contents name ≡ Some bytes
    → contents name ≡ Some others → bytes ≡ others
one_content contents name bytes others is are = same_Some bytes others (sym is ∙ are)

-- one answer to bytes, where there is one to their image
one_answered : (name : List ℕ) (long : Bool) (fault : Option ElfFault) (Ran : Answer → Type 0) (one other : Answer)
    → ((a b : Answer) → Ran a → Ran b → a ≡ b) → IsAnsweredBy name long fault Ran one
    → IsAnsweredBy name long fault Ran other → one ≡ other
one_answered name true fault Ran one other each is are = is ∙ sym are
one_answered name false (Some fault) Ran one other each is are = is ∙ sym are
one_answered name false None Ran one other each is are = each one other is are

-- one answer to a file, where there is one to each image
one_of_file : (contents : Contents) (name : List ℕ) (ram : Ram) (Ran : Placed → Answer → Type 0) (one other : Answer)
    → ((image : Placed) (a b : Answer) → Ran image a → Ran image b → a ≡ b)
    → IsFileAnswer (Some contents) name ram Ran one → IsFileAnswer (Some contents) name ram Ran other → one ≡ other
one_of_file contents name ram Ran one other each (bytes, (told, is)) (others, (said, are)) =
    one_answered name (nat_lt file_limit (length bytes)) (first_fault bytes ram) (Ran (image_of bytes ram)) one other
    (each (image_of bytes ram)) is
    (subst (λ (b : List ℕ). IsBytesAnswer name ram Ran b other) (one_content contents name others bytes said told) are)

-- where the image's answer is a value, it is one
one_ran : (contents : Contents) (name : List ℕ) (ram : Ram) (ran : Placed → Answer) (one other : Answer)
    → IsFileAnswer (Some contents) name ram (λ image answer. answer ≡ ran image) one
    → IsFileAnswer (Some contents) name ram (λ image answer. answer ≡ ran image) other → one ≡ other
one_ran contents name ram ran one other is are =
    one_of_file contents name ram (λ image answer. answer ≡ ran image) one other (λ image a b x y. x ∙ sym y) is are

-- one answer to the text of a plan, where there is one under each
one_followed : (name : List ℕ) (long : Bool) (read : Result PlanValue PlanFault)
    (Followed : PlanValue → Answer → Type 0) (one other : Answer)
    → ((plan : PlanValue) (a b : Answer) → Followed plan a → Followed plan b → a ≡ b)
    → IsFollowedBy name long read Followed one → IsFollowedBy name long read Followed other → one ≡ other
one_followed name true read Followed one other each is are = is ∙ sym are
one_followed name false (Err fault) Followed one other each is are = is ∙ sym are
one_followed name false (Ok plan) Followed one other each is are = each plan one other is are

-- one answer to a plan, if one is named, where there is one under each
one_planned : (contents : Contents) (plan : Option (List ℕ)) (bounds : Bounds)
    (Followed : PlanValue → Answer → Type 0) (one other : Answer)
    → ((p : PlanValue) (a b : Answer) → Followed p a → Followed p b → a ≡ b)
    → IsPlanAnswer (Some contents) plan bounds Followed one
    → IsPlanAnswer (Some contents) plan bounds Followed other → one ≡ other
one_planned contents None bounds Followed one other each is are = each empty_plan one other is are
one_planned contents (Some name) bounds Followed one other each (text, (told, is)) (texts, (said, are)) =
    one_followed name (nat_lt plan_limit (length text)) (plan_of bounds text) Followed one other each is
    (subst (λ (t : List ℕ). IsTextAnswer name bounds Followed t other) (one_content contents name texts text said told)
    are)

-- where the names are told, there is one answer
pub one_answer : (contents : Contents) (command : Option Meaning) (one other : Answer)
    → IsAnswer (Some contents) command one → IsAnswer (Some contents) command other → one ≡ other
one_answer contents None one other is are = absurd is
one_answer contents (Some (Running name plan options)) one other is are =
    one_planned contents plan (bounds_of 0 options) (IsRunBy (Some contents) name options) one other
    (λ planned a b x y. one_ran contents name options.ram (ran_by options planned) a b x y) is are
one_answer contents (Some (Injecting name plan options)) one other is are =
    one_planned contents (Some plan) (bounds_of 1 options) (IsInjectBy (Some contents) name options) one other
    (λ planned a b x y. one_ran contents name options.ram (injected_by options planned) a b x y) is are
one_answer contents (Some (Twinning first second plan options)) one other is are =
    one_planned contents plan (bounds_of 0 options) (IsPair (Some contents) first second options) one other
    (λ planned a b x y. one_of_file contents first options.ram (IsSecond (Some contents) second options planned) a b
    (λ image d e u v. one_ran contents second options.ram (twinned_by options planned image) d e u v) x y) is are
one_answer contents (Some (Generating number options)) one other is are = is ∙ sym are
one_answer contents (Some (Assembling name)) one other (text, (told, is)) (others, (said, are)) =
    is ∙ ap (asm_answer name) (one_content contents name text others told said) ∙ sym are
one_answer contents (Some (Disassembling name ram)) one other is are =
    one_ran contents name ram listed one other is are
