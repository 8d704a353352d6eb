-- What the program answers to the bytes of its files, and the words of its contract (the statuses are our own rule).
use Rattle.std.specs.Prelude.{⊤, ◌≡◌, ℕ, ◌/◌, Bool, true, false, ◌==◌, nat_lt, List, [], ◌∷◌, ◌++◌, length, Option}
use Rattle.std.specs.Prelude.{Some, None, is_some, Result, Ok, Err, if◌then◌else◌, IsSome, IsTrue, ◌⊎◌, ◌+◌}
use Rattle.std.specs.List.{list_any}
use Rattle.ibx_base.specs.Counts.{Rose}
use Rattle.ibx_base.specs.Files.{Contents, IsContent}
use Rattle.ibx_base.specs.Sinks.{with_more, TookPrefix}
use Rattle.ibx_elf.specs.declared.fault.ElfFault.{ElfFault}
use Rattle.ibx_elf.specs.declared.ram.Ram.{Ram}
use Rattle.ibx_elf.specs.Faults.{first_fault}
use Rattle.ibx_elf.specs.Image.{Placed, image_of}
use Rattle.ibx_plan.specs.declared.bounds.Bounds.{Bounds}
use Rattle.ibx_plan.specs.declared.bounds.PlanFault.{PlanFault}
use Rattle.ibx_plan.specs.Plan.{PlanValue, empty_plan, plan_of}
use Rattle.ibx_command.specs.declared.options.Options.{Options}
use Rattle.ibx_command.specs.Command.{Meaning, Running, Injecting}
use Rattle.ibx_command.specs.Command.{Twinning, Generating, Assembling, Disassembling}
use Rattle.ibx_compare.specs.declared.comparison.Twin.{Twin}
use Rattle.ibx_gen.specs.Image.{default_ram}
use Rattle.ibx_gen.specs.Words.{generated}
use Rattle.ibx_compare.specs.declared.flipped.Verdict.{Verdict}
use Rattle.ibx_lockstep.specs.Delays.{cycles_of}
use Rattle.ibx_compare.specs.Verdicts.{IsNoticed}
use Rattle.ibx_time.specs.Settings.{Setup}
use Rattle.ibx_top.specs.declared.outcome.Finish.{Finish}
use Rattle.ibx_top.specs.declared.outcome.Finish.TheVariants as finish
use Rattle.ibx_top.specs.declared.outcome.Refusal.{Refusal}
use Rattle.ibx_top.specs.declared.outcome.Refusal.TheVariants as why
use Rattle.ibx_top.specs.TimedStories.{TimedStory, timed_story}
use Rattle.ibx_top.specs.Texts.{story_text}
use Rattle.ibx_compare.specs.Drives.{drive_from}
use Rattle.ibx_top.specs.Seals.{seal_of}
use Rattle.ibx_top.specs.Generated.{sum_text}
use Rattle.ibx_top.specs.Verdicts.{verdict_text, verdict_of, system_of}
use Rattle.ibx_top.specs.Twins.{AgreeAsFar, compared, cycles_in, differs, twin_code, twin_seal, twin_text}
use Rattle.ibx_top.specs.ErrLines.{too_long_line, fault_line, plan_fault_line}
use Rattle.ibx_asm.specs.declared.fault.AsmFault.{AsmFault}
use Rattle.ibx_asm.specs.Denote.{denoted}
use Rattle.ibx_dis.specs.Listing.{listing_of}
use Rattle.ibx_wrap.specs.Wrapped.{wrapped}
use Rattle.ibx_top.specs.ErrLines.{text_too_long_line, asm_fault_line}

-- the status, the texts for the output and for the error output, and the seal
pub record Answer : Type 0 where
  pub code : ℕ
  pub text : List ℕ
  pub line : List ℕ
  pub seal : ℕ

-- ---- the statuses

-- those of a command that was done, whose text was written
abbrev pub run_codes : List ℕ
run_codes = 0 ∷ 1 ∷ 8 ∷ 9 ∷ []

-- those of a file, a plan or a text that is refused
abbrev pub refused_codes : List ℕ
refused_codes = 5 ∷ 6 ∷ 12 ∷ []

-- those of an answer to the bytes of the files
abbrev pub answer_codes : List ℕ
answer_codes = run_codes ++ refused_codes

-- those at which nothing is written to the output
abbrev pub silent_codes : List ℕ
silent_codes = 2 ∷ 3 ∷ 7 ∷ refused_codes

-- those without a seal
abbrev pub unsealed_codes : List ℕ
unsealed_codes = 4 ∷ 8 ∷ silent_codes

-- that of a plan that is refused, where one is named
abbrev pub plan_codes : Option (List ℕ) → List ℕ
plan_codes None = []
plan_codes (Some plan) = 6 ∷ []

-- the statuses that a command has
abbrev pub codes_of : Option Meaning → List ℕ
codes_of None = 2 ∷ []
codes_of (Some (Running name plan options)) = 0 ∷ 1 ∷ 3 ∷ 4 ∷ 5 ∷ 7 ∷ plan_codes plan
codes_of (Some (Injecting name plan options)) = 0 ∷ 3 ∷ 4 ∷ 5 ∷ 6 ∷ 7 ∷ 8 ∷ []
codes_of (Some (Twinning first second plan options)) = 0 ∷ 3 ∷ 4 ∷ 5 ∷ 7 ∷ 9 ∷ plan_codes plan
codes_of (Some (Generating number options)) = 0 ∷ 1 ∷ 4 ∷ 7 ∷ []
codes_of (Some (Assembling name)) = 0 ∷ 3 ∷ 4 ∷ 7 ∷ 12 ∷ []
codes_of (Some (Disassembling name ram)) = 0 ∷ 3 ∷ 4 ∷ 5 ∷ 7 ∷ []

-- the status of a run, by whether a halting store ended it
abbrev pub halt_code : Bool → ℕ
halt_code halted = if halted then 0 else 1

-- the status of an injection, by whether there is an alert
abbrev pub alert_code : Bool → ℕ
alert_code alert = if alert then 8 else 0

-- the status of what a command came to
abbrev pub finish_code : Finish → ℕ
finish_code (finish.Ran halted seal) = halt_code halted
finish_code (finish.Injected alert) = alert_code alert
finish_code (finish.Compared differ seal) = twin_code differ
finish_code finish.Written = 0

-- its seal, which a run and a comparison have
abbrev pub finish_seal : Finish → ℕ
finish_seal (finish.Ran halted seal) = seal
finish_seal (finish.Injected alert) = 0
finish_seal (finish.Compared differ seal) = seal
finish_seal finish.Written = 0

-- the status of a refusal
abbrev pub refusal_code : Refusal → ℕ
refusal_code why.FileTooLong = 5
refusal_code (why.File fault) = 5
refusal_code why.PlanTooLong = 6
refusal_code (why.Plan fault) = 6
refusal_code why.TextTooLong = 12
refusal_code (why.Text fault) = 12

-- its line on the error output, with the name of what is refused
unfoldable pub refusal_line : List ℕ → Refusal → List ℕ
refusal_line name why.FileTooLong = too_long_line name
refusal_line name (why.File fault) = fault_line name fault
refusal_line name why.PlanTooLong = too_long_line name
refusal_line name (why.Plan fault) = plan_fault_line name fault
refusal_line name why.TextTooLong = text_too_long_line name
refusal_line name (why.Text fault) = asm_fault_line name fault

-- ---- what is read

-- the answer to a file, a plan or a text that is refused
abbrev pub refused : List ℕ → Refusal → Answer
refused name refusal = record { code = refusal_code refusal; text = []; line = refusal_line name refusal; seal = 0 }

-- the most bytes that a file may have, 32 MiB
abbrev pub file_limit : ℕ
file_limit = 33554432

-- the most bytes that a plan or a text may have, 4 MiB
abbrev pub plan_limit : ℕ
plan_limit = 4194304

-- what a plan with so many flips is read within: the words of RAM, the delay, the flips, and the budget of cycles
abbrev pub bounds_of : ℕ → Options → Bounds
bounds_of flips options = record {
  ram_words = options.ram.size / 4;
  delay = cycles_of options.delay;
  flips = flips;
  cycles = options.cycles;
}

-- ---- `run`

-- the run of an image, with the multiplier of the options and a plan
abbrev pub setup_of : Options → PlanValue → Placed → Setup
setup_of options plan image = record { image = image; mul = options.mul; plan = plan }

-- the answer to a file that is run: its story's text, how it ended, and the seal
abbrev pub story_answer : ℕ → TimedStory → ℕ → Answer
story_answer budget story seal =
    record { code = halt_code story.halted; text = story_text budget story; line = []; seal = seal }

-- the seal of a run: the sum over the fields of main in the state that the run's steps leave
abbrev pub run_seal : Options → PlanValue → Placed → ℕ
run_seal options plan image = seal_of (drive_from options.cycles (system_of image options plan)).left.main

-- the answer to an image that is run by a plan: the events of the time equations, and the seal of the cores' steps
abbrev pub ran_by : Options → PlanValue → Placed → Answer
ran_by options plan image =
    story_answer options.cycles (timed_story (setup_of options plan image) options.cycles) (run_seal options plan image)

-- ---- `gen`

-- the answer to the image of a number's program: the sum of its story, how it ended, and the seal
abbrev pub summed_answer : ℕ → ℕ → TimedStory → ℕ → Answer
summed_answer number budget story seal =
    record { code = halt_code story.halted; text = sum_text number budget story; line = []; seal = seal }

-- the answer to this image, which is run without a plan
abbrev pub summed_by : ℕ → Options → Placed → Answer
summed_by number options image =
    summed_answer number options.cycles (timed_story (setup_of options empty_plan image) options.cycles)
    (run_seal options empty_plan image)

-- the answer to a number: that to the image of the file that it gives, in the memory of a run without options
abbrev pub generated_by : ℕ → Options → Answer
generated_by number options = summed_by number options (image_of (generated number) default_ram)

-- ---- `inject`

-- the answer to a file that is run with and without a flip
abbrev pub verdict_answer : Verdict → Answer
verdict_answer verdict =
    record { code = alert_code (is_some verdict.first_alert); text = verdict_text verdict; line = []; seal = 0 }

-- the answer to an image that is run with and without the flip of a plan
abbrev pub injected_by : Options → PlanValue → Placed → Answer
injected_by options planned image = verdict_answer (verdict_of image options planned)

-- ---- `twin`

-- the answer of a comparison, with its seal
abbrev pub twin_answer : Twin → ℕ → Answer
twin_answer twin seal = record { code = twin_code (differs twin); text = twin_text twin; line = []; seal = seal }

-- how the runs of two images by one plan compare
abbrev pub compared_by : Options → PlanValue → Placed → Placed → Twin
compared_by options plan a b = compared options.cycles (setup_of options plan a) (setup_of options plan b)

-- the answer to two images that are compared: the events of the time equations, and the seal of the cores' steps
abbrev pub twinned_by : Options → PlanValue → Placed → Placed → Answer
twinned_by options plan a b =
    twin_answer (compared_by options plan a b)
    (twin_seal options.cycles (compared_by options plan a b) (system_of a options plan) (system_of b options plan))

-- ---- `asm` and `dis`

-- the answer that writes this text and ends well
abbrev pub written_answer : List ℕ → Answer
written_answer text = record { code = 0; text = text; line = []; seal = 0 }

-- the answer to a text of this name: whether it is too long, then its first refused line, and else the file around its
-- code
unfoldable pub asm_answer_by : List ℕ → Bool → Result (List ℕ) AsmFault → Answer
asm_answer_by name true code = refused name why.TextTooLong
asm_answer_by name false (Err fault) = refused name (why.Text fault)
asm_answer_by name false (Ok code) = written_answer (wrapped code)

-- the same to its bytes, with the code that they stand for
abbrev pub asm_answer : List ℕ → List ℕ → Answer
asm_answer name text = asm_answer_by name (nat_lt plan_limit (length text)) (denoted text)

-- the answer to a file whose code is printed
abbrev pub listed : Placed → Answer
listed image = written_answer (listing_of image)

-- ---- the contract's words

-- an answer to a file of this name: whether its bytes are too long, then their first fault, and else it is one to its
-- image
abbrev pub IsAnsweredBy : List ℕ → Bool → Option ElfFault → (Answer → Type 0) → Answer → Type 0
IsAnsweredBy name true fault Ran answer = answer ≡ refused name why.FileTooLong
IsAnsweredBy name false (Some fault) Ran answer = answer ≡ refused name (why.File fault)
IsAnsweredBy name false None Ran answer = Ran answer

-- the same to bytes: an answer to their image may depend on more files, which are read where the bytes are no fault
abbrev pub IsBytesAnswer : List ℕ → Ram → (Placed → Answer → Type 0) → List ℕ → Answer → Type 0
IsBytesAnswer name ram Ran bytes =
    IsAnsweredBy name (nat_lt file_limit (length bytes)) (first_fault bytes ram) (Ran (image_of bytes ram))

-- the same, and the bytes are those of this file
abbrev pub IsFileAnswer : Option Contents → List ℕ → Ram → (Placed → Answer → Type 0) → Answer → Type 0
IsFileAnswer told name ram Ran answer = (bytes : List ℕ) × (IsContent told name bytes × IsBytesAnswer name ram Ran
    bytes answer)

-- an answer to a plan of this name: whether its text is too long, then its first fault, and else it is one under the
-- plan
abbrev pub IsFollowedBy : List ℕ → Bool → Result PlanValue PlanFault → (PlanValue → Answer → Type 0) → Answer → Type 0
IsFollowedBy name true read Followed answer = answer ≡ refused name why.PlanTooLong
IsFollowedBy name false (Err fault) Followed answer = answer ≡ refused name (why.Plan fault)
IsFollowedBy name false (Ok plan) Followed answer = Followed plan answer

-- the same to a text
abbrev pub IsTextAnswer : List ℕ → Bounds → (PlanValue → Answer → Type 0) → List ℕ → Answer → Type 0
IsTextAnswer name bounds Followed text =
    IsFollowedBy name (nat_lt plan_limit (length text)) (plan_of bounds text) Followed

-- the same, and the text is that of this plan; where none is named, the empty plan is followed
abbrev pub IsPlanAnswer : Option Contents → Option (List ℕ) → Bounds → (PlanValue → Answer → Type 0) → Answer → Type 0
IsPlanAnswer told None bounds Followed answer = Followed empty_plan answer
IsPlanAnswer told (Some name) bounds Followed answer =
    (text : List ℕ) × (IsContent told name text × IsTextAnswer name bounds Followed text answer)

-- an answer to an image that is run by a plan
abbrev pub IsRanBy : Options → PlanValue → Placed → Answer → Type 0
IsRanBy options plan image answer = answer ≡ ran_by options plan image

-- an answer to a file that is run by a plan
abbrev pub IsRunBy : Option Contents → List ℕ → Options → PlanValue → Answer → Type 0
IsRunBy told name options plan = IsFileAnswer told name options.ram (IsRanBy options plan)

-- an answer of `run`, by the name of its plan, if there is one; a plan that is refused comes before the file
abbrev pub IsRun : Option Contents → List ℕ → Option (List ℕ) → Options → Answer → Type 0
IsRun told name plan options = IsPlanAnswer told plan (bounds_of 0 options) (IsRunBy told name options)

-- an answer to an image that is run with and without the flip of a plan
abbrev pub IsInjectedBy : Options → PlanValue → Placed → Answer → Type 0
IsInjectedBy options plan image answer = answer ≡ injected_by options plan image

-- an answer to such a file
abbrev pub IsInjectBy : Option Contents → List ℕ → Options → PlanValue → Answer → Type 0
IsInjectBy told name options plan = IsFileAnswer told name options.ram (IsInjectedBy options plan)

-- an answer of `inject`, whose plan has a flip
abbrev pub IsInject : Option Contents → List ℕ → List ℕ → Options → Answer → Type 0
IsInject told name plan options = IsPlanAnswer told (Some plan) (bounds_of 1 options) (IsInjectBy told name options)

-- an answer to two images that are compared
abbrev pub IsTwinnedBy : Options → PlanValue → Placed → Placed → Answer → Type 0
IsTwinnedBy options plan a b answer = answer ≡ twinned_by options plan a b

-- an answer to a second file, to the image of the first one
abbrev pub IsSecond : Option Contents → List ℕ → Options → PlanValue → Placed → Answer → Type 0
IsSecond told second options plan a = IsFileAnswer told second options.ram (IsTwinnedBy options plan a)

-- an answer to two files: that to the first comes first, and where it is refused the second isn't read
abbrev pub IsPair : Option Contents → List ℕ → List ℕ → Options → PlanValue → Answer → Type 0
IsPair told first second options plan = IsFileAnswer told first options.ram (IsSecond told second options plan)

-- an answer of `twin`, by the name of its plan, if there is one; a plan that is refused comes before both files
abbrev pub IsTwin : Option Contents → List ℕ → List ℕ → Option (List ℕ) → Options → Answer → Type 0
IsTwin told first second plan options =
    IsPlanAnswer told plan (bounds_of 0 options) (IsPair told first second options)

-- an answer of `asm`
abbrev pub IsAssembled : Option Contents → List ℕ → Answer → Type 0
IsAssembled told name answer = (text : List ℕ) × (IsContent told name text × (answer ≡ asm_answer name text))

-- an answer of `dis`
abbrev pub IsListed : Option Contents → List ℕ → Ram → Answer → Type 0
IsListed told name ram = IsFileAnswer told name ram (λ image answer. answer ≡ listed image)

-- an answer is that to what the words mean and to the bytes of the files that they name
abbrev pub IsAnswer : Option Contents → Option Meaning → Answer → Type 0
IsAnswer told None answer = ⊥
IsAnswer told (Some (Running name plan options)) answer = IsRun told name plan options answer
IsAnswer told (Some (Injecting name plan options)) answer = IsInject told name plan options answer
IsAnswer told (Some (Twinning first second plan options)) answer = IsTwin told first second plan options answer
IsAnswer told (Some (Generating number options)) answer = answer ≡ generated_by number options
IsAnswer told (Some (Assembling name)) answer = IsAssembled told name answer
IsAnswer told (Some (Disassembling name ram)) answer = IsListed told name ram answer

-- the name of the plan, if there is one
abbrev pub named : Option (List ℕ) → List (List ℕ)
named None = []
named (Some plan) = plan ∷ []

-- the files that the words name, in the order in which they are read
abbrev pub names_of : Option Meaning → List (List ℕ)
names_of None = []
names_of (Some (Running name plan options)) = named plan ++ name ∷ []
names_of (Some (Injecting name plan options)) = plan ∷ name ∷ []
names_of (Some (Twinning first second plan options)) = named plan ++ first ∷ second ∷ []
names_of (Some (Generating seed options)) = []
names_of (Some (Assembling name)) = name ∷ []
names_of (Some (Disassembling name ram)) = name ∷ []

-- a fact where the words are those of `inject`, about the options
abbrev pub IfInject : Option Meaning → (Options → Type 0) → Type 0
IfInject (Some (Injecting name plan options)) P = P options
IfInject _ P = ⊤

-- a fact where the words are those of `twin`, about both files, the plan if there is one, and the options
abbrev pub IfTwin : Option Meaning → (List ℕ → List ℕ → Option (List ℕ) → Options → Type 0) → Type 0
IfTwin (Some (Twinning first second plan options)) P = P first second plan options
IfTwin _ P = ⊤

-- one of these statuses
abbrev pub IsOneOf : List ℕ → ℕ → Type 0
IsOneOf codes code = IsTrue (list_any (λ n. n == code) codes)

-- where the names are told, this one is there
abbrev pub IsThere : Option Contents → List ℕ → Type 0
IsThere None name = ⊤
IsThere (Some contents) name = IsSome (contents name)

-- where the names are told, each of these is there
abbrev pub AreThere : Option Contents → List (List ℕ) → Type 0
AreThere told [] = ⊤
AreThere told (name ∷ more) = IsThere told name × AreThere told more

-- one of these names
abbrev pub IsAmong : List (List ℕ) → List ℕ → Type 0
IsAmong [] said = ⊥
IsAmong (name ∷ more) said = (said ≡ name) ⊎ IsAmong more said

-- the status and the seal are the answer's, and the output took its whole text
pub record Gives (answer : Answer) (code seal : ℕ) (before after : Option (List ℕ)) : Type 0 where
  pub status : code ≡ answer.code
  pub sealed : seal ≡ answer.seal
  pub text : after ≡ with_more before answer.text

-- the output took a prefix of the text of an answer that is no refusal
pub record IsCutShort (answer : Answer) (before after : Option (List ℕ)) : Type 0 where
  pub runs : IsOneOf run_codes answer.code
  pub text : TookPrefix before answer.text after

-- The output took the text of a verdict in which the bus doesn't differ without an alert, which comes at most the delay
-- plus one cycles after the first difference, and the status says whether there is one.
pub record Notices (delay code : ℕ) (before after : Option (List ℕ)) : Type 0 where
  pub verdict : Verdict
  pub noticed : IsNoticed (delay + 1) verdict
  pub status : code ≡ alert_code (is_some verdict.first_alert)
  pub text : after ≡ with_more before (verdict_text verdict)

-- an image is that of the bytes of this file, which isn't refused
pub record IsImageIn (told : Option Contents) (name : List ℕ) (ram : Ram) (image : Placed) : Type 0 where
  pub bytes : List ℕ
  pub content : IsContent told name bytes
  pub short : nat_lt file_limit (length bytes) ≡ false
  pub sound : first_fault bytes ram ≡ None
  pub placed : image ≡ image_of bytes ram

-- a plan is that of the text of this one, which isn't refused; without a name it is empty
abbrev pub IsPlanIn : Option Contents → Option (List ℕ) → Bounds → PlanValue → Type 0
IsPlanIn told None bounds plan = plan ≡ empty_plan
IsPlanIn told (Some name) bounds plan =
    (text : List ℕ) × (IsContent told name text × ((nat_lt plan_limit (length text) ≡ false) ×
    (plan_of bounds text ≡ Ok plan)))

-- The output took the text of how the runs of both files' images compare, the status says whether they differ, and the
-- cycles of
-- their events are the same as far as the views are: all, or those before the first difference.
pub record TellsTime (told : Option Contents) (first second : List ℕ) (plan : Option (List ℕ)) (options : Options)
    (code : ℕ) (before after : Option (List ℕ)) : Type 0 where
  pub planned : PlanValue
  pub a : Placed
  pub b : Placed
  pub of_plan : IsPlanIn told plan (bounds_of 0 options) planned
  pub of_first : IsImageIn told first options.ram a
  pub of_second : IsImageIn told second options.ram b
  pub status : code ≡ twin_code (differs (compared_by options planned a b))
  pub text : after ≡ with_more before (twin_text (compared_by options planned a b))
  pub cycles : AgreeAsFar (compared_by options planned a b)
      (cycles_in (timed_story (setup_of options planned a) options.cycles))
      (cycles_in (timed_story (setup_of options planned b) options.cycles))

-- the whole line was taken, or a prefix of it where a fault was counted
abbrev pub Says : Option (List ℕ) → Option (List ℕ) → ℕ → ℕ → List ℕ → Type 0
Says before after faults_before faults_after line =
    (after ≡ with_more before line) ⊎ (TookPrefix before line after × Rose faults_before faults_after)
