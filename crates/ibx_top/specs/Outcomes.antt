-- How a call ends, before it is reported: the statuses and the lines of each end.
use Rattle.std.specs.Prelude.{⊤, ◌≡◌, ℕ, ◌<◌, ◌≤◌, List, [], length, Option, None, Result, Ok, Err}
use Rattle.ibx_base.specs.Counts.{Rose}
use Rattle.ibx_base.specs.Files.{Contents, Begun, IsBegunAs, IsContent}
use Rattle.ibx_base.specs.Sinks.{with_more}
use Rattle.ibx_command.specs.Command.{Meaning}
use Rattle.ibx_top.specs.declared.outcome.Finish.{Finish}
use Rattle.ibx_top.specs.declared.outcome.Finish.TheVariants.{Injected}
use Rattle.ibx_top.specs.declared.outcome.Refusal.{Refusal}
use Rattle.ibx_top.specs.declared.outcome.Outcome.{Outcome}
use Rattle.ibx_top.specs.declared.outcome.Outcome.TheVariants.{Finished, BadWords, CannotRead, CannotWrite, Refused}
use Rattle.ibx_top.specs.declared.outcome.Outcome.TheVariants.{OutOfMemory}
use Rattle.ibx_top.specs.ErrLines.{bad_words_line, cannot_read_line, cannot_write_line, out_of_memory_line}
use Rattle.ibx_top.specs.Answers.{Answer, alert_code, finish_code, finish_seal, refusal_code, refusal_line, refused}
use Rattle.ibx_top.specs.Answers.{AreThere, IsAmong, IsCutShort, Notices}

-- how the call of a command ends
abbrev pub end_of : Result Finish Outcome → Outcome
end_of (Ok finish) = Finished finish
end_of (Err end) = end

-- the status
abbrev pub code_of : Outcome → ℕ
code_of (Finished finish) = finish_code finish
code_of BadWords = 2
code_of (CannotRead name) = 3
code_of CannotWrite = 4
code_of (Refused name why) = refusal_code why
code_of OutOfMemory = 7

-- the line on the error output, and nothing where there is none
abbrev pub err_line_of : Outcome → List ℕ
err_line_of (Finished finish) = []
err_line_of BadWords = bad_words_line
err_line_of (CannotRead name) = cannot_read_line name.now
err_line_of CannotWrite = cannot_write_line
err_line_of (Refused name why) = refusal_line name.now why
err_line_of OutOfMemory = out_of_memory_line

-- the seal, which what was done may have
abbrev pub seal_in : Outcome → ℕ
seal_in (Finished finish) = finish_seal finish
seal_in _ = 0

-- a fact where the words don't fit
abbrev pub IfBadWords : Outcome → Type 0 → Type 0
IfBadWords BadWords P = P
IfBadWords _ P = ⊤

-- a fact about the name of the file that can't be read
abbrev pub IfUnread : Outcome → (List ℕ → Type 0) → Type 0
IfUnread (CannotRead name) P = P name.now
IfUnread _ P = ⊤

-- a fact where the files were read and answered
abbrev pub IfAnswered : Outcome → Type 0 → Type 0
IfAnswered (Finished finish) P = P
IfAnswered (Refused name why) P = P
IfAnswered _ P = ⊤

-- a fact where the output can't be written
abbrev pub IfUnwritten : Outcome → Type 0 → Type 0
IfUnwritten CannotWrite P = P
IfUnwritten _ P = ⊤

-- a fact where nothing was written
abbrev pub UnlessRan : Outcome → Type 0 → Type 0
UnlessRan (Finished finish) P = ⊤
UnlessRan CannotWrite P = ⊤
UnlessRan _ P = P

-- the end is this answer, and the output took its whole text
pub record Settles (answer : Answer) (end : Outcome) (before after : Option (List ℕ)) : Type 0 where
  pub code : code_of end ≡ answer.code
  pub line : err_line_of end ≡ answer.line
  pub seal : seal_in end ≡ answer.seal
  pub text : after ≡ with_more before answer.text

-- what an injection with this delay came to is its verdict
abbrev pub IsVerdict : ℕ → Finish → Option (List ℕ) → Option (List ℕ) → Type 0
IsVerdict delay (Injected alert) before after = Notices delay (alert_code alert) before after
IsVerdict delay _ before after = ⊥

-- an injection with this delay ends by its verdict, or isn't done
abbrev pub EndsNoticed : ℕ → Outcome → Option (List ℕ) → Option (List ℕ) → Type 0
EndsNoticed delay (Finished finish) before after = IsVerdict delay finish before after
EndsNoticed delay _ before after = ⊤

-- What a call that has one of these answers leaves of the output, by how it ends: the whole text, a prefix of it where
-- a fault was counted, and nothing where nothing ran.
pub record Prints {K : Type 0} (taken : K → Option (List ℕ)) (faults : K → ℕ) (Answers : Answer → Type 0)
    (outcome : Outcome) (before after : K) : Type 0 where
  pub answered : IfAnswered outcome
      ((answer : Answer) × (Answers answer × Settles answer outcome (taken before) (taken after)))
  pub write_fault : IfUnwritten outcome (Rose (faults before) (faults after))
  pub cut_short : IfUnwritten outcome
      ((answer : Answer) × (Answers answer × IsCutShort answer (taken before) (taken after)))
  pub silent : UnlessRan outcome (after ≡ before)

-- what a call that reads files of these names leaves of the files
pub record Reads {F : Type 0} (contents : F → Option Contents) (begun : F → Option Begun) (faults misses : F → ℕ)
    (names : List (List ℕ)) (outcome : Outcome) (before after : F) : Type 0 where
  pub kept : contents after ≡ contents before
  pub misses_stay : AreThere (contents before) names → misses after ≡ misses before
  pub read_fault : IfUnread outcome (λ _. Rose (faults before) (faults after))
  pub unread : IfUnread outcome (λ said. IsAmong names said × IsBegunAs said (begun after))

-- what a command leaves that reads files of these names and has these answers
pub record Leaves {F K : Type 0} (contents : F → Option Contents) (begun : F → Option Begun) (faults misses : F → ℕ)
    (taken : K → Option (List ℕ)) (failed : K → ℕ) (names : List (List ℕ)) (Answers : Answer → Type 0)
    (outcome : Outcome) (start left : F) (before after : K) : Type 0 where
  pub words : IfBadWords outcome ⊥
  pub reads : Reads contents begun faults misses names outcome start left
  pub prints : Prints taken failed Answers outcome before after

-- what a step leaves of the files that reads these names, whatever it comes to
pub record Passes {F : Type 0} (contents : F → Option Contents) (faults misses : F → ℕ) (names : List (List ℕ))
    (before after : F) : Type 0 where
  pub kept : contents after ≡ contents before
  pub never_falls : faults before ≤ faults after
  pub stays : AreThere (contents before) names → misses after ≡ misses before

-- how a step that reads these names ends where it fails: by a refusal that is one of these answers, by one of the names
-- that can't be read, or for want of memory
abbrev pub Stops : {F : Type 0} → (F → Option Begun) → (F → ℕ) → List (List ℕ) → (Answer → Type 0) → Outcome → F → F
    → Type 0
Stops {F} begun faults names Answers (Refused name why) before after = Answers (refused name.now why)
Stops {F} begun faults names Answers (CannotRead name) before after =
    Rose (faults before) (faults after) × (IsAmong names name.now × IsBegunAs name.now (begun after))
Stops {F} begun faults names Answers OutOfMemory before after = ⊤
Stops {F} begun faults names Answers _ before after = ⊥

-- how a step ends that can only refuse
abbrev pub Refuses : (Answer → Type 0) → Outcome → Type 0
Refuses Answers (Refused name why) = Answers (refused name.now why)
Refuses Answers _ = ⊥

-- the same, or for want of memory
abbrev pub LacksOrRefuses : (Answer → Type 0) → Outcome → Type 0
LacksOrRefuses Answers (Refused name why) = Answers (refused name.now why)
LacksOrRefuses Answers OutOfMemory = ⊤
LacksOrRefuses Answers _ = ⊥

-- the refusal of a name with more bytes than a limit
abbrev pub IsTooLong : Option Contents → List ℕ → ℕ → Refusal → Answer → Type 0
IsTooLong told name limit why answer =
    (answer ≡ refused name why) × ((bytes : List ℕ) × (IsContent told name bytes × (limit < length bytes)))

-- the words don't fit exactly where they mean nothing, and then the files aren't touched
pub record Fits {F : Type 0} (command : Option Meaning) (outcome : Outcome) (before after : F) : Type 0 where
  pub bad_words : IfBadWords outcome ((command ≡ None) × (after ≡ before))
  pub no_words : command ≡ None → outcome ≡ BadWords
