-- What a pair answers, cycle by cycle: what the cycle before found. So a difference is told the delay plus one cycles
-- later, and no other. Our own rule, as in the lockstep of dual cores with a registered alert.
use Rattle.std.specs.Prelude.{◌≡◌, ◌+◌, ◌-◌, Bool, true, false, List, [], ◌∷◌, ◌++◌, length, take, replicate, Option}
use Rattle.std.specs.Prelude.{Some, None}
use Rattle.ibx_lockstep.specs.Lockstep.{differences, inputs, IsSilent, outputs, outputs_alone, SameFirst, unchanged}
use Rattle.ibx_lockstep.specs.Paired.{Paired, lockstep_of, stepped}

-- with another core in main's place, where there is one
abbrev pub put_in : {S I O : Type 0} → Paired S I O → Option S → Paired S I O
put_in p None = p
put_in p (Some other) = record p { main = other }

module _ {S I O : Type 0} (gives : S → I → O) (agree : O → O → Bool) (leaves : S → I → S) where
  -- a cycle with main's own output, where main may be replaced before it
  abbrev pub turned : Paired S I O → Option S × I → Paired S I O
  turned p t = stepped gives agree leaves (put_in p t.0) t.1 (gives (put_in p t.0).main t.1)

  -- what each cycle answers
  abbrev pub answers : Paired S I O → List (Option S × I) → List Bool
  answers p [] = []
  answers p (t ∷ ts) = p.told ∷ answers (turned p t) ts

  -- main's outputs
  abbrev pub main_outputs : Paired S I O → List (Option S × I) → List O
  main_outputs p ts = outputs p.delay gives leaves (lockstep_of p) ts

  -- Whatever is put in main's place, and when: the first cycles, as many as the delay plus one, tell nothing, and each
  -- later one tells a difference exactly where main's output of so many cycles before isn't the same as that of a core
  -- that started equal, was never replaced, and had the same inputs.
  abbrev pub AnswersLater : Paired S I O → Type 0
  AnswersLater p =
      (turns : List (Option S × I))
      → answers p turns ≡ take (length turns) (replicate (p.delay + 1) false
      ++ differences agree (outputs_alone gives leaves p.main (inputs turns)) (main_outputs p turns))

  -- Whatever is put in main's place, and when: where no difference is told up to the delay plus one cycles after a
  -- cycle, main's outputs up to it are the same as those of a core that started equal, was never replaced, and had the
  -- same inputs.
  abbrev pub AnswersEach : Paired S I O → Type 0
  AnswersEach p =
      (turns : List (Option S × I)) → IsSilent (answers p turns)
      → SameFirst agree (length turns - (p.delay + 1)) (outputs_alone gives leaves p.main (inputs turns))
      (main_outputs p turns)

  -- Where nothing is changed, and each output is the same as itself, no difference is ever told.
  abbrev pub AnswersNone : Paired S I O → Type 0
  AnswersNone p = ((o : O) → agree o o ≡ true) → (is : List I) → IsSilent (answers p (unchanged is))
