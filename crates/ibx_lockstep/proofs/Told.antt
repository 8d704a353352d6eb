-- What a pair answers is what it finds, one cycle later.
use Rattle.std.proofs.Common.{◌≡◌, ℕ, zero, suc, ◌+◌, ◌-◌, Bool, false, List, [], ◌∷◌, ◌++◌, length, take}
use Rattle.std.proofs.Common.{replicate, Option, Some, None, refl, ap, subst, sym, ◌∙◌, arith}
use Rattle.ibx_lockstep.specs.Lockstep.{differences, findings, inputs, IsSilent, outputs_alone, TellsLater}
use Rattle.ibx_lockstep.specs.Lockstep.{unchanged}
use Rattle.ibx_lockstep.specs.Paired.{Paired, finds, lockstep_of, stepped}
use Rattle.ibx_lockstep.specs.Told.{answers, AnswersEach, AnswersLater, AnswersNone, main_outputs, turned}
use Rattle.ibx_lockstep.proofs.Lockstep.{inputs-unchanged, length-alone, length-outputs, never_differs}
use Rattle.ibx_lockstep.proofs.Lockstep.{outputs-unchanged, padded, same_first, skipped}

-- the first entries of a list that was cut behind them are those of the list
take_shorter : {A : Type 0} (n : ℕ) (xs : List A) → take n (take (suc n) xs) ≡ take n xs
take_shorter zero [] = refl
take_shorter zero (x ∷ xs) = refl
take_shorter (suc n) [] = refl
take_shorter (suc n) (x ∷ xs) = ap (λ ys. x ∷ ys) (take_shorter n xs)

-- so it is with one more in front
take_behind : {A : Type 0} (n : ℕ) (x : A) (xs : List A) → take n (x ∷ take n xs) ≡ take n (x ∷ xs)
take_behind zero x xs = refl
take_behind (suc n) x xs = ap (λ ys. x ∷ ys) (take_shorter n xs)

module _ {S I O : Type 0} (gives : S → I → O) (agree : O → O → Bool) (leaves : S → I → S) where
  -- the answers are the findings with what the cycle before found in front
  answers_are : (p : Paired S I O) (ts : List (Option S × I))
      → answers gives agree leaves p ts
      ≡ take (length ts) (p.told ∷ findings p.delay gives leaves agree (lockstep_of p) ts)
  unfolding finds stepped
  answers_are p [] = refl
  answers_are p ((None, i) ∷ ts) =
      ap (λ bs. p.told ∷ bs) (answers_are (turned gives agree leaves p (None, i)) ts)
  answers_are p ((Some x, i) ∷ ts) =
      ap (λ bs. p.told ∷ bs) (answers_are (turned gives agree leaves p (Some x, i)) ts)

  -- where the findings are those of d cycles before, the answers are those of d + 1 cycles before
  pub answers_later : (p : Paired S I O) → p.told ≡ false
      → TellsLater p.delay gives leaves agree (lockstep_of p) → AnswersLater gives agree leaves p
  answers_later p quiet tells ts =
      let n = length ts in
      let found = differences agree (outputs_alone gives leaves p.main (inputs ts))
      (main_outputs gives agree leaves p ts) in
      let one : suc p.delay ≡ p.delay + 1 = omega arith in
      answers_are p ts
      ∙ ap (λ b. take n (b ∷ findings p.delay gives leaves agree (lockstep_of p) ts)) quiet
      ∙ ap (λ bs. take n (false ∷ bs)) (tells ts)
      ∙ take_behind n false (replicate p.delay false ++ found)
      ∙ ap (λ k. take n (replicate k false ++ found)) one

  -- so where nothing is told, the outputs are the same up to d + 1 cycles before
  pub answers_each : (p : Paired S I O) → AnswersLater gives agree leaves p → AnswersEach gives agree leaves p
  answers_each p later ts silent =
      let xs = outputs_alone gives leaves p.main (inputs ts) in
      let ys = main_outputs gives agree leaves p ts in
      same_first agree (length ts - (p.delay + 1)) xs ys
      (omega (arith, length-alone p.delay gives leaves p.main ts))
      (omega (arith, length-outputs p.delay gives leaves (lockstep_of p) ts))
      (skipped (p.delay + 1) (length ts) (differences agree xs ys) (subst IsSilent (later ts) silent))

  -- and a run in which nothing is changed is silent
  pub answers_none : (p : Paired S I O) → AnswersLater gives agree leaves p → AnswersNone gives agree leaves p
  answers_none p later self is =
      let ts : List (Option S × I) = unchanged is in
      let alone = outputs_alone gives leaves p.main in
      let same : main_outputs gives agree leaves p ts ≡ alone (inputs ts) =
      outputs-unchanged p.delay gives leaves (lockstep_of p) is ∙ ap alone (sym (inputs-unchanged S is)) in
      subst IsSilent (sym (later ts))
      (subst (λ (ys : List O). IsSilent
      (take (length ts) (replicate (p.delay + 1) false ++ differences agree (alone (inputs ts)) ys))) (sym same)
      (padded (p.delay + 1) (length ts) (differences agree (alone (inputs ts)) (alone (inputs ts)))
      (never_differs agree self (alone (inputs ts)))))
