-- A search that goes on by one number, and what counts as an alert.
use Rattle.std.proofs.Common.{◌≡◌, ℕ, zero, suc, ◌+◌, ◌≤◌, Bool, true, false, not, Option, Some, None, inl, inr, refl}
use Rattle.std.proofs.Common.{sym, ap, ◌∙◌, arith}
use Rattle.std.specs.Prelude.{◌||◌, ◌==◌, bit_or}
use Rattle.std.proofs.lemmas.Bool.{cases_Bool, ne_eqb}
use Rattle.std.proofs.lemmas.Nat.{le_or_r}
use Rattle.ibx_flips.specs.Flips.{first_from}
use Rattle.ibx_soc.specs.Cycles.{alerts_with}
use Rattle.ibx_compare.specs.Verdicts.{then_test}

-- a search among one number more
pub first_from-more : (n : ℕ) (test : ℕ → Bool) (t : ℕ) → first_from (suc n) test t ≡ then_test (first_from n test t)
    (test (t + n)) (t + n)
unfolding first_from
first_from-more zero test t = ap (λ k. then_test None (test k) k) (let e : t ≡ t + zero = omega arith in e)
first_from-more (suc n) test t =
    elim (cases_Bool (test t)) [
      | inl hit ↦ rw hit refl
      | inr miss ↦ rw miss (first_from-more n test (t + 1) ∙ ap (λ k. then_test (first_from n test (t + 1)) (test k) k)
          (let e : t + 1 + n ≡ t + suc n = omega arith in e))
    ]

-- a test that fails finds nothing
pub then_test-false : {A : Type 0} (m : Option A) (n : A) → then_test m false n ≡ m
then_test-false None n = refl
then_test-false (Some m) n = refl

-- a choice with true is true
or_true : (b : Bool) → (b || true) ≡ true
or_true true = refl
or_true false = refl

-- a choice with false is the other
or_false : (b : Bool) → (b || false) ≡ b
or_false true = refl
or_false false = refl

-- the alerts of a cycle aren't none exactly where main has an alert or a difference is told
pub alerts-told : (told : Bool) (n : ℕ) → (not (n == 0) || told) ≡ not ((alerts_with told n).0 == 0)
alerts-told true n =
    let some : 2 ≤ bit_or n 2 = le_or_r n 2 in
    or_true (not (n == 0)) ∙ sym (ap not (ne_eqb (bit_or n 2) 0 (λ e. omega arith)))
alerts-told false n = or_false (not (n == 0))
