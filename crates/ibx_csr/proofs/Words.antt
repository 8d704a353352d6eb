-- A word that joins others is 0 exactly where each is, and a difference where there is none.
use Rattle.std.proofs.Common.{inl, inr, ◌≡◌, ℕ, zero, suc, Bool, true, false, not, refl, sym, ap, ◌∙◌, arith}
use Rattle.std.specs.Prelude.{◌||◌, ◌==◌, bit_or, bit_xor}
use Rattle.std.specs.Int.Bits.{or_zero_l, xor_assoc, xor_self, xor_zero_l, xor_zero_r}
use Rattle.std.proofs.lemmas.Nat.{le_or_l}
use Rattle.std.proofs.lemmas.Bool.{cases_eq, ne_eqb, eq-eqb}

-- two words joined aren't 0 where one of them isn't
pub or_some : (a b : ℕ) → not (bit_or a b == 0) ≡ (not (a == 0) || not (b == 0))
or_some zero b = ap (λ n. not (n == 0)) (or_zero_l b)
or_some (suc a) b =
    let le = le_or_l (suc a) b in
    rw (ne_eqb (bit_or (suc a) b) 0 (λ e. omega arith), ne_eqb (suc a) 0 (λ e. omega arith)) refl

-- of three tests it doesn't matter which two are joined first
pub any_of_three : (a b c : Bool) → ((a || b) || c) ≡ (a || (b || c))
any_of_three true b c = refl
any_of_three false b c = refl

-- a last test that never holds changes nothing
pub or_never : (a : Bool) → (a || false) ≡ a
or_never true = refl
or_never false = refl

-- two words without a difference are equal
xor_none : (a b : ℕ) → bit_xor a b ≡ 0 → a ≡ b
xor_none a b e =
    sym (xor_zero_r a) ∙ ap (bit_xor a) (sym (xor_self b)) ∙ sym (xor_assoc a b b) ∙ ap (λ n. bit_xor n b) e
    ∙ xor_zero_l b

-- two words have a difference where they aren't equal
pub xor_some : (a b : ℕ) → not (bit_xor a b == 0) ≡ not (a == b)
xor_some a b = elim (cases_eq a b) [
  | inl e ↦ rw (e, xor_self b, eq-eqb b b refl) refl
  | inr ne ↦ rw (ne_eqb a b ne, ne_eqb (bit_xor a b) 0 (λ e. ne (xor_none a b e))) refl
]
