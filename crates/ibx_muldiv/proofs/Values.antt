-- Magnitudes and signs give the values of whole numbers.
use Rattle.std.proofs.Common.{◌≡◌, ℕ, zero, suc, ◌-◌, ◌*◌, ◌/◌, ◌%◌, ◌^◌, ◌<◌, ◌≤◌, Bool, true, false, not, cond, ◌&&◌}
use Rattle.std.proofs.Common.{eqb, ltb, refl, sym, ap, ◌∙◌, arith, inl, inr, ℤ, pos, negsuc, neg_ℤ, ◌*ℤ◌}
use Rattle.std.specs.Prelude.{int_div, int_rem, unsigned_abs}
use Rattle.std.specs.Int.{cast_unsigned, is_negative, w32, w64}
use Rattle.std.proofs.Math.Dec.{eqb-suc-zero}
use Rattle.std.proofs.Math.Nat.{div-le_self, mod-le}
use Rattle.std.proofs.lemmas.Bool.{cases_lt, le-ltb, lt-ltb, ne_eqb}
use Rattle.ibx_isa.specs.Multiply.{signed}
use Rattle.ibx_muldiv.specs.Operands.{sign, magnitude, differ}
use Rattle.ibx_muldiv.specs.Steps.{negated}
use Rattle.ibx_muldiv.proofs.Division.{part_of}

-- a magnitude isn't below 0, and its negation in 32 and in 64 bits is that of the whole number
not_below : (m : ℕ) → ltb m 0 ≡ false
not_below m = le-ltb m 0 (omega arith)

-- 2 ^ 32 less a magnitude is the word of the negative number
neg_word : (n : ℕ) → n ≤ 2 ^ 32 → (2 ^ 32 - n) % 2 ^ 32 ≡ cast_unsigned w32 (neg_ℤ (pos n))
neg_word zero h = refl
neg_word (suc n) h = omega arith

-- 2 ^ 64 less a magnitude is the double word of the negative number
neg_double : (n : ℕ) → n ≤ 2 ^ 64 → (2 ^ 64 - n) % 2 ^ 64 ≡ cast_unsigned w64 (neg_ℤ (pos n))
neg_double zero h = refl
neg_double (suc n) h = omega arith

-- the product of two signed numbers
pub signed_product : (x y : ℤ) → unsigned_abs x * unsigned_abs y < 2 ^ 64
    → negated 64 (differ (is_negative x) (is_negative y)) (unsigned_abs x * unsigned_abs y)
    ≡ cast_unsigned w64 (x *ℤ y)
signed_product (pos m) (pos n) h = rw (not_below m, not_below n) refl
signed_product (pos m) (negsuc n) h = rw (not_below m) (neg_double (m * suc n) (omega arith))
signed_product (negsuc m) (pos n) h = rw (not_below n) (neg_double (suc m * n) (omega arith))
signed_product (negsuc m) (negsuc n) h = refl

-- the product of a signed and an unsigned number
pub mixed_product : (x : ℤ) (n : ℕ) → unsigned_abs x * n < 2 ^ 64
    → negated 64 (is_negative x) (unsigned_abs x * n) ≡ cast_unsigned w64 (x *ℤ pos n)
mixed_product (pos m) n h = rw (not_below m) refl
mixed_product (negsuc m) n h = neg_double (suc m * n) (omega arith)

-- the quotient of two signed numbers, by a number that isn't 0
pub quotient_some : (x y : ℤ) → unsigned_abs x < 2 ^ 32
    → negated 32 (differ (is_negative x) (is_negative y)) (unsigned_abs x / unsigned_abs y)
    ≡ cast_unsigned w32 (int_div x y)
quotient_some (pos m) (pos n) h = rw (not_below m, not_below n) refl
quotient_some (pos m) (negsuc n) h = rw (not_below m) (neg_word (m / suc n) (omega (arith, div-le_self m (suc n))))
quotient_some (negsuc m) (pos n) h = rw (not_below n) (neg_word (suc m / n) (omega (arith, div-le_self (suc m) n)))
quotient_some (negsuc m) (negsuc n) h = refl

-- the remainder of two signed numbers, by a number that isn't 0
pub remainder_some : (x y : ℤ) → unsigned_abs x < 2 ^ 32
    → negated 32 (is_negative x) (unsigned_abs x % unsigned_abs y) ≡ cast_unsigned w32 (int_rem x y)
remainder_some (pos m) y h = rw (not_below m) refl
remainder_some (negsuc m) y h = neg_word (suc m % unsigned_abs y) (omega (arith, mod-le (suc m) (unsigned_abs y)))

-- a condition with one that is known
and_false : (b : Bool) → b && false ≡ false
and_false true = refl
and_false false = refl

-- a condition with one that holds is that condition
and_true : (b : Bool) → b && true ≡ b
and_true true = refl
and_true false = refl

-- the signed number of a word is at most 2 ^ 31 from 0
pub magnitude-le : (a : ℕ) → a < 2 ^ 32 → magnitude a ≤ 2 ^ 31
magnitude-le a h =
    elim (cases_lt a (2 ^ 31)) [
      | inl lt ↦ rw (lt-ltb a (2 ^ 31) lt) (omega arith)
      | inr le ↦ rw (le-ltb a (2 ^ 31) le) (omega arith)
    ]

-- the magnitude is 0 for 0 alone, and with the sign it gives the word back
pub magnitude-zero : (a : ℕ) → a < 2 ^ 32 → eqb a 0 ≡ eqb (magnitude a) 0
magnitude-zero a h =
    elim (cases_lt a (2 ^ 31)) [
      | inl lt ↦ rw (lt-ltb a (2 ^ 31) lt) refl
      | inr le ↦ rw (le-ltb a (2 ^ 31) le) (ne_eqb a 0 (omega arith) ∙ sym (eqb-suc-zero (2 ^ 32 - suc a)))
    ]

-- a word's magnitude, negated by its sign, is the word again
magnitude-back : (a : ℕ) → a < 2 ^ 32 → negated 32 (sign a) (magnitude a) ≡ a
magnitude-back a h =
    elim (cases_lt a (2 ^ 31)) [
      | inl lt ↦ rw (lt-ltb a (2 ^ 31) lt, not_below a) refl
      | inr le ↦ rw (le-ltb a (2 ^ 31) le) (omega arith)
    ]

-- the quotient and the remainder of two words as signed numbers, by 0 also
pub signed_quotient : (a b : ℕ) → a < 2 ^ 32 → b < 2 ^ 32
    → negated 32 (differ (sign a) (sign b) && not (eqb b 0)) (part_of false (magnitude a) (magnitude b))
    ≡ cond (eqb b 0) (2 ^ 32 - 1) (cast_unsigned w32 (int_div (signed a) (signed b)))
signed_quotient a b fa fb =
    let small : magnitude a < 2 ^ 32 = omega (arith, magnitude-le a fa) in
    rw (← magnitude-zero b fb)
    (elim (eqb b 0)
    as (λ e. negated 32 (differ (sign a) (sign b) && not e) (cond e (2 ^ 32 - 1) (magnitude a / magnitude b))
    ≡ cond e (2 ^ 32 - 1) (cast_unsigned w32 (int_div (signed a) (signed b)))) [
      | true ↦ ap (λ (s : Bool). negated 32 s (2 ^ 32 - 1)) (and_false (differ (sign a) (sign b)))
      | false ↦ ap (λ (s : Bool). negated 32 s (magnitude a / magnitude b)) (and_true (differ (sign a) (sign b)))
          ∙ quotient_some (signed a) (signed b) small
    ])

-- the remainder has the sign of the dividend, and by 0 it is the dividend
pub signed_remainder : (a b : ℕ) → a < 2 ^ 32 → b < 2 ^ 32
    → negated 32 (sign a) (part_of true (magnitude a) (magnitude b))
    ≡ cond (eqb b 0) a (cast_unsigned w32 (int_rem (signed a) (signed b)))
signed_remainder a b fa fb =
    let small : magnitude a < 2 ^ 32 = omega (arith, magnitude-le a fa) in
    rw (← magnitude-zero b fb)
    (elim (eqb b 0)
    as (λ e. negated 32 (sign a) (cond e (magnitude a) (magnitude a % magnitude b))
    ≡ cond e a (cast_unsigned w32 (int_rem (signed a) (signed b)))) [
      | true ↦ magnitude-back a fa
      | false ↦ remainder_some (signed a) (signed b) small
    ])
