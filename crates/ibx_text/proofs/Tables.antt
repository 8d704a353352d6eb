-- Each entry of the two tables.
use Rattle.std.proofs.Common.{◌≡◌, ℕ, zero, suc, ◌+◌, ◌-◌, ◌*◌, ◌/◌, ◌%◌, ◌<◌, Bool, true, false, ◌&&◌, T, eqb, List}
use Rattle.std.proofs.Common.{[], ◌∷◌, get_or, inl, inr, arith, eq-zero-or-pos, eqb→eq, ap, ◌∙◌, subst}
use lib.Ieee.Fits.{and_l, and_r}
use Rattle.std.specs.Fmt.{digit_glyph}
use Rattle.ibx_text.specs.Digits.{two_digits, hex_digits}
use Rattle.ibx_text.specs.declared.pairs.TheConstants.{DECIMAL_PAIRS, HEX_PAIRS}

-- a test of every number below n
abbrev all_below : (ℕ → Bool) → ℕ → Bool
all_below test zero = true
all_below test (suc n) = test n && all_below test n

-- what such a test says of one of them
below : (test : ℕ → Bool) (n p : ℕ) → T (all_below test n) → p < n → T (test p)
below test zero p t h = absurd (omega arith)
below test (suc n) p t h =
    elim (eq-zero-or-pos (n - p)) [
      | inl z ↦ let e : n ≡ p = omega arith in subst (λ (m : ℕ). T (test m)) e (and_l _ (all_below test n) t)
      | inr g ↦ below test n p (and_r _ (all_below test n) t) (omega arith)
    ]

-- whether a pair of a table has these two characters
abbrev is_pair : List ℕ → ℕ → ℕ → ℕ → Bool
is_pair table p first second = eqb (get_or table (2 * p) 0) first && eqb (get_or table (2 * p + 1) 0) second

-- a pair that passes has them
pair_of : (table : List ℕ) (p first second : ℕ) → T (is_pair table p first second) →
    get_or table (2 * p) 0 ∷ get_or table (2 * p + 1) 0 ∷ [] ≡ first ∷ second ∷ []
pair_of table p first second t =
    ap (λ (x : ℕ). x ∷ get_or table (2 * p + 1) 0 ∷ []) (eqb→eq _ _ (and_l _ _ t))
    ∙ ap (λ (x : ℕ). first ∷ x ∷ []) (eqb→eq _ _ (and_r (eqb (get_or table (2 * p) 0) first) _ t))

-- the entry of p has the two decimal digits of p
abbrev decimal_test : ℕ → Bool
decimal_test p = is_pair DECIMAL_PAIRS p (digit_glyph false (p / 10)) (digit_glyph false (p % 10))

-- the entry of p has the two hexadecimal digits of p
abbrev hex_test : ℕ → Bool
hex_test p = is_pair HEX_PAIRS p (digit_glyph false (p / 16 % 16)) (digit_glyph false (p % 16))

-- an entry of the table of decimal pairs
pub decimal_entry : (p : ℕ) → p < 100 →
    get_or DECIMAL_PAIRS (2 * p) 0 ∷ get_or DECIMAL_PAIRS (2 * p + 1) 0 ∷ [] ≡ two_digits p
unfolding two_digits
decimal_entry p h = pair_of DECIMAL_PAIRS p _ _ (below decimal_test 100 p tt h)

-- an entry of the table of hexadecimal pairs
pub hex_entry : (p : ℕ) → p < 256 →
    get_or HEX_PAIRS (2 * p) 0 ∷ get_or HEX_PAIRS (2 * p + 1) 0 ∷ [] ≡ hex_digits 2 p
unfolding hex_digits
hex_entry p h =
    let e : p % 16 ≡ p / 1 % 16 = omega arith in
    pair_of HEX_PAIRS p _ _ (below hex_test 256 p tt h)
    ∙ ap (λ (x : ℕ). digit_glyph false (p / 16 % 16) ∷ digit_glyph false x ∷ []) e
