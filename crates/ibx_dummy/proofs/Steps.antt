-- The threshold and the register's steps, by their bits.
use Rattle.std.proofs.Common.{◌≡◌, ℕ, zero, suc, ◌+◌, ◌*◌, ◌/◌, ◌%◌, ◌^◌, ◌<◌, ◌≤◌, Bool, true, false, ◌&&◌, refl, sym}
use Rattle.std.proofs.Common.{◌∙◌, ap, subst, arith, inl, inr, add-one}
use Rattle.std.specs.Prelude.{min, ◌==◌, if◌then◌else◌}
use Rattle.std.specs.Int.{bit_at}
use Rattle.std.specs.Int.Bits.{bit_and, bit_xor, xor_assoc, xor_zero_r, and_le_l}
use Rattle.std.proofs.lemmas.Nat.Bits.{bit_at-lt, bit_at-suc, bit_at_xor, bit_at_and}
use Rattle.std.proofs.lemmas.Bool.{le-leb, cases_eq, eqb-true, and_parts}
use Rattle.ibx_dummy.specs.Dummies.{threshold}
use Rattle.ibx_dummy.specs.Laws.{IsThreshold, Shifts, is_tap, stepped_back}

-- ---- the threshold

-- bits 1:0 are the register's, and bits 4:2 go through the mask
low_bit : (lfsr mask k : ℕ) → k < 2 → bit_at (bit_and (lfsr % 32) (mask * 4 + 3)) k ≡ bit_at lfsr k
low_bit lfsr mask zero lt = bit_at_and (lfsr % 32) (mask * 4 + 3) 0 ∙ omega arith
low_bit lfsr mask (suc zero) lt = bit_at_and (lfsr % 32) (mask * 4 + 3) 1 ∙ omega arith
low_bit lfsr mask (suc (suc k)) lt = absurd (omega arith)

-- the mask lets bits 4:2 of the register pass, each where it has the bit two below
high_bit : (lfsr mask k : ℕ) → k < 3
    → bit_at (bit_and (lfsr % 32) (mask * 4 + 3)) (k + 2) ≡ min (bit_at lfsr (k + 2)) (bit_at mask k)
high_bit lfsr mask zero lt = bit_at_and (lfsr % 32) (mask * 4 + 3) 2 ∙ omega arith
high_bit lfsr mask (suc zero) lt = bit_at_and (lfsr % 32) (mask * 4 + 3) 3 ∙ omega arith
high_bit lfsr mask (suc (suc zero)) lt = bit_at_and (lfsr % 32) (mask * 4 + 3) 4 ∙ omega arith
high_bit lfsr mask (suc (suc (suc k))) lt = absurd (omega arith)

-- so the threshold is the one of the rule
pub threshold_bits : (lfsr mask : ℕ) → IsThreshold lfsr mask (threshold lfsr mask)
threshold_bits lfsr mask = record {
  most = omega (arith, and_le_l (lfsr % 32) (mask * 4 + 3));
  low = low_bit lfsr mask;
  high = high_bit lfsr mask;
}

-- ---- the register

-- the bits that the feedback changes
abbrev feedback : ℕ
feedback = 0x80200003

-- whether the feedback has the bits of its taps, as far as n
unfoldable has_taps : ℕ → Bool
has_taps zero = true
has_taps (suc n) = (bit_at feedback n == (if is_tap n then 1 else 0)) && has_taps n

-- each bit of the feedback is that of its polynomial
tap_at : (n : ℕ) → has_taps n ≡ true → (k : ℕ) → k < n → bit_at feedback k ≡ (if is_tap k then 1 else 0)
unfolding has_taps
tap_at zero e k lt = absurd (omega arith)
tap_at (suc n) e k lt =
    let parts = and_parts (bit_at feedback n == (if is_tap n then 1 else 0)) (has_taps n) e in
    let here : bit_at feedback n ≡ (if is_tap n then 1 else 0) =
    eqb-true (bit_at feedback n) (if is_tap n then 1 else 0) parts.0 in
    elim (cases_eq k n) [
      | inl same ↦ subst (λ m. bit_at feedback m ≡ (if is_tap m then 1 else 0)) (sym same) here
      | inr other ↦ tap_at n parts.1 k (omega arith)
    ]

-- the constant of the feedback has the taps of the polynomial in all its 32 bits
tap : (k : ℕ) → k < 32 → bit_at feedback k ≡ (if is_tap k then 1 else 0)
unfolding has_taps
tap = tap_at 32 refl

-- the bit above
bit_above : (x k : ℕ) → bit_at (x / 2) k ≡ bit_at x (k + 1)
bit_above x k = rw add-one (sym (bit_at-suc x k))

-- a sum of bits, with feedback and without
tapped : (t : Bool) (b low : ℕ) → low ≡ 1 → (b + (if t then 1 else 0)) % 2 ≡ (b + (if t then low else 0)) % 2
tapped true b low e = omega arith
tapped false b low e = refl

-- a bit that falls out as 0 adds nothing, at a tap or elsewhere
untapped : (t : Bool) (b low : ℕ) → low ≡ 0 → b < 2 → b ≡ (b + (if t then low else 0)) % 2
untapped true b low e lt = omega arith
untapped false b low e lt = omega arith

-- with feedback, and without
pub shifts_odd : (x : ℕ) → x % 2 ≡ 1 → Shifts x (bit_xor (x / 2) feedback)
shifts_odd x odd k lt =
    bit_at_xor (x / 2) feedback k
    ∙ ap (λ (b : ℕ). (b + bit_at feedback k) % 2) (bit_above x k)
    ∙ ap (λ (b : ℕ). (bit_at x (k + 1) + b) % 2) (tap k lt)
    ∙ tapped (is_tap k) (bit_at x (k + 1)) (bit_at x 0) (omega arith)

-- where the bit that falls out is 0, halving alone is the step
pub shifts_even : (x : ℕ) → x % 2 ≡ 0 → Shifts x (x / 2)
shifts_even x even k lt =
    bit_above x k ∙ untapped (is_tap k) (bit_at x (k + 1)) (bit_at x 0) (omega arith) (bit_at-lt x (k + 1))

-- the feedback sets bit 31, which is 0 without it
back_odd : (x : ℕ) → x < 2 ^ 32 → x % 2 ≡ 1 → 2 ^ 31 ≤ bit_xor (x / 2) feedback
back_odd x lt odd =
    let high : bit_xor (x / 2) feedback / 2 ^ 31 % 2 ≡ 1 = bit_at_xor (x / 2) feedback 31 ∙ omega arith in
    omega arith

-- so a step with feedback is taken back
pub reversible_odd : (x : ℕ) → x < 2 ^ 32 → x % 2 ≡ 1 → stepped_back (bit_xor (x / 2) feedback) ≡ x
reversible_odd x lt odd =
    let again : bit_xor (bit_xor (x / 2) feedback) feedback ≡ x / 2 =
    xor_assoc (x / 2) feedback feedback ∙ xor_zero_r (x / 2) in
    rw (le-leb (2 ^ 31) (bit_xor (x / 2) feedback) (back_odd x lt odd)) (omega arith)
