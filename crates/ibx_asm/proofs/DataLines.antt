-- A word that is shown as data stands for its bytes.
use Rattle.std.proofs.Common.{◌≡◌, ℕ, ◌+◌, ◌*◌, ◌/◌, ◌%◌, ◌^◌, ◌<◌, ◌≤◌, zero, suc, Bool, true, false, eqb, nat_lt}
use Rattle.std.proofs.Common.{nat_le, ◌&&◌, [], ◌∷◌, ◌++◌, length, Some, codes, refl, subst, ◌∙◌, ap, inl, inr}
use Rattle.std.proofs.Common.{eq-or-lt_of_le}
use Rattle.std.proofs.Common.{arith, lit<}
use Rattle.std.specs.Char.{digit_value, is_digit}
use Rattle.std.specs.Fmt.{digit_glyph}
use Rattle.std.specs.List.{list_all}
use Rattle.std.specs.Int.{bytes_low_first}
use Rattle.std.specs.Int.Bits.{or_zero_l}
use Rattle.std.proofs.Math.Nat.{mod-eq_of_lt, mod-lt, pow-suc}
use Rattle.std.proofs.lemmas.Bool.{and_parts, cases_Bool, eqb-true}
use Rattle.std.proofs.lemmas.Nat.{mod-pow-add, pow-add}
use Rattle.ibx_text.specs.Number.{value_in, number_of}
use Rattle.ibx_isa.specs.Lengths.{is_long, IsWordOrHalf}
use Rattle.ibx_asm.specs.declared.fields.Field.TheVariants as field
use Rattle.ibx_asm.specs.Denote.{label_of, code_of}
use Rattle.ibx_asm.specs.Dis.{hex_digits, data_text, word_bytes}
use Rattle.ibx_asm.specs.Fields.{range_of, has, places_of, united, scattered, twos_complement}
use Rattle.ibx_asm.specs.Forms.{slots_of}
use Rattle.ibx_asm.specs.Mnemonics.{encoding_of}
use Rattle.ibx_asm.specs.Operands.{plus, signed_of, is_name}
use Rattle.ibx_asm.specs.Text.{tokens}
use Rattle.ibx_asm.proofs.Shown.{is_fine, is_late_of, shown_number}
use Rattle.ibx_asm.proofs.Standing.{is_late, weaker, IsLineOf}

-- a test that all numbers below one pass
unfoldable pub below : (ℕ → Bool) → ℕ → Bool
below test zero = true
below test (suc n) = test n && below test n

-- the test of each of these numbers
pub at_below : (test : ℕ → Bool) (n d : ℕ) → below test n ≡ true → d < n → test d ≡ true
unfolding below
at_below test zero d h k = absurd (omega arith)
at_below test (suc n) d h k =
    let p = and_parts (test n) (below test n) h in
    let le : d ≤ n = omega (arith, k) in
    elim (eq-or-lt_of_le le) as (λ _. test d ≡ true) [
      | inl same ↦ rw same p.0
      | inr less ↦ at_below test n d p.1 less
    ]

-- a hexadecimal digit is a fine byte, and is read as what it stands for
glyph_reads : (d : ℕ) → d < 16 → (is_fine (digit_glyph false d) && (is_digit (digit_glyph false d) 16 && eqb
    (digit_value (digit_glyph false d)) d)) ≡ true
unfolding below
glyph_reads d h = at_below (λ d. is_fine (digit_glyph false d) && (is_digit (digit_glyph false d) 16 && eqb
    (digit_value (digit_glyph false d)) d)) 16 d refl h

-- of digit k of a number
glyph_parts : (n k : ℕ) → (is_fine (digit_glyph false (n / 2 ^ (4 * k) % 16)) ≡ true) ×
    (is_digit (digit_glyph false (n / 2 ^ (4 * k) % 16)) 16 ≡ true) ×
    (digit_value (digit_glyph false (n / 2 ^ (4 * k) % 16)) ≡ n / 2 ^ (4 * k) % 16)
glyph_parts n k =
    let d : ℕ = n / 2 ^ (4 * k) % 16 in
    let g : ℕ = digit_glyph false d in
    let p = and_parts (is_fine g) (is_digit g 16 && eqb (digit_value g) d)
    (glyph_reads d (mod-lt (n / 2 ^ (4 * k)) (lit< tt))) in
    let q = and_parts (is_digit g 16) (eqb (digit_value g) d) p.1 in
    (p.0, q.0, eqb-true (digit_value g) d q.1)

-- digits are fine bytes
pub fine_digits : (k n : ℕ) → list_all is_fine (hex_digits k n) ≡ true
unfolding hex_digits
fine_digits zero n = refl
fine_digits (suc k) n = rw ((glyph_parts n k).0, fine_digits k n) refl

-- as many digits as were asked for
count_digits : (k n : ℕ) → length (hex_digits k n) ≡ k
unfolding hex_digits
count_digits zero n = refl
count_digits (suc k) n = ap suc (count_digits k n)

-- a hexadecimal digit is four bits
power : (k : ℕ) → 16 ^ k ≡ 2 ^ (4 * k)
power zero = refl
power (suc k) =
    let size : 4 * suc k ≡ 4 * k + 4 = omega arith in
    rw (size, pow-add 2 (4 * k) 4, pow-suc 16 k, power k) refl

-- the lowest hexadecimal digits of a number are read as the number's lowest bits
digits_read : (k n : ℕ) → value_in 16 (hex_digits k n) ≡ Some (n % 2 ^ (4 * k))
unfolding hex_digits value_in
digits_read zero n = ap Some (omega arith)
digits_read (suc k) n =
    let p = glyph_parts n k in
    let split : n % 2 ^ (4 + 4 * k) ≡ (n / 2 ^ (4 * k) % 2 ^ 4) * 2 ^ (4 * k) + n % 2 ^ (4 * k) = mod-pow-add n 4
    (4 * k) in
    let size : 4 * suc k ≡ 4 + 4 * k = omega arith in
    let power : 16 ^ k ≡ 2 ^ (4 * k) = power k in
    rw (p.1, p.2, digits_read k n, count_digits k n, size, split, power) refl

-- `0x` and up to 8 digits
pub hex_number : (k n : ℕ) → 0 < k → k ≤ 8 → signed_of (codes "0x" ++ hex_digits k n) ≡ Some (plus (n % 2 ^ (4 * k)))
unfolding signed_of number_of
hex_number k n some few =
    let low : nat_lt 0 k ≡ true = grind arith in
    let high : nat_le k 8 ≡ true = grind arith in
    rw (count_digits k n, low, high, digits_read k n) refl

-- a word as data
word_as_data : (w : ℕ) → w < 2 ^ 32 → IsLineOf (codes ".word 0x" ++ hex_digits 8 w) (bytes_low_first 0 4 w)
unfolding label_of is_name encoding_of slots_of range_of has scattered places_of united twos_complement
word_as_data w h =
    let same : w % 2 ^ 32 ≡ w = mod-eq_of_lt h in
    let number : signed_of (codes "0x" ++ hex_digits 8 w) ≡ Some (plus w) = hex_number 8 w (lit< tt) (omega arith) ∙ ap
    (λ (n : ℕ). Some (plus n)) same in
    let fit : has (range_of field.Word) (plus w) ≡ true = grind (arith, h) in
    subst (λ (n : ℕ). IsLineOf (codes ".word 0x" ++ hex_digits 8 w) (bytes_low_first 0 4 n))
    (or_zero_l (scattered field.Word (twos_complement (plus w))) ∙ omega (arith, same))
    (shown_number 46 48 (codes "word") (120 ∷ hex_digits 8 w) _ field.Word (plus w) refl (fine_digits 8 w) refl refl
    refl number fit)

-- a halfword as data
pub halfword_as_data : (h : ℕ) → h < 2 ^ 16 → IsLineOf (codes ".half 0x" ++ hex_digits 4 h) (bytes_low_first 0 2 h)
unfolding label_of is_name encoding_of slots_of range_of has scattered places_of united twos_complement
halfword_as_data h small =
    let same : h % 2 ^ 16 ≡ h = mod-eq_of_lt small in
    let number : signed_of (codes "0x" ++ hex_digits 4 h) ≡ Some (plus h) = hex_number 4 h (lit< tt) (omega arith) ∙ ap
    (λ (n : ℕ). Some (plus n)) same in
    let fit : has (range_of field.Half) (plus h) ≡ true = grind (arith, small) in
    subst (λ (n : ℕ). IsLineOf (codes ".half 0x" ++ hex_digits 4 h) (bytes_low_first 0 2 n))
    (or_zero_l (scattered field.Half (twos_complement (plus h))) ∙ omega (arith, small))
    (shown_number 46 48 (codes "half") (120 ∷ hex_digits 4 h) _ field.Half (plus h) refl (fine_digits 4 h) refl refl
    refl number fit)

-- a byte as data
pub byte_as_data : (b : ℕ) → b < 2 ^ 8 → IsLineOf (codes ".byte 0x" ++ hex_digits 2 b) (bytes_low_first 0 1 b)
unfolding label_of is_name encoding_of slots_of range_of has scattered places_of united twos_complement
byte_as_data b small =
    let same : b % 2 ^ 8 ≡ b = mod-eq_of_lt small in
    let number : signed_of (codes "0x" ++ hex_digits 2 b) ≡ Some (plus b) = hex_number 2 b (lit< tt) (omega arith) ∙ ap
    (λ (n : ℕ). Some (plus n)) same in
    let fit : has (range_of field.Byte) (plus b) ≡ true = grind (arith, small) in
    subst (λ (n : ℕ). IsLineOf (codes ".byte 0x" ++ hex_digits 2 b) (bytes_low_first 0 1 n))
    (or_zero_l (scattered field.Byte (twos_complement (plus b))) ∙ omega (arith, small))
    (shown_number 46 48 (codes "byte") (120 ∷ hex_digits 2 b) _ field.Byte (plus b) refl (fine_digits 2 b) refl refl
    refl number fit)

-- the address before a segment stands for no code
pub address_line : (address : ℕ) → IsLineOf (codes "# 0x" ++ hex_digits 8 address) []
unfolding label_of tokens code_of
address_line address = record {
  some = omega arith;
  late = weaker is_fine is_late (hex_digits 8 address) is_late_of (fine_digits 8 address);
  unlabelled = refl;
  code = λ number address. refl;
}

-- a word or halfword as data stands for its bytes
pub data_assembles : (w : ℕ) → w < 2 ^ 32 → IsWordOrHalf w → IsLineOf (data_text w) (word_bytes w)
data_assembles w h short = elim (cases_Bool (is_long w)) [
  | inl f ↦ rw f (word_as_data w h)
  | inr f ↦ rw f (halfword_as_data w (short f))
]
