-- The texts of numbers, two digits at a time.
use Rattle.std.proofs.Common.{◌≡◌, ℕ, zero, suc, ◌+◌, ◌-◌, ◌*◌, ◌/◌, ◌%◌, ◌^◌, ◌<◌, ◌≤◌, false, List, [], ◌∷◌, ◌++◌}
use Rattle.std.proofs.Common.{length, drop, drop-drop, refl, ap, ◌∙◌, sym, arith, append_assoc, length-append}
use Rattle.std.proofs.lemmas.Fmt.{decimal_digit, decimal_step, length-decimal-le}
use Rattle.std.proofs.lemmas.Str.Ascii.{IsAscii-nil, IsAscii-cons}
use Rattle.std.specs.Fmt.{decimal, digit_glyph}
use Rattle.std.specs.Str.{IsAscii}
use Rattle.ibx_text.specs.Digits.{two_digits, hex_digits}

-- the glyph of a decimal digit
glyph : (d : ℕ) → d < 10 → digit_glyph false d ≡ 48 + d
glyph d h = grind arith

-- each glyph is ASCII
glyph_ascii : (d : ℕ) → d < 16 → digit_glyph false d < 128
glyph_ascii d h = grind arith

-- hexadecimal digits are ASCII
pub hex_ascii : (k n : ℕ) → IsAscii (hex_digits k n)
unfolding hex_digits
hex_ascii zero n = IsAscii-nil
hex_ascii (suc k) n = IsAscii-cons _ _ (glyph_ascii (n / 2 ^ (4 * k) % 16) (omega arith)) (hex_ascii k n)

-- two decimal digits are ASCII
pub two_ascii : (n : ℕ) → n < 100 → IsAscii (two_digits n)
unfolding two_digits
two_ascii n h =
    let last = digit_glyph false (n % 10) in
    IsAscii-cons (digit_glyph false (n / 10)) (last ∷ []) (glyph_ascii (n / 10) (omega arith))
    (IsAscii-cons last [] (glyph_ascii (n % 10) (omega arith)) IsAscii-nil)

-- fewer digits are the last of more
lowest : (j k n : ℕ) → drop j (hex_digits (j + k) n) ≡ hex_digits k n
unfolding hex_digits
lowest zero k n = let e : 0 + k ≡ k = omega arith in ap (λ (m : ℕ). hex_digits m n) e
lowest (suc j) k n =
    let e : suc j + k ≡ suc (j + k) = omega arith in
    ap (λ (m : ℕ). drop (suc j) (hex_digits m n)) e ∙ lowest j k n

-- up to eight digits are the last of the eight
pub last_of_eight : (k n : ℕ) → k ≤ 8 → drop (8 - k) (hex_digits 8 n) ≡ hex_digits k n
last_of_eight k n h =
    let e : 8 ≡ 8 - k + k = omega arith in
    ap (λ (m : ℕ). drop (8 - k) (hex_digits m n)) e ∙ lowest (8 - k) k n

-- two glyphs before others
glyphs : {a b c d : ℕ} {xs ys : List ℕ} → a ≡ b → c ≡ d → xs ≡ ys →
    digit_glyph false a ∷ digit_glyph false c ∷ xs ≡ digit_glyph false b ∷ digit_glyph false d ∷ ys
glyphs {a} {b} {c} {d} {xs} {ys} e f g =
    ap (λ (x : ℕ). digit_glyph false x ∷ digit_glyph false c ∷ xs) e
    ∙ ap (λ (x : ℕ). digit_glyph false b ∷ digit_glyph false x ∷ xs) f
    ∙ ap (λ (l : List ℕ). digit_glyph false b ∷ digit_glyph false d ∷ l) g

-- eight digits are those of the four bytes
pub eight : (n : ℕ) (rest : List ℕ) →
    hex_digits 2 (n / 2 ^ 24) ++ (hex_digits 2 (n / 2 ^ 16 % 256)
    ++ (hex_digits 2 (n / 2 ^ 8 % 256) ++ (hex_digits 2 (n % 256) ++ rest)))
    ≡ hex_digits 8 n ++ rest
unfolding hex_digits
eight n rest =
    glyphs (omega arith) (omega arith)
    (glyphs (omega arith) (omega arith)
    (glyphs (omega arith) (omega arith) (glyphs (omega arith) (omega arith) refl)))

-- a number of one decimal digit
pub length_one : (n : ℕ) → n < 10 → length (decimal n) ≡ 1
length_one n h = ap length (decimal_digit n h)

-- a number of two decimal digits
pub decimal_two : (n : ℕ) → 10 ≤ n → n < 100 → decimal n ≡ two_digits n
unfolding two_digits
decimal_two n lo hi =
    rw (
      decimal_step n lo (omega arith),
      decimal_digit (n / 10) (omega arith),
      glyph (n / 10) (omega arith),
      glyph
          (n % 10) (omega arith),
    )

-- a number from 10 to 99 prints two characters
pub length_two : (n : ℕ) → 10 ≤ n → n < 100 → length (decimal n) ≡ 2
unfolding two_digits
length_two n lo hi = ap length (decimal_two n lo hi)

-- a longer number: its last two digits come after the others
pub decimal_pair : (n : ℕ) → 100 ≤ n → n < 2 ^ 64 → decimal n ≡ decimal (n / 100) ++ two_digits (n % 100)
unfolding two_digits
decimal_pair n lo hi =
    let a : n / 10 / 10 ≡ n / 100 = omega arith in
    let b : n / 10 % 10 ≡ n % 100 / 10 = omega arith in
    let c : n % 10 ≡ n % 100 % 10 = omega arith in
    rw (
      decimal_step n (omega arith) hi,
      decimal_step (n / 10) (omega arith) (omega arith),
      append_assoc,
      a,
      b,
      ← c,
      glyph (n % 100 / 10) (omega arith),
      glyph (n % 10) (omega arith),
    )

-- a number of three digits or more prints two characters more than its hundreds do
pub length_pair : (n : ℕ) → 100 ≤ n → n < 2 ^ 64 → length (decimal n) ≡ length (decimal (n / 100)) + 2
unfolding two_digits
length_pair n lo hi = ap length (decimal_pair n lo hi) ∙ length-append _ _

-- up to eight digits stand at the end of a text of twenty characters whose last eight are those of a word
pub last_digits : (k n : ℕ) (text : List ℕ) → k ≤ 8 → drop 12 text ≡ hex_digits 8 n ++ [] → drop (20 - k) text ≡
    hex_digits k n
unfolding hex_digits
last_digits k n text h e =
    let place : 20 - k ≡ 12 + (8 - k) = omega arith in
    ap (λ (m : ℕ). drop m text) place ∙ sym (drop-drop (8 - k) 12 text) ∙ ap (drop (8 - k)) e ∙ last_of_eight k n h

-- a number of 32 bits has at most ten decimal digits
pub short : (n : ℕ) → n < 2 ^ 32 → length (decimal n) ≤ 10
short n h = length-decimal-le 10 n (omega arith) (omega arith) (omega arith)
