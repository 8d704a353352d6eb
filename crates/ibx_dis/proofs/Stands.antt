-- The lines of some code stand for it.
use Rattle.std.proofs.Common.{◌≡◌, ℕ, zero, suc, ◌-◌, ◌%◌, ◌^◌, ◌<◌, true, false, nat_lt, nat_le}
use Rattle.std.proofs.Common.{List, [], ◌∷◌, ◌++◌, length, take, drop, codes, refl, sym, ◌∙◌, ap, subst, inl, inr}
use Rattle.std.proofs.Common.{append_assoc, append-nil, arith, lit<}
use Rattle.std.specs.Int.{to_le_bytes, w16, w32}
use Rattle.std.proofs.Math.Nat.{mod-eq_of_lt}
use Rattle.std.proofs.lemmas.Bool.{cases_Bool}
use Rattle.std.proofs.lemmas.Bool.Decides.{nat_tests}
use Rattle.std.proofs.lemmas.List.{take-append-drop}
use Rattle.std.proofs.lemmas.Nat.{le_bytes_2, le_bytes_4}
use Rattle.ibx_isa.specs.Lengths.{is_long}
use Rattle.ibx_elf.specs.declared.ram.Ram.{Ram}
use Rattle.ibx_elf.specs.Image.{image_of}
use Rattle.ibx_wrap.specs.Wrapped.{wrapped, image_of_code, code_address}
use Rattle.ibx_wrap.proofs.Laws.{image_of-wrapped}
use Rattle.ibx_asm.specs.Denote.{denoted}
use Rattle.ibx_text.specs.Digits.{hex_digits}
use Rattle.ibx_asm.specs.Dis.{word_bytes}
use Rattle.ibx_asm.proofs.DataLines.{address_line, byte_as_data, halfword_as_data}
use Rattle.ibx_asm.proofs.RoundTrip.{dis_stands}
use Rattle.ibx_asm.proofs.Standing.{IsLineOf, AreLinesOf, no_lines, with_line, all_alone}
use Rattle.ibx_dis.specs.Laws.{AreBytes, ListsItsFile}
use Rattle.ibx_dis.specs.Listing.{first_half, first_word, first_size, first_text, lines_after, lines_of}
use Rattle.ibx_dis.specs.Listing.{listing_of}
use Rattle.ibx_dis.proofs.Steps.{some_size, drop_first}

-- the bytes after the first
after_first : (x : ℕ) (code : List ℕ) → AreBytes (x ∷ code) → AreBytes code
after_first x code h i = h (suc i)

-- the first two
two_bytes : (a b : ℕ) (code : List ℕ) → AreBytes (a ∷ b ∷ code) → AreBytes (a ∷ b ∷ [])
two_bytes a b code h zero = h 0
two_bytes a b code h (suc zero) = h 1
two_bytes a b code h (suc (suc i)) = lit< tt

-- the first four
four_bytes : (a b c d : ℕ) (code : List ℕ) → AreBytes (a ∷ b ∷ c ∷ d ∷ code) → AreBytes (a ∷ b ∷ c ∷ d ∷ [])
four_bytes a b c d code h zero = h 0
four_bytes a b c d code h (suc zero) = h 1
four_bytes a b c d code h (suc (suc zero)) = h 2
four_bytes a b c d code h (suc (suc (suc zero))) = h 3
four_bytes a b c d code h (suc (suc (suc (suc i)))) = lit< tt

-- a halfword is small
half_small : (a b : ℕ) (code : List ℕ) → AreBytes (a ∷ b ∷ code) → first_half (a ∷ b ∷ code) < 2 ^ 16
half_small a b code h = let low : a < 256 = h 0 in let high : b < 256 = h 1 in omega (arith, low, high)

-- a last byte stands for itself
last_stands : (a : ℕ) → AreBytes (a ∷ []) → IsLineOf (first_text (a ∷ [])) (take (first_size (a ∷ [])) (a ∷ []))
unfolding first_text first_size
last_stands a h =
    let small : a < 256 = h 0 in
    subst (λ (b : ℕ). IsLineOf (codes ".byte 0x" ++ hex_digits 2 a) (b ∷ [])) (mod-eq_of_lt small)
    (byte_as_data a small)

-- so does a short halfword
short_stands : (a b : ℕ) (code : List ℕ) → AreBytes (a ∷ b ∷ code) → is_long (first_half (a ∷ b ∷ code)) ≡ false
    → IsLineOf (first_text (a ∷ b ∷ code)) (take (first_size (a ∷ b ∷ code)) (a ∷ b ∷ code))
unfolding first_text first_size
short_stands a b code h short =
    let n : ℕ = first_half (a ∷ b ∷ code) in
    let long : nat_lt (length (a ∷ b ∷ code)) 2 ≡ false = grind (arith, nat_tests) in
    let small : n < 2 ^ 16 = half_small a b code h in
    let bytes : to_le_bytes w16 n ≡ a ∷ b ∷ [] = le_bytes_2 (a ∷ b ∷ []) n refl (two_bytes a b code h) refl in
    let whole : word_bytes n ≡ a ∷ b ∷ [] = rw short bytes in
    rw (long, short) (subst (IsLineOf _) whole (dis_stands n (omega (arith, small)) (λ s. small)))

-- and one that asks for a word which isn't there
cut_stands : (a b : ℕ) (code : List ℕ) → AreBytes (a ∷ b ∷ code) → is_long (first_half (a ∷ b ∷ code)) ≡ true
    → length (a ∷ b ∷ code) < 4
    → IsLineOf (first_text (a ∷ b ∷ code)) (take (first_size (a ∷ b ∷ code)) (a ∷ b ∷ code))
unfolding first_text first_size
cut_stands a b code h asks few =
    let n : ℕ = first_half (a ∷ b ∷ code) in
    let long : nat_lt (length (a ∷ b ∷ code)) 2 ≡ false = grind (arith, nat_tests) in
    let less : nat_lt (length (a ∷ b ∷ code)) 4 ≡ true = grind (arith, nat_tests, few) in
    let none : nat_le 4 (length (a ∷ b ∷ code)) ≡ false = grind (arith, nat_tests, few) in
    let bytes : to_le_bytes w16 n ≡ a ∷ b ∷ [] = le_bytes_2 (a ∷ b ∷ []) n refl (two_bytes a b code h) refl in
    rw (long, asks, less, none) (subst (IsLineOf _) bytes (halfword_as_data n (half_small a b code h)))

-- and a word
word_stands : (a b c d : ℕ) (code : List ℕ) → AreBytes (a ∷ b ∷ c ∷ d ∷ code)
    → is_long (first_half (a ∷ b ∷ c ∷ d ∷ code)) ≡ true
    → IsLineOf (first_text (a ∷ b ∷ c ∷ d ∷ code)) (take (first_size (a ∷ b ∷ c ∷ d ∷ code)) (a ∷ b ∷ c ∷ d ∷ code))
unfolding first_text first_size
word_stands a b c d code h asks =
    let all : List ℕ = a ∷ b ∷ c ∷ d ∷ code in
    let n : ℕ = first_word all in
    let long : nat_lt (length (a ∷ b ∷ c ∷ d ∷ code)) 2 ≡ false = grind (arith, nat_tests) in
    let less : nat_lt (length (a ∷ b ∷ c ∷ d ∷ code)) 4 ≡ false = grind (arith, nat_tests) in
    let some : nat_le 4 (length (a ∷ b ∷ c ∷ d ∷ code)) ≡ true = grind (arith, nat_tests) in
    let one : a < 256 = h 0 in
    let two : b < 256 = h 1 in
    let three : c < 256 = h 2 in
    let four : d < 256 = h 3 in
    let small : n < 2 ^ 32 = omega (arith, one, two, three, four) in
    let low : n % 4 ≡ first_half all % 4 = omega arith in
    let wide : is_long n ≡ true = rw low asks in
    let bytes : to_le_bytes w32 n ≡ a ∷ b ∷ c ∷ d ∷ [] =
    le_bytes_4 (a ∷ b ∷ c ∷ d ∷ []) n refl (four_bytes a b c d code h) refl in
    let whole : word_bytes n ≡ a ∷ b ∷ c ∷ d ∷ [] = rw wide bytes in
    rw (long, asks, less, some) (subst (IsLineOf _) whole (dis_stands n small (λ s. cc)))

-- the line of the first instruction of some code stands for its bytes
first_stands : (code : List ℕ) → AreBytes code → 0 < length code → IsLineOf (first_text code)
    (take (first_size code) code)
first_stands [] h some = absurd (omega (arith, some))
first_stands (a ∷ []) h some = last_stands a h
first_stands (a ∷ b ∷ []) h some = elim (cases_Bool (is_long (first_half (a ∷ b ∷ [])))) [
  | inl f ↦ cut_stands a b [] h f (omega arith)
  | inr f ↦ short_stands a b [] h f
]
first_stands (a ∷ b ∷ c ∷ []) h some = elim (cases_Bool (is_long (first_half (a ∷ b ∷ c ∷ [])))) [
  | inl f ↦ cut_stands a b (c ∷ []) h f (omega arith)
  | inr f ↦ short_stands a b (c ∷ []) h f
]
first_stands (a ∷ b ∷ c ∷ d ∷ code) h some = elim (cases_Bool (is_long (first_half (a ∷ b ∷ c ∷ d ∷ code)))) [
  | inl f ↦ word_stands a b c d code h f
  | inr f ↦ short_stands a b (c ∷ d ∷ code) h f
]

-- the lines after some bytes stand for what is left
stands : (skipped : ℕ) (code : List ℕ) → AreBytes code → AreLinesOf (lines_after skipped code) (drop skipped code)
unfolding lines_after
stands zero [] h = no_lines
stands (suc n) [] h = no_lines
stands (suc n) (x ∷ code) h = stands n code (after_first x code h)
stands zero (x ∷ code) h =
    let text : List ℕ = first_text (x ∷ code) in
    let n : ℕ = first_size (x ∷ code) in
    let rest : List ℕ = lines_after (n - 1) code in
    let left : take n (x ∷ code) ++ drop (n - 1) code ≡ x ∷ code =
    ap (λ (ys : List ℕ). take n (x ∷ code) ++ ys) (sym (drop_first n x code (some_size (x ∷ code))))
    ∙ take-append-drop n (x ∷ code) in
    subst (λ (written : List ℕ). AreLinesOf written (x ∷ code)) (sym (append_assoc text (codes "\n") rest))
    (subst (AreLinesOf (text ++ 10 ∷ rest)) left
    (with_line text (take n (x ∷ code)) rest (drop (n - 1) code) (first_stands (x ∷ code) h (omega arith))
    (stands (n - 1) code (after_first x code h))))

-- the text of the image of code
listing_is : (code : List ℕ) (ram : Ram)
    → listing_of (image_of_code code ram) ≡ (codes "# 0x" ++ hex_digits 8 code_address) ++ 10 ∷ lines_of code
unfolding listing_of
listing_is code ram =
    append-nil (((codes "# 0x" ++ hex_digits 8 code_address) ++ codes "\n") ++ lines_of code)
    ∙ append_assoc (codes "# 0x" ++ hex_digits 8 code_address) (codes "\n") (lines_of code)

-- the law
pub lists_its_file : ListsItsFile
lists_its_file code ram h few =
    let image : listing_of (image_of (wrapped code) ram) ≡ (codes "# 0x" ++ hex_digits 8 code_address) ++ 10 ∷ lines_of
    code =
    ap listing_of (image_of-wrapped code ram (omega (arith, few))) ∙ listing_is code ram in
    ap denoted image
    ∙ all_alone _ code (with_line (codes "# 0x" ++ hex_digits 8 code_address) [] (lines_of code) code
    (address_line code_address) (stands 0 code h))
