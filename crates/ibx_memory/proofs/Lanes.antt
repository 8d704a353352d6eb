-- Bytes and bits of a word that was put together.
use Rattle.std.proofs.Common.{◌≡◌, ℕ, zero, suc, ◌+◌, ◌-◌, ◌*◌, ◌%◌, ◌^◌, ◌<◌, Bool, true, false, cond, eqb, refl, ap}
use Rattle.std.proofs.Common.{◌∙◌, arith}
use Rattle.std.specs.Int.{bit_at}
use Rattle.ibx_bits.specs.Bytes.{word_byte, bytes_number, bits_number}
use Rattle.ibx_isa.specs.Portions.{lanes_of, is_held, lane_byte, place_of}
use Rattle.ibx_memory.specs.Words.{merged_byte}

-- a fact of 0 to 3, case by case
pub four : (P : ℕ → Type 0) → P 0 → P 1 → P 2 → P 3 → (n : ℕ) → n < 4 → P n
four P a b c d zero h = a
four P a b c d (suc zero) h = b
four P a b c d (suc (suc zero)) h = c
four P a b c d (suc (suc (suc zero))) h = d
four P a b c d (suc (suc (suc (suc n)))) h = absurd (omega arith)

-- each of four bytes that make a number is its byte
pub word_byte-bytes_number : (f : ℕ → ℕ) → ((k : ℕ) → f k < 256) → (j : ℕ) → j < 4
    → word_byte (bytes_number f 4) j ≡ f j
unfolding bytes_number
word_byte-bytes_number f small =
    let a = small 0 in
    let b = small 1 in
    let c = small 2 in
    let d = small 3 in
    four (λ j. word_byte (bytes_number f 4) j ≡ f j) (omega (arith, a, b, c, d)) (omega (arith, a, b, c, d))
    (omega (arith, a, b, c, d)) (omega (arith, a, b, c, d))

-- four bits as a number
abbrev number4 : Bool → Bool → Bool → Bool → ℕ
number4 a b c d = 0 + cond a (2 ^ 0) 0 + cond b (2 ^ 1) 0 + cond c (2 ^ 2) 0 + cond d (2 ^ 3) 0

-- such a number has these bits, and no others
record Bits4 (n : ℕ) (a b c d : Bool) : Type 0 where
  bit0 : eqb (bit_at n 0) 1 ≡ a
  bit1 : eqb (bit_at n 1) 1 ≡ b
  bit2 : eqb (bit_at n 2) 1 ≡ c
  bit3 : eqb (bit_at n 3) 1 ≡ d

-- four bits make it
bits4 : (a b c d : Bool) → Bits4 (number4 a b c d) a b c d
bits4 false false false false = record { bit0 = refl; bit1 = refl; bit2 = refl; bit3 = refl }
bits4 true false false false = record { bit0 = refl; bit1 = refl; bit2 = refl; bit3 = refl }
bits4 false true false false = record { bit0 = refl; bit1 = refl; bit2 = refl; bit3 = refl }
bits4 true true false false = record { bit0 = refl; bit1 = refl; bit2 = refl; bit3 = refl }
bits4 false false true false = record { bit0 = refl; bit1 = refl; bit2 = refl; bit3 = refl }
bits4 true false true false = record { bit0 = refl; bit1 = refl; bit2 = refl; bit3 = refl }
bits4 false true true false = record { bit0 = refl; bit1 = refl; bit2 = refl; bit3 = refl }
bits4 true true true false = record { bit0 = refl; bit1 = refl; bit2 = refl; bit3 = refl }
bits4 false false false true = record { bit0 = refl; bit1 = refl; bit2 = refl; bit3 = refl }
bits4 true false false true = record { bit0 = refl; bit1 = refl; bit2 = refl; bit3 = refl }
bits4 false true false true = record { bit0 = refl; bit1 = refl; bit2 = refl; bit3 = refl }
bits4 true true false true = record { bit0 = refl; bit1 = refl; bit2 = refl; bit3 = refl }
bits4 false false true true = record { bit0 = refl; bit1 = refl; bit2 = refl; bit3 = refl }
bits4 true false true true = record { bit0 = refl; bit1 = refl; bit2 = refl; bit3 = refl }
bits4 false true true true = record { bit0 = refl; bit1 = refl; bit2 = refl; bit3 = refl }
bits4 true true true true = record { bit0 = refl; bit1 = refl; bit2 = refl; bit3 = refl }

-- each of four bits that make a number is its bit
pub bit_at-bits_number : (f : ℕ → Bool) → (j : ℕ) → j < 4 → eqb (bit_at (bits_number f 4) j) 1 ≡ f j
unfolding bits_number
bit_at-bits_number f =
    let bits = bits4 (f 0) (f 1) (f 2) (f 3) in
    four (λ j. eqb (bit_at (bits_number f 4) j) 1 ≡ f j) bits.bit0 bits.bit1 bits.bit2 bits.bit3

-- four bytes make a word that has them
pub four_bytes : (f : ℕ → ℕ) (a b c d w : ℕ) → a ≡ f 0 → b ≡ f 1 → c ≡ f 2 → d ≡ f 3 → a < 256 → b < 256 → c < 256
    → d < 256 → w ≡ a + b * 256 + c * 65536 + d * 16777216 → (j : ℕ) → j < 4 → word_byte w j ≡ f j
four_bytes f a b c d w ea eb ec ed ha hb hc hd e =
    four (λ j. word_byte w j ≡ f j) (omega arith) (omega arith) (omega arith) (omega arith)

-- a byte, or 0 where it isn't held, is below 256
held_small : (b : Bool) (n : ℕ) → n < 256 → cond b n 0 < 256
held_small true n h = h
held_small false n h = omega arith

-- a word with the lanes of a portion put in
pub merged_is : (addr size value old word : ℕ) (second : Bool) (lanes : ℕ × ℕ)
    → lanes ≡ lanes_of addr size value second
    → ((j : ℕ) → j < 4 → word_byte word j ≡ merged_byte old lanes.0 lanes.1 j) → (j : ℕ) → j < 4
    → word_byte word j ≡ cond (is_held addr size second j) (lane_byte addr size value second j) (word_byte old j)
unfolding lanes_of
merged_is addr size value old word second lanes e h j lt =
    h j lt ∙ ap (λ (l : ℕ × ℕ). merged_byte old l.0 l.1 j) e
    ∙ rw (
      bit_at-bits_number (is_held addr size second) j lt,
      word_byte-bytes_number (lane_byte addr size value second)
          (λ k. held_small (is_held addr size second k) (word_byte value (place_of second k - addr % 4)) (omega arith))
          j
          lt,
    ) refl
