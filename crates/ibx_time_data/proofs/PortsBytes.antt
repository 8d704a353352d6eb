-- What a portion of a store leaves of its word: as codewords, and as bytes of memory.
use Rattle.std.proofs.Common.{◌≡◌, ◌≢◌, ℕ, ◌+◌, ◌-◌, ◌*◌, ◌/◌, ◌%◌, ◌^◌, ◌<◌, ◌≤◌, Bool, true, false, cond, eqb, refl}
use Rattle.std.proofs.Common.{sym, ap, ◌∙◌, arith}
use Rattle.std.specs.Prelude.{◌&&◌}
use Rattle.std.specs.Int.{bit_at}
use Rattle.std.proofs.lemmas.Nat.{mod_below}
use Rattle.std.proofs.lemmas.Bool.{eqb-true}
use Rattle.ibx_secded.specs.Code.{encode_of, payload_of, rewrite_of}
use Rattle.ibx_secded.proofs.Laws.{encode_of-payload, payload_of-encode, payload_of-rewrite_of, syndrome_of-encode}
use Rattle.ibx_secded.proofs.Laws.{syndrome_of-rewrite_of}
use Rattle.ibx_bus.specs.Memory.{merged, stored_word}
use Rattle.ibx_bits.specs.Bytes.{bits_number, bytes_number, word_byte}
use Rattle.ibx_isa.specs.Portions.{is_held, lane_byte, place_of}
use Rattle.ibx_bits.proofs.Bytes.{same_bytes}
use Rattle.ibx_arch.specs.Memory.{Memory, read_byte, with_bytes}
use Rattle.ibx_elf.specs.Ram.{ram_has}
use Rattle.ibx_memory.specs.Words.{portion_from, portion_to, portion_word}
use Rattle.ibx_memory.proofs.Lanes.{bit_at-bits_number, four, word_byte-bytes_number}
use Rattle.ibx_memory.proofs.Stores.{held_is, lane_is, not_held, offset}

-- ---- the word

-- four bytes are a word, and four set bits all of them
pub low_word : (f : ℕ → ℕ) → ((k : ℕ) → f k < 256) → bytes_number f 4 < 2 ^ 32
unfolding bytes_number
low_word f h = let a = h 0 in let b = h 1 in let c = h 2 in let d = h 3 in omega (arith, a, b, c, d)

-- where the four enables make 15, each byte is enabled
bits_all : (f : ℕ → Bool) → bits_number f 4 ≡ 15 → (k : ℕ) → k < 4 → f k ≡ true
bits_all f e k lt = sym (bit_at-bits_number f k lt) ∙ ap (λ n. eqb (bit_at n k) 1) e
    ∙ four (λ j. eqb (bit_at 15 j) 1 ≡ true) refl refl refl refl k lt

-- byte k of a word with these lanes put in
abbrev pub put_byte : (ℕ → Bool) → (ℕ → ℕ) → (ℕ → ℕ) → ℕ → ℕ
put_byte f lane old k = cond (f k) (lane k) (old k)

-- each byte of it is one
put_low : (f : ℕ → Bool) (lane old : ℕ → ℕ) → ((k : ℕ) → lane k < 256) → ((k : ℕ) → old k < 256) → (k : ℕ)
    → put_byte f lane old k < 256
put_low f lane old a b k = by (f k) (lane k) (old k) (a k) (b k)
  where
    by : (b : Bool) (x y : ℕ) → x < 256 → y < 256 → cond b x y < 256
    by true x y p q = p
    by false x y p q = q

-- byte j by its enable, and the word as the sum of its bytes
lane_at : (f : ℕ → Bool) (lane old : ℕ → ℕ) → ((k : ℕ) → lane k < 256) → ((k : ℕ) → old k < 256) → (j : ℕ) → j < 4
    → word_byte (cond (eqb (bit_at (bits_number f 4) j) 1) (bytes_number lane 4) (bytes_number old 4)) j
    ≡ put_byte f lane old j
lane_at f lane old a b j lt =
    ap (λ v. word_byte (cond v (bytes_number lane 4) (bytes_number old 4)) j) (bit_at-bits_number f j lt)
    ∙ by (f j) (bytes_number lane 4) (bytes_number old 4) (lane j) (old j) (word_byte-bytes_number lane a j lt)
    (word_byte-bytes_number old b j lt)
  where
    by : (b : Bool) (x y p q : ℕ) → word_byte x j ≡ p → word_byte y j ≡ q → word_byte (cond b x y) j ≡ cond b p q
    by true x y p q e k = e
    by false x y p q e k = k

-- a word's bytes add up the same with their places as numbers and as powers of 256
sum_of : (a b c d p q r s : ℕ) → a ≡ p → b ≡ q → c ≡ r → d ≡ s
    → a + 256 * b + 65536 * c + 16777216 * d ≡ 0 + p * 256 ^ 0 + q * 256 ^ 1 + r * 256 ^ 2 + s * 256 ^ 3
sum_of a b c d p q r s e f g h = omega arith

-- so the merged word has these bytes
merged_bytes : (f : ℕ → Bool) (lane old : ℕ → ℕ) → ((k : ℕ) → lane k < 256) → ((k : ℕ) → old k < 256)
    → merged (bits_number f 4) (bytes_number old 4) (bytes_number lane 4) ≡ bytes_number (put_byte f lane old) 4
unfolding merged bytes_number
merged_bytes f lane old a b =
    sum_of _ _ _ _ (put_byte f lane old 0) (put_byte f lane old 1) (put_byte f lane old 2) (put_byte f lane old 3)
    (lane_at f lane old a b 0 (omega arith)) (lane_at f lane old a b 1 (omega arith))
    (lane_at f lane old a b 2 (omega arith)) (lane_at f lane old a b 3 (omega arith))

-- a codeword that is rewritten with a word is that word's
rewrite_is : (old v : ℕ) → old < 2 ^ 32 → v < 2 ^ 32 → rewrite_of 32 7 (encode_of 32 7 old) v ≡ encode_of 32 7 v
rewrite_is old v a b =
    encode_of-payload 32 7 (rewrite_of 32 7 (encode_of 32 7 old) v)
    (syndrome_of-rewrite_of 32 7 (encode_of 32 7 old) v b ∙ syndrome_of-encode 32 7 old a)
    ∙ ap (encode_of 32 7) (payload_of-rewrite_of 32 7 (encode_of 32 7 old) v b)

-- the codeword that a store leaves is that of the bytes
pub stored_is : (f : ℕ → Bool) (lane old : ℕ → ℕ) → ((k : ℕ) → lane k < 256) → ((k : ℕ) → old k < 256)
    → stored_word (bits_number f 4) (encode_of 32 7 (bytes_number old 4)) (encode_of 32 7 (bytes_number lane 4))
    ≡ encode_of 32 7 (bytes_number (put_byte f lane old) 4)
unfolding stored_word
stored_is f lane old a b = by (eqb (bits_number f 4) 15) refl
  where
    by : (t : Bool) → eqb (bits_number f 4) 15 ≡ t
        → cond t (encode_of 32 7 (bytes_number lane 4))
        (rewrite_of 32 7 (encode_of 32 7 (bytes_number old 4))
        (merged (bits_number f 4) (payload_of 32 (encode_of 32 7 (bytes_number old 4)))
        (payload_of 32 (encode_of 32 7 (bytes_number lane 4)))))
        ≡ encode_of 32 7 (bytes_number (put_byte f lane old) 4)
    by true e = ap (encode_of 32 7) (same_bytes lane (put_byte f lane old) 4
        (λ k lt. sym (ap (λ v. cond v (lane k) (old k)) (bits_all f (eqb-true (bits_number f 4) 15 e) k lt))))
    by false e =
        rw (
          payload_of-encode 32 7 (bytes_number old 4) (low_word old b),
          payload_of-encode 32 7 (bytes_number lane 4) (low_word lane a),
          merged_bytes f lane old a b,
        )
        (rewrite_is (bytes_number old 4) (bytes_number (put_byte f lane old) 4) (low_word old b)
        (low_word (put_byte f lane old) (put_low f lane old a b)))

-- a lane holds a byte
pub lane_low : (addr size value : ℕ) (second : Bool) (k : ℕ) → lane_byte addr size value second k < 256
lane_low addr size value second k = by (is_held addr size second k) (value / 256 ^ (place_of second k - addr % 4))
  where
    by : (b : Bool) (v : ℕ) → cond b (v % 256) 0 < 256
    by true v = mod_below v 256 (omega arith)
    by false v = omega arith

-- ---- the bytes

module _ (m : Memory) (addr size value : ℕ) (second : Bool) (small : addr < 2 ^ 32) (most : size ≤ 4) where
  -- memory after the portion
  abbrev pub after : Memory
  after = with_bytes m addr (portion_from addr size second) (portion_to addr size second) value

  -- a byte of the portion's word, which is in RAM
  pub byte_inside : (a : ℕ) → a / 4 ≡ portion_word addr second → ram_has m.ram a ≡ true
      → read_byte after a ≡ cond (is_held addr size second (a % 4)) (lane_byte addr size value second (a % 4))
      (read_byte m a)
  unfolding with_bytes
  byte_inside a here has =
      rw (has, ← held_is addr a size second small most here)
      (by (is_held addr size second (a % 4)) refl)
    where
      by : (b : Bool) → is_held addr size second (a % 4) ≡ b
          → cond b (word_byte value (offset addr a)) (m.byte a)
          ≡ cond b (cond b (word_byte value (place_of second (a % 4) - addr % 4)) 0) (m.byte a)
      by true e = sym (ap (word_byte value) (lane_is addr a size second small here e))
      by false e = refl

  -- a byte of another word
  pub byte_outside : (a : ℕ) → a < 2 ^ 32 → a / 4 ≢ portion_word addr second → read_byte after a ≡ read_byte m a
  unfolding with_bytes
  byte_outside a low other =
      rw (not_held addr a size second small low most other)
      (by (ram_has m.ram a) (word_byte value (offset addr a)) (m.byte a))
    where
      by : (b : Bool) (x y : ℕ) → cond b (cond (b && false) x y) 0 ≡ cond b y 0
      by true x y = refl
      by false x y = refl
