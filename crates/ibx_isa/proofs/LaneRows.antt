-- The lanes of an access in a row of two words.
use Rattle.std.proofs.Common.{◌≡◌, ℕ, ◌+◌, ◌-◌, ◌*◌, ◌/◌, ◌%◌, ◌^◌, ◌<◌, ◌≤◌, Bool, true, false, ◌&&◌, leb, ltb, refl}
use Rattle.std.proofs.Common.{sym, ◌∙◌, subst, arith, inl, inr, add_comm}
use Rattle.std.proofs.lemmas.Nat.{div-mul-add, shl_whole}
use Rattle.std.proofs.lemmas.Bool.{cases_lt, lt-ltb, le-ltb}
use Rattle.std.specs.Prelude.{count_ones, min}
use Rattle.std.specs.Int.Count.{ones}
use Rattle.ibx_bits.specs.Bytes.{word_byte, bytes_number, bits_number}
use Rattle.ibx_bits.proofs.Bytes.{mod-bytes, same_bytes, byte-shr, placed_byte, bytes-bits, four, five}
use Rattle.ibx_isa.specs.Portions.{place_of, is_held, lane_byte, pair_byte, portion_size}

-- the bytes of an access in a row of two words
pub row_is : (v s a w : ℕ) → w ≡ v % 256 ^ s → w < 2 ^ 32
    → w * 2 ^ (8 * (a % 4)) % 18446744073709551616 ≡ v % 256 ^ s * 256 ^ (a % 4)
row_is v s a w e lt = shl_whole w 32 (8 * (a % 4)) 64 lt (omega arith) ∙ rw (e, bytes-bits (a % 4)) refl

-- the lower and the upper word of the row are the lanes of the first and of the second portion
first_lanes : (v s a : ℕ) → v % 256 ^ s * 256 ^ (a % 4) % 4294967296 ≡ bytes_number (lane_byte a s v false) 4
first_lanes v s a = mod-bytes (v % 256 ^ s * 256 ^ (a % 4)) 4 ∙ same_bytes _ _ 4 (λ k _. placed_byte v s (a % 4) k)

-- an access that crosses a word leaves its last bytes in the upper word, from lane 0 on
second_lanes : (v s a : ℕ) → v % 256 ^ s * 256 ^ (a % 4) / 4294967296 % 4294967296
    ≡ bytes_number (lane_byte a s v true) 4
second_lanes v s a =
    mod-bytes (v % 256 ^ s * 256 ^ (a % 4) / 4294967296) 4
    ∙ same_bytes _ _ 4 (λ k _. byte-shr (v % 256 ^ s * 256 ^ (a % 4)) 4 k
    ∙ rw (add_comm 4 k) (placed_byte v s (a % 4) (k + 4)))

-- the same two, of the row as it is computed in 64 bits
pub lanes_first : (v s a w : ℕ) → w ≡ v % 256 ^ s → w < 2 ^ 32
    → w * 2 ^ (8 * (a % 4)) % 18446744073709551616 % 4294967296 ≡ bytes_number (lane_byte a s v false) 4
lanes_first v s a w e lt = rw (row_is v s a w e lt) (first_lanes v s a)

-- the upper word of the computed row needs no cut: nothing stands above 64 bits
pub lanes_second : (v s a w : ℕ) → w ≡ v % 256 ^ s → w < 2 ^ 32
    → w * 2 ^ (8 * (a % 4)) % 18446744073709551616 / 4294967296 ≡ bytes_number (lane_byte a s v true) 4
lanes_second v s a w e lt =
    let row = w * 2 ^ (8 * (a % 4)) in
    let word : row % 18446744073709551616 / 4294967296 ≡ row % 18446744073709551616 / 4294967296 % 4294967296 =
    omega arith in
    word ∙ rw (row_is v s a w e lt) (second_lanes v s a)

-- a byte of two words that follow each other
word_byte-pair : (first second k : ℕ) → first < 2 ^ 32
    → word_byte (second * 4294967296 + first) k ≡ pair_byte first second k
word_byte-pair first second k small =
    elim (cases_lt k 4) [
      | inl lt ↦
          rw (lt-ltb k 4 lt)
          (four (λ n. word_byte (second * 4294967296 + first) n ≡ word_byte first n) (omega arith) (omega arith)
          (omega arith) (omega arith) k lt)
      | inr le ↦
          let above : 4 + (k - 4) ≡ k = omega arith in
          let high : (second * 4294967296 + first) / 4294967296 ≡ second = div-mul-add second 4294967296 first small in
          rw (le-ltb k 4 le)
          (subst (λ (x : ℕ). word_byte (second * 4294967296 + first) x ≡ word_byte second (k - 4)) above
          (sym (byte-shr (second * 4294967296 + first) 4 (k - 4)) ∙ rw high refl))
    ]

-- the bytes of a load that are picked from a row are those of its pair of words
pub gathered : (first second a s : ℕ) → first < 2 ^ 32
    → (second * 4294967296 + first) / 2 ^ (8 * (a % 4)) % 256 ^ s
    ≡ bytes_number (λ k. pair_byte first second (a % 4 + k)) s
gathered first second a s small =
    rw (← bytes-bits (a % 4)) (mod-bytes ((second * 4294967296 + first) / 256 ^ (a % 4)) s
    ∙ same_bytes _ _ s (λ k _. byte-shr (second * 4294967296 + first) (a % 4) k
    ∙ word_byte-pair first second (a % 4 + k) small))

-- the enables in a row of two words, by their places
row_of : ℕ → ℕ → ℕ
row_of o s = (1 * 2 ^ s % 4294967296 - 1) * 2 ^ o % 4294967296

-- a lane holds a byte of an access of s bytes that begins at lane o
held_at : ℕ → ℕ → Bool → ℕ → Bool
held_at o s second lane = leb o (place_of second lane) && ltb (place_of second lane) (o + s)

-- the lower and the upper four enables of the row are those of the first and of the second portion
pub enables_first : (a s : ℕ) → s ≤ 4
    → (1 * 2 ^ s % 4294967296 - 1) * 2 ^ (a % 4) % 4294967296 % 16 ≡ bits_number (is_held a s false) 4
unfolding bits_number row_of held_at
enables_first a s le =
    four (λ o. (x : ℕ) → x ≤ 4 → row_of o x % 16 ≡ bits_number (held_at o x false) 4)
    (five (λ x. row_of 0 x % 16 ≡ bits_number (held_at 0 x false) 4) refl refl refl refl refl)
    (five (λ x. row_of 1 x % 16 ≡ bits_number (held_at 1 x false) 4) refl refl refl refl refl)
    (five (λ x. row_of 2 x % 16 ≡ bits_number (held_at 2 x false) 4) refl refl refl refl refl)
    (five (λ x. row_of 3 x % 16 ≡ bits_number (held_at 3 x false) 4) refl refl refl refl refl)
    (a % 4) (omega arith) s le

-- what the row has above its lowest four enables goes to the second portion
pub enables_second : (a s : ℕ) → s ≤ 4
    → (1 * 2 ^ s % 4294967296 - 1) * 2 ^ (a % 4) % 4294967296 / 16 ≡ bits_number (is_held a s true) 4
unfolding bits_number row_of held_at
enables_second a s le =
    four (λ o. (x : ℕ) → x ≤ 4 → row_of o x / 16 ≡ bits_number (held_at o x true) 4)
    (five (λ x. row_of 0 x / 16 ≡ bits_number (held_at 0 x true) 4) refl refl refl refl refl)
    (five (λ x. row_of 1 x / 16 ≡ bits_number (held_at 1 x true) 4) refl refl refl refl refl)
    (five (λ x. row_of 2 x / 16 ≡ bits_number (held_at 2 x true) 4) refl refl refl refl refl)
    (five (λ x. row_of 3 x / 16 ≡ bits_number (held_at 3 x true) 4) refl refl refl refl refl)
    (a % 4) (omega arith) s le

-- how many of s bytes that begin at lane o are in the first word, and in the second
size_at : ℕ → ℕ → Bool → ℕ
size_at o s false = min s (4 - o)
size_at o s true = s - (4 - o)

-- the enables of a portion are as many as its bytes: by the lane at which the access begins, and by its address
ones_at : (second : Bool) (o s : ℕ) → o < 4 → s ≤ 4
    → count_ones (bits_number (held_at o s second) 4) ≡ size_at o s second
unfolding bits_number held_at size_at ones
ones_at second o s lt le =
    elim second as (λ b. count_ones (bits_number (held_at o s b) 4) ≡ size_at o s b) [
      | false ↦
          four (λ x. (y : ℕ) → y ≤ 4 → count_ones (bits_number (held_at x y false) 4) ≡ size_at x y false)
          (five (λ y. count_ones (bits_number (held_at 0 y false) 4) ≡ size_at 0 y false) refl refl refl refl refl)
          (five (λ y. count_ones (bits_number (held_at 1 y false) 4) ≡ size_at 1 y false) refl refl refl refl refl)
          (five (λ y. count_ones (bits_number (held_at 2 y false) 4) ≡ size_at 2 y false) refl refl refl refl refl)
          (five (λ y. count_ones (bits_number (held_at 3 y false) 4) ≡ size_at 3 y false) refl refl refl refl refl)
          o lt s le
      | true ↦
          four (λ x. (y : ℕ) → y ≤ 4 → count_ones (bits_number (held_at x y true) 4) ≡ size_at x y true)
          (five (λ y. count_ones (bits_number (held_at 0 y true) 4) ≡ size_at 0 y true) refl refl refl refl refl)
          (five (λ y. count_ones (bits_number (held_at 1 y true) 4) ≡ size_at 1 y true) refl refl refl refl refl)
          (five (λ y. count_ones (bits_number (held_at 2 y true) 4) ≡ size_at 2 y true) refl refl refl refl refl)
          (five (λ y. count_ones (bits_number (held_at 3 y true) 4) ≡ size_at 3 y true) refl refl refl refl refl)
          o lt s le
    ]

-- a portion drives one enable for each byte of the access that it carries
pub as_many : (a s : ℕ) (second : Bool) → s ≤ 4
    → count_ones (bits_number (is_held a s second) 4) ≡ portion_size a s second
unfolding held_at size_at
as_many a s true le = ones_at true (a % 4) s (omega arith) le
as_many a s false le = ones_at false (a % 4) s (omega arith) le
