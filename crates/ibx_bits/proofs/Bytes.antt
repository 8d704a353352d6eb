-- The bytes of a number, and of a number that was moved or cut.
use Rattle.std.proofs.Common.{◌≡◌, ℕ, zero, suc, ◌+◌, ◌-◌, ◌*◌, ◌/◌, ◌%◌, ◌^◌, ◌<◌, ◌≤◌, Bool, true, false, cond, ◌&&◌}
use Rattle.std.proofs.Common.{leb, ltb, refl, sym, ap, ◌∙◌, subst, arith, inl, inr, add_comm}
use Rattle.std.proofs.Math.Nat.{one-le-pow, pow-suc, pow-succ', pow-le-pow_right, mod-one, div-eq_of_lt}
use Rattle.std.proofs.Math.Nat.{div-div-eq-div-mul, mul-div_cancel, mul-mod_left}
use Rattle.std.proofs.Math.Arith.{mod-mul}
use Rattle.std.proofs.lemmas.Nat.{pow-add, div-mul-add, mod-mul-add, mod_below, one_shl}
use Rattle.std.proofs.lemmas.Bool.{cases_lt, lt-ltb, le-ltb, le-leb, lt-leb}
use Rattle.ibx_bits.specs.Bytes.{word_byte, bytes_number, bits_number}

-- a byte's place value is at least 1, so that it divides
pub byte_pos : (k : ℕ) → 0 < 256 ^ k
byte_pos k = one-le-pow k 256 (omega arith)

-- the lowest bytes are a number's own
pub mod-bytes : (x n : ℕ) → x % 256 ^ n ≡ bytes_number (word_byte x) n
unfolding bytes_number
mod-bytes x zero = mod-one x
mod-bytes x (suc n) =
    rw (pow-succ' 256 n, mod-mul x {m = 256} {c = 256 ^ n} (omega arith) (byte_pos n), mod-bytes x n)
    (add_comm (x / 256 ^ n % 256 * 256 ^ n) (bytes_number (word_byte x) n))

-- the same bytes make the same number
pub same_bytes : (f g : ℕ → ℕ) (n : ℕ) → ((k : ℕ) → k < n → f k ≡ g k) → bytes_number f n ≡ bytes_number g n
unfolding bytes_number
same_bytes f g zero h = refl
same_bytes f g (suc n) h = rw (same_bytes f g n (λ k lt. h k (omega arith)), h n (omega arith)) refl

-- a byte of the higher part
pub byte-shr : (x o k : ℕ) → word_byte (x / 256 ^ o) k ≡ word_byte x (o + k)
byte-shr x o k = rw (div-div-eq-div-mul x (256 ^ o) (256 ^ k), ← pow-add 256 o k) refl

-- a number that was moved up by o bytes: its bytes stand o places higher, and zeros below them
pub byte-shl_above : (w o k : ℕ) → word_byte (w * 256 ^ o) (o + k) ≡ word_byte w k
byte-shl_above w o k = sym (byte-shr (w * 256 ^ o) o k) ∙ ap (λ (x : ℕ). word_byte x k) (mul-div_cancel w (byte_pos o))

-- and every byte below the place that it was moved to is zero
pub byte-shl_below : (w d p : ℕ) → word_byte (w * 256 ^ (suc d + p)) p ≡ 0
byte-shl_below w d p =
    let split : w * 256 ^ (suc d + p) ≡ w * 256 ^ d * 256 * 256 ^ p =
    rw (pow-add 256 (suc d) p, pow-succ' 256 d) (omega arith) in
    rw (split, mul-div_cancel (w * 256 ^ d * 256) (byte_pos p)) (mul-mod_left (w * 256 ^ d) 256)

-- a number that was cut to its lowest bytes keeps those, and has zeros above
pub byte-cut_inside : (v k d : ℕ) → word_byte (v % 256 ^ (suc d + k)) k ≡ word_byte v k
byte-cut_inside v k d =
    let split : 256 ^ (suc d + k) ≡ 256 ^ suc d * 256 ^ k = pow-add 256 (suc d) k in
    let field : v % 256 ^ (suc d + k) / 256 ^ k ≡ v / 256 ^ k % 256 ^ suc d =
    rw (split, mod-mul v {m = 256 ^ suc d} {c = 256 ^ k} (byte_pos (suc d)) (byte_pos k))
    (div-mul-add (v / 256 ^ k % 256 ^ suc d) (256 ^ k) (v % 256 ^ k) (mod_below v (256 ^ k) (byte_pos k))) in
    rw (field, pow-suc 256 d, mod-mul (v / 256 ^ k) {m = 256 ^ d} {c = 256} (byte_pos d) (omega arith))
    (mod-mul-add (v / 256 ^ k / 256 % 256 ^ d) 256 (v / 256 ^ k % 256) (mod_below (v / 256 ^ k) 256 (omega arith)))

-- from byte s on a number that was cut to s bytes has zeros
pub byte-cut_outside : (v k s : ℕ) → s ≤ k → word_byte (v % 256 ^ s) k ≡ 0
byte-cut_outside v k s le =
    let below : v % 256 ^ s < 256 ^ k =
    omega (arith, mod_below v (256 ^ s) (byte_pos s), pow-le-pow_right {n = 256} (omega arith) le) in
    rw (div-eq_of_lt below) refl

-- a byte of a number that was cut to s bytes and moved up by o
pub placed_byte : (v s o p : ℕ) → word_byte (v % 256 ^ s * 256 ^ o) p
    ≡ cond (leb o p && ltb p (o + s)) (word_byte v (p - o)) 0
placed_byte v s o p =
    elim (cases_lt p o) [
      | inl lt ↦
          let apart : suc (o - p - 1) + p ≡ o = omega arith in
          rw (lt-leb o p lt) (subst (λ (x : ℕ). word_byte (v % 256 ^ s * 256 ^ x) p ≡ 0) apart
          (byte-shl_below (v % 256 ^ s) (o - p - 1) p))
      | inr le ↦
          let above : o + (p - o) ≡ p = omega arith in
          let moved : word_byte (v % 256 ^ s * 256 ^ o) p ≡ word_byte (v % 256 ^ s) (p - o) =
          subst (λ (x : ℕ). word_byte (v % 256 ^ s * 256 ^ o) x ≡ word_byte (v % 256 ^ s) (p - o)) above
          (byte-shl_above (v % 256 ^ s) o (p - o)) in
          rw (le-leb o p le) (moved ∙ elim (cases_lt p (o + s)) [
            | inl within ↦
                let kept : suc (s - (p - o) - 1) + (p - o) ≡ s = omega arith in
                rw (lt-ltb p (o + s) within) (subst (λ (x : ℕ). word_byte (v % 256 ^ x) (p - o) ≡ word_byte v (p - o))
                kept (byte-cut_inside v (p - o) (s - (p - o) - 1)))
            | inr past ↦ rw (le-ltb p (o + s) past) (byte-cut_outside v (p - o) s (omega arith))
          ])
    ]

-- k bytes are 8 * k bits
pub bytes-bits : (k : ℕ) → 256 ^ k ≡ 2 ^ (8 * k)
bytes-bits zero = refl
bytes-bits (suc k) =
    let more : 8 * k + 8 ≡ 8 * suc k = omega arith in
    rw (pow-suc 256 k, bytes-bits k) (sym (pow-add 2 (8 * k) 8) ∙ ap (λ (x : ℕ). 2 ^ x) more)

-- a fact of 0 to 3, case by case
pub four : (P : ℕ → Type 0) → P 0 → P 1 → P 2 → P 3 → (n : ℕ) → n < 4 → P n
four P a b c d zero h = a
four P a b c d (suc zero) h = b
four P a b c d (suc (suc zero)) h = c
four P a b c d (suc (suc (suc zero))) h = d
four P a b c d (suc (suc (suc (suc n)))) h = absurd (omega arith)

-- the mask of the s lowest bytes, as it is computed in 64 bits, cuts to s bytes
pub low_bytes_are : (v s : ℕ) → s ≤ 4 → v % (1 * 2 ^ (8 * s) % 18446744073709551616) ≡ v % 256 ^ s
low_bytes_are v s le = rw (one_shl (8 * s) 64 (omega arith), bytes-bits s) refl

-- a fact of 0 to 4, case by case
pub five : (P : ℕ → Type 0) → P 0 → P 1 → P 2 → P 3 → P 4 → (n : ℕ) → n ≤ 4 → P n
five P a b c d e zero h = a
five P a b c d e (suc n) h = four (λ x. P (suc x)) b c d e n (omega arith)

-- n bits make a number below 2 ^ n
pub bits_number-lt : (f : ℕ → Bool) (n : ℕ) → bits_number f n < 2 ^ n
unfolding bits_number
bits_number-lt f zero = omega arith
bits_number-lt f (suc n) =
    let below = bits_number-lt f n in
    let double : 2 ^ suc n ≡ 2 ^ n * 2 = pow-suc 2 n in
    elim (f n) as (λ b. bits_number f n + cond b (2 ^ n) 0 < 2 ^ suc n)
    [ true ↦ omega (arith, below, double) | false ↦ omega (arith, below, double) ]

-- a number of four bytes has them
pub four_bytes : (f : ℕ → ℕ) (a b c d w : ℕ) → a ≡ f 0 → b ≡ f 1 → c ≡ f 2 → d ≡ f 3 → a < 256 → b < 256 → c < 256
    → d < 256 → w ≡ a + b * 256 + c * 65536 + d * 16777216 → (k : ℕ) → k < 4 → w / 256 ^ k % 256 ≡ f k
four_bytes f a b c d w ea eb ec ed ha hb hc hd e =
    four (λ k. w / 256 ^ k % 256 ≡ f k) (omega arith) (omega arith) (omega arith) (omega arith)

-- a byte by a shift of bits
pub byte_by_shift : (w k : ℕ) → w / 2 ^ (8 * k) % 256 ≡ word_byte w k
byte_by_shift w k = rw (← bytes-bits k) refl
