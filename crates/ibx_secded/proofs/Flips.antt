-- A word with one bit changed.
use Rattle.std.proofs.Common.{◌≡◌, ℕ, ◌*◌, ◌%◌, ◌^◌, ◌<◌, refl}
use Rattle.std.specs.Int.Bits.{bit_xor, xor_lt}
use Rattle.std.proofs.lemmas.Nat.{one_shl, pow_below}

-- the code's shift is the power of two
pub flip_is : (w bit : ℕ) → bit < 64 → bit_xor w (1 * 2 ^ bit % 18446744073709551616) ≡ bit_xor w (2 ^ bit)
flip_is w bit lt = rw (one_shl bit 64 lt) refl

-- a changed bit keeps a word within its bits
pub flip-lt : (w bit n : ℕ) → w < 2 ^ n → bit < n → bit_xor w (2 ^ bit) < 2 ^ n
flip-lt w bit n fits lt = xor_lt n w (2 ^ bit) fits (pow_below bit n lt)

pub ruleset flips = (flip_is, flip-lt)
