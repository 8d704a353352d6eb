-- The low bits of a word of 32 bits.
use Rattle.std.proofs.Common.{◌≡◌, ℕ, ◌-◌, ◌*◌, ◌%◌, ◌^◌, ◌<◌}
use Rattle.std.proofs.lemmas.Nat.{and_mask, one_shl}
use Rattle.std.specs.Int.Bits.{bit_and}

-- a mask of the k lowest bits, as it is computed in 32 bits, leaves the rest of a division
pub low_bits : (w k : ℕ) → k < 32 → bit_and w (1 * 2 ^ k % 4294967296 - 1) ≡ w % 2 ^ k
low_bits w k h = rw (one_shl k 32 h) (and_mask w k)
