-- The significant bits of a word are the least number of bits that it fits in.
use Rattle.std.proofs.Common.{◌≡◌, ℕ, ◌^◌, ◌<◌, sym, subst, arith}
use Rattle.std.proofs.lemmas.Nat.{leading_length}
use Rattle.ibx_isa.specs.Cost.{IsWidth, significant_bits}

-- the width that is computed from the leading zeros is the one that the definition asks for
pub width_of_word : (b : ℕ) → b < 2 ^ 32 → IsWidth b (significant_bits b)
width_of_word b h =
    let p = leading_length 32 b h in
    let same : significant_bits b ≡ p.0 = omega arith in
    subst (λ (n : ℕ). IsWidth b n) (sym same) (record { enough = p.2; least = p.3 })
