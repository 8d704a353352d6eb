-- A part of a number, moved within 32 bits.
use Rattle.std.proofs.Common.{◌≡◌, ℕ, ◌+◌, ◌*◌, ◌%◌, ◌^◌, ◌<◌, ◌≤◌, arith, lit<}
use Rattle.std.proofs.Math.Nat.{pow-le-pow_right, mod-eq_of_lt, mul-le-mul, mod-lt}
use Rattle.std.proofs.lemmas.Nat.{pow-add, pow_pos}

-- a power that 64 bits hold
small_power : (c : ℕ) → c ≤ 32 → 1 * 2 ^ c % 2 ^ 64 ≡ 2 ^ c
small_power c h =
    let below : 2 ^ c ≤ 2 ^ 32 = pow-le-pow_right {n = 2} (lit< tt) h in
    let one : 1 * 2 ^ c ≡ 2 ^ c = omega arith in
    rw one (mod-eq_of_lt (omega (arith, below)))

-- the moved part is below 2 ^ 32
pub part_below : (x c t : ℕ) → c + t ≤ 32 → x % 2 ^ c * 2 ^ t < 2 ^ 32
part_below x c t h =
    let whole : 2 ^ c * 2 ^ t ≤ 2 ^ 32 = rw (← pow-add 2 c t) (pow-le-pow_right {n = 2} (lit< tt) h) in
    let less : x % 2 ^ c < 2 ^ c = mod-lt x (pow_pos c) in
    let product : (x % 2 ^ c + 1) * 2 ^ t ≤ 2 ^ c * 2 ^ t = mul-le-mul (omega (arith, less)) (omega arith) in
    omega (arith, product, whole, pow_pos t)

-- so neither the shift nor the mask loses a bit
pub part_is : (x c t : ℕ) → c + t ≤ 32 → x % (1 * 2 ^ c % 2 ^ 64) * 2 ^ t % 2 ^ 64 ≡ x % 2 ^ c * 2 ^ t
part_is x c t h = rw (small_power c (omega (arith, h))) (mod-eq_of_lt (omega (arith, part_below x c t h)))
