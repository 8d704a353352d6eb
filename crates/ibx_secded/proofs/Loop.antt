-- The steps of the loop over the columns.
use Rattle.std.proofs.Common.{◌≡◌, ℕ, ◌+◌, ◌*◌, ◌/◌, ◌^◌, ◌<◌, ◌≤◌, arith, sym}
use Rattle.std.specs.Int.Bits.{bit_and, bit_xor, and_le_r}
use Rattle.std.proofs.lemmas.Nat.Bits.{shr_and_one}
use Rattle.ibx_secded.specs.Code.{checks, column}
use Rattle.ibx_secded.proofs.Laws.{checks-none, checks-more, checks-lt}
use Rattle.ibx_secded.proofs.Columns.{length-columns}

-- one pass of the loop: bit i times its column joins the check
pub step : (h i v check col : ℕ) → check ≡ checks h i v → col ≡ column h i → bit_xor check
    (bit_and (v / 2 ^ i) 1 * col) ≡ checks h (i + 1) v
step h i v check col e f = rw (e, f, shr_and_one v i) (sym (checks-more h i v))

-- a bit times a column stays below 256, so that the product never overflows
pub product_fits : (v i col : ℕ) → col < 256 → bit_and (v / 2 ^ i) 1 * col < 256
product_fits v i col lt =
    let one : bit_and (v / 2 ^ i) 1 ≤ 1 = and_le_r (v / 2 ^ i) 1 in
    grind (arith, one)

pub ruleset steps = (checks-none, step, product_fits, checks-lt, length-columns)
