-- A bit written from a number below 2.
use Rattle.std.proofs.Common.{◌≡◌, ℕ, zero, suc, ◌<◌, not, eqb, refl, arith}
use Rattle.ibx_core.specs.Fields.{bit}

-- a number below 2 is the bit that its test gives
pub bit_of_test : (v : ℕ) → v < 2 → bit (not (eqb v 0)) ≡ v
bit_of_test zero h = refl
bit_of_test (suc zero) h = refl
bit_of_test (suc (suc v)) h = absurd (omega arith)
