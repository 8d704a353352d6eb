-- The codeword of 0.
use Rattle.std.proofs.Common.{◌≡◌, refl}
use Rattle.ibx_secded.specs.Code.{encode_of, checks, column, columns, numbers_of_weight, weight}

-- the codeword of 0 is the constant 42 above a payload of 0
pub zero_is : 180388626432 ≡ encode_of 32 7 0
unfolding encode_of checks column columns numbers_of_weight weight
zero_is = refl

pub ruleset zero = zero_is
