-- A file read in parts.
use Rattle.std.proofs.Common.{[], Option, Some, None}
use Rattle.std.proofs.Common.{refl}
use Rattle.ibx_base.specs.Files.{Begun, HasRead}

-- nothing was read yet
pub none_read : (begun : Option Begun) → HasRead begun [] begun
none_read None = refl
none_read (Some begun) = (begun.left, (refl, refl))
