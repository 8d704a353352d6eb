-- The widths of the fields are those of the plan's table.
use Rattle.std.proofs.Common.{◌≡◌, ℕ, refl}
use Rattle.ibx_plan.specs.Names.{fields, width_in}
use Rattle.ibx_core.specs.Fields.{width_of}

-- the width of a field by its number
pub width_is : (field : ℕ) → width_in fields field ≡ width_of field
unfolding fields
width_is field = refl
