-- A number that doesn't fit its type is past its range.
use Rattle.std.proofs.Common.{◌≡◌, ℕ, ◌<◌, true, nat_lt, zero, suc, List, [], ◌∷◌, refl, arith}
use Rattle.std.specs.List.{list_all}
use Rattle.ibx_plan.specs.Names.{fields, wires, outputs, width_in}
use Rattle.ibx_plan.proofs.Flips.{both}

-- a table of narrow parts has narrow widths
narrow : (table : List (List ℕ × ℕ)) (part : ℕ) → list_all (λ row. nat_lt row.1 256) table ≡ true
    → width_in table part < 256
narrow [] part h = omega arith
narrow (row ∷ table) zero h =
    let one = (both (nat_lt row.1 256) (list_all (λ row. nat_lt row.1 256) table) h).0 in grind (arith, one)
narrow (row ∷ table) (suc part) h =
    narrow table part (both (nat_lt row.1 256) (list_all (λ row. nat_lt row.1 256) table) h).1

-- the widths of the core's fields, of its wires and of its outputs fit a byte
pub narrow_field : (field : ℕ) → width_in fields field < 256
unfolding fields
narrow_field field = narrow fields field refl

-- the width of each delayed wire fits a byte
pub narrow_wire : (wire : ℕ) → width_in wires wire < 256
unfolding wires
narrow_wire wire = narrow wires wire refl

-- the width of each word that registers and cache rows hand to the core fits a byte
pub narrow_output : (wire : ℕ) → width_in outputs wire < 256
unfolding outputs
narrow_output wire = narrow outputs wire refl
