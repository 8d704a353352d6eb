-- What tells two time views apart. Our own rule.
use Rattle.std.specs.Prelude.{◌≡◌, ℕ, Bool, true, false, not, ◌&&◌, ◌==◌, Option, Some, None}
use Rattle.ibx_views.specs.declared.time_view.Portions.{Portions}
use Rattle.ibx_views.specs.declared.time_view.Portions.TheVariants.{Nothing, Single, SingleError, Double, DoubleError}
use Rattle.ibx_views.specs.declared.time_view.Change.{Change}
use Rattle.ibx_views.specs.declared.time_view.Change.TheVariants.{Unchanged, Trapped, Interrupted, Returned, Wrote}
use Rattle.ibx_views.specs.declared.time_view.TimeView.{TimeView}
use Rattle.ibx_views.specs.declared.time_view.Part.{Part}
use Rattle.ibx_views.specs.declared.time_view.Part.TheVariants.{Path, Length, Cost, Access, Control}

-- how an event came about: an instruction retired, an instruction trapped, or an interrupt was taken
pub data Way : Type 0 where
  Retirement : Way
  Trapping : Way
  Interruption : Way

-- the way of an event, by its change
abbrev pub way_of : Change → Way
way_of Unchanged = Retirement
way_of Trapped = Trapping
way_of Interrupted = Interruption
way_of Returned = Retirement
way_of (Wrote addr value) = Retirement

-- ---- the parts

-- the program counter, and the way
abbrev pub path_in : TimeView → ℕ × Way
path_in v = (v.pc, way_of v.change)

-- how many parcels it takes
abbrev pub length_in : TimeView → ℕ
length_in v = v.item.parcels

-- its cycles without a portion, whether it waits for a line, whether it redirects, and whether it is a FENCE.I
abbrev pub cost_in : TimeView → ℕ × Bool × Bool × Bool
cost_in v = (v.item.cost, v.item.sleeps, v.item.redirects, v.item.fences)

-- its portions on the bus
abbrev pub access_in : TimeView → Portions
access_in v = v.item.portions

-- what it does to the registers
abbrev pub control_in : TimeView → Change
control_in v = v.change

-- ---- their tests

-- whether two truth values are the same
abbrev pub same_bool : Bool → Bool → Bool
same_bool true b = b
same_bool false b = not b

-- ways as numbers
abbrev pub way_number : Way → ℕ
way_number Retirement = 0
way_number Trapping = 1
way_number Interruption = 2

-- kinds of portions as numbers
abbrev pub portions_number : Portions → ℕ
portions_number Nothing = 0
portions_number Single = 1
portions_number SingleError = 2
portions_number Double = 3
portions_number DoubleError = 4

-- whether two changes are the same
abbrev pub same_change : Change → Change → Bool
same_change Unchanged Unchanged = true
same_change Trapped Trapped = true
same_change Interrupted Interrupted = true
same_change Returned Returned = true
same_change (Wrote addr value) (Wrote addr2 value2) = addr == addr2 && value == value2
same_change x y = false

-- two time views have the same path
abbrev pub same_path : TimeView → TimeView → Bool
same_path v w = v.pc == w.pc && way_number (way_of v.change) == way_number (way_of w.change)

-- the same length
abbrev pub same_length : TimeView → TimeView → Bool
same_length v w = v.item.parcels == w.item.parcels

-- the same cost
abbrev pub same_cost : TimeView → TimeView → Bool
same_cost v w =
    v.item.cost == w.item.cost
    && (same_bool v.item.sleeps w.item.sleeps
    && (same_bool v.item.redirects w.item.redirects && same_bool v.item.fences w.item.fences))

-- the same portions
abbrev pub same_access : TimeView → TimeView → Bool
same_access v w = portions_number v.item.portions == portions_number w.item.portions

-- the same change
abbrev pub same_control : TimeView → TimeView → Bool
same_control v w = same_change v.change w.change

-- the first part that tells two time views apart, if there is one, by the tests of the parts
abbrev pub part_by : Bool → Bool → Bool → Bool → Bool → Option Part
part_by false length cost access control = Some Path
part_by true false cost access control = Some Length
part_by true true false access control = Some Cost
part_by true true true false control = Some Access
part_by true true true true false = Some Control
part_by true true true true true = None

-- the part that tells two time views apart, if there is one
unfoldable pub part_of : TimeView → TimeView → Option Part
part_of v w = part_by (same_path v w) (same_length v w) (same_cost v w) (same_access v w) (same_control v w)

-- what an answer says of two time views: they are the same, or they differ in this part, and not in those before it
abbrev pub Tells : TimeView → TimeView → Option Part → Type 0
Tells v w None = v ≡ w
Tells v w (Some Path) = ¬ (path_in v ≡ path_in w)
Tells v w (Some Length) = path_in v ≡ path_in w × ¬ (length_in v ≡ length_in w)
Tells v w (Some Cost) = path_in v ≡ path_in w × length_in v ≡ length_in w × ¬ (cost_in v ≡ cost_in w)
Tells v w (Some Access) =
    path_in v ≡ path_in w × length_in v ≡ length_in w × cost_in v ≡ cost_in w × ¬ (access_in v ≡ access_in w)
Tells v w (Some Control) =
    path_in v ≡ path_in w
    × length_in v ≡ length_in w
    × cost_in v ≡ cost_in w
    × access_in v ≡ access_in w
    × ¬ (control_in v ≡ control_in w)
