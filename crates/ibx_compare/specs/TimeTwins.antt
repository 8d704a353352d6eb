-- How the stories of two systems compare by what their time can depend on. Our own rule.
use Rattle.std.specs.Prelude.{◌≡◌, ℕ, Option, Some, None, List, map, take}
use Rattle.std.specs.List.{slice_get}
use Rattle.ibx_isa.specs.declared.event.Event.{Event}
use Rattle.ibx_isa.specs.declared.event.View.{View}
use Rattle.ibx_isa.specs.Views.{view_of}
use Rattle.ibx_core.specs.declared.state.State.{State}
use Rattle.ibx_plan.specs.Plan.{PlanValue}
use Rattle.ibx_system.specs.System.{Whole}
use Rattle.ibx_time.specs.Settings.{Settings, Setup, settings_of}
use Rattle.ibx_time.specs.Controls.{Ctl, ctl_after, ctl_reset}
use Rattle.ibx_time.specs.Cycles.{cycle_of}
use Rattle.ibx_time.specs.History.{story}
use Rattle.ibx_views.specs.declared.time_view.Part.{Part}
use Rattle.ibx_views.specs.declared.time_view.TimeView.{TimeView}
use Rattle.ibx_views.specs.TimeViews.{time_view, time_views}
use Rattle.ibx_views.specs.Parts.{part_of}
use Rattle.ibx_views.specs.Compared.{Answer, first_apart}
use Rattle.ibx_views.specs.Compared as answer
use Rattle.ibx_compare.specs.declared.comparison.Twin.{Twin}
use Rattle.ibx_compare.specs.declared.comparison.Twin.TheVariants.{Same, Differ}
use Rattle.ibx_compare.specs.declared.time_twins.TwinBy.{TwinBy}
use Rattle.ibx_compare.specs.declared.time_twins.Views.{Views}
use Rattle.ibx_compare.specs.declared.time_twins.Views.TheVariants.{Full, Time}
use Rattle.ibx_compare.specs.Drives.{drive_from}
use Rattle.ibx_compare.specs.Twins.{twin_of, views_of}

-- the same, with so many views
abbrev pub same_at : ℕ → TwinBy
same_at at = record { twin = Same at; part = None }

-- a difference at an index, with both views or none where a story has ended, and the part
abbrev pub differ_at : ℕ → Option View → Option View → Option Part → TwinBy
differ_at at x y part = record { twin = Differ at x y; part = part }

-- the views of two stories at the index that an answer for their time views names, and the part that it names
abbrev pub twin_at : List View → List View → Answer → TwinBy
twin_at xs ys (answer.Same n) = same_at n
twin_at xs ys (answer.Differ at part) = differ_at at (slice_get xs at) (slice_get ys at) (Some part)
twin_at xs ys (answer.Ended at) = differ_at at (slice_get xs at) (slice_get ys at) None

-- the time views of a system's story
abbrev pub time_views_in : Settings → ℕ → Whole State → List TimeView
time_views_in k cycles w = time_views k ctl_reset (views_of cycles w)

-- how the stories of two systems compare by their time views
abbrev pub time_twin_of : Settings → ℕ → Whole State → Whole State → TwinBy
time_twin_of k cycles a b =
    twin_at (views_of cycles a) (views_of cycles b)
    (first_apart 0 (time_views_in k cycles a) (time_views_in k cycles b))

-- how they compare by what is asked for, with any plan
abbrev pub twin_by_of : Views → PlanValue → ℕ → Whole State → Whole State → TwinBy
twin_by_of Full plan cycles a b = record { twin = twin_of cycles a b; part = None }
twin_by_of (Time ram mul) plan cycles a b =
    time_twin_of (record { ram = ram; mul = mul; plan = plan }) cycles a b

-- ---- what an answer says of cycles

-- two lists are the same as far as an answer says
abbrev pub SameTo : Twin → List ℕ → List ℕ → Type 0
SameTo (Same n) xs ys = xs ≡ ys
SameTo (Differ at x y) xs ys = take at xs ≡ take at ys

-- the range of RAM and the multiplier with which time views are compared are those of a run
abbrev pub FitsViews : Views → Settings → Type 0
FitsViews Full k = Unit {0}
FitsViews (Time ram mul) k = (k.ram ≡ ram) × (k.mul ≡ mul)

-- Where the stories of two systems are those of two runs with equal configuration and plan, the cycles of these runs
-- are the same as far as an answer says, whether views or time views are compared.
abbrev pub AgreesInTime : Views → ℕ → Whole State → Whole State → Twin → Type 0
AgreesInTime views cycles a b twin =
    (r s : Setup) → settings_of r ≡ settings_of s → FitsViews views (settings_of r)
    → (drive_from cycles a).events ≡ story r cycles → (drive_from cycles b).events ≡ story s cycles
    → SameTo twin (map cycle_of (story r cycles)) (map cycle_of (story s cycles))

-- ---- one event more

-- the view and the time view of an event
abbrev pub seen_of : Settings → Ctl → Event → View × TimeView
seen_of k c e = (view_of e, time_view k c (view_of e))

-- the registers after an event, if there is one
abbrev pub ctl_past : Ctl → Option Event → Ctl
ctl_past c None = c
ctl_past c (Some e) = ctl_after c (view_of e)

-- both stories go on after events that nothing tells apart
abbrev pub apart_by : ℕ → View → View → Option Part → Option TwinBy
apart_by at x y None = None
apart_by at x y (Some part) = Some (differ_at at (Some x) (Some y) (Some part))

-- the answer at an index, if it is there, by what both stories have at it
abbrev pub ends_with : ℕ → Option (View × TimeView) → Option (View × TimeView) → Option TwinBy
ends_with at None None = Some (same_at at)
ends_with at (Some x) None = Some (differ_at at (Some x.0) None None)
ends_with at None (Some y) = Some (differ_at at None (Some y.0) None)
ends_with at (Some x) (Some y) = apart_by at x.0 y.0 (part_of x.1 y.1)
