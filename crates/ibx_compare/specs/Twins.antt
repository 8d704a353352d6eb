-- How the stories of two systems compare: by the views of their events, in order. Our own rule.
use Rattle.std.specs.Prelude.{⊤, ◌≡◌, ◌≢◌, ◌⊎◌, ◌≤◌, ℕ, zero, suc, ◌+◌, Bool, ◌&&◌, ◌==◌, if◌then◌else◌, List, [], ◌∷◌}
use Rattle.std.specs.Prelude.{map, length, take, Option, Some, None, IfSome, IsSome}
use Rattle.std.specs.List.{slice_get}
use Rattle.std.specs.Option.{option_eq}
use Rattle.ibx_isa.specs.declared.event.Event.{Event}
use Rattle.ibx_isa.specs.declared.event.View.{View}
use Rattle.ibx_isa.specs.Lengths.{IsWordOrHalf}
use Rattle.ibx_isa.specs.Views.{view_of}
use Rattle.ibx_story.specs.Stories.{event_cycle, halts}
use Rattle.ibx_core.specs.declared.state.State.{State}
use Rattle.ibx_system.specs.System.{Whole}
use Rattle.ibx_soc.specs.Cycles.{cycle_of, soc_next}
use Rattle.ibx_compare.specs.declared.comparison.Twin.{Twin}
use Rattle.ibx_compare.specs.declared.comparison.Twin.TheVariants.{Same, Differ}
use Rattle.ibx_compare.specs.Drives.{Drive, drive_from}

-- whether two pairs of operands are equal
abbrev pub agree_operands : ℕ × ℕ → ℕ × ℕ → Bool
agree_operands a b = a.0 == b.0 && a.1 == b.1

-- whether two views are equal
abbrev pub agree_views : View → View → Bool
agree_views a b =
    a.kind == b.kind && (a.pc == b.pc && (a.word == b.word && (option_eq (λ x y. x == y) a.addr b.addr
    && (option_eq (λ x y. x == y) a.ctl b.ctl && (option_eq agree_operands a.ops b.ops
    && (a.cause == b.cause && a.tval == b.tval))))))

-- Two lists of views, the first of which have this index: how many there are, where they are the same, and else the
-- first index at which they differ or one has ended, with both views.
unfoldable pub first_difference : ℕ → List View → List View → Twin
first_difference at [] [] = Same at
first_difference at [] (y ∷ ys) = Differ at None (Some y)
first_difference at (x ∷ xs) [] = Differ at (Some x) None
first_difference at (x ∷ xs) (y ∷ ys) =
    if agree_views x y then first_difference (at + 1) xs ys else Differ at (Some x) (Some y)

-- the views of a system's story: of its events below a budget of cycles, up to the halting one
abbrev pub views_of : ℕ → Whole State → List View
views_of cycles w = map view_of (drive_from cycles w).events

-- how the stories of two systems compare
abbrev pub twin_of : ℕ → Whole State → Whole State → Twin
twin_of cycles a b = first_difference 0 (views_of cycles a) (views_of cycles b)

-- What an answer means. The same: both lists are equal and have so many views. A difference: up to its index they are
-- equal, and at its index they have these views, which aren't equal, or none where a list has ended.
abbrev pub IsFirstDifference : List View → List View → Twin → Type 0
IsFirstDifference xs ys (Same n) = (xs ≡ ys) × (length xs ≡ n)
IsFirstDifference xs ys (Differ at x y) =
    (take at xs ≡ take at ys) × (slice_get xs at ≡ x) × (slice_get ys at ≡ y) × (x ≢ y)

-- a view that has a line: one of the three kinds, a word or a halfword, and an address where an access is refused
pub record HasLine (v : View) : Type 0 where
  pub kind : v.kind ≤ 2
  pub halfword : IsWordOrHalf v.word
  pub address : v.kind ≡ 1 → (v.cause ≡ 5) ⊎ (v.cause ≡ 7) → IsSome v.addr

-- the views of an answer have lines
abbrev pub HaveLines : Twin → Type 0
HaveLines (Same n) = ⊤
HaveLines (Differ at x y) = IfSome x HasLine × IfSome y HasLine

-- up to which event the stories were told: that of the difference, or the end
abbrev pub index_of : Twin → ℕ
index_of (Same n) = n
index_of (Differ at x y) = at

-- the cycles that a run makes up to an event, and all that it makes where there is none
abbrev pub cycles_to : Option Event → Drive → ℕ
cycles_to (Some event) d = event_cycle event + 1
cycles_to None d = d.left.place.cycle

-- the cycles that a story's run from cycle 0 makes up to its event of an index: one more than the event's, and where it
-- has none, one more than the halting store's or else the budget
abbrev pub told_cycles : ℕ → ℕ → Whole State → ℕ
told_cycles cycles index w = cycles_to (slice_get (drive_from cycles w).events index) (drive_from cycles w)

-- ---- one event more

-- a run up to its next event: the event, if there is one, the cycles that are left of the budget, and the state
pub record Told : Type 0 where
  pub event : Option Event
  pub left : ℕ
  pub next : Whole State

-- nothing is left after a halting event
abbrev pub left_after : Bool → ℕ → ℕ
left_after halted cycles = if halted then 0 else cycles

-- by the event of a first cycle, by what is left and the state after it, and by the run from there
unfoldable pub told_by : Option Event → ℕ → Whole State → Told → Told
told_by None cycles next rest = rest
told_by (Some event) cycles next rest =
    record { event = Some event; left = left_after (halts event) cycles; next = next }

-- the run of at most so many cycles from a state on, up to its next event
unfoldable pub told : ℕ → Whole State → Told
told zero w = record { event = None; left = 0; next = w }
told (suc cycles) w = told_by (cycle_of w).event cycles (soc_next w) (told cycles (soc_next w))
