-- What is said of the cycles of a history: they are those of its views, and equal views have equal cycles.
use Rattle.std.specs.Prelude.{◌≡◌, ℕ, map, take}
use Rattle.ibx_isa.specs.declared.event.Event.{Event}
use Rattle.ibx_isa.specs.declared.event.Event.TheVariants.{Retire, Trap, Irq}
use Rattle.ibx_isa.specs.Views.{view_of}
use Rattle.ibx_time.specs.Settings.{Setup, settings_of}
use Rattle.ibx_time.specs.Timeline.{timeline}
use Rattle.ibx_time.specs.History.{history, story, told_below}

-- the cycle in which an event was done
abbrev pub cycle_of : Event → ℕ
cycle_of (Retire cycle pc word rd value mem ctl ops) = cycle
cycle_of (Trap cycle pc word cause tval addr) = cycle
cycle_of (Irq cycle pc cause) = cycle

-- the cycles of the history are those of its views
abbrev pub IsTimed : Setup → Type 0
IsTimed s =
    (n : ℕ) → map cycle_of (history s n)
    ≡ timeline (settings_of s) s.image.entry n (map view_of (history s n)) (told_below s n).story.state.pc

-- two histories with equal settings whose first k views agree have the same first k cycles
abbrev pub EqualViewsEqualCycles : Type 0
EqualViewsEqualCycles =
    (a b : Setup) → settings_of a ≡ settings_of b → (n m k : ℕ)
    → take k (map view_of (history a n)) ≡ take k (map view_of (history b m))
    → take k (map cycle_of (history a n)) ≡ take k (map cycle_of (history b m))

-- two stories with equal settings whose first k views agree have the same first k cycles
abbrev pub EqualStoryViewsEqualCycles : Type 0
EqualStoryViewsEqualCycles =
    (a b : Setup) → settings_of a ≡ settings_of b → (n m k : ℕ)
    → take k (map view_of (story a n)) ≡ take k (map view_of (story b m))
    → take k (map cycle_of (story a n)) ≡ take k (map cycle_of (story b m))
