-- The story of a run of the two-stage core: the events of the time equations below a budget of cycles, up to the
-- halting store. The budget and the halting store are our own rules.
use Rattle.std.specs.Prelude.{ℕ, Bool, List}
use Rattle.std.specs.List.{list_any}
use Rattle.ibx_isa.specs.declared.event.Event.{Event}
use Rattle.ibx_story.specs.Stories.{halts}
use Rattle.ibx_time.specs.History.{history, story}
use Rattle.ibx_time.specs.Settings.{Setup}

-- the events of a run in order, and whether the last one halted it
pub record TimedStory : Type 0 where
  pub events : List Event
  pub halted : Bool

-- the events below a budget of cycles
unfoldable pub timed_story : Setup → ℕ → TimedStory
timed_story s budget = record { events = story s budget; halted = list_any halts (history s budget) }
