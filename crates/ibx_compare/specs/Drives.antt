-- What a run of the system comes to: its events up to the halting store, and the state that it leaves. The budget and
-- the halting store are our own rules.
use Rattle.std.specs.Prelude.{ℕ, zero, suc, Bool, true, false, List, [], ◌∷◌, Option, Some, None}
use Rattle.ibx_isa.specs.declared.event.Event.{Event}
use Rattle.ibx_story.specs.Stories.{halts}
use Rattle.ibx_core.specs.declared.state.State.{State}
use Rattle.ibx_system.specs.System.{Whole}
use Rattle.ibx_soc.specs.Cycles.{cycle_of, soc_next}

-- the events of a run in order, whether a halting store ended it, and the state that it leaves
pub record Drive : Type 0 where
  pub events : List Event
  pub halted : Bool
  pub left : Whole State

-- a run that begins with an event: a halting one is its last, and else the rest follows
unfoldable pub drive_after : Bool → Event → Whole State → Drive → Drive
drive_after true event next rest = record { events = event ∷ []; halted = true; left = next }
drive_after false event next rest = record rest { events = event ∷ rest.events }

-- a run that begins with a cycle, by its event, if there is one, by the state after it, and by the run from there
unfoldable pub drive_by : Option Event → Whole State → Drive → Drive
drive_by None next rest = rest
drive_by (Some event) next rest = drive_after (halts event) event next rest

-- the run of at most so many cycles from a state on
unfoldable pub drive_from : ℕ → Whole State → Drive
drive_from zero w = record { events = []; halted = false; left = w }
drive_from (suc cycles) w = drive_by (cycle_of w).event (soc_next w) (drive_from cycles (soc_next w))
