-- What a run of the two cores without a flip comes to, against the history. Our own rule.
use Rattle.std.specs.Prelude.{◌≡◌, ℕ, zero, suc, List, [], None}
use Rattle.ibx_isa.specs.declared.event.Event.{Event}
use Rattle.ibx_core.specs.declared.state.State.{State}
use Rattle.ibx_time.specs.BusLines.{BusLine, bus_line}
use Rattle.ibx_time.specs.History.{history}
use Rattle.ibx_time.specs.Settings.{Setup}
use Rattle.ibx_time.specs.Shown.{shown}
use Rattle.ibx_time.specs.Runs.{with_event}
use Rattle.ibx_time_machine.specs.Shown.{shown_in}
use Rattle.ibx_system.specs.Core.{core_parts}
use Rattle.ibx_system.specs.Runs.{run}
use Rattle.ibx_system.specs.System.{Whole}
use Rattle.ibx_soc.specs.declared.cycle.BusOut.{BusOut}
use Rattle.ibx_time.specs.Runs.{HoldsRam, HoldsRegisters}
use Rattle.ibx_soc.specs.Cycles.{cycle_of, soc_next}

-- the events of n steps, each with its cycle
unfoldable pub events_of : ℕ → Whole State → List Event
events_of zero w = []
events_of (suc n) w = with_event (cycle_of w).event (events_of n (soc_next w))

-- both requests of a step
abbrev pub line_of : BusOut → BusLine
line_of b = record { fetch = b.fetch; load_store = b.load_store }

-- the two cores before the step of cycle c
abbrev pub after : Whole State → ℕ → Whole State
after w c = run core_parts w None c

-- In every cycle: the events are the history, both buses are those of the time equations, there is no alert of main nor
-- of the comparator, and main's fields, the registers and the memory show what the events left.
pub record IsHistory (s : Setup) (w : Whole State) : Type 0 where
  pub events : (n : ℕ) → events_of n w ≡ history s n
  pub wires : (c : ℕ) → line_of (cycle_of (after w c)).bus ≡ bus_line s c
  pub quiet : (c : ℕ) → (cycle_of (after w c)).alerts ≡ record { 0 = 0 }
  pub fields : (c : ℕ) → shown_in (after w c).main ≡ shown s c
  pub registers : (c : ℕ) → HoldsRegisters s c (after w c).place.registers
  pub memory : (c : ℕ) → HoldsRam s c (after w c).place.memory.words
