-- What a step of the system shows, and the state that it leaves. Our own rule.
use Rattle.std.specs.Prelude.{ℕ, Bool, if◌then◌else◌, Option, Some, None, bit_or}
use Rattle.ibx_isa.specs.declared.bus.Alerts.{Alerts}
use Rattle.ibx_isa.specs.declared.event.Event.{Event}
use Rattle.ibx_isa.specs.declared.event.Event.TheVariants.{Retire, Trap, Irq}
use Rattle.ibx_core.specs.declared.state.State.{State}
use Rattle.ibx_core.specs.Wires.{OutWires as Out}
use Rattle.ibx_system.specs.Core.{core_parts}
use Rattle.ibx_system.specs.System.{Whole, fetch_of, load_store_of, next, output_of}
use Rattle.ibx_soc.specs.declared.cycle.BusOut.{BusOut}
use Rattle.ibx_soc.specs.declared.cycle.Cycle.{Cycle}

-- the state after a step
abbrev pub soc_next : Whole State → Whole State
soc_next w = next core_parts w

-- both requests of an output
abbrev pub bus_of : Out → BusOut
bus_of o = record { fetch = fetch_of o; load_store = load_store_of o }

-- INTERNAL, which is bit 1, besides an output's alerts where a difference is told
abbrev pub alerts_with : Bool → ℕ → Alerts
alerts_with told alerts = record { 0 = if told then bit_or alerts 2 else alerts }

-- an event with the cycle in which it is done
abbrev pub at_cycle : ℕ → Event → Event
at_cycle c (Retire cycle pc word rd value mem ctl ops) = Retire c pc word rd value mem ctl ops
at_cycle c (Trap cycle pc word cause tval addr) = Trap c pc word cause tval addr
at_cycle c (Irq cycle pc cause) = Irq c pc cause

-- the same, where there is one
abbrev pub happens_at : ℕ → Option Event → Option Event
happens_at c None = None
happens_at c (Some e) = Some (at_cycle c e)

-- a step by main's output, by whether a difference is told, and by the number of the cycle
abbrev pub cycle_by : ℕ → Bool → Out → Cycle
cycle_by c told o = record { bus = bus_of o; alerts = alerts_with told o.alerts; event = happens_at c o.event }

-- the step's cycle: its requests, its alerts with what the step before found, and its event with the number of steps
-- made before
unfoldable pub cycle_of : Whole State → Cycle
cycle_of w = cycle_by w.place.cycle w.told (output_of core_parts w)
