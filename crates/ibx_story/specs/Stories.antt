-- Where a run ends, and the cycles that its events took. The halting store is our own rule.
use Rattle.std.specs.Prelude.{ℕ, ◌+◌, ◌%◌, Bool, false, ◌&&◌, ◌==◌, List, [], ◌∷◌, Option, Some, None}
use Rattle.ibx_bits.specs.Platform.{halt_register}
use Rattle.ibx_isa.specs.declared.event.Access.{Access}
use Rattle.ibx_isa.specs.declared.event.Event.{Event}
use Rattle.ibx_isa.specs.declared.event.Event.TheVariants.{Retire, Trap, Irq}

-- a store of a word whose value has bit 0 set to the host's register for it
abbrev pub is_halting : Option Access → Bool
is_halting None = false
is_halting (Some access) = access.store && access.size == 4 && access.addr == halt_register && access.value % 2 == 1

-- whether an event ends the run: such a store that retired
abbrev pub halts : Event → Bool
halts (Retire cycle pc word rd value mem ctl ops) = is_halting mem
halts (Trap cycle pc word cause tval addr) = false
halts (Irq cycle pc cause) = false

-- the cycle in which an event was done
abbrev pub event_cycle : Event → ℕ
event_cycle (Retire cycle pc word rd value mem ctl ops) = cycle
event_cycle (Trap cycle pc word cause tval addr) = cycle
event_cycle (Irq cycle pc cause) = cycle

-- the cycles that have passed at the end of these events, the last one's cycle plus 1, where so many had passed before
-- them
abbrev pub cycles_passed : ℕ → List Event → ℕ
cycles_passed before [] = before
cycles_passed before (event ∷ more) = cycles_passed (event_cycle event + 1) more
