-- The machine's state, and what a step makes of it.
use Rattle.std.specs.Prelude.{◌≡◌, ◌<◌, ◌≤◌, Option, Some, None, true}
use Rattle.ibx_isa.specs.Lengths.{IsWordOrHalf}
use Rattle.ibx_isa.specs.declared.event.Event.{Event}
use Rattle.ibx_csr.specs.Fields.{values}
use Rattle.ibx_csr.specs.Values.{csr_tick}
use Rattle.ibx_isa.specs.Events.{IsStore}
use Rattle.ibx_arch.specs.declared.done.Done.{Done}
use Rattle.ibx_arch.specs.declared.done.Done.TheVariants.{Retires, Traps}
use Rattle.ibx_arch.specs.declared.done.Retirement.{Retirement}
use Rattle.ibx_arch.specs.declared.fetched.Fetched.{Fetched}
use Rattle.ibx_arch.specs.declared.fetched.Fetched.TheVariants.{Unsound, Instruction}
use Rattle.ibx_arch.specs.State.{State}
use Rattle.ibx_arch.specs.Effects.{Executed}
use Rattle.ibx_arch.specs.Step.{Stepped, Choice, Interrupt, Parcels}
use Rattle.ibx_step.specs.declared.choice.Choice.{Choice as Chosen}
use Rattle.ibx_step.specs.declared.choice.Choice.TheVariants.{Interrupt as ChosenInterrupt, Parcels as ChosenParcels}
use Rattle.ibx_step.specs.declared.machine.Machine.{Machine}
use Rattle.ibx_memory.specs.Words.{memory_of}

-- the state of the architecture that a machine is in
abbrev pub state_of : Machine → State
state_of m = record { pc = m.pc; regs = m.regs; memory = memory_of m.storage; csrs = values m.csrs; stands = m.stands }

-- what an instruction left in a machine, and how it ended
abbrev pub left_in : Done → Machine → Executed
left_in done m = record { done = done; memory = memory_of m.storage; csrs = values m.csrs }

-- an event, and the state of a machine after it
abbrev pub stepped_to : Event → Machine → Stepped
stepped_to event m = record { event = event; next = state_of m }

-- the architecture's choice that the code's is
abbrev pub choice_of : Chosen → Choice
choice_of (ChosenInterrupt number) = Interrupt number
choice_of (ChosenParcels first second) = Parcels first second

-- the program counter, the registers and the cycle of the counters are as they were
pub record KeepsPlace (before after : Machine) : Type 0 where
  pub pc : after.pc ≡ before.pc
  pub regs : after.regs ≡ before.regs
  pub stands : after.stands ≡ before.stands

-- it writes one of the registers, and a store none
abbrev pub HasRegister : Done → Type 0
HasRegister (Retires r) = (r.rd < 32) × (IsStore r.mem → r.rd ≡ 0)
HasRegister (Traps cause tval addr) = Unit {0}

-- a step's event and the state after it, or no event and the same state where there is no step
abbrev pub Steps : State → Option Stepped → Option Event → State → Type 0
Steps before None event after = (event ≡ None) × (after ≡ before)
Steps before (Some stepped) event after = (event ≡ Some stepped.event) × (after ≡ stepped.next)

-- an instruction that retires and leaves memory
abbrev pub retiring : State → Retirement → Executed
retiring s r = record { done = Retires r; memory = s.memory; csrs = csr_tick s.csrs true None }

-- what was fetched has 2 or 4 bytes
abbrev pub IsFetched : Fetched → Type 0
IsFetched (Unsound addr) = Unit {0}
IsFetched (Instruction word length) = (length ≤ 4) × IsWordOrHalf word
