-- What the view of a step says: its program counter and its kind; and the event's cycle.
use Rattle.std.proofs.Common.{◌≡◌, ℕ, ◌==◌, ◌+◌, ◌%◌, ◌^◌, length, true, false, List, Option, Some, None, refl}
use Rattle.ibx_isa.specs.declared.insn.Insn.{Insn}
use Rattle.ibx_isa.specs.declared.event.Event.{Event}
use Rattle.ibx_isa.specs.Views.{view_of}
use Rattle.ibx_arch.specs.declared.done.Done.{Done}
use Rattle.ibx_arch.specs.declared.done.Done.TheVariants.{Retires, Traps}
use Rattle.ibx_arch.specs.declared.fetched.Fetched.{Fetched}
use Rattle.ibx_arch.specs.declared.fetched.Fetched.TheVariants.{Unsound, Instruction}
use Rattle.ibx_arch.specs.Effects.{Executed, execute, trap, illegal}
use Rattle.ibx_arch.specs.Fetch.{fetch}
use Rattle.ibx_decoder.specs.Instructions.{instruction_of}
use Rattle.ibx_arch.specs.State.{State, at_cycle}
use Rattle.ibx_arch.specs.Step.{Choice, Interrupt, Parcels, after_fetch, decoded, stepped_by, finished, instruction}
use Rattle.ibx_arch.specs.Step.{interrupted, operands, step_with}
use Rattle.ibx_time.specs.Settings.{Settings, Setup, settings_of, lines_in}
use Rattle.ibx_time.specs.Cycles.{cycle_of}
use Rattle.ibx_time.specs.History.{Story, view_with, brought, brought_parcels}

-- an event at a cycle, of an instruction at a program counter
pub record IsOf (pc c : ℕ) (e : Event) : Type 0 where
  pub same_pc : (view_of e).pc ≡ pc
  pub same_cycle : cycle_of e ≡ c
  pub real : ((view_of e).kind == 2) ≡ false

-- an instruction's event is such a one, from how it ended up to its parcels
ended_is : (pc : ℕ) (regs : List ℕ) (c word : ℕ) (ops : Option (ℕ × ℕ)) (after : Executed) (d : Done)
    → IsOf pc c (stepped_by pc regs c word ops after d).event
unfolding view_of
ended_is pc regs c word ops after (Retires r) = record { same_pc = refl; same_cycle = refl; real = refl }
ended_is pc regs c word ops after (Traps cause tval addr) = record { same_pc = refl; same_cycle = refl; real = refl }

-- so is the event of a decoded word, and of one that fits no row
decoded_is : (s : State) (c word length lines : ℕ) (o : Option Insn)
    → IsOf s.pc c (decoded s c word length lines o).event
unfolding finished
decoded_is s c word length lines None = ended_is s.pc s.regs c word None (illegal s word) (illegal s word).done
decoded_is s c word length lines (Some insn) =
    ended_is s.pc s.regs c word (operands s insn) (execute s insn word length lines)
    (execute s insn word length lines).done

-- so is the event of what was fetched, an unsound parcel included
fetched_is : (s : State) (c lines : ℕ) (f : Fetched) → IsOf s.pc c (after_fetch s c lines f).event
unfolding finished
fetched_is s c lines (Unsound addr) = ended_is s.pc s.regs c 0 None (trap s 1 addr 0) (trap s 1 addr 0).done
fetched_is s c lines (Instruction word length) = decoded_is s c word length lines (instruction_of word)

-- the event of a step by parcels has its cycle and program counter, and is no interrupt
pub parcels_are : (k : Settings) (s : State) (first second c : ℕ)
    → IsOf s.pc c (step_with (lines_in k) s (Parcels first second) c).event
unfolding step_with instruction
parcels_are k s first second c = fetched_is (at_cycle s c) c (lines_in k c) (fetch (at_cycle s c) first second)

-- an interrupt's view has the program counter and the kind of one, and its event the cycle
pub interrupt_pc : (k : Settings) (s : State) (number c : ℕ)
    → (view_of (step_with (lines_in k) s (Interrupt number) c).event).pc ≡ s.pc
unfolding step_with interrupted view_of
interrupt_pc k s number c = refl

-- an interrupt's event has the cycle in which it is done
pub interrupt_cycle : (k : Settings) (s : State) (number c : ℕ)
    → cycle_of (step_with (lines_in k) s (Interrupt number) c).event ≡ c
unfolding step_with interrupted
interrupt_cycle k s number c = refl

-- the view of an interrupt says that it is one
pub interrupt_kind : (k : Settings) (s : State) (number c : ℕ)
    → ((view_of (step_with (lines_in k) s (Interrupt number) c).event).kind == 2) ≡ true
unfolding step_with interrupted view_of
interrupt_kind k s number c = refl

-- so it is for the steps of a history
pub view_pc : (s : Setup) (h : Story) (choice : Choice) → (view_with s h choice).pc ≡ h.state.pc
view_pc s h (Interrupt number) = interrupt_pc (settings_of s) h.state number h.state.stands
view_pc s h (Parcels first second) = (parcels_are (settings_of s) h.state first second h.state.stands).same_pc

-- each event of a history has the cycle in which its item is done
pub event_cycle : (s : Setup) (h : Story) (choice : Choice) (d : ℕ)
    → cycle_of (step_with (lines_in (settings_of s)) h.state choice d).event ≡ d
event_cycle s h (Interrupt number) d = interrupt_cycle (settings_of s) h.state number d
event_cycle s h (Parcels first second) d = (parcels_are (settings_of s) h.state first second d).same_cycle

-- an interrupt of a history is one by its view
pub view_interrupt : (s : Setup) (h : Story) (number : ℕ) → ((view_with s h (Interrupt number)).kind == 2) ≡ true
view_interrupt s h number = interrupt_kind (settings_of s) h.state number h.state.stands

-- an instruction of a history is no interrupt by its view
pub view_real : (s : Setup) (h : Story) → ((view_with s h (brought_parcels s h)).kind == 2) ≡ false
unfolding brought_parcels
view_real s h = (parcels_are (settings_of s) h.state (brought s h (length h.times.stream.enters) h.state.pc)
    (brought s h (length h.times.stream.enters + h.times.half) ((h.state.pc + 2) % 2 ^ 32)) h.state.stands).real
