-- One step of the architecture, as a function of the state, the choice and the cycle.
use Rattle.std.specs.Prelude.{ℕ, zero, suc, ◌+◌, ◌*◌, ◌%◌, ◌^◌, Bool, true, false, ◌==◌, if◌then◌else◌, Option, Some}
use Rattle.std.specs.Prelude.{None, bit_and, List, replicate}
use Rattle.ibx_elf.specs.Image.{Placed}
use Rattle.ibx_isa.specs.declared.insn.Insn.{Insn}
use Rattle.ibx_isa.specs.declared.insn.Insn.TheVariants.{Wfi}
use Rattle.ibx_isa.specs.Sources.{source1, source2}
use Rattle.ibx_isa.specs.declared.event.Event.{Event}
use Rattle.ibx_isa.specs.declared.event.Event.TheVariants.{Retire, Trap, Irq}
use Rattle.ibx_csr.specs.Values.{csr_reset, csr_tick, trap_regs, with_trap_regs, CsrValues}
use Rattle.ibx_trap.specs.Interrupts.{pending_of}
use Rattle.ibx_trap.specs.Traps.{enter_of, enter_target}
use Rattle.ibx_arch.specs.declared.done.Done.{Done}
use Rattle.ibx_arch.specs.declared.done.Done.TheVariants.{Retires, Traps}
use Rattle.ibx_arch.specs.declared.fetched.Fetched.{Fetched}
use Rattle.ibx_arch.specs.declared.fetched.Fetched.TheVariants.{Unsound, Instruction}
use Rattle.ibx_arch.specs.Memory.{read_byte, image_memory}
use Rattle.ibx_arch.specs.State.{State, reg, with_reg, at_cycle}
use Rattle.ibx_arch.specs.Fetch.{fetch}
use Rattle.ibx_decoder.specs.Instructions.{instruction_of}
use Rattle.ibx_arch.specs.Effects.{Executed, execute, trap, illegal}
use Rattle.ibx_csr.specs.Modes.{may_wait}
use Rattle.ibx_isa.specs.Causes.{fetch_fault}
use Rattle.ibx_isa.specs.ControlBits.{data_ind_timing}

-- what a step is taken with: an interrupt's number, or the two parcels that were fetched at the program counter
pub data Choice : Type 0 where
  Interrupt : (number : ℕ) → Choice
  Parcels : (first second : ℕ) → Choice

-- the event that a step gives, and the state after it
pub record Stepped : Type 0 where
  pub event : Event
  pub next : State

-- the operands, where fixed timing is off
unfoldable pub operands : State → Insn → Option (ℕ × ℕ)
operands s insn =
    if bit_and s.csrs.cpuctrl data_ind_timing == 0 then Some (reg s (source1 insn), reg s (source2 insn)) else None

-- The event of an instruction at a program counter and the state after it, from how it ended. A trap goes to
-- its handler (Privileged ISA 1.12, 3.1.6.1).
abbrev pub stepped_by : ℕ → List ℕ → ℕ → ℕ → Option (ℕ × ℕ) → Executed → Done → Stepped
stepped_by pc regs cycle word ops after (Retires r) = record {
  event = Retire cycle pc word r.rd (if r.rd == 0 then 0 else r.value) r.mem r.ctl ops;
  next = record {
    pc = r.next_pc;
    regs = with_reg regs r.rd r.value;
    memory = after.memory;
    csrs = after.csrs;
    stands = cycle + 1;
  };
}
stepped_by pc regs cycle word ops after (Traps cause tval addr) = record {
  event = Trap cycle pc word cause tval addr;
  next = record {
    pc = enter_target (trap_regs after.csrs) cause false;
    regs = regs;
    memory = after.memory;
    csrs = with_trap_regs after.csrs (enter_of (trap_regs after.csrs) pc cause false tval);
    stands = cycle + 1;
  };
}

-- the same from what the instruction did
unfoldable pub finished : ℕ → List ℕ → ℕ → ℕ → Option (ℕ × ℕ) → Executed → Stepped
finished pc regs cycle word ops executed = stepped_by pc regs cycle word ops executed executed.done

-- a word that fits no row is illegal
abbrev pub decoded : State → ℕ → ℕ → ℕ → ℕ → Option Insn → Stepped
decoded s cycle word length lines None = finished s.pc s.regs cycle word None (illegal s word)
decoded s cycle word length lines (Some insn) =
    finished s.pc s.regs cycle word (operands s insn) (execute s insn word length lines)

-- an unsound parcel is an instruction access fault, cause 1, whose event has no word
abbrev pub after_fetch : State → ℕ → ℕ → Fetched → Stepped
after_fetch s cycle lines (Unsound addr) = finished s.pc s.regs cycle 0 None (trap s fetch_fault addr 0)
after_fetch s cycle lines (Instruction word length) = decoded s cycle word length lines (instruction_of word)

-- one instruction, from the parcels at the program counter, at a cycle with these interrupt lines
unfoldable pub instruction : State → ℕ → ℕ → ℕ → ℕ → Stepped
instruction s first second cycle lines = after_fetch s cycle lines (fetch s first second)

-- an interrupt that is taken
unfoldable pub interrupted : State → ℕ → ℕ → Stepped
interrupted s number cycle = record {
  event = Irq cycle s.pc number;
  next = record s {
    pc = enter_target (trap_regs s.csrs) number true;
    csrs = with_trap_regs (csr_tick s.csrs false None) (enter_of (trap_regs s.csrs) s.pc number true 0);
    stands = cycle + 1;
  };
}

-- the interrupt that is taken in this state with these lines
abbrev pub pending_in : CsrValues → ℕ → Option ℕ
pending_in csrs lines = pending_of csrs.machine csrs.mstatus csrs.mie lines

-- the pending interrupt is this one
abbrev pub is_pending : Option ℕ → ℕ → Bool
is_pending None number = false
is_pending (Some n) number = n == number

-- the state takes this interrupt with these lines
abbrev pub is_taken : CsrValues → ℕ → ℕ → Bool
is_taken csrs lines number = is_pending (pending_in csrs lines) number

-- The state takes this choice at a cycle, where the plan's lines are a function of the cycle. An interrupt is a
-- choice only where it is pending with the lines of the cycle before, in which it was admitted.
unfoldable pub takes_choice : (ℕ → ℕ) → State → Choice → ℕ → Bool
takes_choice lines s (Interrupt number) zero = false
takes_choice lines s (Interrupt number) (suc before) = is_taken s.csrs (lines before) number
takes_choice lines s (Parcels first second) cycle = true

-- the step with a choice that the state takes
unfoldable pub step_with : (ℕ → ℕ) → State → Choice → ℕ → Stepped
step_with lines s (Interrupt number) cycle = interrupted (at_cycle s cycle) number cycle
step_with lines s (Parcels first second) cycle = instruction (at_cycle s cycle) first second cycle (lines cycle)

-- the step with a choice at a cycle, where the state takes it
unfoldable pub arch_step : (ℕ → ℕ) → State → Choice → ℕ → Option Stepped
arch_step lines s choice cycle =
    if takes_choice lines s choice cycle then Some (step_with lines s choice cycle) else None

-- the state at reset: the image in memory, its entry, registers of 0, and the CSRs' reset values
unfoldable pub reset_state : Placed → State
reset_state image = record {
  pc = image.entry;
  regs = replicate 32 0;
  memory = image_memory image;
  csrs = csr_reset image.entry;
  stands = 0;
}

-- the parcel that memory holds at an address
abbrev pub parcel_at : State → ℕ → ℕ
parcel_at s addr = read_byte s.memory addr + 256 * read_byte s.memory ((addr + 1) % 2 ^ 32)

-- a WFI that isn't illegal, and so waits for an interrupt
abbrev pub is_wait : CsrValues → Option Insn → Bool
is_wait csrs (Some Wfi) = may_wait csrs
is_wait csrs _ = false

-- the same of what was fetched, and of two parcels at the program counter
abbrev pub is_wait_at : CsrValues → Fetched → Bool
is_wait_at csrs (Unsound addr) = false
is_wait_at csrs (Instruction word length) = is_wait csrs (instruction_of word)

-- the step with these two parcels at the program counter would be a WFI that waits
unfoldable pub would_wait : State → ℕ → ℕ → Bool
would_wait s first second = is_wait_at s.csrs (fetch s first second)

-- The step of a machine that fetches what memory holds, and that no interrupt line ever reaches. It has none
-- for a WFI that would wait for ever.
unfoldable pub present_step : State → ℕ → Option Stepped
present_step s cycle =
    let first = parcel_at s s.pc in
    let second = parcel_at s ((s.pc + 2) % 2 ^ 32) in
    if would_wait s first second then None else arch_step (λ _. 0) s (Parcels first second) cycle
