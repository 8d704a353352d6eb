-- What each instruction does (Unprivileged ISA, 2.4 to 2.8, 7 and 9; Privileged ISA 1.12, 3.3).
use Rattle.std.specs.Prelude.{ℕ, ◌+◌, ◌*◌, ◌/◌, ◌%◌, ◌^◌, true, false, not, if◌then◌else◌, Option, Some, None}
use Rattle.ibx_isa.specs.declared.insn.Insn.{Insn}
use Rattle.ibx_isa.specs.declared.insn.Insn.TheVariants.{Lui, Auipc, Jal, Jalr, Branch, Load, Store, AluImm, Alu}
use Rattle.ibx_isa.specs.declared.insn.Insn.TheVariants.{MulDiv, Csr, Fence, FenceI, Ecall, Ebreak, Mret, Wfi}
use Rattle.ibx_isa.specs.declared.insn.LoadOp.{LoadOp}
use Rattle.ibx_isa.specs.declared.insn.CsrOp.{CsrOp}
use Rattle.ibx_isa.specs.Alu.{alu_of, branch_of}
use Rattle.ibx_isa.specs.Multiply.{md_value}
use Rattle.ibx_csr.specs.Values.{CsrValues, csr_read, csr_can_write, csr_write, csr_tick, trap_regs, with_trap_regs}
use Rattle.ibx_isa.specs.Portions.{loaded, size_of}
use Rattle.ibx_pmp.specs.declared.protection.AccessKind.TheVariants.{Read, Write}
use Rattle.ibx_trap.specs.Traps.{leave_of}
use Rattle.ibx_arch.specs.declared.done.Done.{Done}
use Rattle.ibx_arch.specs.declared.done.Done.TheVariants.{Retires, Traps}
use Rattle.ibx_arch.specs.Memory.{Memory, read_bytes}
use Rattle.ibx_arch.specs.State.{State, reg}
use Rattle.ibx_arch.specs.Access.{refused_at, error_at, stored}
use Rattle.ibx_isa.specs.CsrWrites.{writes, written}
use Rattle.ibx_csr.specs.Modes.{may_wait}
use Rattle.ibx_isa.specs.Causes.{illegal_instruction, breakpoint, load_fault, store_fault, user_call, machine_call}
use Rattle.ibx_csr.specs.Bits.{is_control_at}

-- how an instruction ends, and the memory and the CSRs that it leaves, with the counters moved by one cycle
pub record Executed : Type 0 where
  pub done : Done
  pub memory : Memory
  pub csrs : CsrValues

-- it retires with a value for rd, and leaves memory and CSRs
abbrev pub plain : State → ℕ → ℕ → ℕ → Executed
plain s rd value next_pc = record {
  done = Retires (record { rd = rd; value = value; mem = None; ctl = None; next_pc = next_pc });
  memory = s.memory;
  csrs = csr_tick s.csrs true None;
}

-- it traps, and changes nothing but what the trap's entry changes
abbrev pub trap : State → ℕ → ℕ → ℕ → Executed
trap s cause tval addr = record { done = Traps cause tval addr; memory = s.memory; csrs = csr_tick s.csrs false None }

-- cause 2, with the word as `mtval`
abbrev pub illegal : State → ℕ → Executed
illegal s word = trap s illegal_instruction word 0

-- the address of the instruction that follows
abbrev pub following : State → ℕ → ℕ
following s length = (s.pc + length) % 2 ^ 32

-- a load by the address that protection refuses, if any, and by the one that no memory answers, if any: the first of
-- the two traps
abbrev pub load_with : State → LoadOp → ℕ → ℕ → ℕ → Option ℕ → Option ℕ → Executed
load_with s op rd addr next (Some at) error = trap s load_fault at addr
load_with s op rd addr next None (Some at) = trap s load_fault at addr
load_with s op rd addr next None None = record {
  done = Retires (record {
    rd = rd;
    value = loaded op (read_bytes s.memory addr (size_of op));
    mem = Some (record { addr = addr; size = size_of op; store = false; value = 0 });
    ctl = None;
    next_pc = next;
  });
  memory = s.memory;
  csrs = csr_tick s.csrs true None;
}

-- cause 5: a portion that protection refuses comes before one that no memory answers
unfoldable pub load : State → LoadOp → ℕ → ℕ → ℕ → Executed
load s op rd addr next =
    load_with s op rd addr next (refused_at s.csrs addr (size_of op) Read) (error_at s.memory.ram addr (size_of op))

-- a store by the same two; one that no memory answers has written what it could
abbrev pub store_with : State → ℕ → ℕ → ℕ → ℕ → Option ℕ → Option ℕ → Executed
store_with s size addr value next (Some at) error = trap s store_fault at addr
store_with s size addr value next None (Some at) =
    record (trap s store_fault at addr) { memory = stored s.memory addr size (value % 256 ^ size) }
store_with s size addr value next None None = record {
  done = Retires (record {
    rd = 0;
    value = 0;
    mem = Some (record { addr = addr; size = size; store = true; value = value % 256 ^ size });
    ctl = None;
    next_pc = next;
  });
  memory = stored s.memory addr size (value % 256 ^ size);
  csrs = csr_tick s.csrs true None;
}

-- cause 7; a store whose second portion no memory answers has written its first
unfoldable pub store : State → ℕ → ℕ → ℕ → ℕ → Executed
store s size addr value next =
    store_with s size addr value next (refused_at s.csrs addr size Write) (error_at s.memory.ram addr size)

-- an access by what the CSR read: an unknown one is illegal, and so is a write of a read-only one
abbrev pub csr_with : State → CsrOp → ℕ → ℕ → ℕ → ℕ → ℕ → ℕ → Option ℕ → Executed
csr_with s op rd src source addr word next None = illegal s word
csr_with s op rd src source addr word next (Some old) =
    if not (writes op src) then plain s rd old next else
    if not (csr_can_write s.csrs addr) then illegal s word else
    record {
      done = Retires (record {
        rd = rd;
        value = old;
        mem = None;
        ctl = if is_control_at addr then Some (written op old source) else None;
        next_pc = next;
      });
      memory = s.memory;
      csrs = csr_write (csr_tick s.csrs true (Some addr)) addr (written op old source);
    }

-- It reads before it writes; an unknown CSR, a mode that is too low and a write of a read-only one are illegal.
unfoldable pub csr_access : State → CsrOp → ℕ → ℕ → ℕ → ℕ → ℕ → ℕ → ℕ → Executed
csr_access s op rd src source addr word next lines =
    csr_with s op rd src source addr word next (csr_read s.csrs addr lines)

-- MRET is illegal in U mode
unfoldable pub return_from_trap : State → ℕ → Executed
return_from_trap s word =
    if not s.csrs.machine then illegal s word else
    record {
      done = Retires (record { rd = 0; value = 0; mem = None; ctl = None; next_pc = s.csrs.mepc });
      memory = s.memory;
      csrs = with_trap_regs (csr_tick s.csrs true None) (leave_of (trap_regs s.csrs));
    }

-- What an instruction does whose word and length in bytes are these, with the interrupt lines of its cycle.
unfoldable pub execute : State → Insn → ℕ → ℕ → ℕ → Executed
execute s (Lui rd imm) word length lines = plain s rd imm (following s length)
execute s (Auipc rd imm) word length lines = plain s rd ((s.pc + imm) % 2 ^ 32) (following s length)
execute s (Jal rd imm) word length lines = plain s rd (following s length) ((s.pc + imm) % 2 ^ 32)
execute s (Jalr rd rs1 imm) word length lines = plain s rd (following s length) ((reg s rs1 + imm) % 2 ^ 32 / 2 * 2)
execute s (Branch op rs1 rs2 imm) word length lines =
    plain s 0 0 (if branch_of op (reg s rs1) (reg s rs2) then (s.pc + imm) % 2 ^ 32 else following s length)
execute s (Load op rd rs1 imm) word length lines = load s op rd ((reg s rs1 + imm) % 2 ^ 32) (following s length)
execute s (Store size rs1 rs2 imm) word length lines =
    store s size ((reg s rs1 + imm) % 2 ^ 32) (reg s rs2) (following s length)
execute s (AluImm op rd rs1 imm) word length lines = plain s rd (alu_of op (reg s rs1) imm) (following s length)
execute s (Alu op rd rs1 rs2) word length lines = plain s rd (alu_of op (reg s rs1) (reg s rs2)) (following s length)
execute s (MulDiv op rd rs1 rs2) word length lines =
    plain s rd (md_value op (reg s rs1) (reg s rs2)) (following s length)
execute s (Csr op rd src true addr) word length lines = csr_access s op rd src src addr word (following s length) lines
execute s (Csr op rd src false addr) word length lines =
    csr_access s op rd src (reg s src) addr word (following s length) lines
execute s Fence word length lines = plain s 0 0 (following s length)
execute s FenceI word length lines = plain s 0 0 (following s length)
execute s Ecall word length lines = trap s (if s.csrs.machine then machine_call else user_call) 0 0
execute s Ebreak word length lines = trap s breakpoint 0 0
execute s Mret word length lines = return_from_trap s word
execute s Wfi word length lines = if may_wait s.csrs then plain s 0 0 (following s length) else illegal s word
