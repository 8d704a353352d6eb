-- The registers that time depends on, as the views of the events leave them. Our own rule.
use Rattle.std.specs.Prelude.{ℕ, Bool, true, false, not, ◌==◌, if◌then◌else◌, List, Option, Some, bit_and}
use Rattle.ibx_isa.specs.declared.insn.Insn.{Insn}
use Rattle.ibx_isa.specs.declared.insn.Insn.TheVariants.{Csr, Mret}
use Rattle.ibx_isa.specs.declared.event.View.{View}
use Rattle.ibx_csr.specs.Values.{CsrValues, csr_reset, csr_write, trap_regs, with_trap_regs}
use Rattle.ibx_trap.specs.Traps.{enter_of, leave_of}
use Rattle.ibx_decoder.specs.Instructions.{instruction_of}
use Rattle.ibx_isa.specs.ControlBits.{icache_enable, data_ind_timing}

-- the mode, mstatus, mie, cpuctrl, and the registers of the protection unit with mseccfg
pub record Ctl : Type 0 where
  pub machine : Bool
  pub mstatus : ℕ
  pub mie : ℕ
  pub cpuctrl : ℕ
  pub pmpcfg : List ℕ
  pub pmpaddr : List ℕ
  pub mseccfg : ℕ

-- those of all registers
abbrev pub ctl_of : CsrValues → Ctl
ctl_of v = record {
  machine = v.machine;
  mstatus = v.mstatus;
  mie = v.mie;
  cpuctrl = v.cpuctrl;
  pmpcfg = v.pmpcfg;
  pmpaddr = v.pmpaddr;
  mseccfg = v.mseccfg;
}

-- the same among all registers, of which the others are 0
abbrev pub values_of : Ctl → CsrValues
values_of c = record {
  machine = c.machine;
  mstatus = c.mstatus;
  mie = c.mie;
  mtvec = 0;
  mscratch = 0;
  mepc = 0;
  mcause = 0;
  mtval = 0;
  cpuctrl = c.cpuctrl;
  mcountinhibit = 0;
  mcycle = 0;
  minstret = 0;
  pmpcfg = c.pmpcfg;
  pmpaddr = c.pmpaddr;
  mseccfg = c.mseccfg;
}

-- their reset values
abbrev pub ctl_reset : Ctl
ctl_reset = ctl_of (csr_reset 0)

-- the cache is on, and timing is fixed
abbrev pub enables_cache : Ctl → Bool
enables_cache c = not (bit_and c.cpuctrl icache_enable == 0)

-- timing doesn't depend on operands
abbrev pub is_fixed : Ctl → Bool
is_fixed c = not (bit_and c.cpuctrl data_ind_timing == 0)

-- these lines end a wait, whatever MIE and the mode are
abbrev pub is_woken : Ctl → ℕ → Bool
is_woken c lines = not (bit_and lines c.mie == 0)

-- what a trap, MRET and the write of a CSR leave of these registers
abbrev pub ctl_entered : Ctl → Bool → Ctl
ctl_entered c irq = ctl_of (with_trap_regs (values_of c) (enter_of (trap_regs (values_of c)) 0 0 irq 0))

-- the mode is that of MPP, MIE is MPIE (Privileged ISA, 3.1.6.1), and cpuctrl forgets the exception
abbrev pub ctl_left : Ctl → Ctl
ctl_left c = ctl_of (with_trap_regs (values_of c) (leave_of (trap_regs (values_of c))))

-- the write of a CSR that is none of these registers changes nothing here
abbrev pub ctl_written : Ctl → ℕ → ℕ → Ctl
ctl_written c addr value = ctl_of (csr_write (values_of c) addr value)

-- after an instruction that retired: MRET and the write of a CSR alone change them
abbrev pub ctl_retired : Ctl → Option Insn → Option ℕ → Ctl
ctl_retired c (Some Mret) written = ctl_left c
ctl_retired c (Some (Csr op rd src imm addr)) (Some value) = ctl_written c addr value
ctl_retired c insn written = c

-- after the event with this view: a trap, an interrupt, or a retirement with the value that it handed to a write
unfoldable pub ctl_after : Ctl → View → Ctl
ctl_after c v =
    if v.kind == 2 then ctl_entered c true else
    if v.kind == 1 then ctl_entered c false else
    ctl_retired c (instruction_of v.word) v.ctl
