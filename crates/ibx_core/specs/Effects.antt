-- What the turn of a cycle leaves: the registers, the program counter, a redirect, a register write, and the event.
-- Our own rule; a row's result is that of the Unprivileged ISA, 2, 7 and 9, and a trap's that of the Privileged ISA
-- 1.12, 3.1.
use Rattle.std.specs.Prelude.{ℕ, ◌+◌, ◌*◌, ◌/◌, ◌%◌, ◌^◌, Bool, true, false, ◌==◌, if◌then◌else◌, Option, Some, None}
use Rattle.ibx_isa.specs.declared.event.Access.{Access}
use Rattle.ibx_isa.specs.declared.event.Event.{Event}
use Rattle.ibx_isa.specs.declared.event.Event.TheVariants as event
use Rattle.ibx_isa.specs.declared.insn.Insn.{Insn}
use Rattle.ibx_isa.specs.declared.insn.CsrOp.{CsrOp}
use Rattle.ibx_isa.specs.declared.insn.Insn.TheVariants.{Lui, Auipc, Jal, Jalr, Branch, Load, AluImm, Alu, MulDiv, Csr}
use Rattle.ibx_isa.specs.declared.insn.Insn.TheVariants.{FenceI, Mret}
use Rattle.ibx_isa.specs.Alu.{alu_of, branch_of}
use Rattle.ibx_isa.specs.Causes.{fetch_fault, illegal_instruction, load_fault, store_fault}
use Rattle.ibx_isa.specs.CsrWrites.{writes, written}
use Rattle.ibx_isa.specs.Lengths.{is_long}
use Rattle.ibx_isa.specs.Portions.{gather_of, portion_addr}
use Rattle.ibx_csr.specs.declared.csrs.Csrs.{Csrs}
use Rattle.ibx_dummy.specs.declared.unit.Dummy.{Dummy as DummyUnit}
use Rattle.ibx_csr.specs.Bits.{is_control_at}
use Rattle.ibx_csr.specs.Fields.{values, tick_of, with_regs, write_of}
use Rattle.ibx_csr.specs.Values.{csr_read, trap_regs}
use Rattle.ibx_trap.specs.Traps.{enter_of, enter_target, leave_of}
use Rattle.ibx_dummy.specs.Dummies.{seeded}
use Rattle.ibx_muldiv.specs.Unit.{result_of}
use Rattle.ibx_id.specs.declared.stage.IdState.{IdState}
use Rattle.ibx_id.specs.declared.stage.Turn.{Turn}
use Rattle.ibx_id.specs.declared.stage.Turn.TheVariants.{Idle, Hold, Retire, Trap, Irq, Dummy}
use Rattle.ibx_core.specs.declared.outcome.Yield.{Yield}
use Rattle.ibx_core.specs.declared.sight.Sight.{Sight}
use Rattle.ibx_core.specs.declared.state.State.{State}
use Rattle.ibx_core.specs.Sights.{is_fixed, stage_word}

-- ---- what is left

-- What an instruction comes to that retires: the register that is written, 0 for none, and its value; the value handed
-- to the write of a CSR that controls the core; the address of the next instruction; the registers after it; and
-- whether it is a FENCE.I.
pub record Outcome : Type 0 where
  pub rd : ℕ
  pub value : ℕ
  pub ctl : Option ℕ
  pub next_pc : ℕ
  pub csrs : Csrs
  pub dummies : DummyUnit
  pub fence : Bool

-- What the turn of a cycle leaves: the registers; the address of the next real instruction; where the fetch side
-- begins anew; the register that is written, and its value; whether a FENCE.I retires; and the event, with the cycle
-- 0.
pub record Effect : Type 0 where
  pub csrs : Csrs
  pub dummies : DummyUnit
  pub next_pc : ℕ
  pub redirect : Option ℕ
  pub write : Option (ℕ × ℕ)
  pub fence : Bool
  pub happens : Option Event

-- ---- an instruction that retires

-- the address of the next instruction
abbrev pub following : IdState → ℕ
following st = (st.pc + (if is_long st.word then 4 else 2)) % 2 ^ 32

-- the CSRs after an instruction that writes none
abbrev pub ticked : State → Csrs
ticked x = tick_of x.csrs true None

-- a value for a register, where to go on, and nothing else
unfoldable pub plain_outcome : State → ℕ → ℕ → ℕ → Outcome
plain_outcome x rd value next =
    record { rd = rd; value = value; ctl = None; next_pc = next; csrs = ticked x; dummies = x.dummies; fence = false }

-- the access of a row, or a stand-in where it has none: a load of four bytes at 0
abbrev pub access_or : Option Access → Access
access_or (Some w) = w
access_or None = record { addr = 0; size = 4; store = false; value = 0 }

-- the old value of a CSR, 0 where the table has none or the mode may not read it
abbrev pub csr_value : Option ℕ → ℕ
csr_value (Some v) = v
csr_value None = 0

-- the write of a CSR: the counters move before it, and a write of secureseed is the dummies' seed
unfoldable pub csr_written : State → Bool → ℕ → ℕ → ℕ → ℕ → Outcome
csr_written x true rd old value addr = record (plain_outcome x rd old (following x.id)) {
  ctl = if is_control_at addr then Some value else None;
  csrs = write_of (tick_of x.csrs true (Some addr)) addr value;
  dummies = if addr == 0x7c1 then seeded value x.dummies else x.dummies;
}
csr_written x false rd old value addr = plain_outcome x rd old (following x.id)

-- a CSR instruction, by whether it writes and the value of its source
unfoldable pub csr_outcome : State → CsrOp → Bool → ℕ → ℕ → ℕ → ℕ → Outcome
csr_outcome x op writing rd source addr lines =
    let old = csr_value (csr_read (values x.csrs) addr lines) in
    csr_written x writing rd old (written op old source) addr

-- by the row
unfoldable pub outcome_by : Option Insn → State → Sight → ℕ → Outcome
outcome_by (Some (Lui rd imm)) x g lines = plain_outcome x rd imm (following x.id)
outcome_by (Some (Auipc rd imm)) x g lines = plain_outcome x rd ((x.id.pc + imm) % 2 ^ 32) (following x.id)
outcome_by (Some (Jal rd imm)) x g lines = plain_outcome x rd (following x.id) ((x.id.pc + imm) % 2 ^ 32)
outcome_by (Some (Jalr rd rs1 imm)) x g lines = plain_outcome x rd (following x.id) ((g.a + imm) % 2 ^ 32 / 2 * 2)
outcome_by (Some (Branch op rs1 rs2 imm)) x g lines =
    plain_outcome x 0 0 (if branch_of op g.a g.b then (x.id.pc + imm) % 2 ^ 32 else following x.id)
outcome_by (Some (Load op rd rs1 imm)) x g lines =
    plain_outcome x rd (gather_of op (access_or g.access).addr g.ls.first g.ls.second) (following x.id)
outcome_by (Some (AluImm op rd rs1 imm)) x g lines = plain_outcome x rd (alu_of op g.a imm) (following x.id)
outcome_by (Some (Alu op rd rs1 rs2)) x g lines = plain_outcome x rd (alu_of op g.a g.b) (following x.id)
outcome_by (Some (MulDiv op rd rs1 rs2)) x g lines = plain_outcome x rd (result_of g.md) (following x.id)
outcome_by (Some (Csr op rd src imm addr)) x g lines =
    csr_outcome x op (writes op src) rd (if imm then src else g.a) addr lines
outcome_by (Some FenceI) x g lines = record (plain_outcome x 0 0 (following x.id)) { fence = true }
outcome_by (Some Mret) x g lines =
    record (plain_outcome x 0 0 x.csrs.mepc) { csrs = with_regs (ticked x) (leave_of (trap_regs (values x.csrs))) }
outcome_by insn x g lines = plain_outcome x 0 0 (following x.id)

-- where the fetch side begins anew, if the turn redirects
abbrev pub target_if : Bool → ℕ → Option ℕ
target_if true target = Some target
target_if false target = None

-- what it gives to its event and to the register file
abbrev pub yield_of : Outcome → Yield
yield_of o = record { rd = o.rd; value = o.value; ctl = o.ctl }

-- its event: x0 isn't written, and the operands are told where timing may depend on them
abbrev pub retirement_by : IdState → Sight → Yield → Bool → Event
retirement_by st g y fixed =
    event.Retire 0 st.pc (stage_word st) y.rd (if y.rd == 0 then 0 else y.value) g.access y.ctl
    (if fixed then None else Some (g.a, g.b))

-- the same of what it comes to: the operands are left out where cpuctrl asks for fixed timing
abbrev pub retirement_of : State → Sight → Outcome → Event
retirement_of x g o = retirement_by x.id g (yield_of o) (is_fixed x.csrs)

-- the register that it writes, and its value
abbrev pub written_by : Outcome → Option (ℕ × ℕ)
written_by o = if o.rd == 0 then None else Some (o.rd, o.value)

-- what a row that retires leaves: its outcome, a fetch at the next address if it redirects, and its event
unfoldable pub retires : State → Sight → Bool → Outcome → Effect
retires x g redirect o = record {
  csrs = o.csrs;
  dummies = o.dummies;
  next_pc = o.next_pc;
  redirect = target_if redirect o.next_pc;
  write = written_by o;
  fence = o.fence;
  happens = Some (retirement_of x g o);
}

-- ---- a cycle without an event, a trap, and an interrupt

-- a cycle in which nothing retires: mcycle may move, minstret does not, and all else stays as it was
unfoldable pub rests : State → Effect
rests x = record {
  csrs = tick_of x.csrs false None;
  dummies = x.dummies;
  next_pc = x.next_pc;
  redirect = None;
  write = None;
  fence = false;
  happens = None;
}

-- a trap with this cause and value, of an access at this address
unfoldable pub fails : State → ℕ → ℕ → ℕ → Effect
fails x cause tval addr =
    let r = trap_regs (values x.csrs) in
    record (rests x) {
      csrs = with_regs (tick_of x.csrs false None) (enter_of r x.id.pc cause false tval);
      next_pc = enter_target r cause false;
      redirect = Some (enter_target r cause false);
      happens = Some (event.Trap 0 x.id.pc (if cause == fetch_fault then 0 else stage_word x.id) cause tval addr);
    }

-- a portion of an access failed
unfoldable pub portion_fails : State → Access → Bool → Effect
portion_fails x w second = fails x (if w.store then store_fault else load_fault) (portion_addr w.addr second) w.addr

-- for another cause mtval is the address of the unsound parcel or the word that is no instruction, else 0
abbrev pub trap_value_of : State → ℕ → ℕ
trap_value_of x cause =
    if cause == fetch_fault then (if x.id.fault == 2 then (x.id.pc + 2) % 2 ^ 32 else x.id.pc) else
    if cause == illegal_instruction then stage_word x.id else
    0

-- a trap for another cause than a failed access: the address of an access in its event is 0
unfoldable pub cause_fails : State → ℕ → Effect
cause_fails x cause = fails x cause (trap_value_of x cause) 0

-- the cause of a row that traps; without one it stands for an illegal instruction
abbrev pub cause_or : Option ℕ → ℕ
cause_or (Some cause) = cause
cause_or None = illegal_instruction

-- the interrupt of this number
unfoldable pub interrupts : State → ℕ → Effect
interrupts x number =
    let r = trap_regs (values x.csrs) in
    record (rests x) {
      csrs = with_regs (tick_of x.csrs false None) (enter_of r x.id.pc number true 0);
      next_pc = enter_target r number true;
      redirect = Some (enter_target r number true);
      happens = Some (event.Irq 0 x.id.pc number);
    }

-- ---- by the turn

-- what each turn leaves: of a trap, portions 1 and 2 are those of a failed access, and any other is the row's own cause
unfoldable pub effect_by : Turn → State → Sight → ℕ → Effect
effect_by Idle x g lines = rests x
effect_by (Hold st) x g lines = rests x
effect_by Dummy x g lines = rests x
effect_by Irq x g lines = interrupts x (x.id.word % 32)
effect_by (Trap portion) x g lines =
    if portion == 1 then portion_fails x (access_or g.access) false else
    if portion == 2 then portion_fails x (access_or g.access) true else
    cause_fails x (cause_or g.cause)
effect_by (Retire redirect) x g lines = retires x g redirect (outcome_by g.row x g lines)

-- ---- the fields that it moves, and what follows from the turn alone

-- the fields after an instruction that retires, and after a turn
abbrev pub carried : State → Outcome → State
carried x o = record x { csrs = o.csrs; dummies = o.dummies; next_pc = o.next_pc }

-- CSRs, dummies and the next address are all that a turn moves; the other units step on their own
abbrev pub left : State → Effect → State
left x e = record x { csrs = e.csrs; dummies = e.dummies; next_pc = e.next_pc }

-- a turn that redirects does so to the next instruction
abbrev pub redirects : Turn → Bool
redirects Irq = true
redirects (Trap portion) = true
redirects (Retire redirect) = redirect
redirects turn = false

-- a FENCE.I that retires
abbrev pub is_fence : Option Insn → Bool
is_fence (Some FenceI) = true
is_fence row = false

-- only a turn that retires one counts, so that one that is held empties no cache
abbrev pub fences : Turn → Option Insn → Bool
fences (Retire redirect) row = is_fence row
fences turn row = false
