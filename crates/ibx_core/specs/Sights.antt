-- What the stage sees in a cycle: its row, its operands, its access, its unit of multiplication, its cause, and what
-- it does. Our own rule; the causes are those of the Privileged ISA 1.12, 3.1.15.
use Rattle.std.specs.Prelude.{◌≡◌, ◌≤◌, IfSome, ℕ, ◌+◌, ◌%◌, ◌^◌, Bool, true, false, not, ◌&&◌, ◌||◌, ◌==◌, nat_lt}
use Rattle.std.specs.Prelude.{if◌then◌else◌, Option, Some, None, bit_and}
use Rattle.ibx_isa.specs.declared.event.Access.{Access}
use Rattle.ibx_isa.specs.Events.{IsStore}
use Rattle.ibx_isa.specs.declared.bus.Rsp.{Rsp}
use Rattle.ibx_isa.specs.declared.insn.Insn.{Insn}
use Rattle.ibx_isa.specs.declared.insn.Insn.TheVariants.{Load, Store, MulDiv, Csr, Ecall, Ebreak, Mret, Wfi}
use Rattle.ibx_isa.specs.declared.insn.MulKind.{MulKind}
use Rattle.ibx_isa.specs.Causes.{breakpoint, fetch_fault, illegal_instruction, machine_call, user_call}
use Rattle.ibx_isa.specs.ControlBits.{data_ind_timing}
use Rattle.ibx_isa.specs.Cost.{md_cost_of}
use Rattle.ibx_isa.specs.CsrWrites.{writes}
use Rattle.ibx_isa.specs.Lengths.{is_long}
use Rattle.ibx_isa.specs.Portions.{parts_of, portion_addr, portion_size, size_of}
use Rattle.ibx_isa.specs.Sources.{source1, source2}
use Rattle.ibx_isa.specs.WellFormed.{IsWellFormed}
use Rattle.ibx_isa.specs.Wires.{IsRequest}
use Rattle.ibx_decoder.specs.Instructions.{instruction_of}
use Rattle.ibx_secded.specs.Code.{payload_of}
use Rattle.ibx_csr.specs.declared.csrs.Csrs.{Csrs}
use Rattle.ibx_csr.specs.Fields.{values}
use Rattle.ibx_csr.specs.Modes.{access_machine, may_wait}
use Rattle.ibx_csr.specs.Values.{csr_can_write, csr_read, cfg_bytes, sec_of}
use Rattle.ibx_pmp.specs.declared.protection.AccessKind.TheVariants.{Read, Write}
use Rattle.ibx_pmp.specs.Ranges.{allowed}
use Rattle.ibx_lsu.specs.declared.unit.Lsu.{Lsu}
use Rattle.ibx_lsu.specs.declared.unit.LsTurn.{LsTurn}
use Rattle.ibx_lsu.specs.Turns.{turn_of as ls_turn, awaits}
use Rattle.ibx_muldiv.specs.declared.unit.MulDiv.{MulDiv as MulDivUnit}
use Rattle.ibx_muldiv.specs.Unit.{start_of, idle_of}
use Rattle.ibx_id.specs.declared.stage.IdState.{IdState}
use Rattle.ibx_id.specs.declared.stage.Turn.TheVariants.{Hold}
use Rattle.ibx_id.specs.Turns.{IsWithinWidths, turn_of}
use Rattle.ibx_core.specs.declared.sight.Sight.{Sight}
use Rattle.ibx_core.specs.declared.state.State.{State}
use Rattle.ibx_core.specs.Inputs.{Inputs}

-- ---- the row, and what it reads

-- the word as an instruction: a halfword is the low half alone
abbrev pub stage_word : IdState → ℕ
stage_word st = if is_long st.word then st.word else st.word % 2 ^ 16

-- the row of a real item or a dummy that was fetched soundly
unfoldable pub row_of : IdState → Option Insn
row_of st = if st.valid && nat_lt st.kind 2 && st.fault == 0 then instruction_of (stage_word st) else None

-- the register that a row reads, 0 where there is none
abbrev pub read_by : (Insn → ℕ) → Bool → Option Insn → ℕ
read_by source true (Some insn) = source insn
read_by source _ _ = 0

-- the registers that are read: those of the row, until a trap is found
unfoldable pub ra_of : IdState → ℕ
ra_of st = read_by source1 (nat_lt st.phase 4) (row_of st)

-- the same of the second source
unfoldable pub rb_of : IdState → ℕ
rb_of st = read_by source2 (nat_lt st.phase 4) (row_of st)

-- ---- loads and stores

-- the access of a row with these operands
unfoldable pub access_by : Option Insn → ℕ → ℕ → Option Access
access_by (Some (Load op rd rs1 imm)) a b =
    Some (record { addr = (a + imm) % 2 ^ 32; size = size_of op; store = false; value = 0 })
access_by (Some (Store size rs1 rs2 imm)) a b =
    Some (record { addr = (a + imm) % 2 ^ 32; size = size; store = true; value = b % 256 ^ size })
access_by insn a b = None

-- protection refuses a portion of an access
unfoldable pub is_denied : Csrs → Access → Bool → Bool
is_denied c w second =
    not (allowed (sec_of (values c)) (cfg_bytes (values c)) (values c).pmpaddr (portion_addr w.addr second)
    (portion_size w.addr w.size second) (if w.store then Write else Read) (access_machine (values c)))

-- an access that crosses a word has a second portion
abbrev pub has_second : Access → Bool
has_second w = parts_of w.addr w.size == 2

-- the portion, 1 or 2, that protection refuses, else 0
unfoldable pub refused_by : Csrs → Option Access → ℕ
refused_by c None = 0
refused_by c (Some w) = if is_denied c w false then 1 else if has_second w && is_denied c w true then 2 else 0

-- there is an access: the row of a real item is a load or a store
abbrev pub is_some_access : Option Access → Bool
is_some_access (Some w) = true
is_some_access None = false

-- what an active access does in the cycle
unfoldable pub turn_by : Bool → Option Access → Lsu → Rsp → LsTurn
turn_by true (Some w) ls rsp = ls_turn ls w rsp
turn_by active access ls rsp = awaits

-- ---- the cause that the stage's fields, the row, the mode and the table of CSRs give

-- the CSR can't be read: there is none at the address, or not for this mode
abbrev pub lacks_value : Option ℕ → Bool
lacks_value None = true
lacks_value (Some v) = false

-- a CSR that isn't there or not for this mode, or a write where none can be made
unfoldable pub csr_cause : Csrs → Bool → ℕ → Option ℕ
csr_cause c writing addr =
    if lacks_value (csr_read (values c) addr 0) || (writing && not (csr_can_write (values c) addr))
    then Some illegal_instruction else None

-- by the row of an item that was fetched soundly
unfoldable pub row_cause : Csrs → Option Insn → Option ℕ
row_cause c (Some (Csr op rd src imm addr)) = csr_cause c (writes op src) addr
row_cause c (Some Ecall) = Some (if c.priv_ then machine_call else user_call)
row_cause c (Some Ebreak) = Some breakpoint
row_cause c (Some Mret) = if c.priv_ then None else Some illegal_instruction
row_cause c (Some Wfi) = if may_wait (values c) then None else Some illegal_instruction
row_cause c (Some insn) = None
row_cause c None = Some illegal_instruction

-- an unsound parcel is a fetch fault, whatever the row; else the row gives the cause
unfoldable pub cause_of : Csrs → ℕ → Option Insn → Option ℕ
cause_of c fault row = if fault == 0 then row_cause c row else Some fetch_fault

-- ---- multiplication and division

-- the unit in this cycle: started in the row's first cycle, and as it was kept in a later one
unfoldable pub md_by : Bool → Option Insn → MulDivUnit → ℕ → ℕ → Bool → MulKind → MulDivUnit
md_by true (Some (MulDiv op rd rs1 rs2)) md a b fixed mul = start_of op a b fixed mul
md_by false (Some (MulDiv op rd rs1 rs2)) md a b fixed mul = md
md_by first insn md a b fixed mul = idle_of

-- the cycles that the row takes beyond its first
unfoldable pub cost_by : Option Insn → ℕ → Bool → MulKind → ℕ
cost_by (Some (MulDiv op rd rs1 rs2)) b fixed mul = md_cost_of op b fixed mul
cost_by insn b fixed mul = 0

-- ---- all that the stage sees

-- a real item, and timing that doesn't depend on data
abbrev pub is_real : IdState → Bool
is_real st = st.valid && st.kind == 0

-- bit 1 of cpuctrl is set: timing doesn't depend on data
abbrev pub is_fixed : Csrs → Bool
is_fixed c = not (bit_and c.cpuctrl data_ind_timing == 0)

-- for a dummy timing is fixed
abbrev pub fixed_in : State → Bool
fixed_in x = x.id.kind == 1 || is_fixed x.csrs

-- an access that nothing refuses, until a portion failed
abbrev pub is_active : State → Option Access → Bool
is_active x access = is_some_access access && refused_by x.csrs access == 0 && nat_lt x.id.phase 2

-- with the row, the operands, the access, and the cause
unfoldable pub sight_with : Option Insn → ℕ → ℕ → Option Access → Option ℕ → State → Inputs → Sight
sight_with row a b access cause x i =
    let ls = turn_by (is_active x access) access x.ls i.drsp in
    record {
      row = row;
      a = a;
      b = b;
      md = md_by (x.id.phase == 0) row x.md a b (fixed_in x) i.mul;
      access = access;
      active = is_active x access;
      ls = ls;
      cause = cause;
      turn = turn_of x.id (record {
        insn = row;
        a = a;
        b = b;
        fixed = fixed_in x;
        cost = cost_by row b (fixed_in x) i.mul;
        wake = not (bit_and i.lines x.csrs.mie == 0);
        trap = cause;
        ls_done = ls.done;
        ls_fault = if refused_by x.csrs access == 0 then ls.fault else refused_by x.csrs access;
      });
    }

-- a real item alone has an access and a cause
abbrev pub access_if : Bool → Option Insn → ℕ → ℕ → Option Access
access_if real row a b = if real then access_by row a b else None

-- no exception comes of a dummy, an interrupt or an empty stage
abbrev pub cause_if : Bool → State → Option Insn → Option ℕ
cause_if real x row = if real then cause_of x.csrs x.id.fault row else None

-- the operands are the register words on the wires without their check bits
unfoldable pub sight_of : State → Inputs → Sight
sight_of x i =
    let a = payload_of 32 i.rega in
    let b = payload_of 32 i.regb in
    let row = row_of x.id in
    sight_with row a b (access_if (is_real x.id) row a b) (cause_if (is_real x.id) x row) x i

-- ---- widths

-- the row is well formed, the access has at most four bytes and is a store for a store's row alone, its request is one
-- that a port takes, and what is held keeps its widths
pub record IsSight (x : State) (g : Sight) : Type 0 where
  pub row : IfSome g.row IsWellFormed
  pub access : IfSome g.access (λ w. w.size ≤ 4)
  pub stores : IsStore g.access → IsStore (access_by g.row g.a g.b)
  pub request : IsRequest g.ls.req
  pub held : (next : IdState) → g.turn ≡ Hold next → IsWithinWidths x.id → IsWithinWidths next
