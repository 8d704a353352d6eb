-- The rows of computations, jumps, branches and calls.
use Rattle.std.proofs.Common.{◌≡◌, ℕ, ◌+◌, ◌*◌, ◌/◌, ◌%◌, ◌^◌, Bool, true, false, Option, Some, None, refl}
use Rattle.std.proofs.Common.{ap, ap₂, ◌∙◌}
use Rattle.std.specs.Prelude.{◌||◌, ◌==◌, if◌then◌else◌, bit_and}
use Rattle.ibx_isa.specs.declared.insn.Insn.{Insn}
use Rattle.ibx_isa.specs.declared.insn.Insn.TheVariants.{Lui, Auipc, Jal, Jalr, Branch, AluImm, Alu, MulDiv, Fence}
use Rattle.ibx_isa.specs.declared.insn.Insn.TheVariants.{Ecall, Ebreak, Wfi}
use Rattle.ibx_isa.specs.declared.insn.AluOp.{AluOp}
use Rattle.ibx_isa.specs.declared.insn.BranchOp.{BranchOp}
use Rattle.ibx_isa.specs.declared.insn.MdOp.{MdOp}
use Rattle.ibx_isa.specs.Views.{view_of}
use Rattle.ibx_isa.specs.Alu.{alu_of, branch_of}
use Rattle.ibx_isa.specs.Multiply.{md_value}
use Rattle.ibx_csr.specs.Fields.{values}
use Rattle.ibx_csr.specs.Values.{CsrValues}
use Rattle.ibx_muldiv.specs.Unit.{result_of}
use Rattle.ibx_arch.specs.Effects.{execute, illegal, plain as plain_exec}
use Rattle.ibx_arch.specs.State.{reg}
use Rattle.ibx_arch.specs.Step.{Stepped, finished, operands}
use Rattle.ibx_isa.specs.Sources.{source1, source2}
use Rattle.ibx_time.specs.Controls.{is_fixed}
use Rattle.ibx_time.specs.Items.{Item, branching, is_turned, plain, retired_item}
use Rattle.ibx_time_retire.proofs.Insn.{Case, Ended, Holds, Known, Meets, cause_ends, effect_now, next_is, tval_of}
use Rattle.ibx_time_retire.proofs.Insn.{no_trap_phase, now}
use Rattle.ibx_time_retire.proofs.Plain.{IsPlainRow, follow_ends, insn_step, plain_ends, plain_step}
use Rattle.ibx_csr.specs.Modes.{may_wait}
use Rattle.ibx_core.specs.declared.state.State.{State as Core}
use Rattle.ibx_core.specs.Sights.{cause_of, stage_word, access_by, row_cause}
use Rattle.ibx_core.specs.Effects.{ticked, outcome_by, plain_outcome}
use Rattle.ibx_time_retire.proofs.Rows.{retires_as}

-- what is shown of an instruction
abbrev pub RowEnds : Case → ℕ → ℕ → ℕ → Insn → Type 0
RowEnds m word len lines insn =
    Known m → Meets m (insn_step m word len lines insn)
    → Holds m word len insn (view_of (insn_step m word len lines insn).event)
    → Ended m (effect_now m) (insn_step m word len lines insn)

-- each of these rows is plain
lui_row : (rd imm : ℕ) → IsPlainRow (Lui rd imm)
unfolding retired_item access_by
lui_row rd imm = record { none = λ a b. refl; seed = λ d. refl; fences = λ k c v n. refl }

-- AUIPC makes no access, and leaves the registers that time depends on
auipc_row : (rd imm : ℕ) → IsPlainRow (Auipc rd imm)
unfolding retired_item access_by
auipc_row rd imm = record { none = λ a b. refl; seed = λ d. refl; fences = λ k c v n. refl }

-- JAL is plain, with an item that only redirects
jal_row : (rd imm : ℕ) → IsPlainRow (Jal rd imm)
unfolding retired_item access_by
jal_row rd imm = record { none = λ a b. refl; seed = λ d. refl; fences = λ k c v n. refl }

-- JALR is as plain as JAL, though its target comes from a register
jalr_row : (rd rs1 imm : ℕ) → IsPlainRow (Jalr rd rs1 imm)
unfolding retired_item access_by
jalr_row rd rs1 imm = record { none = λ a b. refl; seed = λ d. refl; fences = λ k c v n. refl }

-- each computation with an immediate is plain
alu_imm_row : (op : AluOp) (rd rs1 imm : ℕ) → IsPlainRow (AluImm op rd rs1 imm)
unfolding retired_item access_by
alu_imm_row op rd rs1 imm = record { none = λ a b. refl; seed = λ d. refl; fences = λ k c v n. refl }

-- each computation on two registers is plain
alu_row : (op : AluOp) (rd rs1 rs2 : ℕ) → IsPlainRow (Alu op rd rs1 rs2)
unfolding retired_item access_by
alu_row op rd rs1 rs2 = record { none = λ a b. refl; seed = λ d. refl; fences = λ k c v n. refl }

-- each multiplication or division is plain: its item may only cost more
md_row : (op : MdOp) (rd rs1 rs2 : ℕ) → IsPlainRow (MulDiv op rd rs1 rs2)
unfolding retired_item access_by
md_row op rd rs1 rs2 = record { none = λ a b. refl; seed = λ d. refl; fences = λ k c v n. refl }

-- FENCE is plain: only FENCE.I fences
fence_row : IsPlainRow Fence
unfolding retired_item access_by
fence_row = record { none = λ a b. refl; seed = λ d. refl; fences = λ k c v n. refl }

-- WFI is plain, with an item that only sleeps
wfi_row : IsPlainRow Wfi
unfolding retired_item access_by
wfi_row = record { none = λ a b. refl; seed = λ d. refl; fences = λ k c v n. refl }

-- a branch, turned or not, leaves the fences of its item
branch_by : (b : Bool) (i : Item) → (branching b i).fences ≡ i.fences
branch_by true i = refl
branch_by false i = refl

-- a branch is plain, though it may cost a cycle more and redirect
branch_row : (op : BranchOp) (rs1 rs2 imm : ℕ) → IsPlainRow (Branch op rs1 rs2 imm)
unfolding retired_item access_by
branch_row op rs1 rs2 imm = record {
  none = λ a b. refl;
  seed = λ d. refl;
  fences = λ k c v n. branch_by (is_turned (is_fixed c) op v.ops) (plain n);
}

-- the operands of a row that retires
ops_of : (m : Case) (word len rd value next : ℕ) (insn : Insn)
    → Holds m word len insn (view_of (plain_step m word insn rd value next).event)
    → (m.g.a ≡ reg m.h.state (source1 insn)) × (m.g.b ≡ reg m.h.state (source2 insn))
unfolding view_of
ops_of m word len rd value next insn hd =
    hd.operands_are (no_trap_phase (view_of (plain_step m word insn rd value next).event) refl)

-- each ends as its step: LUI, AUIPC and the integer computations
pub lui_ends : (m : Case) (word len lines rd imm : ℕ) → RowEnds m word len lines (Lui rd imm)
unfolding execute finished outcome_by plain_outcome
lui_ends m word len lines rd imm k t hd =
    follow_ends m word len rd imm imm (Lui rd imm) (lui_row rd imm) k t hd refl refl

-- AUIPC ends as its step, with the sum of program counter and immediate
pub auipc_ends : (m : Case) (word len lines rd imm : ℕ) → RowEnds m word len lines (Auipc rd imm)
unfolding execute finished outcome_by plain_outcome
auipc_ends m word len lines rd imm k t hd =
    follow_ends m word len rd ((m.h.state.pc + imm) % 2 ^ 32) ((m.core.id.pc + imm) % 2 ^ 32) (Auipc rd imm)
    (auipc_row rd imm) k t hd refl
    (ap (λ pc. (pc + imm) % 2 ^ 32) k.pc)

-- a computation with an immediate ends as its step, since the stage reads the state's register
pub alu_imm_ends : (m : Case) (word len lines rd rs1 imm : ℕ) (op : AluOp)
    → RowEnds m word len lines (AluImm op rd rs1 imm)
unfolding execute finished outcome_by plain_outcome
alu_imm_ends m word len lines rd rs1 imm op k t hd =
    let next : ℕ = (m.h.state.pc + len) % 2 ^ 32 in
    let ops = ops_of m word len rd (alu_of op (reg m.h.state rs1) imm) next (AluImm op rd rs1 imm) hd in
    follow_ends m word len rd (alu_of op (reg m.h.state rs1) imm) (alu_of op m.g.a imm) (AluImm op rd rs1 imm)
    (alu_imm_row op rd rs1 imm) k t hd refl
    (ap (λ a. alu_of op a imm) ops.0)

-- so does a computation on two registers
pub alu_ends : (m : Case) (word len lines rd rs1 rs2 : ℕ) (op : AluOp) → RowEnds m word len lines (Alu op rd rs1 rs2)
unfolding execute finished outcome_by plain_outcome
alu_ends m word len lines rd rs1 rs2 op k t hd =
    let next : ℕ = (m.h.state.pc + len) % 2 ^ 32 in
    let ops = ops_of m word len rd (alu_of op (reg m.h.state rs1) (reg m.h.state rs2)) next (Alu op rd rs1 rs2) hd in
    follow_ends m word len rd (alu_of op (reg m.h.state rs1) (reg m.h.state rs2)) (alu_of op m.g.a m.g.b)
    (Alu op rd rs1 rs2) (alu_row op rd rs1 rs2) k t hd refl
    (ap₂ (λ a b. alu_of op a b) ops.0 ops.1)

-- a product or quotient ends as its step, if the unit's result is its value
pub md_ends : (m : Case) (word len lines rd rs1 rs2 : ℕ) (op : MdOp)
    → result_of m.g.md ≡ md_value op (reg m.h.state rs1) (reg m.h.state rs2)
    → RowEnds m word len lines (MulDiv op rd rs1 rs2)
unfolding execute finished outcome_by plain_outcome
md_ends m word len lines rd rs1 rs2 op e k t hd =
    follow_ends m word len rd (md_value op (reg m.h.state rs1) (reg m.h.state rs2)) (result_of m.g.md)
    (MulDiv op rd rs1 rs2) (md_row op rd rs1 rs2) k t hd refl e

-- FENCE ends as its step
pub fence_ends : (m : Case) (word len lines : ℕ) → RowEnds m word len lines Fence
unfolding execute finished outcome_by plain_outcome
fence_ends m word len lines k t hd = follow_ends m word len 0 0 0 Fence fence_row k t hd refl refl

-- ---- jumps

-- JAL and JALR end as their steps
pub jal_ends : (m : Case) (word len lines rd imm : ℕ) → RowEnds m word len lines (Jal rd imm)
unfolding execute finished outcome_by plain_outcome retired_item
jal_ends m word len lines rd imm k t hd =
    let link : ℕ = (m.h.state.pc + len) % 2 ^ 32 in
    let next : ℕ = (m.h.state.pc + imm) % 2 ^ 32 in
    plain_ends m word len rd link next (Jal rd imm) (jal_row rd imm) k t hd
    (ap (λ x. retires_as m.core m.g m.i.redirects rd x None ((m.core.id.pc + imm) % 2 ^ 32) (ticked m.core))
    (next_is m word len k hd.word_is hd.len_is)
    ∙ ap (λ pc. retires_as m.core m.g m.i.redirects rd link None ((pc + imm) % 2 ^ 32) (ticked m.core)) k.pc)

-- JALR ends as its step: its target has bit 0 cleared
pub jalr_ends : (m : Case) (word len lines rd rs1 imm : ℕ) → RowEnds m word len lines (Jalr rd rs1 imm)
unfolding execute finished outcome_by plain_outcome retired_item
jalr_ends m word len lines rd rs1 imm k t hd =
    let link : ℕ = (m.h.state.pc + len) % 2 ^ 32 in
    let next : ℕ = (reg m.h.state rs1 + imm) % 2 ^ 32 / 2 * 2 in
    let ops = ops_of m word len rd link next (Jalr rd rs1 imm) hd in
    plain_ends m word len rd link next (Jalr rd rs1 imm) (jalr_row rd rs1 imm) k t hd
    (ap (λ x. retires_as m.core m.g m.i.redirects rd x None ((m.g.a + imm) % 2 ^ 32 / 2 * 2) (ticked m.core))
    (next_is m word len k hd.word_is hd.len_is)
    ∙ ap (λ a. retires_as m.core m.g m.i.redirects rd link None ((a + imm) % 2 ^ 32 / 2 * 2) (ticked m.core)) ops.0)

-- ---- branches

-- a branch ends as its step
pub branch_ends : (m : Case) (word len lines rs1 rs2 imm : ℕ) (op : BranchOp)
    → RowEnds m word len lines (Branch op rs1 rs2 imm)
unfolding execute finished outcome_by plain_outcome retired_item
branch_ends m word len lines rs1 rs2 imm op k t hd =
    let a : ℕ = reg m.h.state rs1 in
    let b : ℕ = reg m.h.state rs2 in
    let insn : Insn = Branch op rs1 rs2 imm in
    let link : ℕ = (m.h.state.pc + len) % 2 ^ 32 in
    let next : ℕ = if branch_of op a b then (m.h.state.pc + imm) % 2 ^ 32 else link in
    let ops = ops_of m word len 0 0 next insn hd in
    plain_ends m word len 0 0 next insn (branch_row op rs1 rs2 imm) k t hd
    (ap (λ x. retires_as m.core m.g m.i.redirects 0 0 None
    (if branch_of op m.g.a m.g.b then (m.core.id.pc + imm) % 2 ^ 32 else x) (ticked m.core))
    (next_is m word len k hd.word_is hd.len_is)
    ∙ ap (λ pc. retires_as m.core m.g m.i.redirects 0 0 None
    (if branch_of op m.g.a m.g.b then (pc + imm) % 2 ^ 32 else link) (ticked m.core)) k.pc
    ∙ ap₂ (λ x y. retires_as m.core m.g m.i.redirects 0 0 None
    (if branch_of op x y then (m.h.state.pc + imm) % 2 ^ 32 else link) (ticked m.core)) ops.0 ops.1)

-- ---- calls and waits

-- a call's cause has no address and no value
call_cause : (b : Bool) → (((if b then 11 else 8) == 5 || (if b then 11 else 8) == 7) ≡ false)
    × (((if b then 11 else 8) == 1) ≡ false) × (((if b then 11 else 8) == 2) ≡ false)
call_cause true = (refl, refl, refl)
call_cause false = (refl, refl, refl)

-- any cause but a fetch's and an illegal word's leaves mtval at 0
call_tval : (x : Core) (cause : ℕ) → (cause == 1) ≡ false → (cause == 2) ≡ false → tval_of x cause ≡ 0
call_tval x cause e k = rw (e, k) refl

-- any cause but a fetch's shows the stage's word
call_word : (cause word stage : ℕ) → (cause == 1) ≡ false → stage ≡ word → (if cause == 1 then 0 else stage) ≡ word
call_word cause word stage e k = rw e k

-- ECALL has its mode's cause
call_is : (m : Case) → Known m → cause_of m.core.csrs 0 (Some Ecall) ≡ Some (if (now m).csrs.machine then 11 else 8)
unfolding cause_of values row_cause
call_is m k = ap (λ (w : CsrValues). Some (call_of w.machine)) k.csrs
  where
    call_of : Bool → ℕ
    call_of b = if b then 11 else 8

-- so ECALL ends as its step
pub ecall_ends : (m : Case) (word len lines : ℕ) → RowEnds m word len lines Ecall
unfolding execute finished
ecall_ends m word len lines k t hd =
    let b : Bool = (now m).csrs.machine in
    let cause : ℕ = if b then 11 else 8 in
    cause_ends m word cause 0 (operands (now m) Ecall) k t (call_cause b).0 (hd.cause ∙ call_is m k)
    (call_tval m.core cause (call_cause b).1 (call_cause b).2)
    (call_word cause word (stage_word m.core.id) (call_cause b).1 hd.fetched)

-- EBREAK has cause 3, and ends as its step
break_is : (m : Case) → cause_of m.core.csrs 0 (Some Ebreak) ≡ Some 3
unfolding cause_of row_cause
break_is m = refl

-- EBREAK ends as its step, with mtval 0
pub ebreak_ends : (m : Case) (word len lines : ℕ) → RowEnds m word len lines Ebreak
unfolding execute finished
ebreak_ends m word len lines k t hd =
    cause_ends m word 3 0 (operands (now m) Ebreak) k t refl (hd.cause ∙ break_is m) refl hd.fetched

-- an instruction that is illegal
pub illegal_ends : (m : Case) (word : ℕ) (ops : Option (ℕ × ℕ)) → Known m
    → Meets m (finished (now m).pc (now m).regs m.c word ops (illegal (now m) word)) → m.g.cause ≡ Some 2
    → stage_word m.core.id ≡ word
    → Ended m (effect_now m) (finished (now m).pc (now m).regs m.c word ops (illegal (now m) word))
unfolding finished
illegal_ends m word ops k t ec ew = cause_ends m word 2 word ops k t refl ec ew ew

-- a WFI that isn't allowed is illegal
wait_cause : (m : Case) → Known m → may_wait (now m).csrs ≡ false → cause_of m.core.csrs 0 (Some Wfi) ≡ Some 2
unfolding cause_of values row_cause
wait_cause m k e = ap (λ (w : CsrValues). wait_of (w.machine || bit_and w.mstatus 0x200000 == 0)) k.csrs ∙ ap wait_of e
  where
    wait_of : Bool → Option ℕ
    wait_of b = if b then None else Some 2

-- the step of WFI, by whether it is allowed
abbrev wait_step : Case → ℕ → ℕ → Bool → Stepped
wait_step m word len b = finished (now m).pc (now m).regs m.c word (operands (now m) Wfi)
    (if b then plain_exec (now m) 0 0 ((m.h.state.pc + len) % 2 ^ 32) else illegal (now m) word)

-- it ends as this step
wait_by : (m : Case) (word len : ℕ) (b : Bool) → may_wait (now m).csrs ≡ b → Known m → Meets m (wait_step m word len b)
    → Holds m word len Wfi (view_of (wait_step m word len b).event) → Ended m (effect_now m) (wait_step m word len b)
unfolding finished outcome_by plain_outcome
wait_by m word len true e k t hd = follow_ends m word len 0 0 0 Wfi wfi_row k t hd refl refl
wait_by m word len false e k t hd =
    illegal_ends m word (operands (now m) Wfi) k t (hd.cause ∙ wait_cause m k e) hd.fetched

-- so every WFI ends as its step
pub wfi_ends : (m : Case) (word len lines : ℕ) → RowEnds m word len lines Wfi
unfolding execute
wfi_ends m word len lines k t hd = wait_by m word len (may_wait (now m).csrs) refl k t hd
