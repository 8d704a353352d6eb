-- An instruction in its last cycle, by what is fetched and by its row.
use Rattle.std.proofs.Common.{◌≡◌, ℕ, ◌<◌, Bool, true, false, List, map, Option, Some, None, refl, ap, ap₂, ◌∙◌}
use Rattle.std.specs.Prelude.{IfSome, ◌&&◌, ◌==◌, if◌then◌else◌, nat_lt, slice_index}
use Rattle.std.proofs.lemmas.Bool.{lt-ltb}
use Rattle.ibx_secded.specs.Code.{encode_of, payload_of}
use Rattle.ibx_isa.specs.declared.insn.Insn.{Insn}
use Rattle.ibx_isa.specs.declared.insn.Insn.TheVariants.{Lui, Auipc, Jal, Jalr, Branch, Load, Store, AluImm, Alu}
use Rattle.ibx_isa.specs.declared.insn.Insn.TheVariants.{MulDiv, Csr, Fence, FenceI, Ecall, Ebreak, Mret, Wfi}
use Rattle.ibx_isa.specs.declared.event.View.{View}
use Rattle.ibx_isa.specs.Views.{view_of}
use Rattle.ibx_arch.specs.declared.fetched.Fetched.{Fetched}
use Rattle.ibx_arch.specs.declared.fetched.Fetched.TheVariants.{Unsound, Instruction}
use Rattle.ibx_decoder.specs.Instructions.{instruction_of}
use Rattle.ibx_arch.specs.Step.{after_fetch, decoded, finished}
use Rattle.ibx_isa.specs.Sources.{source1, source2}
use Rattle.ibx_time.specs.Settings.{lines_in, settings_of}
use Rattle.ibx_time_invariant.proofs.Stages.{view_phase}
use Rattle.ibx_time_decode.proofs.Accesses.{IsNamed, named}
use Rattle.ibx_time_decode.proofs.SeesStage.{Fields, no_row, operand, row_is}
use Rattle.ibx_time_retire.proofs.Insn.{Case, Ended, Holds, Known, Meets, cause_ends, effect_now, now}
use Rattle.ibx_time_retire.proofs.Stage.{IsFetch, faulted, stage_word_is}
use Rattle.ibx_time_retire.proofs.Plain.{insn_step}
use Rattle.ibx_time_retire.proofs.Simple.{RowEnds, alu_ends, alu_imm_ends, auipc_ends, branch_ends, ebreak_ends}
use Rattle.ibx_time_retire.proofs.Simple.{ecall_ends, fence_ends, illegal_ends, jal_ends, jalr_ends, lui_ends, wfi_ends}
use Rattle.ibx_time_retire.proofs.Csrs.{csr_ends, fencei_ends, mret_ends}
use Rattle.ibx_time_retire.proofs.Stores.{store_ends}
use Rattle.ibx_core.specs.Sights.{access_by, cause_of, is_real, ra_of, rb_of, read_by, row_of, row_cause}

-- ---- the sight of the case

-- what the stage sees, by its fields
pub record Seen (m : Case) (rega regb : ℕ) : Type 0 where
  pub row : m.g.row ≡ row_of m.core.id
  pub a : m.g.a ≡ payload_of 32 rega
  pub b : m.g.b ≡ payload_of 32 regb
  pub access : m.g.access ≡ (if is_real m.core.id then access_by (row_of m.core.id) m.g.a m.g.b else None)
  pub cause : m.g.cause ≡ (if is_real m.core.id then cause_of m.core.csrs m.core.id.fault (row_of m.core.id) else None)

-- the interrupt lines of the cycle
abbrev pub Lines : Case → ℕ
Lines m = lines_in (settings_of m.s) m.c

-- the rows that the units answer
abbrev pub OthersEnd : Case → ℕ → ℕ → Insn → Type 0
OthersEnd m word len (Load op rd rs1 imm) = RowEnds m word len (Lines m) (Load op rd rs1 imm)
OthersEnd m word len (MulDiv op rd rs1 rs2) = RowEnds m word len (Lines m) (MulDiv op rd rs1 rs2)
OthersEnd m word len insn = Unit {0}

-- every row ends as its step
insn_ends : (m : Case) (word len : ℕ) (insn : Insn) → OthersEnd m word len insn → RowEnds m word len (Lines m) insn
insn_ends m word len (Lui rd imm) o k t hd = lui_ends m word len (Lines m) rd imm k t hd
insn_ends m word len (Auipc rd imm) o k t hd = auipc_ends m word len (Lines m) rd imm k t hd
insn_ends m word len (Jal rd imm) o k t hd = jal_ends m word len (Lines m) rd imm k t hd
insn_ends m word len (Jalr rd rs1 imm) o k t hd = jalr_ends m word len (Lines m) rd rs1 imm k t hd
insn_ends m word len (Branch op rs1 rs2 imm) o k t hd = branch_ends m word len (Lines m) rs1 rs2 imm op k t hd
insn_ends m word len (Load op rd rs1 imm) o k t hd = o k t hd
insn_ends m word len (Store size rs1 rs2 imm) o k t hd = store_ends m word len (Lines m) size rs1 rs2 imm k t hd
insn_ends m word len (AluImm op rd rs1 imm) o k t hd = alu_imm_ends m word len (Lines m) rd rs1 imm op k t hd
insn_ends m word len (Alu op rd rs1 rs2) o k t hd = alu_ends m word len (Lines m) rd rs1 rs2 op k t hd
insn_ends m word len (MulDiv op rd rs1 rs2) o k t hd = o k t hd
insn_ends m word len (Csr op rd src imm addr) o k t hd = csr_ends m word len rd src addr op imm k t hd
insn_ends m word len Fence o k t hd = fence_ends m word len (Lines m) k t hd
insn_ends m word len FenceI o k t hd = fencei_ends m word len (Lines m) k t hd
insn_ends m word len Ecall o k t hd = ecall_ends m word len (Lines m) k t hd
insn_ends m word len Ebreak o k t hd = ebreak_ends m word len (Lines m) k t hd
insn_ends m word len Mret o k t hd = mret_ends m word len (Lines m) k t hd
insn_ends m word len Wfi o k t hd = wfi_ends m word len (Lines m) k t hd

-- ---- what the stage holds

-- a valid item of kind 0 is real
real_by : (valid : Bool) (kind : ℕ) → valid ≡ true → kind ≡ 0 → (valid && kind == 0) ≡ true
real_by valid kind e k = rw (e, k) refl

-- before phase 4 the register that is read is the row's own source
phase_by : (insn : Insn) (source : Insn → ℕ) (phase : ℕ) (o : Option Insn) → o ≡ Some insn → phase < 4
    → read_by source (nat_lt phase 4) o ≡ source insn
phase_by insn source phase o e l = rw (e, lt-ltb phase 4 l) refl

-- so the stage holds the instruction
holds_is : (m : Case) (word len : ℕ) (insn : Insn) (v : View) (regs : List ℕ) → Known m
    → Seen m (slice_index regs (ra_of m.core.id)) (slice_index regs (rb_of m.core.id))
    → regs ≡ map (encode_of 32 7) m.h.state.regs → IsFetch m.h.state.pc (Instruction word len)
    → Fields (Instruction word len) m.h.state.pc m.core.id → ((view_phase (Some v) == 4) ≡ false → m.core.id.phase < 4)
    → instruction_of word ≡ Some insn → IsNamed insn → Holds m word len insn v
unfolding ra_of rb_of
holds_is m word len insn v regs k n er g f ph e nm =
    let row : row_of m.core.id ≡ Some insn = row_is m.h.state.pc word len m.core.id g.1 f ∙ e in
    let real : is_real m.core.id ≡ true = real_by m.core.id.valid m.core.id.kind f.valid f.kind in
    record {
      insn_is = e;
      fetched = stage_word_is m.h.state.pc word len m.core.id g f;
      word_is = f.word;
      len_is = g.0;
      row = n.row ∙ row;
      operands_are = λ q. (
        n.a ∙ ap (λ x. payload_of 32 (slice_index regs x))
            (phase_by insn source1 m.core.id.phase (row_of m.core.id) row (ph q))
            ∙ operand m.h.state regs (source1 insn) er nm.1 k.good.regs_count k.good.regs_low k.good.zero_is,
        n.b ∙ ap (λ x. payload_of 32 (slice_index regs x))
            (phase_by insn source2 m.core.id.phase (row_of m.core.id) row (ph q))
            ∙ operand m.h.state regs (source2 insn) er nm.2 k.good.regs_count k.good.regs_low k.good.zero_is,
      );
      access = n.access ∙ ap (λ b. if b then access_by (row_of m.core.id) m.g.a m.g.b else None) real
          ∙ ap (λ o. access_by o m.g.a m.g.b) row;
      cause = n.cause ∙ ap (λ b. if b then cause_of m.core.csrs m.core.id.fault (row_of m.core.id) else None) real
          ∙ ap (λ o. cause_of m.core.csrs m.core.id.fault o) row
          ∙ ap (λ x. cause_of m.core.csrs x (Some insn)) f.fault;
    }

-- a word that is no instruction is illegal, and a fault of the fetch is cause 1
no_cause : (m : Case) → cause_of m.core.csrs 0 None ≡ Some 2
unfolding cause_of row_cause
no_cause m = refl

-- a fetch that failed has cause 1, by its first parcel or its second
fault_cause : (m : Case) (fault : ℕ) → (fault == 0) ≡ false → cause_of m.core.csrs fault None ≡ Some 1
unfolding cause_of
fault_cause m fault e = rw e refl

-- ---- by what is fetched

-- what was decoded ends as its step
decoded_ends : (m : Case) (word len : ℕ) (regs : List ℕ) (o : Option Insn) → Known m
    → Seen m (slice_index regs (ra_of m.core.id)) (slice_index regs (rb_of m.core.id))
    → regs ≡ map (encode_of 32 7) m.h.state.regs → IsFetch m.h.state.pc (Instruction word len)
    → Fields (Instruction word len) m.h.state.pc m.core.id → instruction_of word ≡ o → IfSome o IsNamed
    → ((view_phase (Some (view_of (decoded (now m) m.c word len (Lines m) o).event)) == 4)
    ≡ false → m.core.id.phase < 4)
    → Meets m (decoded (now m) m.c word len (Lines m) o) → IfSome o (OthersEnd m word len)
    → Ended m (effect_now m) (decoded (now m) m.c word len (Lines m) o)
decoded_ends m word len regs None k n er g f e nm ph t others =
    let real : is_real m.core.id ≡ true = real_by m.core.id.valid m.core.id.kind f.valid f.kind in
    illegal_ends m word None k t
    (n.cause ∙ ap (λ b. if b then cause_of m.core.csrs m.core.id.fault (row_of m.core.id) else None) real
    ∙ ap (cause_of m.core.csrs m.core.id.fault) (row_is m.h.state.pc word len m.core.id g.1 f ∙ e)
    ∙ ap (λ x. cause_of m.core.csrs x None) f.fault ∙ no_cause m)
    (stage_word_is m.h.state.pc word len m.core.id g f)
decoded_ends m word len regs (Some insn) k n er g f e nm ph t others =
    insn_ends m word len insn others k t
    (holds_is m word len insn (view_of (insn_step m word len (Lines m) insn).event) regs k n er g f ph e nm)

-- the same of what is fetched
abbrev pub OthersIn : Case → Fetched → Type 0
OthersIn m (Unsound addr) = Unit {0}
OthersIn m (Instruction word len) = IfSome (instruction_of word) (OthersEnd m word len)

-- so does what was fetched
pub fetched_ends : (m : Case) (f : Fetched) (regs : List ℕ) → Known m
    → Seen m (slice_index regs (ra_of m.core.id)) (slice_index regs (rb_of m.core.id))
    → regs ≡ map (encode_of 32 7) m.h.state.regs → IsFetch m.h.state.pc f → Fields f m.h.state.pc m.core.id
    → ((view_phase (Some (view_of (after_fetch (now m) m.c (Lines m) f).event)) == 4) ≡ false → m.core.id.phase < 4)
    → Meets m (after_fetch (now m) m.c (Lines m) f) → OthersIn m f
    → Ended m (effect_now m) (after_fetch (now m) m.c (Lines m) f)
unfolding finished
fetched_ends m (Unsound addr) regs k n er g f ph t others =
    let real : is_real m.core.id ≡ true = real_by m.core.id.valid m.core.id.kind f.valid f.kind in
    cause_ends m 0 1 addr None k t refl
    (n.cause ∙ ap (λ b. if b then cause_of m.core.csrs m.core.id.fault (row_of m.core.id) else None) real
    ∙ ap (cause_of m.core.csrs m.core.id.fault) (no_row m.h.state.pc addr m.core.id g.1 f)
    ∙ fault_cause m m.core.id.fault (ap (λ x. x == 0) f.fault ∙ g.1))
    (ap₂ (λ x y. faulted x y) f.fault k.pc ∙ g.0) refl
fetched_ends m (Instruction word len) regs k n er g f ph t others =
    decoded_ends m word len regs (instruction_of word) k n er g f refl (named word) ph t others
