-- What the stage sees of each item is that item.
use Rattle.std.proofs.Common.{◌≡◌, ◌≢◌, ℕ, suc, ◌+◌, ◌-◌, ◌%◌, ◌^◌, ◌<◌, ◌≤◌, Bool, true, false, not, ◌&&◌, ◌||◌, ◌==◌}
use Rattle.std.proofs.Common.{nat_lt, if◌then◌else◌, bit_and, List, length, slice_index, refl, sym, ap, ap₂, ◌∙◌}
use Rattle.std.proofs.Common.{subst, arith, Option, Some, None}
use Rattle.std.proofs.lemmas.Bool.{le-ltb, lt-ltb}
use Rattle.ibx_secded.specs.Code.{payload_of}
use Rattle.ibx_isa.specs.Cost.{md_cost_of}
use Rattle.ibx_isa.specs.declared.insn.Insn.{Insn}
use Rattle.ibx_isa.specs.declared.insn.Insn.TheVariants.{Lui, Auipc, Jal, Jalr, Branch, Load, Store, AluImm, Alu}
use Rattle.ibx_isa.specs.declared.insn.Insn.TheVariants.{MulDiv, Csr, Fence, FenceI, Ecall, Ebreak, Mret, Wfi}
use Rattle.ibx_isa.specs.declared.insn.MdOp.{MdOp}
use Rattle.ibx_isa.specs.declared.event.View.{View}
use Rattle.ibx_isa.specs.Views.{view_of}
use Rattle.ibx_csr.specs.declared.csrs.Csrs.{Csrs}
use Rattle.ibx_csr.specs.Fields.{values}
use Rattle.ibx_csr.specs.Values.{CsrValues, counters_after}
use Rattle.ibx_arch.specs.declared.fetched.Fetched.{Fetched}
use Rattle.ibx_arch.specs.declared.fetched.Fetched.TheVariants.{Unsound, Instruction}
use Rattle.ibx_arch.specs.Memory.{image_memory}
use Rattle.ibx_arch.specs.State.{reg}
use Rattle.ibx_arch.specs.Effects.{execute, illegal, trap}
use Rattle.ibx_arch.specs.Fetch.{is_sound}
use Rattle.ibx_isa.specs.Lengths.{is_long}
use Rattle.ibx_decoder.specs.Instructions.{instruction_of}
use Rattle.ibx_arch.specs.Step.{Choice, Interrupt, after_fetch, finished, instruction, interrupted, operands}
use Rattle.ibx_arch.specs.Step.{step_with}
use Rattle.ibx_isa.specs.Sources.{source1, source2}
use Rattle.ibx_time.specs.Settings.{Setup, lines_in, settings_of}
use Rattle.ibx_time.specs.Controls.{Ctl, ctl_of, is_fixed as fixes}
use Rattle.ibx_time.specs.Dummies.{dummy_cost}
use Rattle.ibx_dummy.specs.Dummies.{dummy_kind, dummy_word}
use Rattle.ibx_time.specs.Items.{Item, dummy_item, item_of, operand2, retired_item}
use Rattle.ibx_time.specs.Memories.{access_of, memory_at}
use Rattle.ibx_time.specs.Shown.{staged_by}
use Rattle.ibx_time.specs.Streams.{past}
use Rattle.ibx_time.specs.Times.{ADummy, AnInstruction, AnInterrupt, Kind}
use Rattle.ibx_time.specs.History.{Story, access_at, access_by as access_from, brought_parcels, choice_at, choice_by}
use Rattle.ibx_time.specs.History.{item_at, item_by, kind_of, view_with}
use Rattle.ibx_time_invariant.proofs.ArchSide.{ArchSees, eyes_at, eyes_in, fetched_word}
use Rattle.ibx_time_invariant.proofs.Quiets.{image_low, memory_low}
use Rattle.ibx_time_invariant.proofs.Stages.{ItemAt, PhaseAt, fault_by, fault_of, fetched, found, fresh, later, portion_phase}
use Rattle.ibx_time_invariant.proofs.Stages.{trap_phase, view_by, view_phase}
use Rattle.ibx_time_invariant.proofs.StageSide.{Eyes, HasOperands, Operands, Sees, Way, dummy, interrupts}
use Rattle.ibx_time_invariant.proofs.Ties.{IsPlaced, IsState, Tied}
use Rattle.ibx_time_decode.proofs.Admits.{brought_is, fetched_is, first_of_pair, second_of_pair}
use Rattle.ibx_time_decode.proofs.Fetches.{fetch_is, same_fetch}
use Rattle.ibx_time_decode.proofs.Quiet.{named_row, read1_low, read2_low}
use Rattle.ibx_time_decode.proofs.SeesDummy.{dummy_costs, dummy_few, dummy_long}
use Rattle.ibx_time_decode.proofs.SeesLoads.{load_way, store_way}
use Rattle.ibx_time_decode.proofs.SeesRows.{Fields as Decides, IsRow, SeesOps, alu_imm_way, alu_way, auipc_way, branch_way}
use Rattle.ibx_time_decode.proofs.SeesRows.{csr_way, ebreak_way, ecall_way, fence_i_way, fence_way, first_of_three, jal_way}
use Rattle.ibx_time_decode.proofs.SeesRows.{jalr_way, lui_way, md_fixed, md_way, mret_way, retired_is, retired_phase}
use Rattle.ibx_time_decode.proofs.SeesRows.{state_there, traps_with, view_done, wfi_way}
use Rattle.ibx_time_decode.proofs.SeesStage.{Fields, IsHeld, held_good, in_stage, no_row, operand, parcel_low, row_is}
use Rattle.ibx_id.specs.declared.stage.IdState.{IdState}
use Rattle.ibx_id.specs.Turns.{is_some_cause}
use Rattle.ibx_core.specs.Sights.{cause_of, cost_by, is_fixed, is_real, ra_of, rb_of, read_by, row_of, stage_word}
use Rattle.ibx_time_decode.proofs.Admits.{item_is}
use Rattle.ibx_core.specs.Sights.{row_cause, access_by, refused_by}

-- ---- the phase of the stage

-- a trap is in phase 4 at most
portion_most : (tval : ℕ) (o : Option ℕ) → portion_phase tval o ≤ 4
portion_most tval None = omega arith
portion_most tval (Some addr) = by (tval == addr)
  where
    by : (b : Bool) → (if b then 2 else 3) ≤ 4
    by true = omega arith
    by false = omega arith

-- without a trap the phase is 0, which is below 4 too
phase_if : (b : Bool) (n : ℕ) → n ≤ 4 → (if b then n else 0) ≤ 4
phase_if true n h = h
phase_if false n h = omega arith

-- so is the phase of a view, and it is 0 without one
view_most : (o : Option View) → view_phase o ≤ 4
view_most None = omega arith
view_most (Some v) = phase_if (v.kind == 1) (portion_phase v.tval v.addr) (portion_most v.tval v.addr)

-- so an item's trap is in phase 4 at most, whatever was admitted
trap_most : (s : Setup) (t : ℕ) (h : Story) → trap_phase s t h ≤ 4
unfolding trap_phase
trap_most s t h = view_most (view_by s h (choice_at s t h))

-- so another one than 4 is below it
phase_low : (s : Setup) (limit t : ℕ) (h : Story) (c phase : ℕ) → PhaseAt s limit t h c phase → trap_phase s t h ≢ 4
    → phase < 4
phase_low s limit t h c phase (fresh e now) ne = omega (arith, e)
phase_low s limit t h c phase (later e after to) ne = omega (arith, e)
phase_low s limit t h c phase (found e some after now) ne = omega (arith, e, ne, trap_most s t h)

-- ---- the operands and the fields

-- a row reads its sources
read_is : (source : Insn → ℕ) (b : Bool) (row : Option Insn) (insn : Insn) → b ≡ true → row ≡ Some insn
    → read_by source b row ≡ source insn
read_is source b row insn e k = ap₂ (λ x o. read_by source x o) e k

-- so the stage sees the state's registers
operands_are : (s : Setup) (limit t : ℕ) (h : Story) (c next_pc : ℕ) (id : IdState) (csrs : Csrs) (regs : List ℕ)
    (insn : Insn) → Tied s h c next_pc csrs regs → IsState s c h → PhaseAt s limit t h c id.phase
    → row_of id ≡ Some insn → trap_phase s t h ≢ 4
    → (payload_of 32 (slice_index regs (ra_of id)) ≡ reg h.state (source1 insn))
    × (payload_of 32 (slice_index regs (rb_of id)) ≡ reg h.state (source2 insn))
unfolding ra_of rb_of
operands_are s limit t h c next_pc id csrs regs insn ti st ph k ne =
    let low : nat_lt id.phase 4 ≡ true = lt-ltb id.phase 4 (phase_low s limit t h c id.phase ph ne) in (
      operand h.state regs (ra_of id) ti.regs_are (read1_low (nat_lt id.phase 4) (row_of id) (named_row id))
          st.good.regs_count st.good.regs_low st.good.zero_is
          ∙ ap (reg h.state) (read_is source1 (nat_lt id.phase 4) (row_of id) insn low k),
      operand h.state regs (rb_of id) ti.regs_are (read2_low (nat_lt id.phase 4) (row_of id) (named_row id))
          st.good.regs_count st.good.regs_low st.good.zero_is
          ∙ ap (reg h.state) (read_is source2 (nat_lt id.phase 4) (row_of id) insn low k),
    )

-- the fields decide as the state does, and whether timing is fixed
decides : (s : Setup) (h : Story) (c next_pc : ℕ) (csrs : Csrs) (regs : List ℕ) → Tied s h c next_pc csrs regs
    → Decides h csrs
unfolding values counters_after
decides s h c next_pc csrs regs t = record {
  machine = ap (λ (v : CsrValues). v.machine) t.values_are;
  mstatus = ap (λ (v : CsrValues). v.mstatus) t.values_are;
  mie = ap (λ (v : CsrValues). v.mie) t.values_are;
  ctl = t.ctl;
}

-- the core's fields fix timing just where the registers of the times do
fixed_there : (s : Setup) (h : Story) (c next_pc : ℕ) (csrs : Csrs) (regs : List ℕ) → Tied s h c next_pc csrs regs
    → is_fixed csrs ≡ fixes h.times.ctl
unfolding values counters_after
fixed_there s h c next_pc csrs regs t =
    ap (λ (v : CsrValues). not (bit_and v.cpuctrl 2 == 0)) t.values_are
    ∙ sym (ap (λ (k : Ctl). not (bit_and k.cpuctrl 2 == 0)) t.ctl)

-- ---- an instruction's row

-- operands by whether they are seen, or hidden
abbrev some_if : Bool → Option (ℕ × ℕ) → Option (ℕ × ℕ)
some_if b o = if b then o else None

-- operands by whether they are hidden
abbrev none_if : Bool → Option (ℕ × ℕ) → Option (ℕ × ℕ)
none_if b o = if b then None else o

-- these are the same
ops_by : (b : Bool) (a m : ℕ) → some_if b (Some (a, m)) ≡ none_if (not b) (Some (a, m))
ops_by true a m = refl
ops_by false a m = refl

-- so the stage sees the operands of the event
sees_ops : (h : Story) (insn : Insn) (a b : ℕ) (fixed : Bool) → h.times.ctl ≡ ctl_of h.state.csrs
    → fixed ≡ fixes h.times.ctl → a ≡ reg h.state (source1 insn) → b ≡ reg h.state (source2 insn)
    → SeesOps h (operands (state_there h) insn) a b fixed
unfolding operands counters_after
sees_ops h insn a b fixed ctl e ea eb = record {
  same_fixed = sym e;
  ops_is = ops_by (bit_and h.state.csrs.cpuctrl 2 == 0) (reg h.state (source1 insn)) (reg h.state (source2 insn))
      ∙ ap (λ u. none_if u (Some (reg h.state (source1 insn), reg h.state (source2 insn)))) (sym (e ∙ ap fixes ctl))
      ∙ ap₂ (λ p q. none_if fixed (Some (p, q))) (sym ea) (sym eb);
}

module _ (s : Setup) (t : ℕ) (h : Story) (c word size a b n : ℕ) (fixed : Bool) (id : IdState) (csrs : Csrs)
    (sound : id.fault ≡ 0)
    (tied : values csrs ≡ counters_after h.state.csrs n) (ctl : h.times.ctl ≡ ctl_of h.state.csrs)
    (ram : h.state.memory.ram ≡ s.image.ram) (dec : Decides h csrs) (fix : fixed ≡ fixes h.times.ctl) where
  -- the interrupt lines, what the stage sees of a row, and its operands in the event
  abbrev lines : ℕ
  lines = lines_in (settings_of s) c

  abbrev seen : Insn → Eyes
  seen insn = eyes_at (Some insn) a b true fixed id csrs lines s.mul

  abbrev ops_of : Insn → Option (ℕ × ℕ)
  ops_of insn = operands (state_there h) insn

  -- the item is the instruction of this row, and the stage reads its sources
  abbrev Row : Insn → Type 0
  Row insn = IsRow s t h insn word (ops_of insn)
      (execute (state_there h) insn word size (lines_in (settings_of s) h.state.stands))

  abbrev Reads : Insn → Type 0
  Reads insn = trap_phase s t h ≢ 4 → (a ≡ reg h.state (source1 insn)) × (b ≡ reg h.state (source2 insn))

  -- no trap is found
  not_four : (m : ℕ) → m ≡ 0 → m ≢ 4
  not_four m e z = absurd (omega (arith, e, z))

  -- the stage sees the operands of the event
  sees : (insn : Insn) → Reads insn → trap_phase s t h ≡ 0 → SeesOps h (ops_of insn) a b fixed
  sees insn reads z = let o = reads (not_four (trap_phase s t h) z) in sees_ops h insn a b fixed ctl fix o.0 o.1

  -- so it sees the row's way to end
  way_of : (insn : Insn) → Reads insn → Row insn → Way s t h c (seen insn)
  way_of (Lui rd imm) reads r = lui_way s t h c word size a b fixed id csrs lines sound rd imm (ops_of (Lui rd imm)) r
  way_of (Auipc rd imm) reads r =
      auipc_way s t h c word size a b fixed id csrs lines sound rd imm (ops_of (Auipc rd imm)) r
  way_of (Jal rd imm) reads r = jal_way s t h c word size a b fixed id csrs lines sound rd imm (ops_of (Jal rd imm)) r
  way_of (Jalr rd rs1 imm) reads r =
      jalr_way s t h c word size a b fixed id csrs lines sound rd rs1 imm (ops_of (Jalr rd rs1 imm)) r
  way_of (Branch op rs1 rs2 imm) reads r =
      branch_way s t h c word size a b fixed id csrs lines sound op rs1 rs2 imm (ops_of (Branch op rs1 rs2 imm))
      (sees (Branch op rs1 rs2 imm) reads) r
  way_of (Load op rd rs1 imm) reads r =
      load_way s t h c word size a b n fixed id csrs lines sound tied ctl ram op rd rs1 imm
      (ops_of (Load op rd rs1 imm)) (λ ne. (reads ne).0) r
  way_of (Store sz rs1 rs2 imm) reads r =
      store_way s t h c word size a b n fixed id csrs lines sound tied ctl ram sz rs1 rs2 imm
      (ops_of (Store sz rs1 rs2 imm)) reads r
  way_of (AluImm op rd rs1 imm) reads r =
      alu_imm_way s t h c word size a b fixed id csrs lines sound op rd rs1 imm (ops_of (AluImm op rd rs1 imm)) r
  way_of (Alu op rd rs1 rs2) reads r =
      alu_way s t h c word size a b fixed id csrs lines sound op rd rs1 rs2 (ops_of (Alu op rd rs1 rs2)) r
  way_of (MulDiv op rd rs1 rs2) reads r =
      md_way s t h c word size a b fixed id csrs lines sound op rd rs1 rs2 (ops_of (MulDiv op rd rs1 rs2))
      (sees (MulDiv op rd rs1 rs2) reads) r
  way_of (Csr op rd src imm addr) reads r =
      csr_way s t h c word size a b fixed id csrs lines sound op rd src imm addr (ops_of (Csr op rd src imm addr)) dec
      r
  way_of Fence reads r = fence_way s t h c word size a b fixed id csrs lines sound (ops_of Fence) r
  way_of FenceI reads r = fence_i_way s t h c word size a b fixed id csrs lines sound (ops_of FenceI) r
  way_of Ecall reads r = ecall_way s t h c word size a b fixed id csrs lines sound (ops_of Ecall) dec r
  way_of Ebreak reads r = ebreak_way s t h c word size a b fixed id csrs lines sound (ops_of Ebreak) r
  way_of Mret reads r = mret_way s t h c word size a b fixed id csrs lines sound (ops_of Mret) dec r
  way_of Wfi reads r = wfi_way s t h c word size a b fixed id csrs lines sound (ops_of Wfi) dec refl r

  -- an M row has its cost by the operands that are seen
  md_there : (op : MdOp) (p q : ℕ) (f : Bool) (ops : Option (ℕ × ℕ)) → ops ≡ (if f then None else Some (p, q))
      → md_cost_of op (operand2 ops) f s.mul ≡ md_cost_of op q f s.mul
  md_there op p q true ops e = md_fixed op (operand2 ops) q s.mul
  md_there op p q false ops e = ap (λ o. md_cost_of op (operand2 o) false s.mul) e

  -- so an M row has the state's operands, and costs what its item does
  md_operands : (op : MdOp) (rd rs1 rs2 : ℕ) → id.kind ≡ 0 → Reads (MulDiv op rd rs1 rs2) → Row (MulDiv op rd rs1 rs2)
      → Operands s t h (seen (MulDiv op rd rs1 rs2)) id op rs1 rs2
  unfolding view_of finished execute retired_item
  md_operands op rd rs1 rs2 kind reads r =
      let insn : Insn = MulDiv op rd rs1 rs2 in
      let v : View = view_done h word (ops_of insn)
      (execute (state_there h) insn word size (lines_in (settings_of s) h.state.stands)) in
      let zero_ : trap_phase s t h ≡ 0 = r.phase ∙ retired_phase v refl in
      let o = reads (not_four (trap_phase s t h) zero_) in
      let k : SeesOps h (ops_of insn) a b fixed = sees insn reads zero_ in
      record {
        first = o.0;
        second = o.1;
        fixed_is = fix ∙ sym (ap (λ m. m == 1 || fixes h.times.ctl) kind);
        cost_is = ap (λ (i : Item). i.cost) (r.item ∙ retired_is (settings_of s) h.times.ctl v insn refl r.decoded)
            ∙ ap (λ f. md_cost_of op (operand2 (ops_of insn)) f s.mul) k.same_fixed
            ∙ md_there op a b fixed (ops_of insn) k.ops_is;
      }

-- ---- the view of the instruction

-- the step of the instruction, from what is fetched
step_is : (s : Setup) (h : Story) → step_with (lines_in (settings_of s)) h.state (brought_parcels s h) h.state.stands
    ≡ after_fetch (state_there h) h.state.stands (lines_in (settings_of s) h.state.stands) (fetched s h)
unfolding step_with instruction
step_is s h =
    ap (λ x. step_with (lines_in (settings_of s)) h.state x h.state.stands) (brought_is s h)
    ∙ ap (after_fetch (state_there h) h.state.stands (lines_in (settings_of s) h.state.stands))
    (same_fetch h.state h.state.stands (first_of_pair s h) (second_of_pair s h) ∙ sym (fetched_is s h))

-- its view, by what is fetched
abbrev view_fetched : Setup → Story → Fetched → View
view_fetched s h f =
    view_of (after_fetch (state_there h) h.state.stands (lines_in (settings_of s) h.state.stands) f).event

-- the view of the history is this one
view_is : (s : Setup) (h : Story) (f : Fetched) → fetched s h ≡ f
    → view_with s h (brought_parcels s h) ≡ view_fetched s h f
view_is s h f e = ap (λ x. view_of x.event) (step_is s h) ∙ ap (view_fetched s h) e

-- the phase of an item's trap is that in the view of its choice
phase_there : (s : Setup) (t : ℕ) (h : Story) (kind : Kind) → kind_of s t h ≡ kind
    → trap_phase s t h ≡ view_phase (view_by s h (choice_by s h kind))
unfolding trap_phase
phase_there s t h kind e = ap (λ k. view_phase (view_by s h (choice_by s h k))) e

-- the access of an item is that of its choice
access_there : (s : Setup) (t : ℕ) (h : Story) (kind : Kind) → kind_of s t h ≡ kind
    → access_at s t h ≡ access_from s h (choice_by s h kind)
unfolding access_at
access_there s t h kind e = ap (λ k. access_from s h (choice_by s h k)) e

-- the view has the word that was fetched
view_word : (s : Setup) (h : Story) (word size : ℕ) (o : Option Insn) → instruction_of word ≡ o
    → (view_of (Rattle.ibx_arch.specs.Step.decoded (state_there h) h.state.stands word size
    (lines_in (settings_of s) h.state.stands) o).event).word ≡ word
view_word s h word size o e = Rattle.ibx_time_decode.proofs.Fetches.decoded_word (state_there h) h.state.stands word size
    (lines_in (settings_of s) h.state.stands) o

-- ---- the eyes, by the row and whether the item is real

-- the stage sees the item, by its row and its operands
abbrev SeesBy : Setup → ℕ → Story → ℕ → IdState → ℕ → ℕ → Bool → Csrs → Option Insn → Bool → Type 0
SeesBy s t h c id a b fixed csrs row real =
    HasOperands s t h (eyes_at row a b real fixed id csrs (lines_in (settings_of s) c) s.mul) id
    × Way s t h c (eyes_at row a b real fixed id csrs (lines_in (settings_of s) c) s.mul)

-- without a row there are no operands, and a cause
no_operands : (s : Setup) (t : ℕ) (h : Story) (v : Eyes) (id : IdState) → v.row ≡ None → HasOperands s t h v id
no_operands s t h v id e op rd rs1 rs2 k = absurd (none_row (sym e ∙ k))
  where
    none_row : {x : Insn} → None ≡ Some x → ⊥
    none_row e = cc

-- without a row the item traps: its fetch failed, or its word is illegal
cause_none : (csrs : Csrs) (fault : ℕ) → is_some_cause (cause_of csrs fault None) ≡ true
unfolding cause_of row_cause
cause_none csrs fault = by (fault == 0)
  where
    by : (b : Bool) → is_some_cause (if b then Some 2 else Some 1) ≡ true
    by true = refl
    by false = refl

-- a row is none: the fetch failed, or the word is illegal
none_sees : (s : Setup) (t : ℕ) (h : Story) (c : ℕ) (id : IdState) (a b : ℕ) (fixed : Bool) (csrs : Csrs) (view : View)
    → kind_of s t h ≡ AnInstruction → item_at s t h ≡ item_of (settings_of s) h.times.ctl view
    → trap_phase s t h ≡ view_phase (Some view) → view.kind ≡ 1 → view.addr ≡ None
    → SeesBy s t h c id a b fixed csrs None true
unfolding access_by refused_by
none_sees s t h c id a b fixed csrs view k i p e n =
    let v : Eyes = eyes_at None a b true fixed id csrs (lines_in (settings_of s) c) s.mul in
    (no_operands s t h v id refl, traps_with s t h c v view k i p e n refl refl (cause_none csrs id.fault))

-- one instruction
same_insn : (x y : Insn) → Some x ≡ Some y → x ≡ y
same_insn x y e = cc

-- an instruction is real, and its timing fixed by the registers alone
real_there : (id : IdState) → id.valid ≡ true → id.kind ≡ 0 → is_real id ≡ true
real_there id v k = ap₂ (λ b n. b && n == 0) v k

-- an item of kind 0 is no dummy, whose timing is always fixed
fixed_real : (id : IdState) (b : Bool) → id.kind ≡ 0 → (id.kind == 1 || b) ≡ b
fixed_real id b k = ap (λ n. n == 1 || b) k

module _ (s : Setup) (limit t : ℕ) (h : Story) (c next_pc : ℕ) (id : IdState) (csrs : Csrs) (regs : List ℕ)
    (ok : IsPlaced s) (ti : Tied s h c next_pc csrs regs) (st : IsState s c h) (item : ItemAt s t h id)
    (ph : PhaseAt s limit t h c id.phase) where
  -- the two operands that are read, whether timing is fixed, and what is seen with them
  abbrev ea : ℕ
  ea = payload_of 32 (slice_index regs (ra_of id))

  abbrev eb : ℕ
  eb = payload_of 32 (slice_index regs (rb_of id))

  abbrev fix : Bool
  fix = id.kind == 1 || is_fixed csrs

  abbrev Seen : Option Insn → Bool → Type 0
  Seen row real = SeesBy s t h c id ea eb fix csrs row real

  -- what is seen by the fields is what the eyes see
  to_eyes : (row : Option Insn) (real : Bool) → row_of id ≡ row → is_real id ≡ real → Seen row real
      → Sees s t h c id (eyes_in s c id csrs regs)
  to_eyes row real e k w =
      let v = subst (λ o. Seen o (is_real id)) (sym e) (subst (λ r. Seen row r) (sym k) w) in
      record { row_is = refl; operands = v.0; way = v.1 }

  -- ---- an instruction

  -- the stage holds what was fetched
  fields : kind_of s t h ≡ AnInstruction → (f : Fetched) → fetched s h ≡ f → id.word ≡ fetched_word f
      → Fields f h.state.pc id
  fields k f e w = record {
    valid = item.valid;
    kind = item.kind ∙ ap (λ x. (staged_by s h x).kind) k;
    word = w;
    fault = item.fault ∙ ap (fault_by s h) k ∙ ap (fault_of h.state.pc) e;
  }

  -- the grant that read the first parcel
  abbrev first_grant : ℕ
  first_grant = (past (settings_of s) h.times.stream (suc (length h.times.stream.enters))).grant

  -- a fetched word is all in the stage, and a fault of the fetch isn't 0
  held_there : (f : Fetched) → fetched s h ≡ f → IsHeld h.state.pc f
  held_there f e =
      subst (λ x. IsHeld h.state.pc x)
      (sym (fetched_is s h ∙ fetch_is h.state (first_of_pair s h) (second_of_pair s h)) ∙ e)
      (held_good (is_sound h.state.csrs h.state.memory.ram h.state.pc) (is_long (first_of_pair s h))
      (is_sound h.state.csrs h.state.memory.ram ((h.state.pc + 2) % 2 ^ 32)) h.state.pc (first_of_pair s h)
      (second_of_pair s h)
      (parcel_low (memory_at (image_memory s.image) h.writes first_grant) h.state.pc
      (λ x. memory_low (image_memory s.image) h.writes first_grant x (image_low s ok))) refl)

  -- so it sees the row, the word and what was fetched
  row_sees : (word size : ℕ) (insn : Insn) → kind_of s t h ≡ AnInstruction → id.kind ≡ 0 → id.fault ≡ 0
      → row_of id ≡ Some insn
      → IsRow s t h insn word (operands (state_there h) insn)
      (execute (state_there h) insn word size (lines_in (settings_of s) h.state.stands)) → Seen (Some insn) true
  row_sees word size insn k kind sound row r =
      let n : ℕ = c - h.state.stands in
      let reads : trap_phase s t h ≢ 4 → (ea ≡ reg h.state (source1 insn)) × (eb ≡ reg h.state (source2 insn)) =
      λ ne. operands_are s limit t h c next_pc id csrs regs insn ti st ph row ne in
      let fixes_ : fix ≡ fixes h.times.ctl =
      fixed_real id (is_fixed csrs) kind ∙ fixed_there s h c next_pc csrs regs ti in
      let dec : Decides h csrs = decides s h c next_pc csrs regs ti in (
        λ op rd rs1 rs2 e.
            let same : insn ≡ MulDiv op rd rs1 rs2 = same_insn insn (MulDiv op rd rs1 rs2) e in
            subst (λ x. Operands s t h (eyes_at (Some x) ea eb true fix id csrs (lines_in (settings_of s) c) s.mul) id
            op rs1 rs2) (sym same)
            (md_operands s t h c word size ea eb n fix id csrs sound ti.values_are ti.ctl st.good.ram_is dec fixes_ op rd
            rs1 rs2 kind
            (λ ne. operands_are s limit t h c next_pc id csrs regs (MulDiv op rd rs1 rs2) ti st ph (row ∙ e) ne)
            (subst (λ x. IsRow s t h x word (operands (state_there h) x)
            (execute (state_there h) x word size (lines_in (settings_of s) h.state.stands))) same r)),
        way_of s t h c word size ea eb n fix id csrs sound ti.values_are ti.ctl st.good.ram_is dec fixes_ insn reads r,
      )

  -- a word that is no instruction is seen as a trap, and any other by its row
  word_sees : (word size : ℕ) → kind_of s t h ≡ AnInstruction → fetched s h ≡ Instruction word size → (o : Option Insn)
      → instruction_of word ≡ o → id.kind ≡ 0 → id.fault ≡ 0 → row_of id ≡ o
      → view_with s h (brought_parcels s h)
      ≡ view_of (Rattle.ibx_arch.specs.Step.decoded (state_there h) h.state.stands word size
      (lines_in (settings_of s) h.state.stands) o).event → Seen o true
  unfolding finished view_of
  word_sees word size k e None d kind sound row v =
      none_sees s t h c id ea eb fix csrs (view_done h word None (illegal (state_there h) word)) k
      (item_is s t h AnInstruction k ∙ ap (item_of (settings_of s) h.times.ctl) v)
      (phase_there s t h AnInstruction k ∙ ap (λ x. view_phase (Some x)) v) refl refl
  word_sees word size k e (Some insn) d kind sound row v =
      row_sees word size insn k kind sound row (record {
        kind = k;
        decoded = d;
        item = item_is s t h AnInstruction k ∙ ap (item_of (settings_of s) h.times.ctl) v;
        phase = phase_there s t h AnInstruction k ∙ ap (λ x. view_phase (Some x)) v;
        access = access_there s t h AnInstruction k
            ∙ ap (λ w. access_of h.state (instruction_of w))
            (ap (λ (x : View). x.word) v ∙ view_word s h word size (Some insn) d) ∙ ap (access_of h.state) d;
      })

  -- a fetch that failed is seen as a trap, and a fetched word by what it decodes to
  fetched_sees : kind_of s t h ≡ AnInstruction → (f : Fetched) → fetched s h ≡ f
      → Sees s t h c id (eyes_in s c id csrs regs)
  unfolding finished view_of
  fetched_sees k (Unsound addr) e =
      let v : view_with s h (brought_parcels s h) ≡ view_fetched s h (Unsound addr) = view_is s h (Unsound addr) e in
      let w : id.word ≡ 0 = item.word ∙ ap (λ x. (staged_by s h x).word) k ∙ ap (λ (x : View). x.word) v in
      let f : Fields (Unsound addr) h.state.pc id = fields k (Unsound addr) e w in
      to_eyes None true (no_row h.state.pc addr id (held_there (Unsound addr) e) f) (real_there id f.valid f.kind)
      (none_sees s t h c id ea eb fix csrs (view_done h 0 None (trap (state_there h) 1 addr 0)) k
      (item_is s t h AnInstruction k ∙ ap (item_of (settings_of s) h.times.ctl) v)
      (phase_there s t h AnInstruction k ∙ ap (λ x. view_phase (Some x)) v) refl refl)
  fetched_sees k (Instruction word size) e =
      let v : view_with s h (brought_parcels s h) ≡ view_fetched s h (Instruction word size) =
      view_is s h (Instruction word size) e in
      let w : id.word ≡ word = item.word ∙ ap (λ x. (staged_by s h x).word) k ∙ ap (λ (x : View). x.word) v
      ∙ view_word s h word size (instruction_of word) refl in
      let f : Fields (Instruction word size) h.state.pc id = fields k (Instruction word size) e w in
      let row : row_of id ≡ instruction_of word =
      row_is h.state.pc word size id (held_there (Instruction word size) e) f in
      to_eyes (instruction_of word) true row (real_there id f.valid f.kind)
      (word_sees word size k e (instruction_of word) refl f.kind f.fault row v)

  -- ---- an interrupt, and a dummy

  -- an item that isn't real has no row
  row_if : (valid kind fault : Bool) (o : Option Insn) (b : Bool) → valid ≡ true → kind ≡ b → fault ≡ true
      → (if valid && kind && fault then o else None) ≡ (if b then o else None)
  row_if valid kind fault o true e k m = rw (e, k, m) refl
  row_if valid kind fault o false e k m = rw (e, k) refl

  -- an interrupt, a dummy, and so whatever is admitted
  interrupt_view : (number : ℕ) → (view_with s h (Interrupt number)).kind ≡ 2
  unfolding step_with interrupted view_of
  interrupt_view number = refl

  interrupt_sees : (number : ℕ) → kind_of s t h ≡ AnInterrupt number → Sees s t h c id (eyes_in s c id csrs regs)
  unfolding item_of row_of access_by refused_by
  interrupt_sees number k =
      let kind : id.kind ≡ 2 = item.kind ∙ ap (λ x. (staged_by s h x).kind) k in
      let fault : (id.fault == 0) ≡ true = ap (λ n. n == 0) (item.fault ∙ ap (fault_by s h) k) in
      let row : row_of id ≡ None = row_if id.valid (nat_lt id.kind 2) (id.fault == 0) (instruction_of (stage_word id))
      false item.valid (le-ltb id.kind 2 (omega (arith, kind))) fault in
      let real : is_real id ≡ false = ap₂ (λ b n. b && n == 0) item.valid kind in
      let i = item_is s t h (AnInterrupt number) k
      ∙ first_of_three (view_with s h (Interrupt number)).kind _ _ _ (interrupt_view number) in
      let v : Eyes = eyes_at None ea eb false fix id csrs (lines_in (settings_of s) c) s.mul in
      to_eyes None false row real (
        no_operands s t h v id refl,
        interrupts number k (record {
          portions = ap (λ (x : Item). x.portions) i;
          cost_is = ap (λ (x : Item). x.cost) i;
          few = omega arith;
          sleeps = ap (λ (x : Item). x.sleeps) i;
          inactive = refl;
          unrefused = refl;
        }),
      )

  -- a dummy is seen by the row of its word, with fixed timing and so with its kind's cost
  dummy_sees : kind_of s t h ≡ ADummy → Sees s t h c id (eyes_in s c id csrs regs)
  unfolding dummy_item row_of access_by refused_by cost_by
  dummy_sees k =
      let lfsr : ℕ = h.times.dummies.lfsr in
      let kind : id.kind ≡ 1 = item.kind ∙ ap (λ x. (staged_by s h x).kind) k in
      let word : id.word ≡ dummy_word lfsr = item.word ∙ ap (λ x. (staged_by s h x).word) k in
      let fault : (id.fault == 0) ≡ true = ap (λ n. n == 0) (item.fault ∙ ap (fault_by s h) k) in
      let there : stage_word id ≡ dummy_word lfsr =
      ap in_stage word ∙ ap (λ b. if b then dummy_word lfsr else dummy_word lfsr % 2 ^ 16) (dummy_long lfsr) in
      let row : row_of id ≡ instruction_of (dummy_word lfsr) =
      row_if id.valid (nat_lt id.kind 2) (id.fault == 0) (instruction_of (stage_word id)) true item.valid
      (lt-ltb id.kind 2 (omega (arith, kind))) fault ∙ ap instruction_of there in
      let real : is_real id ≡ false = ap₂ (λ b n. b && n == 0) item.valid kind in
      let fixed : fix ≡ true = ap (λ n. n == 1 || is_fixed csrs) kind in
      let i : item_at s t h ≡ item_by s h None = item_is s t h ADummy k in
      let phase : trap_phase s t h ≡ 0 = phase_there s t h ADummy k in
      let o : Option Insn = instruction_of (dummy_word lfsr) in
      let v : Eyes = eyes_at o ea eb false fix id csrs (lines_in (settings_of s) c) s.mul in
      let cost : v.cost ≡ dummy_cost s.mul (dummy_kind lfsr) =
      ap (λ f. cost_by o eb f s.mul) fixed ∙ dummy_costs lfsr eb s.mul in
      let same : (item_at s t h).cost ≡ v.cost = ap (λ (x : Item). x.cost) i ∙ sym cost in
      to_eyes o false row real (
        λ op rd rs1 rs2 e.
            let reads = operands_are s limit t h c next_pc id csrs regs (MulDiv op rd rs1 rs2) ti st ph (row ∙ e)
            (λ z. absurd (omega (arith, z, phase))) in
            record {
              first = reads.0;
              second = reads.1;
              fixed_is = ap (λ b. id.kind == 1 || b) (fixed_there s h c next_pc csrs regs ti);
              cost_is = same ∙ ap (λ x. cost_by x eb fix s.mul) e;
            },
        dummy k (record {
          portions = ap (λ (x : Item). x.portions) i;
          cost_is = same;
          few = subst (λ m. m ≤ 63) (sym cost) (dummy_few s.mul (dummy_kind lfsr));
          sleeps = ap (λ (x : Item). x.sleeps) i;
          inactive = refl;
          unrefused = refl;
        }),
      )

  -- so the stage sees the item, whichever of the three was admitted
  sees_by : (kind : Kind) → kind_of s t h ≡ kind → Sees s t h c id (eyes_in s c id csrs regs)
  sees_by (AnInterrupt number) k = interrupt_sees number k
  sees_by ADummy k = dummy_sees k
  sees_by AnInstruction k = fetched_sees k (fetched s h) refl

-- so the stage sees every item as it is
pub arch_sees : (s : Setup) → ArchSees s
arch_sees s limit t h c next_pc id csrs regs ok ti st item ph =
    sees_by s limit t h c next_pc id csrs regs ok ti st item ph (kind_of s t h) refl
