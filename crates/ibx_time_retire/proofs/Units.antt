-- What the units answer is what the rows of loads, products and quotients need.
use Rattle.std.proofs.Common.{◌≡◌, ◌≢◌, ℕ, ◌+◌, ◌^◌, ◌<◌, Bool, true, false, ◌&&◌, ◌==◌, if◌then◌else◌, refl}
use Rattle.std.proofs.Common.{sym, ap, ap₂, ◌∙◌, subst, arith, Option, Some, None}
use Rattle.std.specs.Prelude.{IfSome}
use Rattle.std.proofs.lemmas.Nat.{mod_below}
use Rattle.ibx_isa.specs.Cost.{md_cost_of}
use Rattle.ibx_isa.specs.declared.insn.Insn.{Insn}
use Rattle.ibx_isa.specs.declared.insn.Insn.TheVariants.{Lui, Auipc, Jal, Jalr, Branch, Load, Store, AluImm, Alu}
use Rattle.ibx_isa.specs.declared.insn.Insn.TheVariants.{MulDiv, Csr, Fence, FenceI, Ecall, Ebreak, Mret, Wfi}
use Rattle.ibx_isa.specs.declared.insn.LoadOp.{LoadOp}
use Rattle.ibx_isa.specs.declared.insn.MdOp.{MdOp}
use Rattle.ibx_isa.specs.declared.event.Access.{Access}
use Rattle.ibx_isa.specs.Views.{view_of}
use Rattle.ibx_muldiv.specs.Unit.{Finishes, result_of, start_of, ticks}
use Rattle.ibx_isa.specs.Multiply.{md_value}
use Rattle.ibx_bus.specs.Port.{answer_wires}
use Rattle.ibx_arch.specs.declared.fetched.Fetched.{Fetched}
use Rattle.ibx_arch.specs.declared.fetched.Fetched.TheVariants.{Unsound, Instruction}
use Rattle.ibx_arch.specs.State.{at_cycle, reg}
use Rattle.ibx_decoder.specs.Instructions.{instruction_of}
use Rattle.ibx_arch.specs.Step.{Stepped, after_fetch, decoded}
use Rattle.ibx_time.specs.Settings.{Setup, lines_in, settings_of}
use Rattle.ibx_time.specs.Items.{portions_by}
use Rattle.ibx_time.specs.Memories.{access_of}
use Rattle.ibx_time.specs.Times.{ADummy, AnInstruction, AnInterrupt}
use Rattle.ibx_time.specs.History.{Story, access_at, access_by as access_from, choice_by, item_at, kind_of}
use Rattle.ibx_time.specs.History.{view_with}
use Rattle.ibx_time_machine.specs.System.{System}
use Rattle.ibx_time_invariant.proofs.ArchSide.{ArchEnds, eyes_in, fetched_word}
use Rattle.ibx_time_invariant.proofs.Dones.{ls_is, md_is}
use Rattle.ibx_time_invariant.proofs.Stages.{ItemAt, PhaseAt, is_fixed_at, reaches, trap_phase, view_phase}
use Rattle.ibx_time_invariant.proofs.StageSide.{Ends, Eyes, IsGathered, Operands, Sees, Way, accesses, caused, dummy}
use Rattle.ibx_time_invariant.proofs.StageSide.{interrupts, ls_seen, portion_code, refused, sleeps, works}
use Rattle.ibx_time_invariant.proofs.Ties.{IsPlaced, IsState, Tied}
use Rattle.ibx_time_decode.proofs.Admits.{brought_is, first_of_pair, second_of_pair}
use Rattle.ibx_time_decode.proofs.Fetches.{arch_fetches}
use Rattle.ibx_time_retire.proofs.Ends.{UnitsEnd, ends_with, case_of, fetch_is_good, fields_are, phase_by_view, step_now}
use Rattle.ibx_time_retire.proofs.Ends.{what}
use Rattle.ibx_time_retire.proofs.Insn.{Case}
use Rattle.ibx_time_retire.proofs.Join.{Lines, OthersEnd, OthersIn}
use Rattle.ibx_time_retire.proofs.Loads.{gathers, load_access, load_addr, load_ends}
use Rattle.ibx_time.proofs.States.{reg_low}
use Rattle.ibx_time_decode.proofs.SeesStage.{Fields, row_is}
use Rattle.ibx_isa.specs.declared.insn.MulKind.{MulKind}
use Rattle.ibx_muldiv.specs.declared.unit.MulDiv.{MulDiv as MulDivUnit}
use Rattle.ibx_muldiv.proofs.Cycles.{left_of-start, start_finishes}
use Rattle.ibx_time_retire.proofs.Plain.{insn_step}
use Rattle.ibx_time_retire.proofs.Simple.{RowEnds, md_ends}
use Rattle.ibx_time_retire.proofs.Stage.{IsFetch}
use Rattle.ibx_time_decode.proofs.Sees.{arch_sees}
use Rattle.ibx_core.specs.Sights.{access_by, is_real, row_of}

-- ---- the portions of an access that doesn't trap

-- an access that isn't refused has a first portion
portions_reach : (u1 hs u2 : Bool) → reaches (portions_by false u1 hs u2) false ≡ true
portions_reach true hs u2 = refl
portions_reach false false u2 = refl
portions_reach false true true = refl
portions_reach false true false = refl

-- a portion's trap is in a phase, and an access is one
portion_some : (b : Bool) → portion_code b + 1 ≢ 0
portion_some true e = absurd (omega (arith, e))
portion_some false e = absurd (omega (arith, e))

-- the row of an access
record IsAccessRow (insn : Insn) : Type 0 where
  no_wfi : Some insn ≡ Some Wfi → ⊥
  sees : (a b : ℕ) → access_by (Some insn) a b ≡ None → ⊥

-- a load is such a row
load_row : (op : LoadOp) (rd rs1 imm : ℕ) → IsAccessRow (Load op rd rs1 imm)
unfolding access_by
load_row op rd rs1 imm = record { no_wfi = λ e. cc; sees = λ a b e. cc }

-- without a trap such an item reaches its portions
way_reaches : (s : Setup) (t : ℕ) (h : Story) (c : ℕ) (v : Eyes) (insn : Insn) (a b : ℕ)
    → kind_of s t h ≡ AnInstruction → v.row ≡ Some insn → v.access ≡ access_by (Some insn) a b → IsAccessRow insn
    → trap_phase s t h ≡ 0 → Way s t h c v → reaches (item_at s t h).portions false ≡ true
way_reaches s t h c v insn a b k r x u z (interrupts number e p) =
    absurd (let no_ : AnInterrupt number ≡ AnInstruction = sym e ∙ k in cc)
way_reaches s t h c v insn a b k r x u z (dummy e p) = absurd (let no_ : ADummy ≡ AnInstruction = sym e ∙ k in cc)
way_reaches s t h c v insn a b k r x u z (caused e p q f) = absurd (omega (arith, z, f))
way_reaches s t h c v insn a b k r x u z (refused w second e g n q p y sl f) = absurd (portion_some second (sym f ∙ z))
way_reaches s t h c v insn a b k r x u z (accesses w e g n q p row portions f red) =
    ap (λ q. reaches q false) portions ∙ portions_reach _ _ _
way_reaches s t h c v insn a b k r x u z (sleeps e row g n q p sl wake f red) = absurd (u.no_wfi (sym r ∙ row))
way_reaches s t h c v insn a b k r x u z (works cost e p q f turn) = absurd (u.sees a b (sym x ∙ p.inactive))

-- ---- a product or a quotient

-- the unit's result after the cost of a row is its value
md_result : (op : MdOp) (a b cost : ℕ) (fixed : Bool) (mul : MulKind) (m : MulDivUnit) → a < 2 ^ 32 → b < 2 ^ 32
    → m ≡ ticks cost (start_of op a b fixed mul) → cost ≡ md_cost_of op b fixed mul → result_of m ≡ md_value op a b
unfolding Finishes
md_result op a b cost fixed mul m l k e c =
    ap result_of (e ∙ ap (λ n. ticks n (start_of op a b fixed mul)) (c ∙ sym (left_of-start op a b fixed mul l k)))
    ∙ start_finishes op a b fixed mul l k

-- ---- the case

module _ (s : Setup) (limit t : ℕ) (h : Story) (st : System) (ok : IsPlaced s)
    (ti : Tied s h st.cycle st.main.next_pc st.main.csrs st.regs) (i : IsState s st.cycle h)
    (a : ItemAt s t h st.main.id)
    (ph : PhaseAt s limit t h st.cycle st.main.id.phase) (k : kind_of s t h ≡ AnInstruction)
    (n : Ends s limit t h st.cycle st.main.id st.main.md st.main.ls st.dport
    (eyes_in s st.cycle st.main.id st.main.csrs st.regs)) where
  -- the instruction in its last cycle, and what the stage sees
  abbrev m : Case
  m = case_of s t h st

  abbrev v : Eyes
  v = eyes_in s st.cycle st.main.id st.main.csrs st.regs

  -- the stage's row, its access and the step are those of the instruction, without a trap so far
  row_there : (word len : ℕ) (insn : Insn) → what s h ≡ Instruction word len → instruction_of word ≡ Some insn
      → row_of st.main.id ≡ Some insn
  row_there word len insn e d =
      row_is h.state.pc word len st.main.id (subst (λ f. IsFetch h.state.pc f) e (fetch_is_good s h ok i.good.pc_low)).1
      (subst (λ f. Fields f h.state.pc st.main.id) e
      (fields_are s t h st.cycle st.main.id i k a)) ∙ d

  -- the item's access is that of the instruction, by the state's registers
  access_is : (word len : ℕ) (insn : Insn) → what s h ≡ Instruction word len → instruction_of word ≡ Some insn
      → access_at s t h ≡ access_of h.state (Some insn)
  unfolding access_at
  access_is word len insn e d =
      ap (λ x. access_from s h (choice_by s h x)) k
      ∙ ap (λ x. access_of h.state (instruction_of (view_with s h x).word)) (brought_is s h)
      ∙ ap (λ w. access_of h.state (instruction_of w))
      ((arch_fetches s st.cycle h (first_of_pair s h) (second_of_pair s h) i).word ∙ ap fetched_word e)
      ∙ ap (access_of h.state) d

  -- the step in this cycle executes that instruction
  step_there : (word len : ℕ) (insn : Insn) → what s h ≡ Instruction word len → instruction_of word ≡ Some insn
      → step_now s h st.cycle ≡ insn_step m word len (Lines m) insn
  step_there word len insn e d =
      ap (after_fetch (at_cycle h.state st.cycle) st.cycle (lines_in (settings_of s) st.cycle)) e
      ∙ ap (decoded (at_cycle h.state st.cycle) st.cycle word len (lines_in (settings_of s) st.cycle)) d

  -- where its step is no trap, the item has no phase of a trap
  phase_zero : (word len : ℕ) (insn : Insn) → what s h ≡ Instruction word len → instruction_of word ≡ Some insn
      → view_phase (Some (view_of (insn_step m word len (Lines m) insn).event)) ≡ 0 → trap_phase s t h ≡ 0
  phase_zero word len insn e d z = phase_by_view s t h st.cycle k
      ∙ ap (λ (p : Stepped). view_phase (Some (view_of p.event))) (step_there word len insn e d) ∙ z

  -- the stage sees the item
  sight : Sees s t h st.cycle st.main.id v
  sight = arch_sees s limit t h st.cycle st.main.next_pc st.main.id st.main.csrs st.regs ok ti i a ph

  -- what the stage holds is real, by its valid bit and its kind
  real_there : is_real st.main.id ≡ true
  real_there = let f = fields_are s t h st.cycle st.main.id i k a in ap₂ (λ b x. b && x == 0) f.valid f.kind

  -- its first portion is reached
  reached : (word len : ℕ) (insn : Insn) → what s h ≡ Instruction word len → instruction_of word ≡ Some insn
      → IsAccessRow insn → trap_phase s t h ≡ 0 → reaches (item_at s t h).portions false ≡ true
  reached word len insn e d u z =
      let row : row_of st.main.id ≡ Some insn = row_there word len insn e d in
      way_reaches s t h st.cycle v insn v.a v.b k row
      (ap (λ b. if b then access_by (row_of st.main.id) v.a v.b else None) real_there
      ∙ ap (λ o. access_by o v.a v.b) row) u z sight.way

  -- ---- a load

  -- what the units answer for a load, for a product or quotient, and for a store
  load_other : (word len rd rs1 imm : ℕ) (op : LoadOp) → what s h ≡ Instruction word len
      → instruction_of word ≡ Some (Load op rd rs1 imm) → RowEnds m word len (Lines m) (Load op rd rs1 imm)
  load_other word len rd rs1 imm op e d =
      let insn : Insn = Load op rd rs1 imm in
      let w : Access = load_access m op rs1 imm in
      let there : access_at s t h ≡ Some w = access_is word len insn e d in
      load_ends m word len (Lines m) rd rs1 imm op
      (λ z.
      let zero_ : trap_phase s t h ≡ 0 = phase_zero word len insn e d z in
      let g : IsGathered h w (ls_seen v st.main.id st.main.ls (answer_wires st.dport)) =
      n.gathered w (record { access = there; reached = reached word len insn e d (load_row op rd rs1 imm) zero_ }) refl
      zero_ in
      gathers h.state.memory op (load_addr m rs1 imm) m.g.ls.first m.g.ls.second i.good.bytes
      (mod_below (reg h.state rs1 + imm) (2 ^ 32) (omega arith))
      (ap (λ x. x.first) (ls_is s st) ∙ g.first) (ap (λ x. x.second) (ls_is s st) ∙ g.second))

  -- ---- a product or a quotient

  -- a product or quotient ends as its step, since the unit has counted the item's cost
  md_other : (word len rd rs1 rs2 : ℕ) (op : MdOp) → what s h ≡ Instruction word len
      → instruction_of word ≡ Some (MulDiv op rd rs1 rs2) → RowEnds m word len (Lines m) (MulDiv op rd rs1 rs2)
  md_other word len rd rs1 rs2 op e d kn me hd =
      let row : row_of st.main.id ≡ Some (MulDiv op rd rs1 rs2) = row_there word len (MulDiv op rd rs1 rs2) e d in
      let o : Operands s t h v st.main.id op rs1 rs2 = sight.operands op rd rs1 rs2 row in
      let low1 : reg h.state rs1 < 2 ^ 32 = reg_low s.image.ram h.state rs1 kn.good in
      let low2 : reg h.state rs2 < 2 ^ 32 = reg_low s.image.ram h.state rs2 kn.good in
      let value : result_of m.g.md ≡ md_value op (reg h.state rs1) (reg h.state rs2) =
      md_result op (reg h.state rs1) (reg h.state rs2) (item_at s t h).cost (is_fixed_at s t h st.main.id) s.mul m.g.md
      low1 low2 (md_is s st ∙ n.result op rd rs1 rs2 row)
      (o.cost_is ∙ ap₂ (λ b f. md_cost_of op b f s.mul) o.second o.fixed_is) in
      md_ends m word len (Lines m) rd rs1 rs2 op value kn me hd

  -- ---- all rows

  -- so it is for every row, for every word and for what is fetched
  row_other : (word len : ℕ) (insn : Insn) → what s h ≡ Instruction word len → instruction_of word ≡ Some insn
      → OthersEnd m word len insn
  row_other word len (Load op rd rs1 imm) e d = load_other word len rd rs1 imm op e d
  row_other word len (Store size rs1 rs2 imm) e d = tt
  row_other word len (MulDiv op rd rs1 rs2) e d = md_other word len rd rs1 rs2 op e d
  row_other word len (Lui rd imm) e d = tt
  row_other word len (Auipc rd imm) e d = tt
  row_other word len (Jal rd imm) e d = tt
  row_other word len (Jalr rd rs1 imm) e d = tt
  row_other word len (Branch op rs1 rs2 imm) e d = tt
  row_other word len (AluImm op rd rs1 imm) e d = tt
  row_other word len (Alu op rd rs1 rs2) e d = tt
  row_other word len (Csr op rd src imm addr) e d = tt
  row_other word len Fence e d = tt
  row_other word len FenceI e d = tt
  row_other word len Ecall e d = tt
  row_other word len Ebreak e d = tt
  row_other word len Mret e d = tt
  row_other word len Wfi e d = tt

  -- a word that is no instruction asks nothing of the units
  word_other : (word len : ℕ) → what s h ≡ Instruction word len → (o : Option Insn) → instruction_of word ≡ o
      → IfSome o (OthersEnd m word len)
  word_other word len e None d = tt
  word_other word len e (Some insn) d = row_other word len insn e d

  -- nor does a fetch that failed
  pub others : (f : Fetched) → what s h ≡ f → OthersIn m f
  others (Unsound addr) e = tt
  others (Instruction word len) e = word_other word len e (instruction_of word) refl

-- so the units answer what the rows need
pub units_end : (s : Setup) → UnitsEnd s
units_end s limit t h st ok ti i a ph k n = others s limit t h st ok ti i a ph k n (what s h) refl

-- and every item's effect is its step's
pub arch_ends : (s : Setup) → ArchEnds s
arch_ends s = ends_with s (units_end s)
