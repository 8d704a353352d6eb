-- What the stage sees of an instruction that makes no access, a row a lemma.
use Rattle.std.proofs.Common.{◌≡◌, ℕ, ◌≤◌, Bool, true, false, not, ◌&&◌, ◌||◌, ◌==◌, if◌then◌else◌, nat_le, bit_and}
use Rattle.std.proofs.Common.{Option, Some, None, refl, sym, ap, ◌∙◌, subst, arith}
use Rattle.std.proofs.lemmas.Bool.{le-leb}
use Rattle.ibx_isa.specs.declared.insn.Insn.{Insn}
use Rattle.ibx_isa.specs.declared.insn.Insn.TheVariants.{Lui, Auipc, Jal, Jalr, Branch, Load, Store, AluImm, Alu}
use Rattle.ibx_isa.specs.declared.insn.Insn.TheVariants.{MulDiv, Csr, Fence, FenceI, Ecall, Ebreak, Mret, Wfi}
use Rattle.ibx_isa.specs.declared.insn.AluOp.{AluOp}
use Rattle.ibx_isa.specs.declared.insn.BranchOp.{BranchOp}
use Rattle.ibx_isa.specs.declared.insn.CsrOp.{CsrOp}
use Rattle.ibx_isa.specs.declared.insn.MdOp.{MdOp}
use Rattle.ibx_isa.specs.declared.event.View.{View}
use Rattle.ibx_isa.specs.Views.{fault_addr, view_of}
use Rattle.ibx_isa.specs.Alu.{branch_of}
use Rattle.ibx_isa.specs.Cost.{md_cost_of, low_cost, high_cost, division_cost}
use Rattle.ibx_isa.specs.declared.insn.MulKind.{MulKind}
use Rattle.ibx_isa.specs.declared.insn.MulKind.TheVariants.{Single, Fast, Slow}
use Rattle.ibx_isa.specs.declared.insn.MdOp.TheVariants.{Mul, Mulh, Mulhsu, Mulhu, Div, Divu, Rem, Remu}
use Rattle.ibx_csr.specs.declared.csrs.Csrs.{Csrs}
use Rattle.ibx_csr.specs.Fields.{values}
use Rattle.ibx_csr.specs.declared.name.Csr.{Csr as CsrName}
use Rattle.ibx_csr.specs.Table.{readable, writable}
use Rattle.ibx_csr.specs.Values.{csr_read, csr_can_write, is_there, value_at, CsrValues, counters_after}
use Rattle.ibx_arch.specs.State.{State, at_cycle, reg}
use Rattle.ibx_arch.specs.Effects.{following, illegal, return_from_trap, csr_with, csr_access, trap, Executed, execute}
use Rattle.ibx_isa.specs.CsrWrites.{writes}
use Rattle.ibx_decoder.specs.Instructions.{instruction_of}
use Rattle.ibx_arch.specs.Step.{finished}
use Rattle.ibx_time.specs.Settings.{Settings, Setup, settings_of, lines_in}
use Rattle.ibx_time.specs.Controls.{is_fixed, is_woken, Ctl, ctl_of}
use Rattle.ibx_time.specs.Items.{operand2, branching, is_turned, Item, NoPortion, item_of, parcels_of, portions_for}
use Rattle.ibx_time.specs.Items.{plain, retired_item, trap_parcels}
use Rattle.ibx_time.specs.Memories.{access_of}
use Rattle.ibx_time.specs.Times.{AnInstruction}
use Rattle.ibx_time.specs.History.{Story, access_at, item_at, kind_of}
use Rattle.ibx_id.specs.Turns.{held, branches, ends_at, is_some_cause, worked}
use Rattle.ibx_id.specs.declared.stage.Turn.{Turn}
use Rattle.ibx_id.specs.declared.stage.IdState.{IdState}
use Rattle.ibx_id.specs.declared.stage.Turn.TheVariants.{Hold, Retire}
use Rattle.ibx_time_invariant.proofs.Stages.{trap_phase, view_phase}
use Rattle.ibx_time_invariant.proofs.StageSide.{sleeps, Eyes, Way, in_by, caused, works}
use Rattle.ibx_time_invariant.proofs.ArchSide.{eyes_at}
use Rattle.ibx_core.specs.Sights.{lacks_value, cause_of, access_by, refused_by, row_cause, csr_cause, cost_by}

-- ---- an item without a portion, by its view

-- the item has no portion, and ends so
pub record IsItem (i : Item) (cost : ℕ) (redirects : Bool) : Type 0 where
  pub portions : i.portions ≡ NoPortion
  pub cost_is : i.cost ≡ cost
  pub sleeps : i.sleeps ≡ false
  pub redirects_is : i.redirects ≡ redirects

-- one of three, by a number
pub first_of_three : {A : Type 0} (n : ℕ) (x y z : A) → n ≡ 2 → (if n == 2 then x else if n == 1 then y else z) ≡ x
first_of_three n x y z e = rw e refl

-- number 1 takes the second, as the view of a trap does
pub second_of_three : {A : Type 0} (n : ℕ) (x y z : A) → n ≡ 1 → (if n == 2 then x else if n == 1 then y else z) ≡ y
second_of_three n x y z e = rw e refl

-- number 0 takes the third, as the view of a retirement does
pub third_of_three : {A : Type 0} (n : ℕ) (x y z : A) → n ≡ 0 → (if n == 2 then x else if n == 1 then y else z) ≡ z
third_of_three n x y z e = rw e refl

-- the item of an instruction that retires
pub retired_is : (k : Settings) (c : Ctl) (v : View) (insn : Insn) → v.kind ≡ 0 → instruction_of v.word ≡ Some insn
    → item_of k c v ≡ retired_item k c v (Some insn) (plain (parcels_of v.word))
unfolding item_of
retired_is k c v insn e d =
    third_of_three v.kind _ _ _ e ∙ ap (λ o. retired_item k c v o (plain (parcels_of v.word))) d

-- the item of a trap
abbrev pub trap_item : Settings → Ctl → View → Item
trap_item k c v = record (plain (trap_parcels v))
    { portions = portions_for k c (instruction_of v.word) v.addr; cost = 1; redirects = true }

-- a trap's item is this one
pub trapped_is : (k : Settings) (c : Ctl) (v : View) → v.kind ≡ 1 → item_of k c v ≡ trap_item k c v
unfolding item_of
trapped_is k c v e = second_of_three v.kind _ _ _ e

-- no address, no portion
no_portions : (k : Settings) (c : Ctl) (o : Option Insn) → portions_for k c o None ≡ NoPortion
no_portions k c None = refl
no_portions k c (Some (Load op rd rs1 imm)) = refl
no_portions k c (Some (Store size rs1 rs2 imm)) = refl
no_portions k c (Some insn) = refl

-- so a trap without an address is done in its second cycle and redirects
pub trap_portions : (k : Settings) (c : Ctl) (v : View) → v.kind ≡ 1 → v.addr ≡ None → IsItem (item_of k c v) 1 true
trap_portions k c v e n =
    subst (λ i. IsItem i 1 true) (sym (trapped_is k c v e))
    (record {
      portions = ap (portions_for k c (instruction_of v.word)) n ∙ no_portions k c (instruction_of v.word);
      cost_is = refl;
      sleeps = refl;
      redirects_is = refl;
    })

-- a number by its kind
pub by_kind : (n x : ℕ) → n ≡ 1 → (if n == 1 then x else 0) ≡ x
by_kind n x e = rw e refl

-- a number counts for kind 1 alone, and kind 0 leaves 0
no_phase : (n x : ℕ) → n ≡ 0 → (if n == 1 then x else 0) ≡ 0
no_phase n x e = rw e refl

-- such a trap is in phase 4, and what retires in none
pub trap_view_phase : (v : View) → v.kind ≡ 1 → v.addr ≡ None → view_phase (Some v) ≡ 4
trap_view_phase v e n = by_kind v.kind _ e ∙ portion v.tval v.addr n
  where
    portion : (tval : ℕ) (o : Option ℕ) → o ≡ None → Rattle.ibx_time_invariant.proofs.Stages.portion_phase tval o ≡ 4
    portion tval o e = subst (λ x. Rattle.ibx_time_invariant.proofs.Stages.portion_phase tval x ≡ 4) (sym e) refl

-- a view of kind 0 is in no phase of a trap
pub retired_phase : (v : View) → v.kind ≡ 0 → view_phase (Some v) ≡ 0
retired_phase v e = no_phase v.kind _ e

-- ---- the item is the instruction of a row

-- the state with its counters moved to where they stand
abbrev pub state_there : Story → State
state_there h = at_cycle h.state h.state.stands

-- the view of an execution in it
abbrev pub view_done : Story → ℕ → Option (ℕ × ℕ) → Executed → View
view_done h word ops e = view_of (finished h.state.pc h.state.regs h.state.stands word ops e).event

-- with the operands of its event, and how it ends
pub record IsRow (s : Setup) (t : ℕ) (h : Story) (insn : Insn) (word : ℕ) (ops : Option (ℕ × ℕ)) (e : Executed) : Type
    0 where
  pub kind : kind_of s t h ≡ AnInstruction
  pub decoded : instruction_of word ≡ Some insn
  pub item : item_at s t h ≡ item_of (settings_of s) h.times.ctl (view_done h word ops e)
  pub phase : trap_phase s t h ≡ view_phase (Some (view_done h word ops e))
  pub access : access_at s t h ≡ access_of h.state (Some insn)

-- it traps, without an address
pub traps_with : (s : Setup) (t : ℕ) (h : Story) (c : ℕ) (v : Eyes) (view : View) → kind_of s t h ≡ AnInstruction
    → item_at s t h ≡ item_of (settings_of s) h.times.ctl view → trap_phase s t h ≡ view_phase (Some view)
    → view.kind ≡ 1 → view.addr ≡ None → v.access ≡ None → v.refused ≡ 0 → is_some_cause v.trap ≡ true → Way s t h c v
traps_with s t h c v view kind item phase e n free ok cause =
    let i : IsItem (item_at s t h) 1 true =
    subst (λ i. IsItem i 1 true) (sym item) (trap_portions (settings_of s) h.times.ctl view e n) in
    caused kind (record {
      portions = i.portions;
      cost_is = i.cost_is;
      few = omega arith;
      sleeps = i.sleeps;
      inactive = free;
      unrefused = ok;
    }) cause (phase ∙ trap_view_phase view e n)

-- it retires, and ends after a cost
pub retires_with : (s : Setup) (t : ℕ) (h : Story) (c : ℕ) (v : Eyes) (insn : Insn) (word : ℕ) (ops : Option (ℕ × ℕ))
    (e : Executed) (cost : ℕ) (redirects : Bool)
    → IsRow s t h insn word ops e
    → (view_done h word ops e).kind ≡ 0 → (view_done h word ops e).word ≡ word
    → IsItem (retired_item (settings_of s) h.times.ctl (view_done h word ops e) (Some insn)
    (plain (parcels_of (view_done h word ops e).word))) cost redirects
    → cost ≤ 63
    → v.access ≡ None → v.refused ≡ 0 → v.trap ≡ None
    → ((id : IdState) (ends : Bool) (fault : ℕ) → worked v.row id (in_by v ends fault) ≡ ends_at cost redirects id)
    → Way s t h c v
retires_with s t h c v insn word ops x cost redirects r e w item few free ok cause turn =
    let view : View = view_done h word ops x in
    let d : instruction_of view.word ≡ Some insn = ap instruction_of w ∙ r.decoded in
    let i : IsItem (item_at s t h) cost redirects =
    subst (λ i. IsItem i cost redirects) (sym (r.item ∙ retired_is (settings_of s) h.times.ctl view insn e d)) item in
    works cost r.kind (record {
      portions = i.portions;
      cost_is = i.cost_is;
      few = few;
      sleeps = i.sleeps;
      inactive = free;
      unrefused = ok;
    }) cause
    (r.phase ∙ retired_phase view e) (λ id ends fault. turn id ends fault
    ∙ ap (λ b. ends_at cost b id) (sym i.redirects_is))

-- without a cost the turn ends at once
at_once : (n : ℕ) (x y : Turn) → (if nat_le 0 n then x else y) ≡ x
at_once n x y = rw (le-leb 0 n (omega arith)) refl

-- what decides of the fields
pub record Fields (h : Story) (csrs : Csrs) : Type 0 where
  pub machine : csrs.priv_ ≡ h.state.csrs.machine
  pub mstatus : csrs.mstatus ≡ h.state.csrs.mstatus
  pub mie : csrs.mie ≡ h.state.csrs.mie
  pub ctl : h.times.ctl ≡ ctl_of h.state.csrs

-- the operands that the stage sees are those of the event
pub record SeesOps (h : Story) (ops : Option (ℕ × ℕ)) (a b : ℕ) (fixed : Bool) : Type 0 where
  pub same_fixed : is_fixed h.times.ctl ≡ fixed
  pub ops_is : ops ≡ (if fixed then None else Some (a, b))

-- a branch turns by its operands, or where timing is fixed
turned_is : (op : BranchOp) (a b : ℕ) (fixed : Bool) (ops : Option (ℕ × ℕ))
    → ops ≡ (if fixed then None else Some (a, b)) → is_turned fixed op ops ≡ (fixed || branch_of op a b)
turned_is op a b true ops e = refl
turned_is op a b false ops e = ap (is_turned false op) e

-- a cycle more where it turns
branch_cost : Bool → ℕ
branch_cost true = 1
branch_cost false = 0

-- so a branch costs 63 at most, and ends by this cost
branch_few : (d : Bool) → branch_cost d ≤ 63
unfolding branch_cost
branch_few true = omega arith
branch_few false = omega arith

-- its item has this cost, redirects where it turns, and has no portion
branch_item : (d : Bool) (n : ℕ) → IsItem (branching d (plain n)) (branch_cost d) d
unfolding branch_cost
branch_item true n = record { portions = refl; cost_is = refl; sleeps = refl; redirects_is = refl }
branch_item false n = record { portions = refl; cost_is = refl; sleeps = refl; redirects_is = refl }

-- the stage holds a branch that turns for this cost, and ends any other at once
branch_turn : (d : Bool) (id : IdState) → branches d id ≡ ends_at (branch_cost d) d id
unfolding branch_cost
branch_turn true id = refl
branch_turn false id = refl

-- a multiplication or division costs 63 at most
low_few : (mul : MulKind) (b : ℕ) (fixed : Bool) → low_cost mul b fixed ≤ 63
low_few Single b fixed = omega arith
low_few Fast b fixed = omega arith
low_few Slow b true = omega arith
low_few Slow b false = omega arith

-- a product's high half costs 63 at most with each multiplier
high_few : (mul : MulKind) → high_cost mul ≤ 63
high_few Single = omega arith
high_few Fast = omega arith
high_few Slow = omega arith

-- a division costs 63 at most, by 0 and with fixed timing too
division_few : (b : ℕ) (fixed : Bool) → division_cost b fixed ≤ 63
division_few b true = omega arith
division_few b false = by_test (b == 0)
  where
    by_test : (z : Bool) → (if z then 1 else 37) ≤ 63
    by_test true = omega arith
    by_test false = omega arith

-- so each row of the M extension costs no more than the stage can count
pub md_few : (op : MdOp) (b : ℕ) (fixed : Bool) (mul : MulKind) → md_cost_of op b fixed mul ≤ 63
unfolding md_cost_of
md_few Mul b fixed mul = low_few mul b fixed
md_few Mulh b fixed mul = high_few mul
md_few Mulhsu b fixed mul = high_few mul
md_few Mulhu b fixed mul = high_few mul
md_few Div b fixed mul = division_few b fixed
md_few Divu b fixed mul = division_few b fixed
md_few Rem b fixed mul = division_few b fixed
md_few Remu b fixed mul = division_few b fixed

-- fixed timing looks at no operand
low_fixed : (mul : MulKind) (a b : ℕ) → low_cost mul a true ≡ low_cost mul b true
low_fixed Single a b = refl
low_fixed Fast a b = refl
low_fixed Slow a b = refl

-- and with fixed timing the same for all operands
pub md_fixed : (op : MdOp) (a b : ℕ) (mul : MulKind) → md_cost_of op a true mul ≡ md_cost_of op b true mul
unfolding md_cost_of
md_fixed Mul a b mul = low_fixed mul a b
md_fixed Mulh a b mul = refl
md_fixed Mulhsu a b mul = refl
md_fixed Mulhu a b mul = refl
md_fixed Div a b mul = refl
md_fixed Divu a b mul = refl
md_fixed Rem a b mul = refl
md_fixed Remu a b mul = refl

-- so its cost is told by the view
md_same : (op : MdOp) (a b : ℕ) (fixed : Bool) (mul : MulKind) (ops : Option (ℕ × ℕ))
    → ops ≡ (if fixed then None else Some (a, b)) → md_cost_of op (operand2 ops) fixed mul ≡ md_cost_of op b fixed mul
md_same op a b true mul ops e = md_fixed op (operand2 ops) b mul
md_same op a b false mul ops e = ap (λ o. md_cost_of op (operand2 o) false mul) e

-- ---- by row, with what the state of the architecture executes

module _ (s : Setup) (t : ℕ) (h : Story) (c word length a b : ℕ) (fixed : Bool) (id : IdState) (csrs : Csrs)
    (lines : ℕ) (sound : id.fault ≡ 0) where
  -- what the stage sees of an instruction, and what it does in the state
  abbrev seen : Insn → Eyes
  seen insn = eyes_at (Some insn) a b true fixed id csrs lines s.mul

  abbrev done_there : Insn → Executed
  done_there insn = execute (state_there h) insn word length (lines_in (settings_of s) h.state.stands)

  -- the cause of a row by its fields
  cause_there : (insn : Insn) (o : Option ℕ) → cause_of csrs 0 (Some insn) ≡ o → (seen insn).trap ≡ o
  cause_there insn o e = ap (λ f. cause_of csrs f (Some insn)) sound ∙ e

  -- one for each row: what the stage sees is how it ends
  pub lui_way : (rd imm : ℕ) (ops : Option (ℕ × ℕ)) → IsRow s t h (Lui rd imm) word ops (done_there (Lui rd imm))
      → Way s t h c (seen (Lui rd imm))
  unfolding view_of finished execute retired_item worked cause_of access_by refused_by row_cause cost_by
  lui_way rd imm ops r =
      retires_with s t h c (seen (Lui rd imm)) (Lui rd imm) word ops (done_there (Lui rd imm)) 0 false r refl refl
      (record { portions = refl; cost_is = refl; sleeps = refl; redirects_is = refl }) (omega arith) refl refl
      (cause_there (Lui rd imm) None refl) (λ id ends fault. refl)

  -- AUIPC retires at once
  pub auipc_way : (rd imm : ℕ) (ops : Option (ℕ × ℕ)) → IsRow s t h (Auipc rd imm) word ops (done_there (Auipc rd imm))
      → Way s t h c (seen (Auipc rd imm))
  unfolding view_of finished execute retired_item worked cause_of access_by refused_by row_cause cost_by
  auipc_way rd imm ops r =
      retires_with s t h c (seen (Auipc rd imm)) (Auipc rd imm) word ops (done_there (Auipc rd imm)) 0 false r refl
      refl
      (record { portions = refl; cost_is = refl; sleeps = refl; redirects_is = refl }) (omega arith) refl refl
      (cause_there (Auipc rd imm) None refl) (λ id ends fault. refl)

  -- a computation with an immediate retires at once
  pub alu_imm_way : (op : AluOp) (rd rs1 imm : ℕ) (ops : Option (ℕ × ℕ))
      → IsRow s t h (AluImm op rd rs1 imm) word ops (done_there (AluImm op rd rs1 imm))
      → Way s t h c (seen (AluImm op rd rs1 imm))
  unfolding view_of finished execute retired_item worked cause_of access_by refused_by row_cause cost_by
  alu_imm_way op rd rs1 imm ops r =
      retires_with s t h c (seen (AluImm op rd rs1 imm)) (AluImm op rd rs1 imm) word ops
      (done_there (AluImm op rd rs1 imm)) 0 false r refl refl
      (record { portions = refl; cost_is = refl; sleeps = refl; redirects_is = refl }) (omega arith) refl refl
      (cause_there (AluImm op rd rs1 imm) None refl) (λ id ends fault. refl)

  -- so does one on two registers
  pub alu_way : (op : AluOp) (rd rs1 rs2 : ℕ) (ops : Option (ℕ × ℕ))
      → IsRow s t h (Alu op rd rs1 rs2) word ops (done_there (Alu op rd rs1 rs2))
      → Way s t h c (seen (Alu op rd rs1 rs2))
  unfolding view_of finished execute retired_item worked cause_of access_by refused_by row_cause cost_by
  alu_way op rd rs1 rs2 ops r =
      retires_with s t h c (seen (Alu op rd rs1 rs2)) (Alu op rd rs1 rs2) word ops (done_there (Alu op rd rs1 rs2)) 0
      false r refl refl
      (record { portions = refl; cost_is = refl; sleeps = refl; redirects_is = refl }) (omega arith) refl refl
      (cause_there (Alu op rd rs1 rs2) None refl) (λ id ends fault. refl)

  -- FENCE retires at once, and doesn't redirect
  pub fence_way : (ops : Option (ℕ × ℕ)) → IsRow s t h Fence word ops (done_there Fence) → Way s t h c (seen Fence)
  unfolding view_of finished execute retired_item worked cause_of access_by refused_by row_cause cost_by
  fence_way ops r =
      retires_with s t h c (seen Fence) Fence word ops (done_there Fence) 0 false r refl refl
      (record { portions = refl; cost_is = refl; sleeps = refl; redirects_is = refl }) (omega arith) refl refl
      (cause_there Fence None refl) (λ id ends fault. refl)

  -- FENCE.I retires at once and redirects, so that what follows is fetched anew
  pub fence_i_way : (ops : Option (ℕ × ℕ)) → IsRow s t h FenceI word ops (done_there FenceI)
      → Way s t h c (seen FenceI)
  unfolding view_of finished execute retired_item worked cause_of access_by refused_by row_cause
  fence_i_way ops r =
      retires_with s t h c (seen FenceI) FenceI word ops (done_there FenceI) 0 true r refl refl
      (record { portions = refl; cost_is = refl; sleeps = refl; redirects_is = refl }) (omega arith) refl refl
      (cause_there FenceI None refl) (λ id ends fault. sym (at_once id.count (Retire true) (Hold (held 1 id))))

  -- JAL retires at once and redirects
  pub jal_way : (rd imm : ℕ) (ops : Option (ℕ × ℕ)) → IsRow s t h (Jal rd imm) word ops (done_there (Jal rd imm))
      → Way s t h c (seen (Jal rd imm))
  unfolding view_of finished execute retired_item worked cause_of access_by refused_by row_cause
  jal_way rd imm ops r =
      retires_with s t h c (seen (Jal rd imm)) (Jal rd imm) word ops (done_there (Jal rd imm)) 0 true r refl refl
      (record { portions = refl; cost_is = refl; sleeps = refl; redirects_is = refl }) (omega arith) refl refl
      (cause_there (Jal rd imm) None refl) (λ id ends fault. sym (at_once id.count (Retire true) (Hold (held 1 id))))

  -- JALR does as JAL, wherever its register leads
  pub jalr_way : (rd rs1 imm : ℕ) (ops : Option (ℕ × ℕ))
      → IsRow s t h (Jalr rd rs1 imm) word ops (done_there (Jalr rd rs1 imm)) → Way s t h c (seen (Jalr rd rs1 imm))
  unfolding view_of finished execute retired_item worked cause_of access_by refused_by row_cause
  jalr_way rd rs1 imm ops r =
      retires_with s t h c (seen (Jalr rd rs1 imm)) (Jalr rd rs1 imm) word ops (done_there (Jalr rd rs1 imm)) 0 true r
      refl refl
      (record { portions = refl; cost_is = refl; sleeps = refl; redirects_is = refl }) (omega arith) refl refl
      (cause_there (Jalr rd rs1 imm) None refl)
      (λ id ends fault. sym (at_once id.count (Retire true) (Hold (held 1 id))))

  -- a branch that turns, or has fixed timing, takes a cycle more and redirects; any other retires at once
  pub branch_way : (op : BranchOp) (rs1 rs2 imm : ℕ) (ops : Option (ℕ × ℕ))
      → (trap_phase s t h ≡ 0 → SeesOps h ops a b fixed)
      → IsRow s t h (Branch op rs1 rs2 imm) word ops (done_there (Branch op rs1 rs2 imm))
      → Way s t h c (seen (Branch op rs1 rs2 imm))
  unfolding view_of finished execute retired_item worked cause_of access_by refused_by row_cause cost_by
  branch_way op rs1 rs2 imm ops same r =
      let insn : Insn = Branch op rs1 rs2 imm in
      let n : ℕ = parcels_of word in
      let o : SeesOps h ops a b fixed = same (r.phase ∙ retired_phase (view_done h word ops (done_there insn)) refl) in
      let d : Bool = fixed || branch_of op a b in
      let e : is_turned (is_fixed h.times.ctl) op ops ≡ d =
      ap (λ q. is_turned q op ops) o.same_fixed ∙ turned_is op a b fixed ops o.ops_is in
      retires_with s t h c (seen insn) insn word ops (done_there insn) (branch_cost d) d r refl refl
      (subst (λ q. IsItem (branching q (plain n)) (branch_cost d) d) (sym e) (branch_item d n)) (branch_few d) refl
      refl
      (cause_there insn None refl) (λ id ends fault. branch_turn d id)

  -- a product or quotient retires after its cost, which the stage knows by its second operand
  pub md_way : (op : MdOp) (rd rs1 rs2 : ℕ) (ops : Option (ℕ × ℕ)) → (trap_phase s t h ≡ 0 → SeesOps h ops a b fixed)
      → IsRow s t h (MulDiv op rd rs1 rs2) word ops (done_there (MulDiv op rd rs1 rs2))
      → Way s t h c (seen (MulDiv op rd rs1 rs2))
  unfolding view_of finished execute retired_item worked cause_of access_by refused_by row_cause cost_by
  md_way op rd rs1 rs2 ops same r =
      let insn : Insn = MulDiv op rd rs1 rs2 in
      let o : SeesOps h ops a b fixed = same (r.phase ∙ retired_phase (view_done h word ops (done_there insn)) refl) in
      let e : md_cost_of op (operand2 ops) (is_fixed h.times.ctl) s.mul ≡ md_cost_of op b fixed s.mul =
      ap (λ q. md_cost_of op (operand2 ops) q s.mul) o.same_fixed ∙ md_same op a b fixed s.mul ops o.ops_is in
      retires_with s t h c (seen insn) insn word ops (done_there insn) (md_cost_of op b fixed s.mul) false r refl refl
      (record { portions = refl; cost_is = e; sleeps = refl; redirects_is = refl }) (md_few op b fixed s.mul) refl refl
      (cause_there insn None refl) (λ id ends fault. refl)

  -- ---- rows that always trap

  -- ECALL traps in each mode, without an address
  pub ecall_way : (ops : Option (ℕ × ℕ)) → Fields h csrs → IsRow s t h Ecall word ops (done_there Ecall)
      → Way s t h c (seen Ecall)
  unfolding view_of finished execute cause_of counters_after access_by refused_by row_cause
  ecall_way ops f r =
      by_mode h.state.csrs.machine r
    where
      no_addr : (m : Bool) → fault_addr (if m then 11 else 8) 0 ≡ None
      no_addr true = refl
      no_addr false = refl

      by_mode : (m : Bool) → IsRow s t h Ecall word ops (trap (state_there h) (if m then 11 else 8) 0 0)
          → Way s t h c (seen Ecall)
      by_mode m r =
          traps_with s t h c (seen Ecall) (view_done h word ops (trap (state_there h) (if m then 11 else 8) 0 0))
          r.kind r.item r.phase refl (no_addr m) refl refl
          (ap is_some_cause (cause_there Ecall (Some (if csrs.priv_ then 11 else 8)) refl))

  -- EBREAK traps, without an address
  pub ebreak_way : (ops : Option (ℕ × ℕ)) → IsRow s t h Ebreak word ops (done_there Ebreak) → Way s t h c (seen Ebreak)
  unfolding view_of finished execute cause_of access_by refused_by row_cause
  ebreak_way ops r =
      traps_with s t h c (seen Ebreak) (view_done h word ops (done_there Ebreak)) r.kind r.item r.phase refl refl refl
      refl
      (ap is_some_cause (cause_there Ebreak (Some 3) refl))

  -- ---- rows that trap or not

  -- MRET by whether it is allowed
  mret_by : (m : Bool) (ops : Option (ℕ × ℕ)) (x : Executed)
      → (view_done h word ops x).kind ≡ 0 → (view_done h word ops x).word ≡ word
      → (seen Mret).trap ≡ (if m then None else Some 2)
      → IsRow s t h Mret word ops (if not m then illegal (state_there h) word else x) → Way s t h c (seen Mret)
  unfolding view_of finished retired_item worked access_by refused_by
  mret_by true ops x k w e r =
      retires_with s t h c (seen Mret) Mret word ops x 1 true r k w
      (record { portions = refl; cost_is = refl; sleeps = refl; redirects_is = refl }) (omega arith) refl refl
      e (λ id ends fault. refl)
  mret_by false ops x k w e r =
      traps_with s t h c (seen Mret) (view_done h word ops (illegal (state_there h) word)) r.kind r.item r.phase refl
      refl refl refl (ap is_some_cause e)

  -- so MRET takes a cycle more and redirects in M mode, and traps in U mode
  pub mret_way : (ops : Option (ℕ × ℕ)) → Fields h csrs → IsRow s t h Mret word ops (done_there Mret)
      → Way s t h c (seen Mret)
  unfolding view_of finished execute cause_of counters_after return_from_trap row_cause
  mret_way ops f r =
      mret_by h.state.csrs.machine ops _ refl refl
      (cause_there Mret (if csrs.priv_ then None else Some 2) refl ∙ ap (λ m. if m then None else Some 2) f.machine) r

  -- WFI by whether it is allowed
  wfi_by : (m : Bool) (ops : Option (ℕ × ℕ)) (x : Executed)
      → (view_done h word ops x).kind ≡ 0 → (view_done h word ops x).word ≡ word
      → (seen Wfi).trap ≡ (if m then None else Some 2)
      → (seen Wfi).wake ≡ is_woken h.times.ctl (lines_in (settings_of s) c)
      → IsRow s t h Wfi word ops (if m then x else illegal (state_there h) word) → Way s t h c (seen Wfi)
  unfolding view_of finished retired_item access_by refused_by cost_by
  wfi_by true ops x k w e wake r =
      let view : View = view_done h word ops x in
      let i : item_at s t h ≡ retired_item (settings_of s) h.times.ctl view (Some Wfi) (plain (parcels_of view.word)) =
      r.item ∙ retired_is (settings_of s) h.times.ctl view Wfi k (ap instruction_of w ∙ r.decoded) in
      sleeps r.kind refl refl refl e (ap (λ (i : Item). i.portions) i) (ap (λ (i : Item). i.sleeps) i) wake
      (r.phase ∙ retired_phase view k) (ap (λ (i : Item). i.redirects) i)
  wfi_by false ops x k w e wake r =
      traps_with s t h c (seen Wfi) (view_done h word ops (illegal (state_there h) word)) r.kind r.item r.phase refl
      refl refl refl (ap is_some_cause e)

  -- so WFI sleeps where it may, until a line that mie enables wakes it, and else traps
  pub wfi_way : (ops : Option (ℕ × ℕ)) → Fields h csrs → lines ≡ lines_in (settings_of s) c
      → IsRow s t h Wfi word ops (done_there Wfi) → Way s t h c (seen Wfi)
  unfolding view_of finished execute cause_of counters_after row_cause values
  wfi_way ops f l r =
      let waits : Bool → ℕ → Option ℕ = λ m st. if m || bit_and st 0x200000 == 0 then None else Some 2 in
      wfi_by (h.state.csrs.machine || bit_and h.state.csrs.mstatus 0x200000 == 0) ops _ refl refl
      (cause_there Wfi (waits csrs.priv_ csrs.mstatus) refl ∙ ap (λ m. waits m csrs.mstatus) f.machine
      ∙ ap (λ st. waits h.state.csrs.machine st) f.mstatus)
      (ap (λ l. not (bit_and l csrs.mie == 0)) l
      ∙ ap (λ e. not (bit_and (lines_in (settings_of s) c) e == 0)) (f.mie ∙ sym (ap (λ (k : Ctl). k.mie) f.ctl))) r

  -- by the value that is there, whether it writes, and whether it can be written
  csr_then : (insn : Insn) (w p : Bool) (ops : Option (ℕ × ℕ)) (x y : Executed)
      → (view_done h word ops x).kind ≡ 0 → (view_done h word ops x).word ≡ word
      → (view_done h word ops y).kind ≡ 0 → (view_done h word ops y).word ≡ word
      → ((v : View) (n : ℕ) → IsItem (retired_item (settings_of s) h.times.ctl v (Some insn) (plain n)) 0 false)
      → (seen insn).access ≡ None → (seen insn).refused ≡ 0
      → ((id : IdState) (ends : Bool) (fault : ℕ)
      → worked (Some insn) id (in_by (seen insn) ends fault) ≡ ends_at 0 false id)
      → (seen insn).trap ≡ (if w && not p then Some 2 else None)
      → IsRow s t h insn word ops (if not w then x else if not p then illegal (state_there h) word else y)
      → Way s t h c (seen insn)
  unfolding view_of finished
  csr_then insn false p ops x y k w k2 w2 item free ok turn e r =
      retires_with s t h c (seen insn) insn word ops x 0 false r k w
      (item (view_done h word ops x) (parcels_of (view_done h word ops x).word)) (omega arith) free ok e turn
  csr_then insn true false ops x y k w k2 w2 item free ok turn e r =
      traps_with s t h c (seen insn) (view_done h word ops (illegal (state_there h) word)) r.kind r.item r.phase refl
      refl free ok (ap is_some_cause e)
  csr_then insn true true ops x y k w k2 w2 item free ok turn e r =
      retires_with s t h c (seen insn) insn word ops y 0 false r k2 w2
      (item (view_done h word ops y) (parcels_of (view_done h word ops y).word)) (omega arith) free ok e turn

  -- a CSR instruction by what it reads, and whether it traps
  csr_by : (op : CsrOp) (rd src source addr next : ℕ) (imm : Bool) (ops : Option (ℕ × ℕ)) (o : Option ℕ)
      → (seen (Csr op rd src imm addr)).trap
      ≡ (if lacks_value o || (writes op src && not (csr_can_write h.state.csrs addr)) then Some 2 else None)
      → IsRow s t h (Csr op rd src imm addr) word ops (csr_with (state_there h) op rd src source addr word next o)
      → Way s t h c (seen (Csr op rd src imm addr))
  unfolding view_of finished retired_item worked csr_can_write counters_after access_by refused_by cost_by
  csr_by op rd src source addr next imm ops None e r =
      let insn : Insn = Csr op rd src imm addr in
      traps_with s t h c (seen insn) (view_done h word ops (illegal (state_there h) word)) r.kind r.item r.phase refl
      refl refl refl (ap is_some_cause e)
  csr_by op rd src source addr next imm ops (Some old) e r =
      let insn : Insn = Csr op rd src imm addr in
      csr_then insn (writes op src) (csr_can_write h.state.csrs addr) ops _ _ refl refl refl refl
      (λ v n. record { portions = refl; cost_is = refl; sleeps = refl; redirects_is = refl }) refl refl
      (λ id ends fault. refl) e r

  -- there is a register to read or not, whatever its value and the interrupt lines
  lacks_by : (v u : CsrValues) (l m : ℕ) (o : Option CsrName)
      → lacks_value (value_at v l o) ≡ lacks_value (value_at u m o)
  lacks_by v u l m None = refl
  lacks_by v u l m (Some r) = refl

  -- the core's fields find a CSR instruction illegal just where it can't read or may not write
  csr_trap : (op : CsrOp) (rd src addr l : ℕ) (imm : Bool) → Fields h csrs
      → (seen (Csr op rd src imm addr)).trap
      ≡ (if lacks_value (csr_read (state_there h).csrs addr l)
      || (writes op src && not (csr_can_write h.state.csrs addr)) then Some 2 else None)
  unfolding cause_of csr_read csr_can_write values counters_after row_cause csr_cause
  csr_trap op rd src addr l imm f =
      let ends : Bool → Bool → Option ℕ = λ lacks p. if lacks || (writes op src && not p) then Some 2 else None in
      let m : Bool = h.state.csrs.machine in
      cause_there (Csr op rd src imm addr)
      (ends (lacks_value (value_at (values csrs) 0 (readable csrs.priv_ addr))) (is_there (writable csrs.priv_ addr)))
      refl
      ∙ ap (λ m. ends (lacks_value (value_at (values csrs) 0 (readable m addr))) (is_there (writable m addr)))
      f.machine
      ∙ ap (λ b. ends b (is_there (writable m addr)))
      (lacks_by (values csrs) (state_there h).csrs 0 l (readable m addr))

  -- so a CSR instruction retires at once or is illegal, with an immediate or a register
  pub csr_way : (op : CsrOp) (rd src : ℕ) (imm : Bool) (addr : ℕ) (ops : Option (ℕ × ℕ)) → Fields h csrs
      → IsRow s t h (Csr op rd src imm addr) word ops (done_there (Csr op rd src imm addr))
      → Way s t h c (seen (Csr op rd src imm addr))
  unfolding execute csr_access
  csr_way op rd src true addr ops f r =
      let l : ℕ = lines_in (settings_of s) h.state.stands in
      csr_by op rd src src addr (following (state_there h) length) true ops (csr_read (state_there h).csrs addr l)
      (csr_trap op rd src addr l true f) r
  csr_way op rd src false addr ops f r =
      let l : ℕ = lines_in (settings_of s) h.state.stands in
      csr_by op rd src (reg (state_there h) src) addr (following (state_there h) length) false ops
      (csr_read (state_there h).csrs addr l) (csr_trap op rd src addr l false f) r
