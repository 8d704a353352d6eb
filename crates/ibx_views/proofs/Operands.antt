-- What of a retirement shows in its time view: little of its operands, and nothing of its results.
use Rattle.std.proofs.Common.{◌≡◌, ℕ, Bool, true, false, not, ◌||◌, ◌==◌, Option, Some, None, subst, refl, sym, ap, ap₂}
use Rattle.std.proofs.Common.{◌∙◌}
use Rattle.std.proofs.Common.{if◌then◌else◌}
use Rattle.ibx_elf.specs.declared.ram.Ram.{Ram}
use Rattle.ibx_isa.specs.declared.insn.BranchOp.{BranchOp}
use Rattle.ibx_isa.specs.declared.insn.CsrOp.{CsrOp}
use Rattle.ibx_isa.specs.declared.insn.Insn.{Insn}
use Rattle.ibx_isa.specs.declared.insn.Insn.TheVariants.{Lui, Auipc, Branch, Load, Store, AluImm, Alu, MulDiv, Csr}
use Rattle.ibx_isa.specs.declared.insn.Insn.TheVariants.{Fence}
use Rattle.ibx_isa.specs.declared.insn.MdOp.{MdOp}
use Rattle.ibx_isa.specs.declared.insn.MdOp.TheVariants.{Mul, Mulh, Mulhsu, Mulhu}
use Rattle.ibx_isa.specs.declared.insn.MulKind.{MulKind}
use Rattle.ibx_isa.specs.declared.insn.MulKind.TheVariants.{Single, Fast, Slow}
use Rattle.ibx_isa.specs.declared.event.Event.TheVariants.{Retire}
use Rattle.ibx_isa.specs.declared.event.View.{View}
use Rattle.ibx_isa.specs.Cost.{md_cost_of}
use Rattle.ibx_isa.specs.Views.{view_of}
use Rattle.ibx_decoder.specs.Instructions.{instruction_of}
use Rattle.ibx_plan.specs.Plan.{PlanValue}
use Rattle.ibx_time.specs.Settings.{Settings}
use Rattle.ibx_time.specs.Controls.{Ctl, is_fixed}
use Rattle.ibx_time.specs.Items.{Item, plain, parcels_of, operand2, is_turned, branching, retired_item, item_of}
use Rattle.ibx_time.specs.Items.{Portions, trap_parcels, portions_for}
use Rattle.ibx_views.specs.declared.time_view.Change.{Change}
use Rattle.ibx_views.specs.declared.time_view.Change.TheVariants.{Unchanged}
use Rattle.ibx_views.specs.declared.time_view.TimeView.{TimeView}
use Rattle.ibx_views.specs.TimeViews.{change_retired, change_of, item_view, time_view}
use Rattle.ibx_views.proofs.Shown.{same_items}
use Rattle.ibx_views.specs.Laws.{CostAlike, ShowAlike, ShowsJust, varies, hides, HidesOperands, is_plain, HidesWords}
use Rattle.ibx_views.specs.Laws.{ReadsNoPlan}

-- ---- two retirements of one row

-- a branch turns alike
turned_same : (fixed : Bool) (op : BranchOp) (a b : Option (ℕ × ℕ))
    → (fixed ≡ false → is_turned false op a ≡ is_turned false op b) → is_turned fixed op a ≡ is_turned fixed op b
turned_same true op a b e = refl
turned_same false op a b e = e refl

-- an operation costs the same
cost_same : (mul : MulKind) (op : MdOp) (fixed : Bool) (a b : ℕ) → (fixed ≡ false → CostAlike mul op a b)
    → md_cost_of op a fixed mul ≡ md_cost_of op b fixed mul
unfolding md_cost_of
cost_same Slow Mul true a b e = refl
cost_same Slow Mul false a b e = e refl
cost_same Single Mul fixed a b e = refl
cost_same Fast Mul fixed a b e = refl
cost_same mul Mulh fixed a b e = refl
cost_same mul Mulhsu fixed a b e = refl
cost_same mul Mulhu fixed a b e = refl
cost_same mul op true a b e = refl
cost_same mul op false a b e = ap {B = ℕ} (λ c. if c then 1 else 37) (e refl)

-- so the item is the same
item_same : (k : Settings) (c : Ctl) (v w : View) (o : Option Insn) (i : Item) → ShowAlike k c o v w
    → retired_item k c v o i ≡ retired_item k c w o i
unfolding retired_item
item_same k c v w (Some (Branch op rs1 rs2 imm)) i e =
    ap (λ b. branching b i) (turned_same (is_fixed c) op v.ops w.ops e)
item_same k c v w (Some (MulDiv op rd rs1 rs2)) i e =
    ap (λ (n : ℕ). record i { cost = n }) (cost_same k.mul op (is_fixed c) (operand2 v.ops) (operand2 w.ops) e)
item_same k c v w (Some (Load op rd rs1 imm)) i e = ap (λ (o : Portions). record i { portions = o }) e
item_same k c v w (Some (Store size rs1 rs2 imm)) i e = ap (λ (o : Portions). record i { portions = o }) e
item_same k c v w o i e = refl

-- and so is the change
change_same : (k : Settings) (c : Ctl) (v w : View) (o : Option Insn) → ShowAlike k c o v w
    → change_retired o v.ctl ≡ change_retired o w.ctl
change_same k c v w (Some (Csr op rd src imm addr)) e = ap (λ z. change_retired (Some (Csr op rd src imm addr)) z) e
change_same k c v w o e = refl

-- the time view of a retirement, by its row
retired : (k : Settings) (c : Ctl) (v : View) → v.kind ≡ 0 → time_view k c v ≡ record {
  pc = v.pc;
  item = item_view (retired_item k c v (instruction_of v.word) (plain (parcels_of v.word)));
  change = change_retired (instruction_of v.word) v.ctl;
}
unfolding item_of change_of
retired k c v e = rw e refl

-- so retirements that show alike have one time view
shows_only : (k : Settings) (c : Ctl) (v w : View) → v.kind ≡ 0 → w.kind ≡ 0 → v.pc ≡ w.pc → v.word ≡ w.word
    → ShowAlike k c (instruction_of v.word) v w → time_view k c v ≡ time_view k c w
shows_only k c v w e f pcs words alike =
    retired k c v e
    ∙ ap₂ (λ (i : Item) (h : Change). record { pc = v.pc; item = item_view i; change = h })
    (item_same k c v w (instruction_of v.word) (plain (parcels_of v.word)) alike)
    (change_same k c v w (instruction_of v.word) alike)
    ∙ ap₂ (λ (p : ℕ) (z : ℕ). record {
      pc = p;
      item = item_view (retired_item k c w (instruction_of z) (plain (parcels_of z)));
      change = change_retired (instruction_of z) w.ctl;
    }) pcs words
    ∙ sym (retired k c w f)

-- ---- and back: what is the same of their time views shows alike

-- a branch that turns redirects
turn_shows : (b : Bool) (n : ℕ) → (branching b (plain n)).redirects ≡ b
turn_shows true n = refl
turn_shows false n = refl

-- without fixed timing the item shows whether a branch turns
turned_back : (fixed : Bool) (op : BranchOp) (a b : Option (ℕ × ℕ)) (n : ℕ)
    → branching (is_turned fixed op a) (plain n) ≡ branching (is_turned fixed op b) (plain n) → fixed ≡ false
    → is_turned false op a ≡ is_turned false op b
turned_back true op a b n e f = absurd (cc)
turned_back false op a b n e f =
    sym (turn_shows (is_turned false op a) n)
    ∙ ap (λ (i : Item). i.redirects) e
    ∙ turn_shows (is_turned false op b) n

-- a division by 0 has a cost of its own
division_back : (a b : Bool) → ◌≡◌ {A = ℕ} (if a then 1 else 37) (if b then 1 else 37) → a ≡ b
division_back true true e = refl
division_back true false e = absurd (cc)
division_back false true e = absurd (cc)
division_back false false e = refl

-- the cost of an operation shows what it hangs on
cost_back : (mul : MulKind) (op : MdOp) (fixed : Bool) (a b : ℕ)
    → md_cost_of op a fixed mul ≡ md_cost_of op b fixed mul → fixed ≡ false → CostAlike mul op a b
unfolding md_cost_of
cost_back mul op true a b e f = absurd (cc)
cost_back Slow Mul false a b e f = e
cost_back Single Mul false a b e f = tt
cost_back Fast Mul false a b e f = tt
cost_back mul Mulh false a b e f = tt
cost_back mul Mulhsu false a b e f = tt
cost_back mul Mulhu false a b e f = tt
cost_back mul op false a b e f = division_back (a == 0) (b == 0) e

-- the write of a CSR shows its value
written_back : (op : CsrOp) (rd src addr : ℕ) (imm : Bool) (a b : Option ℕ)
    → change_retired (Some (Csr op rd src imm addr)) a ≡ change_retired (Some (Csr op rd src imm addr)) b → a ≡ b
written_back op rd src addr imm None None e = refl
written_back op rd src addr imm None (Some y) e = absurd (cc)
written_back op rd src addr imm (Some x) None e = absurd (cc)
written_back op rd src addr imm (Some x) (Some y) e = cc

-- so it is for each row
row_back : (k : Settings) (c : Ctl) (v w : View) (o : Option Insn) (n : ℕ)
    → retired_item k c v o (plain n) ≡ retired_item k c w o (plain n)
    → change_retired o v.ctl ≡ change_retired o w.ctl → ShowAlike k c o v w
unfolding retired_item
row_back k c v w (Some (Branch op rs1 rs2 imm)) n e f = turned_back (is_fixed c) op v.ops w.ops n e
row_back k c v w (Some (MulDiv op rd rs1 rs2)) n e f =
    cost_back k.mul op (is_fixed c) (operand2 v.ops) (operand2 w.ops) (ap (λ (i : Item). i.cost) e)
row_back k c v w (Some (Load op rd rs1 imm)) n e f = ap (λ (i : Item). i.portions) e
row_back k c v w (Some (Store size rs1 rs2 imm)) n e f = ap (λ (i : Item). i.portions) e
row_back k c v w (Some (Csr op rd src imm addr)) n e f = written_back op rd src addr imm v.ctl w.ctl f
row_back k c v w o n e f = tt

-- retirements with one time view show alike
shows_back : (k : Settings) (c : Ctl) (v w : View) → v.kind ≡ 0 → w.kind ≡ 0 → v.word ≡ w.word
    → time_view k c v ≡ time_view k c w → ShowAlike k c (instruction_of v.word) v w
shows_back k c v w e f words same =
    let views = sym (retired k c v e) ∙ same ∙ retired k c w f in
    row_back k c v w (instruction_of v.word) (parcels_of v.word)
    (subst (λ z. retired_item k c v (instruction_of v.word) (plain (parcels_of v.word))
    ≡ retired_item k c w (instruction_of z) (plain (parcels_of z))) (sym words)
    (same_items _ _ (ap (λ (x : TimeView). x.item) views)))
    (subst (λ z. change_retired (instruction_of v.word) v.ctl ≡ change_retired (instruction_of z) w.ctl) (sym words)
    (ap (λ (x : TimeView). x.change) views))

-- so they have one time view exactly where they show alike
pub shows_just : ShowsJust
shows_just k c v w e f pcs words = (shows_only k c v w e f pcs words, shows_back k c v w e f words)

-- ---- rows that show nothing

-- what doesn't vary costs alike
alike_cost : (mul : MulKind) (op : MdOp) (fixed : Bool) (a b : ℕ) → (fixed || not (varies mul op)) ≡ true
    → fixed ≡ false → CostAlike mul op a b
alike_cost mul op true a b e f = absurd (cc)
alike_cost Slow Mul false a b e f = absurd (cc)
alike_cost Single Mul false a b e f = tt
alike_cost Fast Mul false a b e f = tt
alike_cost mul Mulh false a b e f = tt
alike_cost mul Mulhsu false a b e f = tt
alike_cost mul Mulhu false a b e f = tt
alike_cost mul op false a b e f = absurd (cc)

-- a row that hides its operands shows alike
alike_hidden : (k : Settings) (c : Ctl) (v w : View) (o : Option Insn) → hides k c o ≡ true → ShowAlike k c o v w
alike_hidden k c v w (Some (Branch op rs1 rs2 imm)) e =
    λ f. let no_ : true ≡ false = sym e ∙ f in absurd (cc)
alike_hidden k c v w (Some (MulDiv op rd rs1 rs2)) e =
    alike_cost k.mul op (is_fixed c) (operand2 v.ops) (operand2 w.ops) e
alike_hidden k c v w (Some (Load op rd rs1 imm)) e = absurd (cc)
alike_hidden k c v w (Some (Store size rs1 rs2 imm)) e = absurd (cc)
alike_hidden k c v w (Some (Csr op rd src imm addr)) e = absurd (cc)
alike_hidden k c v w o e = tt

-- so operands and results of such rows don't show
pub hides_operands : HidesOperands
unfolding view_of
hides_operands k c pc word cycle cycle2 rd rd2 value value2 mem mem2 ctl ctl2 ops ops2 e =
    shows_only k c (view_of (Retire cycle pc word rd value mem ctl ops))
    (view_of (Retire cycle2 pc word rd2 value2 mem2 ctl2 ops2)) refl refl refl refl
    (alike_hidden k c (view_of (Retire cycle pc word rd value mem ctl ops))
    (view_of (Retire cycle2 pc word rd2 value2 mem2 ctl2 ops2)) (instruction_of word) e)

-- ---- plain rows

-- a plain row ends as it enters
plain_item : (k : Settings) (c : Ctl) (v : View) (o : Option Insn) (i : Item) → is_plain o ≡ true
    → retired_item k c v o i ≡ i
unfolding retired_item
plain_item k c v (Some (Lui rd imm)) i e = refl
plain_item k c v (Some (Auipc rd imm)) i e = refl
plain_item k c v (Some (AluImm op rd rs1 imm)) i e = refl
plain_item k c v (Some (Alu op rd rs1 rs2)) i e = refl
plain_item k c v (Some Fence) i e = refl
plain_item k c v o i e = absurd (cc)

-- it leaves the registers
plain_change : (o : Option Insn) (written : Option ℕ) → is_plain o ≡ true → change_retired o written ≡ Unchanged
plain_change (Some (Lui rd imm)) written e = refl
plain_change (Some (Auipc rd imm)) written e = refl
plain_change (Some (AluImm op rd rs1 imm)) written e = refl
plain_change (Some (Alu op rd rs1 rs2)) written e = refl
plain_change (Some Fence) written e = refl
plain_change o written e = absurd (cc)

-- so its time view is that of its length
plain_view : (k : Settings) (c : Ctl) (v : View) → v.kind ≡ 0 → is_plain (instruction_of v.word) ≡ true
    → time_view k c v ≡ record { pc = v.pc; item = item_view (plain (parcels_of v.word)); change = Unchanged }
plain_view k c v e p =
    retired k c v e
    ∙ ap₂ (λ (i : Item) (h : Change). record { pc = v.pc; item = item_view i; change = h })
    (plain_item k c v (instruction_of v.word) (plain (parcels_of v.word)) p)
    (plain_change (instruction_of v.word) v.ctl p)

-- so plain rows of one length have one time view
pub hides_words : HidesWords
hides_words k c v w e f pcs lengths p q =
    plain_view k c v e p
    ∙ ap₂ (λ (n : ℕ) (b : Bool). record { pc = n; item = item_view (plain (if b then 2 else 1)); change = Unchanged })
    pcs lengths
    ∙ sym (plain_view k c w f q)

-- ---- the plan

-- portions read no plan
plan_portions : (ram : Ram) (mul : MulKind) (p q : PlanValue) (c : Ctl) (o : Option Insn) (addr : Option ℕ)
    → portions_for (record { ram = ram; mul = mul; plan = p }) c o addr
    ≡ portions_for (record { ram = ram; mul = mul; plan = q }) c o addr
plan_portions ram mul p q c (Some (Load op rd rs1 imm)) (Some addr) = refl
plan_portions ram mul p q c (Some (Store size rs1 rs2 imm)) (Some addr) = refl
plan_portions ram mul p q c o addr = refl

-- the item of a retirement reads no plan
plan_retired : (ram : Ram) (mul : MulKind) (p q : PlanValue) (c : Ctl) (v : View) (o : Option Insn) (i : Item)
    → retired_item (record { ram = ram; mul = mul; plan = p }) c v o i
    ≡ retired_item (record { ram = ram; mul = mul; plan = q }) c v o i
unfolding retired_item
plan_retired ram mul p q c v (Some (Branch op rs1 rs2 imm)) i = refl
plan_retired ram mul p q c v (Some (MulDiv op rd rs1 rs2)) i = refl
plan_retired ram mul p q c v (Some (Load op rd rs1 imm)) i =
    ap (λ (o : Portions). record i { portions = o })
    (plan_portions ram mul p q c (Some (Load op rd rs1 imm)) v.addr)
plan_retired ram mul p q c v (Some (Store size rs1 rs2 imm)) i =
    ap (λ (o : Portions). record i { portions = o })
    (plan_portions ram mul p q c (Some (Store size rs1 rs2 imm)) v.addr)
plan_retired ram mul p q c v o i = refl

-- nor does any item, and so no time view
pub reads_no_plan : ReadsNoPlan
unfolding item_of
reads_no_plan ram mul p q c v =
    ap₂ (λ (o : Portions) (i : Item). record {
      pc = v.pc;
      item = item_view (
          if v.kind == 2 then record (plain 0) { redirects = true } else
          if v.kind == 1 then record (plain (trap_parcels v)) { portions = o; cost = 1; redirects = true } else
          i);
      change = change_of v;
    }) (plan_portions ram mul p q c (instruction_of v.word) v.addr)
    (plan_retired ram mul p q c v (instruction_of v.word) (plain (parcels_of v.word)))
