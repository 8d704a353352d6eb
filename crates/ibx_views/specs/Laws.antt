-- What is said of time views: cycles depend on them alone, and operands show in few of them.
use Rattle.std.specs.Prelude.{◌≡◌, ◌↔◌, ℕ, Bool, true, false, not, ◌||◌, ◌==◌, List, map, take, Option, Some, None}
use Rattle.ibx_elf.specs.declared.ram.Ram.{Ram}
use Rattle.ibx_isa.specs.declared.insn.Insn.{Insn}
use Rattle.ibx_isa.specs.declared.insn.Insn.TheVariants.{Lui, Auipc, Branch, Load, Store, AluImm, Alu, MulDiv, Csr}
use Rattle.ibx_isa.specs.declared.insn.Insn.TheVariants.{Fence}
use Rattle.ibx_isa.specs.declared.insn.MdOp.{MdOp}
use Rattle.ibx_isa.specs.declared.insn.MdOp.TheVariants.{Mul, Mulh, Mulhsu, Mulhu}
use Rattle.ibx_isa.specs.declared.insn.MulKind.{MulKind}
use Rattle.ibx_isa.specs.declared.insn.MulKind.TheVariants.{Slow}
use Rattle.ibx_isa.specs.declared.event.Access.{Access}
use Rattle.ibx_isa.specs.declared.event.Event.{Event}
use Rattle.ibx_isa.specs.declared.event.Event.TheVariants.{Retire}
use Rattle.ibx_isa.specs.declared.event.View.{View}
use Rattle.ibx_isa.specs.Cost.{significant_bits}
use Rattle.ibx_isa.specs.Lengths.{is_long}
use Rattle.ibx_isa.specs.Views.{view_of}
use Rattle.ibx_decoder.specs.Instructions.{instruction_of}
use Rattle.ibx_plan.specs.Plan.{PlanValue}
use Rattle.ibx_time.specs.Settings.{Settings, Setup, settings_of}
use Rattle.ibx_time.specs.Controls.{Ctl, is_fixed}
use Rattle.ibx_time.specs.Items.{operand2, is_turned, portions_for}
use Rattle.ibx_time.specs.Timeline.{timeline}
use Rattle.ibx_time.specs.History.{history, story}
use Rattle.ibx_time.specs.Cycles.{cycle_of}
use Rattle.ibx_views.specs.declared.time_view.TimeView.{TimeView}
use Rattle.ibx_views.specs.TimeViews.{time_view, time_views_of}
use Rattle.ibx_views.specs.Parts.{Tells, part_of}

-- two histories with equal settings whose first j time views agree have the same first j cycles
abbrev pub EqualTimeViewsEqualCycles : Type 0
EqualTimeViewsEqualCycles =
    (a b : Setup) → settings_of a ≡ settings_of b → (n m j : ℕ)
    → take j (time_views_of (settings_of a) (history a n)) ≡ take j (time_views_of (settings_of b) (history b m))
    → take j (map cycle_of (history a n)) ≡ take j (map cycle_of (history b m))

-- so have two stories
abbrev pub EqualStoryTimeViewsEqualCycles : Type 0
EqualStoryTimeViewsEqualCycles =
    (a b : Setup) → settings_of a ≡ settings_of b → (n m j : ℕ)
    → take j (time_views_of (settings_of a) (story a n)) ≡ take j (time_views_of (settings_of b) (story b m))
    → take j (map cycle_of (story a n)) ≡ take j (map cycle_of (story b m))

-- from one entry, up to one limit and with one program counter at the end, the timeline reads the time views alone
abbrev pub ReadsTimeViews : Type 0
ReadsTimeViews =
    (k : Settings) (entry limit pc : ℕ) (xs ys : List Event) → time_views_of k xs ≡ time_views_of k ys
    → timeline k entry limit (map view_of xs) pc ≡ timeline k entry limit (map view_of ys) pc

-- where the first j views of two lists of events agree, so do their first j time views
abbrev pub EqualViewsEqualTimeViews : Type 0
EqualViewsEqualTimeViews =
    (k : Settings) (j : ℕ) (xs ys : List Event) → take j (map view_of xs) ≡ take j (map view_of ys)
    → take j (time_views_of k xs) ≡ take j (time_views_of k ys)

-- the answer for two time views tells of them what it says
abbrev pub PartsTell : Type 0
PartsTell = (v w : TimeView) → Tells v w (part_of v w)

-- the answer is that nothing tells them apart where they are the same
abbrev pub NothingTellsEqual : Type 0
NothingTellsEqual = (v w : TimeView) → v ≡ w → part_of v w ≡ None

-- ---- what of a retirement shows

-- two second operands make an operation that hangs on its operands cost the same: a division or a remainder is by 0 or
-- not, and a low product of the slow multiplier stops at its highest bit
abbrev pub CostAlike : MulKind → MdOp → ℕ → ℕ → Type 0
CostAlike Slow Mul a b = significant_bits a ≡ significant_bits b
CostAlike mul Mul a b = Unit
CostAlike mul Mulh a b = Unit
CostAlike mul Mulhsu a b = Unit
CostAlike mul Mulhu a b = Unit
CostAlike mul op a b = (a == 0) ≡ (b == 0)

-- All that shows of two retirements of a row: of a branch whether it is taken, of an operation its cost, both without
-- fixed timing alone; of an access its portions; of a CSR instruction what it handed to a write; of other rows nothing.
abbrev pub ShowAlike : Settings → Ctl → Option Insn → View → View → Type 0
ShowAlike k c (Some (Branch op rs1 rs2 imm)) v w =
    is_fixed c ≡ false → is_turned false op v.ops ≡ is_turned false op w.ops
ShowAlike k c (Some (MulDiv op rd rs1 rs2)) v w =
    is_fixed c ≡ false → CostAlike k.mul op (operand2 v.ops) (operand2 w.ops)
ShowAlike k c (Some (Load op rd rs1 imm)) v w =
    portions_for k c (Some (Load op rd rs1 imm)) v.addr ≡ portions_for k c (Some (Load op rd rs1 imm)) w.addr
ShowAlike k c (Some (Store size rs1 rs2 imm)) v w =
    portions_for k c (Some (Store size rs1 rs2 imm)) v.addr ≡ portions_for k c (Some (Store size rs1 rs2 imm)) w.addr
ShowAlike k c (Some (Csr op rd src imm addr)) v w = v.ctl ≡ w.ctl
ShowAlike k c insn v w = Unit

-- so two retirements of one word at one program counter have one time view exactly where they show alike
abbrev pub ShowsJust : Type 0
ShowsJust =
    (k : Settings) (c : Ctl) (v w : View) → v.kind ≡ 0 → w.kind ≡ 0 → v.pc ≡ w.pc → v.word ≡ w.word
    → ShowAlike k c (instruction_of v.word) v w ↔ time_view k c v ≡ time_view k c w

-- the cost of an operation hangs on its operands without fixed timing
abbrev pub varies : MulKind → MdOp → Bool
varies Slow Mul = true
varies mul Mul = false
varies mul Mulh = false
varies mul Mulhsu = false
varies mul Mulhu = false
varies mul op = true

-- The time of an instruction that retired, of this row, hangs on no operand: it is no access and no CSR instruction,
-- and a branch, a division, a remainder or a low product of the slow multiplier only with fixed timing.
abbrev pub hides : Settings → Ctl → Option Insn → Bool
hides k c (Some (Branch op rs1 rs2 imm)) = is_fixed c
hides k c (Some (MulDiv op rd rs1 rs2)) = is_fixed c || not (varies k.mul op)
hides k c (Some (Load op rd rs1 imm)) = false
hides k c (Some (Store size rs1 rs2 imm)) = false
hides k c (Some (Csr op rd src imm addr)) = false
hides k c insn = true

-- so two retirements of one word at one program counter have one time view, whatever their operands and results are
abbrev pub HidesOperands : Type 0
HidesOperands =
    (k : Settings) (c : Ctl) (pc word cycle cycle2 rd rd2 value value2 : ℕ) (mem mem2 : Option Access)
    (ctl ctl2 : Option ℕ) (ops ops2 : Option (ℕ × ℕ))
    → hides k c (instruction_of word) ≡ true
    → time_view k c (view_of (Retire cycle pc word rd value mem ctl ops))
    ≡ time_view k c (view_of (Retire cycle2 pc word rd2 value2 mem2 ctl2 ops2))

-- rows that only compute, one instruction as good as the other
abbrev pub is_plain : Option Insn → Bool
is_plain (Some (Lui rd imm)) = true
is_plain (Some (Auipc rd imm)) = true
is_plain (Some (AluImm op rd rs1 imm)) = true
is_plain (Some (Alu op rd rs1 rs2)) = true
is_plain (Some Fence) = true
is_plain insn = false

-- two retirements of such rows, of one length and at one program counter, have one time view
abbrev pub HidesWords : Type 0
HidesWords =
    (k : Settings) (c : Ctl) (v w : View) → v.kind ≡ 0 → w.kind ≡ 0 → v.pc ≡ w.pc
    → is_long v.word ≡ is_long w.word → is_plain (instruction_of v.word) ≡ true
    → is_plain (instruction_of w.word) ≡ true → time_view k c v ≡ time_view k c w

-- a time view hangs on the RAM's range and the multiplier, and on no plan
abbrev pub ReadsNoPlan : Type 0
ReadsNoPlan =
    (ram : Ram) (mul : MulKind) (p q : PlanValue) (c : Ctl) (v : View)
    → time_view (record { ram = ram; mul = mul; plan = p }) c v
    ≡ time_view (record { ram = ram; mul = mul; plan = q }) c v
