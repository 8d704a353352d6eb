-- What of an item decides its cycles: by its view and the registers at its admission. Our own rule.
use Rattle.std.specs.Prelude.{ℕ, Bool, true, false, not, ◌&&◌, ◌||◌, ◌==◌, if◌then◌else◌, Option, Some, None}
use Rattle.ibx_isa.specs.declared.insn.Insn.{Insn}
use Rattle.ibx_isa.specs.declared.insn.Insn.TheVariants.{Jal, Jalr, Branch, Load, Store, MulDiv, FenceI, Mret, Wfi}
use Rattle.ibx_isa.specs.declared.insn.BranchOp.{BranchOp}
use Rattle.ibx_isa.specs.declared.event.View.{View}
use Rattle.ibx_isa.specs.Alu.{branch_of}
use Rattle.ibx_isa.specs.Cost.{md_cost_of}
use Rattle.ibx_isa.specs.Portions.{portion_addr, size_of}
use Rattle.ibx_pmp.specs.declared.protection.AccessKind.{AccessKind}
use Rattle.ibx_pmp.specs.declared.protection.AccessKind.TheVariants.{Read, Write}
use Rattle.ibx_arch.specs.Access.{has_second, is_refused}
use Rattle.ibx_decoder.specs.Instructions.{instruction_of}
use Rattle.ibx_isa.specs.Lengths.{is_long}
use Rattle.ibx_time.specs.Settings.{Settings}
use Rattle.ibx_time.specs.Controls.{Ctl, is_fixed, values_of}
use Rattle.ibx_time.specs.Dummies.{dummy_cost}
use Rattle.ibx_dummy.specs.Dummies.{dummy_kind}
use Rattle.ibx_dummy.specs.declared.unit.Dummy.{Dummy}
use Rattle.ibx_arch.specs.Memory.{is_mapped}

-- The portions that an item has on the bus: none, one or two, and the last of them may be one that no memory answers.
pub data Portions : Type 0 where
  NoPortion : Portions
  One : Portions
  OneBad : Portions
  Two : Portions
  TwoBad : Portions

-- the parcels that it takes as it enters, its portions, the cycles from its enter to its done where it has no portion,
-- whether it waits for an interrupt line instead, whether it redirects, and whether it is a FENCE.I
pub record Item : Type 0 where
  pub parcels : ℕ
  pub portions : Portions
  pub cost : ℕ
  pub sleeps : Bool
  pub redirects : Bool
  pub fences : Bool

-- an item that takes so many parcels, and ends as it enters
abbrev pub plain : ℕ → Item
plain parcels =
    record { parcels = parcels; portions = NoPortion; cost = 0; sleeps = false; redirects = false; fences = false }

-- by whether protection refuses it, no memory answers its first portion, there is a second, and none answers that
abbrev pub portions_by : Bool → Bool → Bool → Bool → Portions
portions_by true bad second bad2 = NoPortion
portions_by false true second bad2 = OneBad
portions_by false false false bad2 = One
portions_by false false true true = TwoBad
portions_by false false true false = Two

-- the portions of an access at an address, by what refuses it and which memory answers
abbrev pub portions_at : Settings → Ctl → ℕ → ℕ → AccessKind → Portions
portions_at k c addr size kind =
    portions_by (is_refused (values_of c) addr size kind false
    || (has_second addr size && is_refused (values_of c) addr size kind true))
    (not (is_mapped k.ram (portion_addr addr false)))
    (has_second addr size)
    (not (is_mapped k.ram (portion_addr addr true)))

-- a load or store whose address is in the view
abbrev pub portions_for : Settings → Ctl → Option Insn → Option ℕ → Portions
portions_for k c (Some (Load op rd rs1 imm)) (Some addr) = portions_at k c addr (size_of op) Read
portions_for k c (Some (Store size rs1 rs2 imm)) (Some addr) = portions_at k c addr size Write
portions_for k c insn addr = NoPortion

-- how many parcels the instruction of a word has
abbrev pub parcels_of : ℕ → ℕ
parcels_of word = if is_long word then 2 else 1

-- the second operand, where the view has operands
abbrev pub operand2 : Option (ℕ × ℕ) → ℕ
operand2 (Some (a, b)) = b
operand2 None = 0

-- a branch takes a cycle more where it is taken, or where timing is fixed
abbrev pub is_turned : Bool → BranchOp → Option (ℕ × ℕ) → Bool
is_turned true op ops = true
is_turned false op (Some (a, b)) = branch_of op a b
is_turned false op None = false

-- a branch that turns costs a cycle more and redirects
abbrev pub branching : Bool → Item → Item
branching true i = record i { cost = 1; redirects = true }
branching false i = i

-- what a retired instruction takes, by its kind
unfoldable pub retired_item : Settings → Ctl → View → Option Insn → Item → Item
retired_item k c v (Some (Branch op rs1 rs2 imm)) i = branching (is_turned (is_fixed c) op v.ops) i
retired_item k c v (Some (MulDiv op rd rs1 rs2)) i =
    record i { cost = md_cost_of op (operand2 v.ops) (is_fixed c) k.mul }
retired_item k c v (Some (Load op rd rs1 imm)) i =
    record i { portions = portions_for k c (Some (Load op rd rs1 imm)) v.addr }
retired_item k c v (Some (Store size rs1 rs2 imm)) i =
    record i { portions = portions_for k c (Some (Store size rs1 rs2 imm)) v.addr }
retired_item k c v (Some (Jal rd imm)) i = record i { redirects = true }
retired_item k c v (Some (Jalr rd rs1 imm)) i = record i { redirects = true }
retired_item k c v (Some FenceI) i = record i { redirects = true; fences = true }
retired_item k c v (Some Mret) i = record i { cost = 1; redirects = true }
retired_item k c v (Some Wfi) i = record i { sleeps = true }
retired_item k c v insn i = i

-- an unsound first parcel is taken alone
abbrev pub trap_parcels : View → ℕ
trap_parcels v = if v.cause == 1 then (if v.tval == v.pc then 1 else 2) else parcels_of v.word

-- The item with this view, whose admission found these registers. A trap is done in the cycle after it is found: as
-- the item enters, or at the answer that is an error.
unfoldable pub item_of : Settings → Ctl → View → Item
item_of k c v =
    if v.kind == 2 then record (plain 0) { redirects = true } else
    if v.kind == 1 then record (plain (trap_parcels v))
    { portions = portions_for k c (instruction_of v.word) v.addr; cost = 1; redirects = true } else
    retired_item k c v (instruction_of v.word) (plain (parcels_of v.word))

-- a dummy takes its fixed cost, and no parcels
unfoldable pub dummy_item : Settings → Dummy → Item
dummy_item k d = record (plain 0) { cost = dummy_cost k.mul (dummy_kind d.lfsr) }
