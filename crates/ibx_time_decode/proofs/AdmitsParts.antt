-- The portions of an item that is admitted: they are all to come.
use Rattle.std.proofs.Common.{◌≡◌, ℕ, ◌+◌, ◌<◌, ◌≤◌, ◌⊎◌, inl, inr, Bool, true, false, List, ◌∷◌, Option, Some}
use Rattle.std.proofs.Common.{None, refl, ◌∙◌, arith}
use Rattle.std.specs.Prelude.{◌==◌, if◌then◌else◌}
use Rattle.ibx_isa.specs.declared.insn.Insn.{Insn}
use Rattle.ibx_isa.specs.declared.insn.Insn.TheVariants.{Lui, Auipc, Jal, Jalr, Branch, Load, Store, AluImm, Alu}
use Rattle.ibx_isa.specs.declared.insn.Insn.TheVariants.{MulDiv, Csr, Fence, FenceI, Ecall, Ebreak, Mret, Wfi}
use Rattle.ibx_isa.specs.declared.event.Access.{Access}
use Rattle.ibx_isa.specs.declared.event.View.{View}
use Rattle.ibx_bus.specs.Port.{PortState}
use Rattle.ibx_bus.proofs.Ports.{Idle}
use Rattle.ibx_plan.specs.declared.site.Wait.{Wait}
use Rattle.ibx_lsu.specs.declared.unit.Lsu.{Lsu}
use Rattle.ibx_lsu.specs.Turns.{idle_of as ls_idle}
use Rattle.ibx_decoder.specs.Instructions.{instruction_of}
use Rattle.ibx_arch.specs.State.{State}
use Rattle.ibx_arch.specs.Step.{Choice}
use Rattle.ibx_time.specs.Settings.{Settings, Setup, settings_of}
use Rattle.ibx_time.specs.Controls.{Ctl, is_fixed}
use Rattle.ibx_time.specs.Items.{Item, Portions, NoPortion, One, OneBad, Two, TwoBad, branching, dummy_item, is_turned}
use Rattle.ibx_time.specs.Items.{item_of, parcels_of, portions_for, plain, retired_item, trap_parcels}
use Rattle.ibx_time.specs.Requests.{Transaction}
use Rattle.ibx_time.specs.Memories.{access_of, portion_sent, sent_by, sent_with}
use Rattle.ibx_time.specs.History.{Story, access_at, access_by, choice_at, item_at, item_by, taken, view_with}
use Rattle.ibx_time.specs.BusLines.{wires_at}
use Rattle.ibx_time_invariant.proofs.Stages.{LsAt, new, quiet, reaches}
use Rattle.ibx_time_invariant.proofs.DataWires.{to_come}
use Rattle.ibx_time.proofs.Logs.{late_issue}

-- ---- a portion is of an access

-- there is no portion, or an access
pub data HasAccess (portions : Portions) (o : Option Access) : Type 0 where
  none : portions ≡ NoPortion → HasAccess portions o
  some : (w : Access) → o ≡ Some w → HasAccess portions o

-- by the row of a load or store
row_access : (k : Settings) (c : Ctl) (s : State) (insn : Option Insn) (addr : Option ℕ)
    → HasAccess (portions_for k c insn addr) (access_of s insn)
row_access k c s (Some (Load op rd rs1 imm)) addr = some _ refl
row_access k c s (Some (Store size rs1 rs2 imm)) addr = some _ refl
row_access k c s None addr = none refl
row_access k c s (Some (Lui rd imm)) addr = none refl
row_access k c s (Some (Auipc rd imm)) addr = none refl
row_access k c s (Some (Jal rd imm)) addr = none refl
row_access k c s (Some (Jalr rd rs1 imm)) addr = none refl
row_access k c s (Some (Branch op rs1 rs2 imm)) addr = none refl
row_access k c s (Some (AluImm op rd rs1 imm)) addr = none refl
row_access k c s (Some (Alu op rd rs1 rs2)) addr = none refl
row_access k c s (Some (MulDiv op rd rs1 rs2)) addr = none refl
row_access k c s (Some (Csr op rd src imm a)) addr = none refl
row_access k c s (Some Fence) addr = none refl
row_access k c s (Some FenceI) addr = none refl
row_access k c s (Some Ecall) addr = none refl
row_access k c s (Some Ebreak) addr = none refl
row_access k c s (Some Mret) addr = none refl
row_access k c s (Some Wfi) addr = none refl

-- an item that retires has the portions of its row, or those that it had
turned_portions : (b : Bool) (i : Item) → i.portions ≡ NoPortion → (branching b i).portions ≡ NoPortion
turned_portions true i e = e
turned_portions false i e = e

-- so it is for an item that retires or traps, and for each item of a history
retired_access : (k : Settings) (c : Ctl) (v : View) (s : State) (o : Option Insn) (i : Item) → i.portions ≡ NoPortion
    → HasAccess (retired_item k c v o i).portions (access_of s o)
unfolding retired_item
retired_access k c v s (Some (Load op rd rs1 imm)) i e = some _ refl
retired_access k c v s (Some (Store size rs1 rs2 imm)) i e = some _ refl
retired_access k c v s None i e = none e
retired_access k c v s (Some (Lui rd imm)) i e = none e
retired_access k c v s (Some (Auipc rd imm)) i e = none e
retired_access k c v s (Some (Jal rd imm)) i e = none e
retired_access k c v s (Some (Jalr rd rs1 imm)) i e = none e
retired_access k c v s (Some (Branch op rs1 rs2 imm)) i e =
    none (turned_portions (is_turned (is_fixed c) op v.ops) i e)
retired_access k c v s (Some (AluImm op rd rs1 imm)) i e = none e
retired_access k c v s (Some (Alu op rd rs1 rs2)) i e = none e
retired_access k c v s (Some (MulDiv op rd rs1 rs2)) i e = none e
retired_access k c v s (Some (Csr op rd src imm a)) i e = none e
retired_access k c v s (Some Fence) i e = none e
retired_access k c v s (Some FenceI) i e = none e
retired_access k c v s (Some Ecall) i e = none e
retired_access k c v s (Some Ebreak) i e = none e
retired_access k c v s (Some Mret) i e = none e
retired_access k c v s (Some Wfi) i e = none e

-- by kind of item: an interrupt has no portion, and a trap or retirement those of its access
item_access_by : (o : Option Access) (a b : Bool) (x y z : Item) → x.portions ≡ NoPortion → HasAccess y.portions o
    → HasAccess z.portions o → HasAccess (if a then x else if b then y else z).portions o
item_access_by o true b x y z e g k = none e
item_access_by o false true x y z e g k = g
item_access_by o false false x y z e g k = k

-- the item of a view has portions only if its instruction has an access
item_access : (k : Settings) (c : Ctl) (v : View) (s : State)
    → HasAccess (item_of k c v).portions (access_of s (instruction_of v.word))
unfolding item_of
item_access k c v s =
    item_access_by (access_of s (instruction_of v.word)) (v.kind == 2) (v.kind == 1)
    (record (plain 0) { redirects = true })
    (record (plain (trap_parcels v)) {
      portions = portions_for k c (instruction_of v.word) v.addr;
      cost = 1;
      redirects = true;
    })
    (retired_item k c v (instruction_of v.word) (plain (parcels_of v.word)))
    refl (row_access k c s (instruction_of v.word) v.addr)
    (retired_access k c v s (instruction_of v.word) (plain (parcels_of v.word)) refl)

-- the same of an item by its choice; a dummy, which has no choice, has no portion
chosen_access : (s : Setup) (h : Story) (o : Option Choice) → HasAccess (item_by s h o).portions (access_by s h o)
unfolding dummy_item
chosen_access s h None = none refl
chosen_access s h (Some choice) = item_access (settings_of s) h.times.ctl (view_with s h choice) h.state

-- so whatever is admitted at t, its portions are those of an access
pub has_access : (s : Setup) (t : ℕ) (h : Story) → HasAccess (item_at s t h).portions (access_at s t h)
unfolding item_at access_at
has_access s t h = chosen_access s h (choice_at s t h)

-- ---- the data port before the first cycle in the stage

-- an item has no portion, or a first one
first_portion : (portions : Portions) → (portions ≡ NoPortion) ⊎ (reaches portions false ≡ true)
first_portion NoPortion = inl refl
first_portion One = inr refl
first_portion OneBad = inr refl
first_portion Two = inr refl
first_portion TwoBad = inr refl

-- so the unit is idle or its first portion is due
portion_by : (s : Setup) (t : ℕ) (h : Story) (ls : Lsu) (p : PortState)
    → HasAccess (item_at s t h).portions (access_at s t h)
    → ((item_at s t h).portions ≡ NoPortion) ⊎ (reaches (item_at s t h).portions false ≡ true) → ls ≡ ls_idle
    → Idle s.plan.dwaits h.times.made p → LsAt s t h (t + 1) ls p
portion_by s t h ls p a (inl e) l i = quiet e l i
portion_by s t h ls p (none e) (inr r) l i = quiet e l i
portion_by s t h ls p (some w e) (inr r) l i = new w false (record { access = e; reached = r }) l refl i

-- with an idle unit and port, an item enters with its first portion due, or with none
pub starts_portion : (s : Setup) (t : ℕ) (h : Story) (ls : Lsu) (p : PortState) → ls ≡ ls_idle
    → Idle s.plan.dwaits h.times.made p → LsAt s t h (t + 1) ls p
starts_portion s t h ls p l i = portion_by s t h ls p (has_access s t h) (first_portion (item_at s t h).portions) l i

-- ---- the wires of the cycle before

-- a portion's transaction isn't issued before the item enters
late_sent : (ws : List Wait) (n e : ℕ) (a : Access) (second : Bool) → e ≤ (portion_sent ws n e a second).issue
late_sent ws n e a false = late_issue ws n e false
late_sent ws n e a true = late_issue ws n e true

-- whatever its portions, an item shows nothing on the wires before they are issued
wires_by : (portions : Portions) (first second : Transaction) (sent : List Transaction) (c : ℕ) → c < first.issue
    → c < second.issue → wires_at (sent_by portions first second sent) c ≡ wires_at sent c
unfolding sent_by
wires_by NoPortion first second sent c a b = refl
wires_by One first second sent c a b = to_come first sent c a
wires_by OneBad first second sent c a b = to_come first sent c a
wires_by Two first second sent c a b = to_come second (first ∷ sent) c b ∙ to_come first sent c a
wires_by TwoBad first second sent c a b = to_come second (first ∷ sent) c b ∙ to_come first sent c a

-- an item that enters in the next cycle shows nothing on the wires of this one
wires_with : (waits : List Wait) (n c : ℕ) (portions : Portions) (o : Option Access) (sent : List Transaction)
    → wires_at (sent_with waits n (c + 1) portions o sent) c ≡ wires_at sent c
wires_with waits n c portions None sent = refl
wires_with waits n c portions (Some a) sent =
    wires_by portions (portion_sent waits n (c + 1) a false) (portion_sent waits n (c + 1) a true) sent c
    (omega (arith, late_sent waits n (c + 1) a false)) (omega (arith, late_sent waits n (c + 1) a true))

-- so the wires of the cycle of admission are those without the item
pub same_wires : (s : Setup) (t : ℕ) (h : Story) → wires_at (taken s t h).sent t ≡ wires_at h.sent t
unfolding taken
same_wires s t h = wires_with s.plan.dwaits h.times.made t (item_at s t h).portions (access_at s t h) h.sent
