-- The phases of a cycle in the stage and at the data port. Each statement is over the fields of the stage and its
-- units, and over what the stage sees.
use Rattle.std.proofs.Common.{◌≡◌, ℕ, ◌+◌, ◌<◌, ◌≤◌, Bool, true, false, ◌&&◌, if◌then◌else◌, nat_lt, ◌==◌, Some, None}
use Rattle.std.proofs.Common.{Option}
use Rattle.ibx_muldiv.specs.declared.unit.MulDiv.{MulDiv as MulDivUnit}
use Rattle.ibx_lsu.specs.Turns.{idle_of as ls_idle}
use Rattle.ibx_isa.specs.Wires.{no_request}
use Rattle.ibx_isa.specs.Cost.{md_cost_of}
use Rattle.ibx_isa.specs.declared.insn.Insn.TheVariants.{Load, Store, MulDiv, Wfi}
use Rattle.ibx_time_invariant.proofs.Fetches.{is_unmapped}
use Rattle.ibx_time_invariant.proofs.Links.{AreGranted}
use Rattle.ibx_time_invariant.proofs.Stages.{AreAccesses, Full, FullMid, Portion, StageAt, StageEnd, StageMid, is_fixed_at}
use Rattle.ibx_time_invariant.proofs.Stages.{portion_word, trap_phase, work_after}
use Rattle.ibx_time_invariant.proofs.Ties.{IsBefore, IsPlaced, IsSettled, IsState, MemoryAt}
use Rattle.ibx_bus.specs.Memory.{MemoryState, memory_after}
use Rattle.ibx_bus.specs.Port.{PortState, answer_wires, grants, port_next}
use Rattle.ibx_bus.proofs.Ports.{Free}
use Rattle.ibx_time.specs.Settings.{Setup, lines_in, settings_of}
use Rattle.ibx_time.specs.Controls.{is_woken}
use Rattle.ibx_time.specs.Items.{NoPortion, One, OneBad, Portions, Two, TwoBad, portions_by}
use Rattle.ibx_time.specs.Times.{ADummy, AnInstruction, AnInterrupt, Kind, made_by}
use Rattle.ibx_time.specs.History.{Story, access_at, admission, done_at, item_at, kind_of, taken, with_item}
use Rattle.ibx_time.specs.BusLines.{wires_at}
use Rattle.ibx_id.specs.declared.stage.Turn.TheVariants.{Dummy, Hold, Irq, Retire, Trap}
use Rattle.ibx_id.specs.Turns.{ends_at, is_some_cause, turn_of, worked}
use Rattle.ibx_id.specs.declared.stage.Turn.{Turn}
use Rattle.ibx_id.specs.declared.stage.IdState.{IdState}
use Rattle.ibx_id.specs.declared.stage.IdIn.{IdIn}
use Rattle.ibx_arch.specs.State.{reg}
use Rattle.ibx_arch.specs.Access.{has_second}
use Rattle.ibx_isa.specs.Portions.{portion_addr}
use Rattle.ibx_isa.specs.declared.insn.Insn.{Insn}
use Rattle.ibx_isa.specs.declared.insn.MdOp.{MdOp}
use Rattle.ibx_isa.specs.declared.event.Access.{Access}
use Rattle.ibx_isa.specs.declared.bus.Req.{Req}
use Rattle.ibx_isa.specs.declared.bus.Rsp.{Rsp}
use Rattle.ibx_lsu.specs.declared.unit.Lsu.{Lsu}
use Rattle.ibx_lsu.specs.declared.unit.LsTurn.{LsTurn}
use Rattle.ibx_core.specs.Core.{is_flipped, ls_by, md_next}
use Rattle.ibx_core.specs.Sights.{is_some_access, md_by, row_of, turn_by}

-- ---- what the stage sees

-- the row and its operands, whether timing is fixed, the cost, whether a wait ends, the cause of a trap, the access,
-- and the number of its portion that protection refuses, or 0
pub record Eyes : Type 0 where
  pub row : Option Insn
  pub a : ℕ
  pub b : ℕ
  pub fixed : Bool
  pub cost : ℕ
  pub wake : Bool
  pub trap : Option ℕ
  pub access : Option Access
  pub refused : ℕ

-- the load-store unit works at the access: none refuses it, and no trap was found
abbrev pub is_active : Eyes → IdState → Bool
is_active v id = is_some_access v.access && v.refused == 0 && nat_lt id.phase 2

-- what the unit drives and answers
abbrev pub ls_seen : Eyes → IdState → Lsu → Rsp → LsTurn
ls_seen v id ls rsp = turn_by (is_active v id) v.access ls rsp

-- what the stage is handed
abbrev pub in_by : Eyes → Bool → ℕ → IdIn
in_by v ends fault = record {
  insn = v.row;
  a = v.a;
  b = v.b;
  fixed = v.fixed;
  cost = v.cost;
  wake = v.wake;
  trap = v.trap;
  ls_done = ends;
  ls_fault = fault;
}

-- the portion that failed: a refused one, or the unit's
abbrev pub fault_seen : Eyes → LsTurn → ℕ
fault_seen v turn = if v.refused == 0 then turn.fault else v.refused

-- the turn of the stage
abbrev pub turn_seen : Eyes → IdState → Lsu → Rsp → Turn
turn_seen v id ls rsp = turn_of id (in_by v (ls_seen v id ls rsp).done (fault_seen v (ls_seen v id ls rsp)))

-- the multiplier before its tick, which starts in the item's first cycle
abbrev pub md_seen : Setup → Eyes → IdState → MulDivUnit → MulDivUnit
md_seen s v id md = md_by (id.phase == 0) v.row md v.a v.b v.fixed s.mul

-- the load-store unit after the cycle
abbrev pub ls_left : Eyes → IdState → Lsu → Rsp → Bool → Lsu
ls_left v id ls rsp granted = ls_by (is_active v id) v.access ls rsp granted

-- ---- what it sees, against the item

-- the item makes no access, and ends after this cost
pub record IsPlain (s : Setup) (t : ℕ) (h : Story) (v : Eyes) (cost : ℕ) : Type 0 where
  pub portions : (item_at s t h).portions ≡ NoPortion
  pub cost_is : (item_at s t h).cost ≡ cost
  pub few : cost ≤ 63
  pub sleeps : (item_at s t h).sleeps ≡ false
  pub inactive : v.access ≡ None
  pub unrefused : v.refused ≡ 0

-- 1 for the first portion and 2 for the second
abbrev pub portion_code : Bool → ℕ
portion_code false = 1
portion_code true = 2

-- the phase of a trap that is found at the answer of the last portion
abbrev pub portions_phase : Portions → ℕ
portions_phase NoPortion = 0
portions_phase One = 0
portions_phase OneBad = 2
portions_phase Two = 0
portions_phase TwoBad = 3

-- a load or a store
abbrev pub is_access : Option Insn → Bool
is_access (Some (Load op rd rs1 imm)) = true
is_access (Some (Store size rs1 rs2 imm)) = true
is_access row = false

-- how the item ends: an interrupt, a dummy, a trap as it enters, a refused portion, an access, a WFI, or by its cost
pub data Way (s : Setup) (t : ℕ) (h : Story) (c : ℕ) (v : Eyes) : Type 0 where
  interrupts : (number : ℕ) → kind_of s t h ≡ AnInterrupt number → IsPlain s t h v 0 → Way s t h c v
  dummy : kind_of s t h ≡ ADummy → IsPlain s t h v v.cost → Way s t h c v
  caused : kind_of s t h ≡ AnInstruction → IsPlain s t h v 1 → is_some_cause v.trap ≡ true → trap_phase s t h ≡ 4
      → Way s t h c v
  refused : (w : Access) (b : Bool) → kind_of s t h ≡ AnInstruction → v.access ≡ Some w → v.refused ≡ portion_code b
      → v.trap ≡ None
      → (item_at s t h).portions ≡ NoPortion → (item_at s t h).cost ≡ 1 → (item_at s t h).sleeps ≡ false
      → trap_phase s t h ≡ portion_code b + 1 → Way s t h c v
  accesses : (w : Access) → kind_of s t h ≡ AnInstruction → v.access ≡ Some w → access_at s t h ≡ Some w
      → v.refused ≡ 0 → v.trap ≡ None → is_access v.row ≡ true
      → (item_at s t h).portions ≡ portions_by false (is_unmapped s (portion_addr w.addr false))
      (has_second w.addr w.size) (is_unmapped s (portion_addr w.addr true))
      → trap_phase s t h ≡ portions_phase (item_at s t h).portions
      → (trap_phase s t h ≡ 0 → (item_at s t h).redirects ≡ false) → Way s t h c v
  sleeps : kind_of s t h ≡ AnInstruction → v.row ≡ Some Wfi → v.access ≡ None → v.refused ≡ 0 → v.trap ≡ None
      → (item_at s t h).portions ≡ NoPortion → (item_at s t h).sleeps ≡ true
      → v.wake ≡ is_woken h.times.ctl (lines_in (settings_of s) c) → trap_phase s t h ≡ 0
      → (item_at s t h).redirects ≡ false → Way s t h c v
  works : (cost : ℕ) → kind_of s t h ≡ AnInstruction → IsPlain s t h v cost → v.trap ≡ None → trap_phase s t h ≡ 0
      → ((id : IdState) (ends : Bool) (fault : ℕ)
      → worked v.row id (in_by v ends fault) ≡ ends_at cost (item_at s t h).redirects id) → Way s t h c v

-- the operands of an M row, and its cost by them
pub record Operands (s : Setup) (t : ℕ) (h : Story) (v : Eyes) (id : IdState) (op : MdOp) (rs1 rs2 : ℕ) : Type 0 where
  pub first : v.a ≡ reg h.state rs1
  pub second : v.b ≡ reg h.state rs2
  pub fixed_is : v.fixed ≡ is_fixed_at s t h id
  pub cost_is : (item_at s t h).cost ≡ md_cost_of op v.b v.fixed s.mul

-- an M row sees its operands
abbrev pub HasOperands : Setup → ℕ → Story → Eyes → IdState → Type 0
HasOperands s t h v id =
    (op : MdOp) (rd rs1 rs2 : ℕ) → v.row ≡ Some (MulDiv op rd rs1 rs2) → Operands s t h v id op rs1 rs2

-- the row, the operands and the way are the item's
pub record Sees (s : Setup) (t : ℕ) (h : Story) (c : ℕ) (id : IdState) (v : Eyes) : Type 0 where
  pub row_is : v.row ≡ row_of id
  pub operands : HasOperands s t h v id
  pub way : Way s t h c v

-- ---- the turn

-- what the turn is in the item's last cycle: by its kind, the phase of its trap, and whether it redirects
abbrev pub ending_by : ℕ → Bool → Turn
ending_by phase redirect =
    if phase == 2 then Trap 1 else if phase == 3 then Trap 2 else if phase == 4 then Trap 0 else Retire redirect

-- the same by what was admitted
abbrev pub ending : Kind → ℕ → Bool → Turn
ending (AnInterrupt number) phase redirect = Irq
ending ADummy phase redirect = Dummy
ending AnInstruction phase redirect = ending_by phase redirect

-- the words of a load that ends well
pub record IsGathered (h : Story) (w : Access) (turn : LsTurn) : Type 0 where
  pub first : turn.first ≡ portion_word h w false
  pub second : turn.second ≡ (if has_second w.addr w.size then portion_word h w true else 0)

-- the item is done in cycle c
pub record Ends (s : Setup) (limit t : ℕ) (h : Story) (c : ℕ) (id : IdState) (md : MulDivUnit) (ls : Lsu)
    (p : PortState) (v : Eyes) : Type 0 where
  pub admitted_at : admission s limit h ≡ t
  pub done : done_at s limit t h ≡ c
  pub after : t < c
  pub turn : turn_seen v id ls (answer_wires p) ≡ ending (kind_of s t h) (trap_phase s t h) (item_at s t h).redirects
  pub request : (ls_seen v id ls (answer_wires p)).req ≡ no_request
  pub ls_is : ls_left v id ls (answer_wires p) false ≡ ls_idle
  pub free : Free s.plan.dwaits (made_by (item_at s t h).portions h.times.made) p
  pub settled : IsBefore (taken s t h).writes c
  pub granted : AreGranted (taken s t h).sent c
  pub gathered : (w : Access) → Portion s t h w false → w.store ≡ false → trap_phase s t h ≡ 0
      → IsGathered h w (ls_seen v id ls (answer_wires p))
  pub result : (op : MdOp) (rd rs1 rs2 : ℕ) → v.row ≡ Some (MulDiv op rd rs1 rs2)
      → md_seen s v id md ≡ work_after s t h id (item_at s t h).cost op rs1 rs2

-- what the turn comes to
pub data Turned (s : Setup) (limit t : ℕ) (h : Story) (c : ℕ) (id : IdState) (md : MulDivUnit) (ls : Lsu)
    (p : PortState) (v : Eyes) : Type 0 where
  stays : (next : IdState) → turn_seen v id ls (answer_wires p) ≡ Hold next
      → FullMid s limit t h c next (md_next (Hold next) (md_seen s v id md)) (ls_seen v id ls (answer_wires p)).req
      (ls_left v id ls (answer_wires p)) p → Turned s limit t h c id md ls p v
  ends : Ends s limit t h c id md ls p v → Turned s limit t h c id md ls p v

-- a stage that sees its item ends it in its last cycle, and else holds it
abbrev pub StageTurns : Setup → Type 0
StageTurns s =
    (limit t : ℕ) (h : Story) (c : ℕ) (id : IdState) (md : MulDivUnit) (ls : Lsu) (p : PortState) (v : Eyes)
    → c < limit
    → IsState s c h
    → Sees s t h c id v
    → Full s limit t h c id md ls p
    → Turned s limit t h c id md ls p v

-- ---- the data port and memory

-- the stage and memory after the data port's cycle
pub record AfterPort (s : Setup) (limit : ℕ) (h : Story) (o : Option ℕ) (c : ℕ) (id : IdState) (md : MulDivUnit)
    (ls : Lsu) (p : PortState) (m : MemoryState) : Type 0 where
  pub stage : StageEnd s limit h o c id md ls p
  pub memory : MemoryAt s (with_item s h o) (c + 1) m

-- the data port's cycle leaves them so
abbrev pub StagePorts : Setup → Type 0
StagePorts s =
    (limit : ℕ) (h : Story) (o : Option ℕ) (c : ℕ) (id : IdState) (md : MulDivUnit) (req : Req) (next : Bool → Lsu)
    (p : PortState) (m : MemoryState)
    → IsPlaced s
    → AreAccesses s
    → IsState s (c + 1) h
    → IsSettled s c h
    → StageMid s limit h o c id md req next p
    → MemoryAt s (with_item s h o) c m
    → AfterPort s limit h o c id md (next (grants req.valid p)) (port_next p m req)
    (memory_after (grants req.valid p) m req)

-- the wires of the cycle, with the item that stays
abbrev pub StageWires : Setup → Type 0
StageWires s =
    (limit : ℕ) (h : Story) (o : Option ℕ) (c : ℕ) (id : IdState) (md : MulDivUnit) (req : Req) (next : Bool → Lsu)
    (p : PortState)
    → IsSettled s c h
    → StageMid s limit h o c id md req next p
    → req ≡ wires_at (with_item s h o).sent c

-- ---- no alert

-- what the data port answers has no flipped bit
abbrev pub StageQuiet : Setup → Type 0
StageQuiet s =
    (limit : ℕ) (h : Story) (o : Option ℕ) (c : ℕ) (id : IdState) (md : MulDivUnit) (ls : Lsu) (p : PortState)
    → IsState s c h
    → StageAt s limit h o c id md ls p
    → is_flipped (answer_wires p) ≡ false
