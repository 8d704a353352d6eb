-- The stage with its units and the data port, against the item that was admitted last.
use Rattle.std.proofs.Common.{◌≡◌, ℕ, suc, ◌+◌, ◌-◌, ◌*◌, ◌/◌, ◌%◌, ◌^◌, ◌<◌, ◌≤◌, min, Bool, true, false, not, ◌||◌}
use Rattle.std.proofs.Common.{◌≢◌, length, if◌then◌else◌, ◌==◌, Some, None, Option}
use Rattle.ibx_muldiv.specs.declared.unit.MulDiv.{MulDiv as MulDivUnit}
use Rattle.ibx_muldiv.specs.Unit.{idle_of as md_idle, left_of, start_of, ticks}
use Rattle.ibx_lsu.specs.Turns.{idle_of as ls_idle, asked_first, asked_second}
use Rattle.ibx_isa.specs.Wires.{request_of, no_request}
use Rattle.ibx_time.specs.Controls.{is_fixed}
use Rattle.ibx_time.specs.Shown.{staged_by}
use Rattle.ibx_time_invariant.proofs.Fetches.{is_unmapped}
use Rattle.ibx_time_invariant.proofs.Links.{Ask}
use Rattle.ibx_bus.specs.Port.{PortState}
use Rattle.ibx_bus.proofs.Ports.{Free, Granted, Idle, Waiting}
use Rattle.ibx_time.specs.Search.{first_from}
use Rattle.ibx_time.specs.Settings.{Setup, settings_of}
use Rattle.ibx_time.specs.Items.{NoPortion, One, OneBad, Portions, Two, TwoBad}
use Rattle.ibx_time.specs.Times.{ADummy, AnInstruction, AnInterrupt, Kind, is_ready, kind_at, may_end, portion_answer}
use Rattle.ibx_time.specs.Times.{portion_issue, portion_number, stop_of}
use Rattle.ibx_time.specs.History.{Story, access_at, admission, brought, choice_at, done_at, item_at, kind_of}
use Rattle.ibx_time.specs.History.{view_with, words_there}
use Rattle.ibx_id.specs.declared.stage.IdState.{IdState}
use Rattle.ibx_id.specs.Turns.{empty_stage}
use Rattle.ibx_arch.specs.Memory.{read_bytes}
use Rattle.ibx_arch.specs.State.{reg}
use Rattle.ibx_arch.specs.Step.{Choice}
use Rattle.ibx_arch.specs.Fetch.{fetch}
use Rattle.ibx_isa.specs.Portions.{portion_addr}
use Rattle.ibx_secded.specs.Code.{encode_of}
use Rattle.ibx_isa.specs.declared.insn.Insn.{Insn}
use Rattle.ibx_isa.specs.declared.insn.MdOp.{MdOp}
use Rattle.ibx_isa.specs.declared.event.Access.{Access}
use Rattle.ibx_isa.specs.declared.event.View.{View}
use Rattle.ibx_isa.specs.declared.bus.Req.{Req}
use Rattle.ibx_lsu.specs.declared.unit.Lsu.{Lsu}
use Rattle.ibx_arch.specs.declared.fetched.Fetched.{Fetched}
use Rattle.ibx_arch.specs.declared.fetched.Fetched.TheVariants.{Unsound, Instruction}
use Rattle.ibx_isa.specs.declared.insn.Insn.TheVariants.{MulDiv}
use Rattle.ibx_core.specs.Sights.{row_of}

-- ---- what an item is

-- the item reaches this portion
abbrev pub reaches : Portions → Bool → Bool
reaches NoPortion second = false
reaches One second = not second
reaches OneBad second = not second
reaches Two second = true
reaches TwoBad second = true

-- the portions of an item whose last portion this is, and one that no memory answers
abbrev pub fails : Bool → Portions
fails false = OneBad
fails true = TwoBad

-- the view of the item's event; a dummy has none
abbrev pub view_by : Setup → Story → Option Choice → Option View
view_by s h None = None
view_by s h (Some choice) = Some (view_with s h choice)

-- the phase in which a trap is done: 2 and 3 for the portions of an access, 4 for all else; 0 without a trap
abbrev pub portion_phase : ℕ → Option ℕ → ℕ
portion_phase tval None = 4
portion_phase tval (Some addr) = if tval == addr then 2 else 3

-- the same of a view, and of the item
abbrev pub view_phase : Option View → ℕ
view_phase None = 0
view_phase (Some v) = if v.kind == 1 then portion_phase v.tval v.addr else 0

-- the phase in which the item that is admitted at t traps, 0 where it doesn't
unfoldable pub trap_phase : Setup → ℕ → Story → ℕ
trap_phase s t h = view_phase (view_by s h (choice_at s t h))

-- what is fetched for the next instruction, as the state says
unfoldable pub fetched : Setup → Story → Fetched
fetched s h = fetch h.state (brought s h (length h.times.stream.enters) h.state.pc)
    (brought s h (length h.times.stream.enters + h.times.half) ((h.state.pc + 2) % 2 ^ 32))

-- 1 and 2 for an unsound first and second parcel
abbrev pub fault_of : ℕ → Fetched → ℕ
fault_of pc (Unsound addr) = if addr == pc then 1 else 2
fault_of pc (Instruction word size) = 0

-- an instruction's, since no other item fetches
abbrev pub fault_by : Setup → Story → Kind → ℕ
fault_by s h (AnInterrupt number) = 0
fault_by s h ADummy = 0
fault_by s h AnInstruction = fault_of h.state.pc (fetched s h)

-- ---- the item in the stage

-- the fields that stay while it is there
pub record ItemAt (s : Setup) (t : ℕ) (h : Story) (id : IdState) : Type 0 where
  pub valid : id.valid ≡ true
  pub kind : id.kind ≡ (staged_by s h (kind_of s t h)).kind
  pub pc : id.pc ≡ (staged_by s h (kind_of s t h)).pc
  pub word : id.word ≡ (staged_by s h (kind_of s t h)).word
  pub fault : id.fault ≡ fault_by s h (kind_of s t h)

-- It was admitted at t, and isn't done before c. A trap is found in the cycle before it is done.
pub data PhaseAt (s : Setup) (limit : ℕ) (t : ℕ) (h : Story) (c phase : ℕ) : Type 0 where
  fresh : phase ≡ 0 → t + 1 ≡ c → PhaseAt s limit t h c phase
  later : phase ≡ 1 → t + 1 < c → (trap_phase s t h ≢ 0 → c < done_at s limit t h) → PhaseAt s limit t h c phase
  found : phase ≡ trap_phase s t h → 2 ≤ phase → t + 1 < c → done_at s limit t h ≡ c → PhaseAt s limit t h c phase

-- the cycles since the item entered, up to 63
abbrev pub count_at : ℕ → ℕ → ℕ
count_at t c = min 63 (c - (t + 1))

-- the search for the end of an item without a portion has come to c
abbrev pub Running : Setup → ℕ → ℕ → Story → ℕ → Type 0
Running s limit t h c =
    (item_at s t h).portions ≡ NoPortion
    → stop_of (settings_of s) limit (item_at s t h) h.times.ctl (t + 1)
    ≡ first_from (limit - c) (may_end (settings_of s) (item_at s t h) h.times.ctl (t + 1)) c

-- ---- multiplication and division

-- timing is fixed for the item: a dummy's always is
abbrev pub is_fixed_at : Setup → ℕ → Story → IdState → Bool
is_fixed_at s t h id = id.kind == 1 || is_fixed h.times.ctl

-- the calculation of an M row after n cycles
abbrev pub work_after : Setup → ℕ → Story → IdState → ℕ → MdOp → ℕ → ℕ → MulDivUnit
work_after s t h id n op rs1 rs2 =
    ticks n (start_of op (reg h.state rs1) (reg h.state rs2) (is_fixed_at s t h id) s.mul)

-- a multiplication or a division
abbrev pub is_md : Option Insn → Bool
is_md (Some (MulDiv op rd rs1 rs2)) = true
is_md insn = false

-- an M row after its first cycle; else the unit is idle
pub data WorkAt (s : Setup) (t : ℕ) (h : Story) (c : ℕ) (id : IdState) (md : MulDivUnit) : Type 0 where
  starts : t + 1 ≡ c → md ≡ md_idle → WorkAt s t h c id md
  rests : is_md (row_of id) ≡ false → md ≡ md_idle → WorkAt s t h c id md
  works : (op : MdOp) (rd rs1 rs2 n : ℕ) → row_of id ≡ Some (MulDiv op rd rs1 rs2) → t + 1 + suc n ≡ c
      → md ≡ work_after s t h id (suc n) op rs1 rs2 → left_of md + c ≡ t + 1 + (item_at s t h).cost
      → WorkAt s t h c id md

-- ---- the portions of an access

-- the item's access reaches this portion
pub record Portion (s : Setup) (t : ℕ) (h : Story) (w : Access) (second : Bool) : Type 0 where
  pub access : access_at s t h ≡ Some w
  pub reached : reaches (item_at s t h).portions second ≡ true

-- what an access may be
pub record IsAccess (w : Access) : Type 0 where
  pub addr : w.addr < 2 ^ 32
  pub some : 0 < w.size
  pub most : w.size ≤ 4
  pub value : w.value < 2 ^ 32

-- the accesses of all items
abbrev pub AreAccesses : Setup → Type 0
AreAccesses s = (t : ℕ) (h : Story) (w : Access) → access_at s t h ≡ Some w → IsAccess w

-- the word that a portion of a load reads, which the state's memory has; 0 for a store
abbrev pub portion_word : Story → Access → Bool → ℕ
portion_word h w second = if w.store then 0 else read_bytes h.state.memory (portion_addr w.addr second / 4 * 4) 4

-- the number, the issue and the answer of a portion's transaction
abbrev pub number_at : Story → Bool → ℕ
number_at h second = portion_number h.times.made second

-- the cycle in which the portion's transaction is issued
abbrev pub issue_at : Setup → ℕ → Story → Bool → ℕ
issue_at s t h second = portion_issue s.plan.dwaits h.times.made (t + 1) second

-- the cycle in which it is answered
abbrev pub answer_at : Setup → ℕ → Story → Bool → ℕ
answer_at s t h second = portion_answer s.plan.dwaits h.times.made (t + 1) second

-- the portion is granted and awaits its answer
abbrev pub Opened : Setup → ℕ → Story → Access → Bool → ℕ → PortState → Type 0
Opened s t h w second c p = Granted s.plan.dwaits (number_at h second) (issue_at s t h second)
    (is_unmapped s (portion_addr w.addr second)) (encode_of 32 7 (portion_word h w second)) c p

-- the unit's fields where a portion is due, asked for, and awaited; the second one keeps the word of the first
abbrev pub ls_due : Bool → ℕ → Lsu
ls_due false first = ls_idle
ls_due true first = record { ls_state = 3; ls_first = first }

-- asked for and not granted, or granted
abbrev pub ls_asked : Bool → Bool → ℕ → Lsu
ls_asked false granted first = asked_first granted
ls_asked true granted first = asked_second granted first

-- before cycle c
pub data LsAt (s : Setup) (t : ℕ) (h : Story) (c : ℕ) (ls : Lsu) (p : PortState) : Type 0 where
  quiet : (item_at s t h).portions ≡ NoPortion → ls ≡ ls_idle → Idle s.plan.dwaits h.times.made p → LsAt s t h c ls p
  new : (w : Access) (b : Bool) → Portion s t h w b → ls ≡ ls_due b (portion_word h w false) → issue_at s t h b ≡ c
      → Idle s.plan.dwaits (number_at h b) p → LsAt s t h c ls p
  waiting : (w : Access) (b : Bool) → Portion s t h w b → ls ≡ ls_asked b false (portion_word h w false)
      → Waiting s.plan.dwaits (number_at h b) (issue_at s t h b) c p → LsAt s t h c ls p
  opened : (w : Access) (b : Bool) → Portion s t h w b → ls ≡ ls_asked b true (portion_word h w false)
      → Opened s t h w b c p → LsAt s t h c ls p
  failed : (b : Bool) → (item_at s t h).portions ≡ fails b → ls ≡ ls_idle → answer_at s t h b + 1 ≡ c
      → Idle s.plan.dwaits (suc (number_at h b)) p → LsAt s t h c ls p

-- In cycle c, where the item isn't done in it: the wires, and the fields that the grant leaves.
pub data LsMid (s : Setup) (t : ℕ) (h : Story) (c : ℕ) (req : Req) (next : Bool → Lsu) (p : PortState) : Type 0 where
  quiet : (item_at s t h).portions ≡ NoPortion → req ≡ no_request → next false ≡ ls_idle
      → Free s.plan.dwaits h.times.made p → LsMid s t h c req next p
  asks : (w : Access) (b : Bool) → Portion s t h w b → req ≡ request_of (encode_of 32 7) w b
      → ((granted : Bool) → next granted ≡ ls_asked b granted (portion_word h w false))
      → Ask s.plan.dwaits (number_at h b) (issue_at s t h b) c p → LsMid s t h c req next p
  opened : (w : Access) (b : Bool) → Portion s t h w b → req ≡ no_request
      → next false ≡ ls_asked b true (portion_word h w false) → Opened s t h w b c p → p.left ≢ 0
      → LsMid s t h c req next p
  turns : (w : Access) → Portion s t h w true → req ≡ no_request → next false ≡ ls_due true (portion_word h w false)
      → answer_at s t h false ≡ c → Free s.plan.dwaits (suc h.times.made) p → LsMid s t h c req next p
  failed : (b : Bool) → (item_at s t h).portions ≡ fails b → req ≡ no_request → next false ≡ ls_idle
      → answer_at s t h b ≡ c → Free s.plan.dwaits (suc (number_at h b)) p → LsMid s t h c req next p

-- ---- the stage with an item, and without

-- the next admission is looked for from c on
abbrev pub Searching : Setup → ℕ → Story → ℕ → Type 0
Searching s limit h c = admission s limit h
    ≡ first_from (limit - c) (λ t. is_ready (kind_at (settings_of s) h.times t) (words_there s h t)) c

-- the search for the next admission has come to c
pub record Empty (s : Setup) (limit : ℕ) (h : Story) (c : ℕ) (id : IdState) (md : MulDivUnit) (ls : Lsu)
    (p : PortState) : Type 0 where
  pub id_is : id ≡ empty_stage
  pub md_is : md ≡ md_idle
  pub ls_is : ls ≡ ls_idle
  pub idle : Idle s.plan.dwaits h.times.made p
  pub search : Searching s limit h c

-- the item that was admitted at t is in the stage, with its phase, count and units
pub record Full (s : Setup) (limit t : ℕ) (h : Story) (c : ℕ) (id : IdState) (md : MulDivUnit) (ls : Lsu)
    (p : PortState) : Type 0 where
  pub admitted_at : admission s limit h ≡ t
  pub item : ItemAt s t h id
  pub phase : PhaseAt s limit t h c id.phase
  pub count : id.count ≡ count_at t c
  pub running : Running s limit t h c
  pub work : WorkAt s t h c id md
  pub part : LsAt s t h c ls p

-- before cycle c
abbrev pub StageAt : Setup → ℕ → Story → Option ℕ → ℕ → IdState → MulDivUnit → Lsu → PortState → Type 0
StageAt s limit h None c id md ls p = Empty s limit h c id md ls p
StageAt s limit h (Some t) c id md ls p = Full s limit t h c id md ls p

-- ---- in cycle c, after the done

-- no item is in the stage, and none of the port's requests is open; the data port rests in this cycle
pub record EmptyMid (s : Setup) (limit : ℕ) (h : Story) (c : ℕ) (req : Req) (next : Bool → Lsu) (p : PortState) : Type
    0 where
  pub quiet : req ≡ no_request
  pub ls_is : next false ≡ ls_idle
  pub free : Free s.plan.dwaits h.times.made p
  pub search : Searching s limit h c

-- the item stays, with these fields in the next cycle
pub record FullMid (s : Setup) (limit t : ℕ) (h : Story) (c : ℕ) (id : IdState) (md : MulDivUnit) (req : Req)
    (next : Bool → Lsu) (p : PortState) : Type 0 where
  pub admitted_at : admission s limit h ≡ t
  pub item : ItemAt s t h id
  pub phase : PhaseAt s limit t h (c + 1) id.phase
  pub count : id.count ≡ count_at t (c + 1)
  pub running : Running s limit t h (c + 1)
  pub work : WorkAt s t h (c + 1) id md
  pub part : LsMid s t h c req next p

-- the stage in cycle c, with an item that stays or without
abbrev pub StageMid : Setup → ℕ → Story → Option ℕ → ℕ → IdState → MulDivUnit → Req → (Bool → Lsu) → PortState → Type 0
StageMid s limit h None c id md req next p = EmptyMid s limit h c req next p
StageMid s limit h (Some t) c id md req next p = FullMid s limit t h c id md req next p

-- ---- after the data port: with no item the admission of cycle c is still to come

-- the unit is idle and so is its port
pub record EmptyEnd (s : Setup) (limit : ℕ) (h : Story) (c : ℕ) (ls : Lsu) (p : PortState) : Type 0 where
  pub ls_is : ls ≡ ls_idle
  pub idle : Idle s.plan.dwaits h.times.made p
  pub search : Searching s limit h c

-- the stage after the data port, with the item that stays or without
abbrev pub StageEnd : Setup → ℕ → Story → Option ℕ → ℕ → IdState → MulDivUnit → Lsu → PortState → Type 0
StageEnd s limit h None c id md ls p = EmptyEnd s limit h c ls p
StageEnd s limit h (Some t) c id md ls p = Full s limit t h (c + 1) id md ls p
