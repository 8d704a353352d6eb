-- The turn of an item without a portion: it ends in its last cycle, and else stays.
use Rattle.std.proofs.Common.{◌≡◌, ℕ, zero, suc, ◌+◌, ◌-◌, ◌<◌, ◌≤◌, Bool, true, false, not, ◌&&◌, ◌≢◌, ◌⊎◌, List}
use Rattle.std.proofs.Common.{if◌then◌else◌, nat_lt, nat_le, ◌==◌, Some, None, Option, sym}
use Rattle.std.proofs.Common.{◌||◌, refl, ap, ◌∙◌, subst, ap₂, inl, inr, arith, true≢false}
use Rattle.std.proofs.lemmas.Bool.{cases_lt, lt-ltb, le-ltb, le-leb, lt-leb, ne_eqb}
use Rattle.ibx_id.specs.declared.stage.Turn.TheVariants.{Idle as turn_none, Dummy, Hold, Irq, Retire, Trap}
use Rattle.ibx_muldiv.specs.Unit.{tick_of as md_tick}
use Rattle.ibx_muldiv.specs.declared.unit.MulDiv.{MulDiv as MulDivUnit}
use Rattle.ibx_muldiv.specs.Unit.{idle_of as md_idle, left_of, start_of, ticks}
use Rattle.ibx_lsu.specs.Turns.{idle_of as ls_idle, awaits}
use Rattle.ibx_time_invariant.proofs.Stages.{quiet, starts, is_md, fails, rests, Full, ItemAt, LsAt, PhaseAt, Running, WorkAt}
use Rattle.ibx_time_invariant.proofs.Stages.{count_at, failed, found, fresh, is_fixed_at, later, new, opened, reaches}
use Rattle.ibx_time_invariant.proofs.Stages.{trap_phase, view_by, view_phase, waiting, work_after, works}
use Rattle.ibx_time.specs.Shown.{staged_by}
use Rattle.ibx_muldiv.proofs.Cycles.{left_of-start, left_of-tick}
use Rattle.ibx_isa.specs.Cost.{md_cost_of}
use Rattle.ibx_id.specs.Turns.{held, turn_of, ends_at, is_some_cause, real_turn, worked}
use Rattle.ibx_id.specs.declared.stage.Turn.{Turn}
use Rattle.ibx_id.specs.declared.stage.IdState.{IdState}
use Rattle.ibx_id.specs.declared.stage.IdIn.{IdIn}
use Rattle.ibx_time_invariant.proofs.Links.{AreGranted}
use Rattle.ibx_time_invariant.proofs.Ties.{IsBefore, IsState}
use Rattle.ibx_time_invariant.proofs.StageSide.{Eyes, IsPlain, Operands, Sees, Turned, ending, ending_by, ends, fault_seen}
use Rattle.ibx_time_invariant.proofs.StageSide.{in_by, is_active, ls_seen, md_seen, portion_code, stays, turn_seen}
use Rattle.ibx_time_invariant.proofs.Join.{done_is, plain_done, stop_at}
use Rattle.ibx_bus.specs.Port.{PortState, answer_wires}
use Rattle.ibx_bus.proofs.Ports.{Free, Idle, idle_free}
use Rattle.ibx_time.specs.Search.{first_from}
use Rattle.ibx_time.specs.Settings.{Settings, Setup, lines_in, settings_of}
use Rattle.ibx_time.specs.Controls.{Ctl, is_woken}
use Rattle.ibx_time.specs.Items.{Item, NoPortion, Portions, plain}
use Rattle.ibx_time.specs.Requests.{Transaction}
use Rattle.ibx_time.specs.Times.{ADummy, AnInstruction, AnInterrupt, done_by, made_by, may_end}
use Rattle.ibx_time.specs.Memories.{Write, sent_by, sent_with, write_of, writes_with, written_by}
use Rattle.ibx_time.specs.History.{Story, access_at, choice_by, done_at, item_at, kind_of, taken}
use Rattle.ibx_arch.specs.State.{reg}
use Rattle.ibx_isa.specs.declared.insn.Insn.{Insn}
use Rattle.ibx_isa.specs.declared.insn.MdOp.{MdOp}
use Rattle.ibx_isa.specs.declared.insn.MulKind.{MulKind}
use Rattle.ibx_isa.specs.declared.event.Access.{Access}
use Rattle.ibx_isa.specs.declared.bus.Rsp.{Rsp}
use Rattle.ibx_lsu.specs.declared.unit.Lsu.{Lsu}
use Rattle.ibx_lsu.specs.declared.unit.LsTurn.{LsTurn}
use Rattle.ibx_plan.specs.declared.site.Wait.{Wait}
use Rattle.ibx_isa.specs.declared.insn.Insn.TheVariants.{MulDiv, Wfi}
use Rattle.ibx_core.specs.Sights.{is_some_access, md_by, turn_by, row_of}
use Rattle.ibx_time.proofs.States.{reg_low}
use Rattle.ibx_core.specs.Core.{ls_by, md_next}

-- ---- searches

-- a search ends here where the test holds, and else goes on
pub first_now : (n : ℕ) (test : ℕ → Bool) (c : ℕ) → 0 < n → test c ≡ true → first_from n test c ≡ c
unfolding first_from
first_now zero test c h e = absurd (omega arith)
first_now (suc n) test c h e = rw e refl

-- where the test fails the search goes on from the next cycle
pub first_later : (n : ℕ) (test : ℕ → Bool) (c : ℕ) → 0 < n → test c ≡ false
    → first_from n test c ≡ first_from (n - 1) test (c + 1)
unfolding first_from
first_later zero test c h e = absurd (omega arith)
first_later (suc n) test c h e = rw e (ap (λ k. first_from k test (c + 1)) (omega arith))

-- ---- the data port

-- an item without a portion
abbrev pub is_partless : Portions → Bool
is_partless NoPortion = true
is_partless portions = false

-- a bad portion is one
pub partless_fails : (b : Bool) → is_partless (fails b) ≡ false
partless_fails false = refl
partless_fails true = refl

-- the unit is idle, and so is its port
pub record QuietLs (s : Setup) (h : Story) (ls : Lsu) (p : PortState) : Type 0 where
  pub ls_is : ls ≡ ls_idle
  pub idle : Idle s.plan.dwaits h.times.made p

-- it is so while an item without a portion is in the stage
pub quiet_ls : (s : Setup) (t : ℕ) (h : Story) (c : ℕ) (ls : Lsu) (p : PortState)
    → (item_at s t h).portions ≡ NoPortion → LsAt s t h c ls p → QuietLs s h ls p
quiet_ls s t h c ls p e (quiet k l i) = record { ls_is = l; idle = i }
quiet_ls s t h c ls p e (new w b r l now i) = let no_ : false ≡ true = ap (λ k. reaches k b) (sym e) ∙ r.reached in cc
quiet_ls s t h c ls p e (waiting w b r l i) = let no_ : false ≡ true = ap (λ k. reaches k b) (sym e) ∙ r.reached in cc
quiet_ls s t h c ls p e (opened w b r l g) = let no_ : false ≡ true = ap (λ k. reaches k b) (sym e) ∙ r.reached in cc
quiet_ls s t h c ls p e (failed b k l at i) =
    let no_ : true ≡ false = sym (ap is_partless e) ∙ ap is_partless k ∙ partless_fails b in cc

-- a unit that isn't at work asks for nothing and stays
pub inactive_turn : (b : Bool) (access : Option Access) (ls : Lsu) (rsp : Rsp) → b ≡ false
    → turn_by b access ls rsp ≡ awaits
unfolding turn_by
inactive_turn b access ls rsp e = ap (λ k. turn_by k access ls rsp) e

-- a unit that isn't at work keeps its fields, with a grant or without
pub inactive_next : (b : Bool) (access : Option Access) (ls : Lsu) (rsp : Rsp) (granted : Bool) → b ≡ false
    → ls_by b access ls rsp granted ≡ ls
unfolding ls_by
inactive_next b access ls rsp granted e = ap (λ k. ls_by k access ls rsp granted) e

-- ---- what is written and sent

-- an item without a portion writes and sends nothing, so its story has the writes and transactions of before
none_by : (b : Bool) (x y : Write) (old : List Write) → written_by NoPortion b x y old ≡ old
unfolding written_by
none_by true x y old = refl
none_by false x y old = refl

-- no portion means no write, whatever the access
none_written : (ws : List Wait) (n e : ℕ) (a : Option Access) (old : List Write)
    → writes_with ws n e NoPortion a old ≡ old
none_written ws n e None old = refl
none_written ws n e (Some w) old = none_by w.store (write_of ws n e w false) (write_of ws n e w true) old

-- no portion means no transaction, whatever the access
none_sent : (ws : List Wait) (n e : ℕ) (a : Option Access) (old : List Transaction)
    → sent_with ws n e NoPortion a old ≡ old
unfolding sent_by
none_sent ws n e None old = refl
none_sent ws n e (Some w) old = refl

-- the story with such an item has the writes of before
pub taken_writes : (s : Setup) (t : ℕ) (h : Story) → (item_at s t h).portions ≡ NoPortion
    → (taken s t h).writes ≡ h.writes
unfolding taken
taken_writes s t h e = ap (λ k. writes_with s.plan.dwaits h.times.made (t + 1) k (access_at s t h) h.writes) e
    ∙ none_written s.plan.dwaits h.times.made (t + 1) (access_at s t h) h.writes

-- the story with such an item has the transactions of before
pub taken_sent : (s : Setup) (t : ℕ) (h : Story) → (item_at s t h).portions ≡ NoPortion → (taken s t h).sent ≡ h.sent
unfolding taken
taken_sent s t h e = ap (λ k. sent_with s.plan.dwaits h.times.made (t + 1) k (access_at s t h) h.sent) e
    ∙ none_sent s.plan.dwaits h.times.made (t + 1) (access_at s t h) h.sent

-- nor does it make a transaction
none_made : (n : ℕ) → made_by NoPortion n ≡ n
unfolding made_by
none_made n = refl

-- ---- the search for its end

-- its done is where the search ends: now, where it may end in this cycle, or later
pub done_none : (s : Setup) (limit t : ℕ) (h : Story) (c : ℕ) → (item_at s t h).portions ≡ NoPortion
    → Running s limit t h c → done_at s limit t h
    ≡ first_from (limit - c) (may_end (settings_of s) (item_at s t h) h.times.ctl (t + 1)) c
done_none s limit t h c e running =
    done_is s limit t h ∙ ap (λ k. done_by s.plan.dwaits k h.times.made (t + 1) (stop_at s limit t h)) e
    ∙ plain_done s.plan.dwaits h.times.made (t + 1) (stop_at s limit t h) ∙ running e

-- an item that may end in this cycle is done in it
pub ended_now : (s : Setup) (limit t : ℕ) (h : Story) (c : ℕ) → (item_at s t h).portions ≡ NoPortion
    → Running s limit t h c → c < limit → may_end (settings_of s) (item_at s t h) h.times.ctl (t + 1) c ≡ true
    → done_at s limit t h ≡ c
ended_now s limit t h c e running less m =
    done_none s limit t h c e running
    ∙ first_now (limit - c) (may_end (settings_of s) (item_at s t h) h.times.ctl (t + 1)) c (omega arith) m

-- where it may not end in this cycle, the search for its end goes on from the next
pub runs_on : (s : Setup) (limit t : ℕ) (h : Story) (c : ℕ) → Running s limit t h c → c < limit
    → may_end (settings_of s) (item_at s t h) h.times.ctl (t + 1) c ≡ false → Running s limit t h (c + 1)
runs_on s limit t h c running less m e =
    running e ∙ first_later (limit - c) (may_end (settings_of s) (item_at s t h) h.times.ctl (t + 1)) c (omega arith) m
    ∙ ap (λ k. first_from k (may_end (settings_of s) (item_at s t h) h.times.ctl (t + 1)) (c + 1)) (omega arith)

-- it may end once its cost has passed, or where a line wakes it
ends_timed : (k : Settings) (i : Item) (ctl : Ctl) (e cost u : ℕ) → i.sleeps ≡ false → i.cost ≡ cost
    → may_end k i ctl e u ≡ nat_le (e + cost) u
ends_timed k i ctl e cost u a b = ap₂ (λ x n. if x then is_woken ctl (lines_in k u) else nat_le (e + n) u) a b

-- a WFI may end just in a cycle whose interrupt lines wake it
ends_woken : (k : Settings) (i : Item) (ctl : Ctl) (e u : ℕ) → i.sleeps ≡ true
    → may_end k i ctl e u ≡ is_woken ctl (lines_in k u)
ends_woken k i ctl e u a = ap (λ x. if x then is_woken ctl (lines_in k u) else nat_le (e + i.cost) u) a

-- ---- counts and phases

-- it entered in the cycle after its admission or later
pub entered_by : (s : Setup) (limit t : ℕ) (h : Story) (c phase : ℕ) → PhaseAt s limit t h c phase → t + 1 ≤ c
entered_by s limit t h c phase (fresh e at) = omega (arith, at)
entered_by s limit t h c phase (later e less _) = omega (arith, less)
entered_by s limit t h c phase (found e two less done) = omega (arith, less)

-- the count tells whether the cost has passed, and goes up to 63
counted : (cost count t c : ℕ) → cost ≤ 63 → count ≡ count_at t c → t + 1 ≤ c
    → nat_le cost count ≡ nat_le (t + 1 + cost) c
counted cost count t c few e in_ =
    elim (cases_lt c (t + 1 + cost)) [
      | inl h ↦ lt-leb cost count (omega (arith, e)) ∙ sym (lt-leb (t + 1 + cost) c h)
      | inr h ↦ le-leb cost count (omega (arith, e)) ∙ sym (le-leb (t + 1 + cost) c h)
    ]

-- the count of the next cycle is one more, and stays at 63
pub count_next : (count t c : ℕ) → count ≡ count_at t c → t + 1 ≤ c
    → (if nat_lt count 63 then count + 1 else 63) ≡ count_at t (c + 1)
count_next count t c e in_ =
    elim (cases_lt count 63) [
      | inl h ↦ rw (lt-ltb count 63 h) (omega (arith, e))
      | inr h ↦ rw (le-ltb count 63 h) (omega (arith, e))
    ]

-- an item that is held stays the item
pub held_item : (s : Setup) (t : ℕ) (h : Story) (id : IdState) (phase : ℕ) → ItemAt s t h id
    → ItemAt s t h (held phase id)
held_item s t h id phase i = record { valid = i.valid; kind = i.kind; pc = i.pc; word = i.word; fault = i.fault }

-- ---- the turn, by its decisions

-- the turn of an interrupt, of a dummy and of a real item
turn_irq : (id : IdState) (i : IdIn) → id.valid ≡ true → id.kind ≡ 2 → turn_of id i ≡ Irq
unfolding turn_of
turn_irq id i v k = ap₂ (λ b n. if not b then turn_none else if nat_le 2 n then Irq else if n == 1
    then (if nat_le i.cost id.count || nat_le 2 id.phase then Dummy else Hold (held 1 id)) else real_turn id i) v k

-- in phase 0 or 1 a dummy ends by its cost alone
ends_by : (b : Bool) (phase : ℕ) → (phase ≡ 0) ⊎ (phase ≡ 1) → (b || nat_le 2 phase) ≡ b
ends_by true phase early = refl
ends_by false phase (inl e) = ap (nat_le 2) e
ends_by false phase (inr e) = ap (nat_le 2) e

-- a dummy ends once its count has come to its cost, and is held in phase 1 until then
turn_dummy : (id : IdState) (i : IdIn) → id.valid ≡ true → id.kind ≡ 1 → (id.phase ≡ 0) ⊎ (id.phase ≡ 1)
    → turn_of id i ≡ (if nat_le i.cost id.count then Dummy else Hold (held 1 id))
unfolding turn_of
turn_dummy id i v k early = ap₂ (λ b n. if not b then turn_none else if nat_le 2 n then Irq else if n == 1
    then (if nat_le i.cost id.count || nat_le 2 id.phase then Dummy else Hold (held 1 id)) else real_turn id i) v k
    ∙ ap (λ b. if b then Dummy else Hold (held 1 id)) (ends_by (nat_le i.cost id.count) id.phase early)

-- an item of kind 0 turns as a real one
turn_real : (id : IdState) (i : IdIn) → id.valid ≡ true → id.kind ≡ 0 → turn_of id i ≡ real_turn id i
unfolding turn_of
turn_real id i v k = ap₂ (λ b n. if not b then turn_none else if nat_le 2 n then Irq else if n == 1
    then (if nat_le i.cost id.count || nat_le 2 id.phase then Dummy else Hold (held 1 id)) else real_turn id i) v k

-- a real item's turn before its trap is found: a fault, a cause, or its work
abbrev pub early_turn : IdState → IdIn → Turn
early_turn id i = if i.ls_fault == 1 then Hold (held 2 id) else if i.ls_fault == 2 then Hold (held 3 id)
    else if is_some_cause i.trap then Hold (held 4 id) else worked i.insn id i

-- and after: the trap that was found
real_phase : (id : IdState) (i : IdIn) (n : ℕ) → id.phase ≡ n
    → real_turn id i ≡ (if n == 2 then Trap 1 else if n == 3 then Trap 2 else if nat_le 4 n then Trap 0
    else early_turn id i)
unfolding real_turn
real_phase id i n e =
    ap (λ k. if k == 2 then Trap 1 else if k == 3 then Trap 2 else if nat_le 4 k then Trap 0 else early_turn id i) e

-- without a fault and a cause it works
pub plain_early : (id : IdState) (v : Eyes) (over : Bool) (fault : ℕ) → fault ≡ 0 → v.trap ≡ None
    → early_turn id (in_by v over fault) ≡ worked v.row id (in_by v over fault)
plain_early id v over fault e k =
    ap₂ (λ n c. if n == 1 then Hold (held 2 id) else if n == 2 then Hold (held 3 id) else if is_some_cause c
    then Hold (held 4 id) else worked v.row id (in_by v over fault)) e k

-- ---- multiplication and division

-- the multiplier rests for any other row
md_rest : (b : Bool) (row : Option Insn) (md : MulDivUnit) (a c : ℕ) (fixed : Bool) (mul : MulKind) → is_md row ≡ false
    → md_by b row md a c fixed mul ≡ md_idle
unfolding md_idle md_by
md_rest true (Some (MulDiv op rd rs1 rs2)) md a c fixed mul e = let no_ : true ≡ false = e in cc
md_rest false (Some (MulDiv op rd rs1 rs2)) md a c fixed mul e = let no_ : true ≡ false = e in cc
md_rest true row md a c fixed mul e = refl
md_rest false row md a c fixed mul e = refl

-- an idle multiplier stays idle while the item is held
held_idle : (next : IdState) → md_next (Hold next) md_idle ≡ md_idle
unfolding md_idle md_next
held_idle next = refl

-- a search that begins where its test holds ends there
pub first_here : (n : ℕ) (test : ℕ → Bool) (c : ℕ) → test c ≡ true → first_from n test c ≡ c
unfolding first_from
first_here zero test c e = refl
first_here (suc n) test c e = rw e refl

-- one cycle more of the calculation
ticks_more : (n : ℕ) (m : MulDivUnit) → ticks (suc n) m ≡ md_tick (ticks n m)
unfolding ticks
ticks_more zero m = refl
ticks_more (suc n) m = ticks_more n (md_tick m)

-- it starts in the item's first cycle, and goes on after
md_start : (b : Bool) (row : Option Insn) (md : MulDivUnit) (a c : ℕ) (fixed : Bool) (mul : MulKind) (op : MdOp)
    (rd rs1 rs2 : ℕ) → b ≡ true → row ≡ Some (MulDiv op rd rs1 rs2)
    → md_by b row md a c fixed mul ≡ start_of op a c fixed mul
unfolding start_of md_by
md_start b row md a c fixed mul op rd rs1 rs2 e r = ap₂ (λ k x. md_by k x md a c fixed mul) e r

-- after the first cycle of an M row the unit goes on with what it has
md_kept : (b : Bool) (row : Option Insn) (md : MulDivUnit) (a c : ℕ) (fixed : Bool) (mul : MulKind) (op : MdOp)
    (rd rs1 rs2 : ℕ) → b ≡ false → row ≡ Some (MulDiv op rd rs1 rs2) → md_by b row md a c fixed mul ≡ md
unfolding md_by
md_kept b row md a c fixed mul op rd rs1 rs2 e r = ap₂ (λ k x. md_by k x md a c fixed mul) e r

-- a start by equal operands is the same
started : (op : MdOp) (a b c d : ℕ) (f g : Bool) (mul : MulKind) → a ≡ c → b ≡ d → f ≡ g
    → start_of op a b f mul ≡ start_of op c d g mul
started op a b c d f g mul x y z = ap (λ n. start_of op n b f mul) x ∙ ap₂ (λ n k. start_of op c n k mul) y z

-- the phase is 0 in the first cycle alone
zero_phase : (s : Setup) (limit t : ℕ) (h : Story) (c phase : ℕ) → t + 1 ≡ c → PhaseAt s limit t h c phase → phase ≡ 0
zero_phase s limit t h c phase now (fresh e at) = e
zero_phase s limit t h c phase now (later e less _) = absurd (omega (arith, now, less))
zero_phase s limit t h c phase now (found e two less done) = absurd (omega (arith, now, less))

-- after the item's first cycle the phase is never 0 again
some_phase : (s : Setup) (limit t : ℕ) (h : Story) (c phase : ℕ) → t + 1 < c → PhaseAt s limit t h c phase → phase ≢ 0
some_phase s limit t h c phase past_ (fresh e at) = λ z. absurd (omega (arith, past_, at))
some_phase s limit t h c phase past_ (later e less _) = λ z. absurd (omega (arith, e, z))
some_phase s limit t h c phase past_ (found e two less done) = λ z. absurd (omega (arith, two, z))

-- the calculation of an M row in cycle c
record MdValue (s : Setup) (t : ℕ) (h : Story) (c : ℕ) (id : IdState) (md : MulDivUnit) (v : Eyes) (op : MdOp)
    (rs1 rs2 : ℕ) : Type 0 where
  n : ℕ
  at : t + 1 + n ≡ c
  value : md_seen s v id md ≡ work_after s t h id n op rs1 rs2
  left : left_of (md_seen s v id md) + c ≡ t + 1 + (item_at s t h).cost

-- one M row has one operation and one pair of sources
op_same : (a e : MdOp) (b c d f g i : ℕ) → Some (MulDiv a b c d) ≡ Some (MulDiv e f g i) → a ≡ e
op_same a e b c d f g i k = cc

-- an M row has one first source
first_same : (a e : MdOp) (b c d f g i : ℕ) → Some (MulDiv a b c d) ≡ Some (MulDiv e f g i) → c ≡ g
first_same a e b c d f g i k = cc

-- an M row has one second source
second_same : (a e : MdOp) (b c d f g i : ℕ) → Some (MulDiv a b c d) ≡ Some (MulDiv e f g i) → d ≡ i
second_same a e b c d f g i k = cc

-- the unit holds the calculation of the item's operands
md_value : (s : Setup) (limit t : ℕ) (h : Story) (c : ℕ) (id : IdState) (md : MulDivUnit) (v : Eyes) (op : MdOp)
    (rd rs1 rs2 : ℕ) → IsState s c h → Sees s t h c id v → PhaseAt s limit t h c id.phase → WorkAt s t h c id md
    → v.row ≡ Some (MulDiv op rd rs1 rs2) → MdValue s t h c id md v op rs1 rs2
unfolding ticks
md_value s limit t h c id md v op rd rs1 rs2 state sees phase (starts now k) row =
    let o : Operands s t h v id op rs1 rs2 = sees.operands op rd rs1 rs2 row in
    let value : md_seen s v id md ≡ start_of op (reg h.state rs1) (reg h.state rs2) (is_fixed_at s t h id) s.mul =
    md_start (id.phase == 0) v.row md v.a v.b v.fixed s.mul op rd rs1 rs2
    (ap (λ n. n == 0) (zero_phase s limit t h c id.phase now phase)) row
    ∙ started op v.a v.b (reg h.state rs1) (reg h.state rs2) v.fixed (is_fixed_at s t h id) s.mul o.first o.second
    o.fixed_is in
    record {
      n = 0;
      at = omega (arith, now);
      value = value;
      left = omega (
        arith,
        now,
        ap left_of value,
        left_of-start op (reg h.state rs1) (reg h.state rs2) (is_fixed_at s t h id) s.mul
            (reg_low s.image.ram h.state rs1 state.good) (reg_low s.image.ram h.state rs2 state.good),
        o.cost_is,
        ap₂ (λ n k. md_cost_of op n k s.mul) o.second o.fixed_is,
      );
    }
md_value s limit t h c id md v op rd rs1 rs2 state sees phase (rests none k) row =
    let no_ : true ≡ false = sym (ap is_md (sym sees.row_is ∙ row)) ∙ none in cc
md_value s limit t h c id md v op rd rs1 rs2 state sees phase (works op2 rd2 a2 b2 n row2 at k left) row =
    let same : Some (MulDiv op2 rd2 a2 b2) ≡ Some (MulDiv op rd rs1 rs2) = sym row2 ∙ sym sees.row_is ∙ row in
    let kept : md_seen s v id md ≡ md =
    md_kept (id.phase == 0) v.row md v.a v.b v.fixed s.mul op rd rs1 rs2
    (ne_eqb id.phase 0 (some_phase s limit t h c id.phase (omega (arith, at)) phase)) row in
    record {
      n = suc n;
      at = at;
      value = kept ∙ k
          ∙ ap (λ z. work_after s t h id (suc n) z a2 b2) (op_same op2 op rd2 a2 b2 rd rs1 rs2 same)
          ∙ ap₂ (λ x y. work_after s t h id (suc n) op x y) (first_same op2 op rd2 a2 b2 rd rs1 rs2 same)
          (second_same op2 op rd2 a2 b2 rd rs1 rs2 same);
      left = omega (arith, ap left_of kept, left);
    }

-- it ticks while the item is held, as long as cycles are left
held_ticks : (next : IdState) (m : MulDivUnit) → left_of m ≢ 0 → md_next (Hold next) m ≡ md_tick m
unfolding md_next md_tick
held_ticks next m ne = rw (ne_eqb (left_of m) 0 ne) refl

-- one cycle more in the stage
pub work_next : (s : Setup) (limit t : ℕ) (h : Story) (c : ℕ) (id : IdState) (md : MulDivUnit) (v : Eyes) (phase : ℕ)
    (row : Option Insn) → IsState s c h → Sees s t h c id v → PhaseAt s limit t h c id.phase → WorkAt s t h c id md
    → v.row ≡ row → (is_md row ≡ true → c < t + 1 + (item_at s t h).cost)
    → WorkAt s t h (c + 1) (held phase id) (md_next (Hold (held phase id)) (md_seen s v id md))
unfolding row_of
work_next s limit t h c id md v phase (Some (MulDiv op rd rs1 rs2)) state sees at work row less =
    let m : MdValue s t h c id md v op rs1 rs2 = md_value s limit t h c id md v op rd rs1 rs2 state sees at work row in
    let x : MulDivUnit = md_seen s v id md in
    let ne : left_of x ≢ 0 = λ z. absurd (omega (arith, z, m.left, less refl)) in
    let tick : md_next (Hold (held phase id)) x ≡ md_tick x = held_ticks (held phase id) x ne in
    works op rd rs1 rs2 m.n (sym sees.row_is ∙ row) (omega (arith, m.at))
    (tick ∙ ap md_tick m.value ∙ sym (ticks_more m.n
    (start_of op (reg h.state rs1) (reg h.state rs2) (is_fixed_at s t h id) s.mul)))
    (omega (arith, ap left_of tick, left_of-tick x ne, m.left))
work_next s limit t h c id md v phase row state sees at work e less =
    rests (ap is_md (sym sees.row_is ∙ e))
    (ap (md_next (Hold (held phase id))) (md_rest (id.phase == 0) v.row md v.a v.b v.fixed s.mul (ap is_md e))
    ∙ held_idle (held phase id))

-- ---- an item that makes no request in this cycle

-- it ends where its turn is the ending one, and stays where it is held
quiet_ends : (s : Setup) (limit t : ℕ) (h : Story) (c : ℕ) (id : IdState) (md : MulDivUnit) (ls : Lsu) (p : PortState)
    (v : Eyes) → IsState s c h → Sees s t h c id v → Full s limit t h c id md ls p
    → (item_at s t h).portions ≡ NoPortion → is_active v id ≡ false → done_at s limit t h ≡ c
    → turn_seen v id ls (answer_wires p) ≡ ending (kind_of s t h) (trap_phase s t h) (item_at s t h).redirects
    → t + 1 + (item_at s t h).cost ≤ c ⊎ (is_md v.row ≡ false)
    → Turned s limit t h c id md ls p v
quiet_ends s limit t h c id md ls p v state sees full none still done turn over =
    let q : QuietLs s h ls p = quiet_ls s t h c ls p none full.part in
    let n : ℕ = h.times.made in
    ends (record {
      admitted_at = full.admitted_at;
      done = done;
      after = omega (arith, entered_by s limit t h c id.phase full.phase);
      turn = turn;
      request = ap (λ (x : LsTurn). x.req) (inactive_turn (is_active v id) v.access ls (answer_wires p) still);
      ls_is = inactive_next (is_active v id) v.access ls (answer_wires p) false still ∙ q.ls_is;
      free = subst (λ k. Free s.plan.dwaits k p) (sym (ap (λ k. made_by k n) none ∙ none_made n))
          (idle_free s.plan.dwaits n p q.idle);
      settled = subst (λ ws. IsBefore ws c) (sym (taken_writes s t h none)) state.settled.before;
      granted = subst (λ ts. AreGranted ts c) (sym (taken_sent s t h none)) state.settled.granted;
      gathered = λ w part store trap. absurd (true≢false (sym part.reached ∙ ap (λ k. reaches k false) none));
      result = λ op rd rs1 rs2 row.
          let m : MdValue s t h c id md v op rs1 rs2 =
          md_value s limit t h c id md v op rd rs1 rs2 state sees full.phase full.work row in
          m.value ∙ ap (λ k. work_after s t h id k op rs1 rs2)
          (same_cost (is_md v.row) (item_at s t h).cost t c m.n (left_of (md_seen s v id md)) (ap is_md row) over m.at
          m.left);
    })
  where
    same_cost : (b : Bool) (cost t c n left : ℕ) → b ≡ true → t + 1 + cost ≤ c ⊎ (b ≡ false) → t + 1 + n ≡ c
        → left + c ≡ t + 1 + cost → n ≡ cost
    same_cost b cost t c n left e (inl over) at eq = omega arith
    same_cost b cost t c n left e (inr f) at eq = let no_ : true ≡ false = sym e ∙ f in cc

-- an item that may not end yet and is held stays in the stage with its next phase
quiet_stays : (s : Setup) (limit t : ℕ) (h : Story) (c : ℕ) (id : IdState) (md : MulDivUnit) (ls : Lsu) (p : PortState)
    (v : Eyes) (phase : ℕ) → c < limit → IsState s c h → Sees s t h c id v → Full s limit t h c id md ls p
    → (item_at s t h).portions ≡ NoPortion → is_active v id ≡ false
    → may_end (settings_of s) (item_at s t h) h.times.ctl (t + 1) c ≡ false
    → turn_seen v id ls (answer_wires p) ≡ Hold (held phase id) → PhaseAt s limit t h (c + 1) phase
    → (is_md v.row ≡ true → c < t + 1 + (item_at s t h).cost) → Turned s limit t h c id md ls p v
quiet_stays s limit t h c id md ls p v phase low state sees full none still not_yet turn at less =
    let q : QuietLs s h ls p = quiet_ls s t h c ls p none full.part in
    stays (held phase id) turn (record {
      admitted_at = full.admitted_at;
      item = held_item s t h id phase full.item;
      phase = at;
      count = count_next id.count t c full.count (entered_by s limit t h c id.phase full.phase);
      running = runs_on s limit t h c full.running low not_yet;
      work = work_next s limit t h c id md v phase v.row state sees full.phase full.work refl less;
      part =
          quiet none (ap (λ (x : LsTurn). x.req) (inactive_turn (is_active v id) v.access ls (answer_wires p) still))
          (inactive_next (is_active v id) v.access ls (answer_wires p) false still ∙ q.ls_is)
          (idle_free s.plan.dwaits h.times.made p q.idle);
    })

-- ---- what the stage sees of an item without an access

-- no access is at work, and no fault is seen
still_by : (v : Eyes) (id : IdState) → v.access ≡ None → is_active v id ≡ false
still_by v id e = ap (λ a. is_some_access a && v.refused == 0 && nat_lt id.phase 2) e

-- with no access and no refusal the stage sees no fault
no_fault : (v : Eyes) (id : IdState) (ls : Lsu) (rsp : Rsp) → v.access ≡ None → v.refused ≡ 0
    → fault_seen v (ls_seen v id ls rsp) ≡ 0
no_fault v id ls rsp e r = ap₂ (λ n (x : LsTurn). if n == 0 then x.fault else n) r
    (inactive_turn (is_active v id) v.access ls rsp (still_by v id e))

-- a real item's turn, by its phase
pub early_of : (id : IdState) (i : IdIn) → id.valid ≡ true → id.kind ≡ 0 → (id.phase ≡ 0) ⊎ (id.phase ≡ 1)
    → turn_of id i ≡ early_turn id i
early_of id i v k (inl e) = turn_real id i v k ∙ real_phase id i 0 e
early_of id i v k (inr e) = turn_real id i v k ∙ real_phase id i 1 e

-- in phase 2, 3 or 4 a real item's turn is its trap, and before that the early turn
pub late_of : (id : IdState) (i : IdIn) (n : ℕ) → id.valid ≡ true → id.kind ≡ 0 → id.phase ≡ n
    → turn_of id i ≡ (if n == 2 then Trap 1 else if n == 3 then Trap 2 else if nat_le 4 n then Trap 0
    else early_turn id i)
late_of id i n v k e = turn_real id i v k ∙ real_phase id i n e

-- without a trap the phase is 0 or 1, and 1 in the next cycle
pub is_early : (s : Setup) (limit t : ℕ) (h : Story) (c phase : ℕ) → trap_phase s t h ≡ 0 → PhaseAt s limit t h c phase
    → (phase ≡ 0) ⊎ (phase ≡ 1)
is_early s limit t h c phase none (fresh e at) = inl e
is_early s limit t h c phase none (later e less _) = inr e
is_early s limit t h c phase none (found e two less done) = absurd (omega (arith, e, none, two))

-- an item without a trap is in phase 1 in each cycle after its first
goes_later : (s : Setup) (limit t : ℕ) (h : Story) (c : ℕ) → trap_phase s t h ≡ 0 → t + 1 ≤ c
    → PhaseAt s limit t h (c + 1) 1
goes_later s limit t h c none in_ = later refl (omega arith) (λ some. absurd (some none))

-- an instruction is a real item, and a dummy has no trap
pub real_kind : (s : Setup) (t : ℕ) (h : Story) (id : IdState) → ItemAt s t h id → kind_of s t h ≡ AnInstruction
    → id.kind ≡ 0
real_kind s t h id i e = i.kind ∙ ap (λ k. (staged_by s h k).kind) e

-- a dummy has no trap
dummy_phase : (s : Setup) (t : ℕ) (h : Story) → kind_of s t h ≡ ADummy → trap_phase s t h ≡ 0
unfolding trap_phase
dummy_phase s t h e = ap (λ k. view_phase (view_by s h (choice_by s h k))) e

-- by cost, with a row that ends so
pub works_way : (s : Setup) (limit t : ℕ) (h : Story) (c : ℕ) (id : IdState) (md : MulDivUnit) (ls : Lsu)
    (p : PortState) (v : Eyes) (cost : ℕ) → c < limit → IsState s c h → Sees s t h c id v
    → Full s limit t h c id md ls p → kind_of s t h ≡ AnInstruction → IsPlain s t h v cost → v.trap ≡ None
    → trap_phase s t h ≡ 0 → ((id : IdState) (over : Bool) (fault : ℕ)
    → worked v.row id (in_by v over fault) ≡ ends_at cost (item_at s t h).redirects id)
    → Turned s limit t h c id md ls p v
works_way s limit t h c id md ls p v cost low state sees full kind plain none zero_ row =
    let x : LsTurn = ls_seen v id ls (answer_wires p) in
    let r : Bool = (item_at s t h).redirects in
    let in_ : t + 1 ≤ c = entered_by s limit t h c id.phase full.phase in
    let turn : turn_seen v id ls (answer_wires p) ≡ ends_at cost r id =
    early_of id (in_by v x.done (fault_seen v x)) full.item.valid (real_kind s t h id full.item kind)
    (is_early s limit t h c id.phase zero_ full.phase)
    ∙ plain_early id v x.done (fault_seen v x) (no_fault v id ls (answer_wires p) plain.inactive plain.unrefused) none
    ∙ row id x.done (fault_seen v x) in
    let test : may_end (settings_of s) (item_at s t h) h.times.ctl (t + 1) c ≡ nat_le (t + 1 + cost) c =
    ends_timed (settings_of s) (item_at s t h) h.times.ctl (t + 1) cost c plain.sleeps plain.cost_is in
    let count : nat_le cost id.count ≡ nat_le (t + 1 + cost) c = counted cost id.count t c plain.few full.count in_ in
    elim (cases_lt c (t + 1 + cost)) [
      | inl early ↦
          let no_ : nat_le (t + 1 + cost) c ≡ false = lt-leb (t + 1 + cost) c early in
          quiet_stays s limit t h c id md ls p v 1 low state sees full plain.portions (still_by v id plain.inactive)
          (test ∙ no_)
          (turn ∙ ap (λ b. if b then Retire r else Hold (held 1 id)) (count ∙ no_))
          (goes_later s limit t h c zero_ in_) (λ _. omega (arith, early, plain.cost_is))
      | inr late ↦
          let yes_ : nat_le (t + 1 + cost) c ≡ true = le-leb (t + 1 + cost) c late in
          quiet_ends s limit t h c id md ls p v state sees full plain.portions (still_by v id plain.inactive)
          (ended_now s limit t h c plain.portions full.running low (test ∙ yes_))
          (turn ∙ ap (λ b. if b then Retire r else Hold (held 1 id)) (count ∙ yes_)
          ∙ sym (ap₂ (λ k n. ending k n r) kind zero_)) (inl (omega (arith, late, plain.cost_is)))
    ]

-- a dummy by its cost, an interrupt at once, and WFI when it is woken
pub dummy_way : (s : Setup) (limit t : ℕ) (h : Story) (c : ℕ) (id : IdState) (md : MulDivUnit) (ls : Lsu)
    (p : PortState) (v : Eyes) → c < limit → IsState s c h → Sees s t h c id v → Full s limit t h c id md ls p
    → kind_of s t h ≡ ADummy → IsPlain s t h v v.cost → Turned s limit t h c id md ls p v
dummy_way s limit t h c id md ls p v low state sees full kind plain =
    let x : LsTurn = ls_seen v id ls (answer_wires p) in
    let in_ : t + 1 ≤ c = entered_by s limit t h c id.phase full.phase in
    let zero_ : trap_phase s t h ≡ 0 = dummy_phase s t h kind in
    let turn : turn_seen v id ls (answer_wires p) ≡ (if nat_le v.cost id.count then Dummy else Hold (held 1 id)) =
    turn_dummy id (in_by v x.done (fault_seen v x)) full.item.valid
    (full.item.kind ∙ ap (λ k. (staged_by s h k).kind) kind)
    (is_early s limit t h c id.phase zero_ full.phase) in
    let test : may_end (settings_of s) (item_at s t h) h.times.ctl (t + 1) c ≡ nat_le (t + 1 + v.cost) c =
    ends_timed (settings_of s) (item_at s t h) h.times.ctl (t + 1) v.cost c plain.sleeps plain.cost_is in
    let count : nat_le v.cost id.count ≡ nat_le (t + 1 + v.cost) c =
    counted v.cost id.count t c plain.few full.count in_ in
    elim (cases_lt c (t + 1 + v.cost)) [
      | inl early ↦
          let no_ : nat_le (t + 1 + v.cost) c ≡ false = lt-leb (t + 1 + v.cost) c early in
          quiet_stays s limit t h c id md ls p v 1 low state sees full plain.portions (still_by v id plain.inactive)
          (test ∙ no_)
          (turn ∙ ap (λ b. if b then Dummy else Hold (held 1 id)) (count ∙ no_)) (goes_later s limit t h c zero_ in_)
          (λ _. omega (arith, early, plain.cost_is))
      | inr late ↦
          let yes_ : nat_le (t + 1 + v.cost) c ≡ true = le-leb (t + 1 + v.cost) c late in
          quiet_ends s limit t h c id md ls p v state sees full plain.portions (still_by v id plain.inactive)
          (ended_now s limit t h c plain.portions full.running low (test ∙ yes_))
          (turn ∙ ap (λ b. if b then Dummy else Hold (held 1 id)) (count ∙ yes_)
          ∙ sym (ap (λ k. ending k (trap_phase s t h) (item_at s t h).redirects) kind))
          (inl (omega (arith, late, plain.cost_is)))
    ]

-- an interrupt is done in its first cycle
pub interrupt_way : (s : Setup) (limit t : ℕ) (h : Story) (c : ℕ) (id : IdState) (md : MulDivUnit) (ls : Lsu)
    (p : PortState) (v : Eyes) (number : ℕ) → c < limit → IsState s c h → Sees s t h c id v
    → Full s limit t h c id md ls p → kind_of s t h ≡ AnInterrupt number → IsPlain s t h v 0
    → Turned s limit t h c id md ls p v
interrupt_way s limit t h c id md ls p v number low state sees full kind plain =
    let x : LsTurn = ls_seen v id ls (answer_wires p) in
    let in_ : t + 1 ≤ c = entered_by s limit t h c id.phase full.phase in
    let test : may_end (settings_of s) (item_at s t h) h.times.ctl (t + 1) c ≡ true =
    ends_timed (settings_of s) (item_at s t h) h.times.ctl (t + 1) 0 c plain.sleeps plain.cost_is
    ∙ le-leb (t + 1 + 0) c (omega arith) in
    quiet_ends s limit t h c id md ls p v state sees full plain.portions (still_by v id plain.inactive)
    (ended_now s limit t h c plain.portions full.running low test)
    (turn_irq id (in_by v x.done (fault_seen v x)) full.item.valid
    (full.item.kind ∙ ap (λ k. (staged_by s h k).kind) kind)
    ∙ sym (ap (λ k. ending k (trap_phase s t h) (item_at s t h).redirects) kind))
    (inl (omega (arith, in_, plain.cost_is)))

-- a WFI sleeps in the stage until a line wakes it, and is done in that cycle
pub sleeps_way : (s : Setup) (limit t : ℕ) (h : Story) (c : ℕ) (id : IdState) (md : MulDivUnit) (ls : Lsu)
    (p : PortState) (v : Eyes) → c < limit → IsState s c h → Sees s t h c id v → Full s limit t h c id md ls p
    → kind_of s t h ≡ AnInstruction → v.row ≡ Some Wfi → v.access ≡ None → v.refused ≡ 0 → v.trap ≡ None
    → (item_at s t h).portions ≡ NoPortion → (item_at s t h).sleeps ≡ true
    → v.wake ≡ is_woken h.times.ctl (lines_in (settings_of s) c) → trap_phase s t h ≡ 0
    → (item_at s t h).redirects ≡ false → Turned s limit t h c id md ls p v
unfolding worked
sleeps_way s limit t h c id md ls p v low state sees full kind row none unrefused untrapped portions sleeps_ wake zero_
    straight =
    let x : LsTurn = ls_seen v id ls (answer_wires p) in
    let in_ : t + 1 ≤ c = entered_by s limit t h c id.phase full.phase in
    let i : IdIn = in_by v x.done (fault_seen v x) in
    let turn : turn_seen v id ls (answer_wires p) ≡ (if v.wake then Retire false else Hold (held 1 id)) =
    early_of id i full.item.valid (real_kind s t h id full.item kind)
    (is_early s limit t h c id.phase zero_ full.phase)
    ∙ plain_early id v x.done (fault_seen v x) (no_fault v id ls (answer_wires p) none unrefused) untrapped
    ∙ ap (λ z. worked z id i) row in
    let test : may_end (settings_of s) (item_at s t h) h.times.ctl (t + 1) c ≡ v.wake =
    ends_woken (settings_of s) (item_at s t h) h.times.ctl (t + 1) c sleeps_ ∙ sym wake in
    let still : is_md v.row ≡ false = ap is_md row in
    elim (true_or v.wake) [
      | inl yes_ ↦
          quiet_ends s limit t h c id md ls p v state sees full portions (still_by v id none)
          (ended_now s limit t h c portions full.running low (test ∙ yes_))
          (turn ∙ ap (λ b. if b then Retire false else Hold (held 1 id)) yes_
          ∙ sym (ap₂ (λ k n. ending k n (item_at s t h).redirects) kind zero_ ∙ ap Retire straight)) (inr still)
      | inr no_ ↦
          quiet_stays s limit t h c id md ls p v 1 low state sees full portions (still_by v id none) (test ∙ no_)
          (turn ∙ ap (λ b. if b then Retire false else Hold (held 1 id)) no_) (goes_later s limit t h c zero_ in_)
          (λ e. absurd (true≢false (sym e ∙ still)))
    ]
  where
    true_or : (b : Bool) → (b ≡ true) ⊎ (b ≡ false)
    true_or true = inl refl
    true_or false = inr refl

-- ---- a trap that is found as the item enters

-- where it is found in its first cycle, it is done in the next
found_next : (s : Setup) (limit t : ℕ) (h : Story) (c phase : ℕ) → (item_at s t h).portions ≡ NoPortion
    → (item_at s t h).cost ≡ 1 → (item_at s t h).sleeps ≡ false → Running s limit t h (c + 1) → t + 1 ≡ c → 2 ≤ phase
    → trap_phase s t h ≡ phase → PhaseAt s limit t h (c + 1) phase
found_next s limit t h c phase none cost sleeps_ running now two trap =
    let test : may_end (settings_of s) (item_at s t h) h.times.ctl (t + 1) (c + 1) ≡ true =
    ends_timed (settings_of s) (item_at s t h) h.times.ctl (t + 1) 1 (c + 1) sleeps_ cost
    ∙ le-leb (t + 1 + 1) (c + 1) (omega (arith, now)) in
    found (sym trap) two (omega (arith, now))
    (done_none s limit t h (c + 1) none running
    ∙ first_here (limit - (c + 1)) (may_end (settings_of s) (item_at s t h) h.times.ctl (t + 1)) (c + 1) test)

-- the turn as it enters, and the turn of the trap
trap_way : (s : Setup) (limit t : ℕ) (h : Story) (c : ℕ) (id : IdState) (md : MulDivUnit) (ls : Lsu) (p : PortState)
    (v : Eyes) (phase : ℕ) → c < limit → IsState s c h → Sees s t h c id v → Full s limit t h c id md ls p
    → (item_at s t h).portions ≡ NoPortion → (item_at s t h).cost ≡ 1 → (item_at s t h).sleeps ≡ false
    → is_active v id ≡ false → 2 ≤ phase → trap_phase s t h ≡ phase
    → (id.phase ≡ 0 → turn_seen v id ls (answer_wires p) ≡ Hold (held phase id))
    → (id.phase ≡ phase → turn_seen v id ls (answer_wires p)
    ≡ ending (kind_of s t h) (trap_phase s t h) (item_at s t h).redirects)
    → PhaseAt s limit t h c id.phase
    → Turned s limit t h c id md ls p v
trap_way s limit t h c id md ls p v phase low state sees full none cost sleeps_ still two trap enters_ ends_
    (fresh e now) =
    let test : may_end (settings_of s) (item_at s t h) h.times.ctl (t + 1) c ≡ false =
    ends_timed (settings_of s) (item_at s t h) h.times.ctl (t + 1) 1 c sleeps_ cost
    ∙ lt-leb (t + 1 + 1) c (omega (arith, now)) in
    quiet_stays s limit t h c id md ls p v phase low state sees full none still test (enters_ e)
    (found_next s limit t h c phase none cost sleeps_ (runs_on s limit t h c full.running low test) now two trap)
    (λ _. omega (arith, now, cost))
trap_way s limit t h c id md ls p v phase low state sees full none cost sleeps_ still two trap enters_ ends_
    (later e less g) =
    let test : may_end (settings_of s) (item_at s t h) h.times.ctl (t + 1) c ≡ true =
    ends_timed (settings_of s) (item_at s t h) h.times.ctl (t + 1) 1 c sleeps_ cost
    ∙ le-leb (t + 1 + 1) c (omega (arith, less)) in
    absurd (omega (
      arith,
      ended_now s limit t h c none full.running low test,
      g (λ z. absurd (omega (arith, z, trap, two))),
    ))
trap_way s limit t h c id md ls p v phase low state sees full none cost sleeps_ still two trap enters_ ends_
    (found e more less done) =
    quiet_ends s limit t h c id md ls p v state sees full none still done (ends_ (e ∙ trap))
    (inl (omega (arith, less, cost)))

-- a cause that is found holds the item for its trap
caused_early : (id : IdState) (v : Eyes) (over : Bool) (fault : ℕ) → fault ≡ 0 → is_some_cause v.trap ≡ true
    → early_turn id (in_by v over fault) ≡ Hold (held 4 id)
caused_early id v over fault e k =
    ap₂ (λ n b. if n == 1 then Hold (held 2 id) else if n == 2 then Hold (held 3 id) else if b then Hold (held 4 id)
    else worked v.row id (in_by v over fault)) e k

-- so an instruction that traps as it enters is done in its second cycle
pub caused_way : (s : Setup) (limit t : ℕ) (h : Story) (c : ℕ) (id : IdState) (md : MulDivUnit) (ls : Lsu)
    (p : PortState) (v : Eyes) → c < limit → IsState s c h → Sees s t h c id v → Full s limit t h c id md ls p
    → kind_of s t h ≡ AnInstruction → IsPlain s t h v 1 → is_some_cause v.trap ≡ true → trap_phase s t h ≡ 4
    → Turned s limit t h c id md ls p v
caused_way s limit t h c id md ls p v low state sees full kind plain some trap =
    let x : LsTurn = ls_seen v id ls (answer_wires p) in
    let i : IdIn = in_by v x.done (fault_seen v x) in
    let zero_ : id.kind ≡ 0 = real_kind s t h id full.item kind in
    trap_way s limit t h c id md ls p v 4 low state sees full plain.portions plain.cost_is plain.sleeps
    (still_by v id plain.inactive) (omega arith) trap
    (λ e. early_of id i full.item.valid zero_ (inl e)
    ∙ caused_early id v x.done (fault_seen v x) (no_fault v id ls (answer_wires p) plain.inactive plain.unrefused)
    some)
    (λ e. late_of id i 4 full.item.valid zero_ e ∙ sym (ap₂ (λ k n. ending k n (item_at s t h).redirects) kind trap))
    full.phase

-- ---- protection refuses a portion

-- no request is made, and the fault is that of the portion
refused_still : (v : Eyes) (id : IdState) (w : Access) (b : Bool) → v.access ≡ Some w → v.refused ≡ portion_code b
    → is_active v id ≡ false
refused_still v id w false a r = ap₂ (λ x n. is_some_access x && n == 0 && nat_lt id.phase 2) a r
refused_still v id w true a r = ap₂ (λ x n. is_some_access x && n == 0 && nat_lt id.phase 2) a r

-- the fault that the stage sees is that of the refused portion
refused_fault : (v : Eyes) (turn : LsTurn) (b : Bool) → v.refused ≡ portion_code b → fault_seen v turn ≡ portion_code b
refused_fault v turn false r = ap (λ n. if n == 0 then turn.fault else n) r
refused_fault v turn true r = ap (λ n. if n == 0 then turn.fault else n) r

-- a fault holds the item for its trap, whose turn comes next
pub fault_early : (id : IdState) (v : Eyes) (over : Bool) (fault : ℕ) (b : Bool) → fault ≡ portion_code b
    → early_turn id (in_by v over fault) ≡ Hold (held (portion_code b + 1) id)
fault_early id v over fault false e =
    ap (λ n. if n == 1 then Hold (held 2 id) else if n == 2 then Hold (held 3 id) else if is_some_cause v.trap
    then Hold (held 4 id) else worked v.row id (in_by v over fault)) e
fault_early id v over fault true e =
    ap (λ n. if n == 1 then Hold (held 2 id) else if n == 2 then Hold (held 3 id) else if is_some_cause v.trap
    then Hold (held 4 id) else worked v.row id (in_by v over fault)) e

-- in the phase of a portion's trap the turn is that trap, and ends the item
pub portion_late : (id : IdState) (i : IdIn) (b r : Bool) → id.valid ≡ true → id.kind ≡ 0
    → id.phase ≡ portion_code b + 1 → turn_of id i ≡ ending_by (portion_code b + 1) r
portion_late id i false r v k e = late_of id i 2 v k e
portion_late id i true r v k e = late_of id i 3 v k e

-- the phases of portions' traps are 2 and 3
pub two_code : (b : Bool) → 2 ≤ portion_code b + 1
two_code false = omega arith
two_code true = omega arith

-- so a refused access is done in its second cycle
pub refused_way : (s : Setup) (limit t : ℕ) (h : Story) (c : ℕ) (id : IdState) (md : MulDivUnit) (ls : Lsu)
    (p : PortState) (v : Eyes) (w : Access) (b : Bool) → c < limit → IsState s c h → Sees s t h c id v
    → Full s limit t h c id md ls p → kind_of s t h ≡ AnInstruction → v.access ≡ Some w → v.refused ≡ portion_code b
    → (item_at s t h).portions ≡ NoPortion → (item_at s t h).cost ≡ 1 → (item_at s t h).sleeps ≡ false
    → trap_phase s t h ≡ portion_code b + 1 → Turned s limit t h c id md ls p v
refused_way s limit t h c id md ls p v w b low state sees full kind access refuses_ none cost sleeps_ trap =
    let x : LsTurn = ls_seen v id ls (answer_wires p) in
    let i : IdIn = in_by v x.done (fault_seen v x) in
    let zero_ : id.kind ≡ 0 = real_kind s t h id full.item kind in
    let r : Bool = (item_at s t h).redirects in
    trap_way s limit t h c id md ls p v (portion_code b + 1) low state sees full none cost sleeps_
    (refused_still v id w b access refuses_) (two_code b) trap
    (λ e. early_of id i full.item.valid zero_ (inl e)
    ∙ fault_early id v x.done (fault_seen v x) b (refused_fault v x b refuses_))
    (λ e. portion_late id i b r full.item.valid zero_ e ∙ sym (ap₂ (λ k n. ending k n r) kind trap))
    full.phase
