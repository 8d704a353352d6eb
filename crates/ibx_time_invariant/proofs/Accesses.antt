-- The turn of an access: it asks for its portions, awaits their answers, and ends at the last one or in the cycle
-- after one that is an error.
use Rattle.std.proofs.Common.{◌≡◌, ℕ, suc, ◌+◌, ◌^◌, ◌<◌, ◌≤◌, Bool, true, false, ◌&&◌, ◌≢◌, ◌⊎◌, List, if◌then◌else◌}
use Rattle.std.proofs.Common.{nat_lt, ◌==◌, Some, None, Option, sym, refl, ap, ◌∙◌, subst, ap₂, inl, inr, arith}
use Rattle.std.proofs.Common.{true≢false}
use Rattle.std.proofs.lemmas.Bool.{cases_eq}
use Rattle.ibx_time_invariant.proofs.Links.{held as held_port}
use Rattle.ibx_time_invariant.proofs.Stages.{asks as portion_asks}
use Rattle.ibx_lsu.specs.Turns.{turn_of as ls_turn, next_of as ls_next, asks as ls_asks}
use Rattle.ibx_muldiv.specs.declared.unit.MulDiv.{MulDiv as MulDivUnit}
use Rattle.ibx_lsu.specs.Turns.{idle_of as ls_idle, awaits, crosses, faults, gives}
use Rattle.ibx_isa.specs.Wires.{request_of, no_request}
use Rattle.ibx_time_invariant.proofs.Stages.{opened, failed, is_md, fails, Full, ItemAt, LsAt, LsMid, Opened, Portion}
use Rattle.ibx_time_invariant.proofs.Stages.{PhaseAt, answer_at, found, fresh, issue_at, later, ls_asked, ls_due, new}
use Rattle.ibx_time_invariant.proofs.Stages.{number_at, portion_word, quiet, reaches, trap_phase, turns, waiting}
use Rattle.ibx_time_invariant.proofs.StageSide.{works, refused, Eyes, IsGathered, Sees, StageTurns, Turned, Way, accesses}
use Rattle.ibx_time_invariant.proofs.StageSide.{caused, dummy, ending, ends, fault_seen, in_by, interrupts, is_access}
use Rattle.ibx_time_invariant.proofs.StageSide.{is_active, ls_left, ls_seen, portion_code, portions_phase, sleeps, stays}
use Rattle.ibx_time_invariant.proofs.StageSide.{turn_seen}
use Rattle.ibx_bus.proofs.Ports.{Idle, granted_answers, Free, granted_free, granted_silent, idle_free}
use Rattle.ibx_id.specs.Turns.{held, worked}
use Rattle.ibx_id.specs.declared.stage.IdState.{IdState}
use Rattle.ibx_id.specs.declared.stage.IdIn.{IdIn}
use Rattle.ibx_id.specs.declared.stage.Turn.TheVariants.{Hold, Retire}
use Rattle.ibx_secded.proofs.Laws.{syndrome_of-encode, payload_of-encode}
use Rattle.ibx_isa.specs.declared.insn.Insn.TheVariants.{Load, Store}
use Rattle.ibx_time_invariant.proofs.Fetches.{is_unmapped}
use Rattle.ibx_time_invariant.proofs.Links.{AreGranted, Ask, due}
use Rattle.ibx_time_invariant.proofs.Ties.{IsBefore, IsState}
use Rattle.ibx_time_invariant.proofs.Join.{done_is, failed_done, stop_at}
use Rattle.ibx_time_invariant.proofs.Quiets.{portion_low}
use Rattle.ibx_time_invariant.proofs.Ends.{caused_way, count_next, dummy_way, early_of, entered_by, fault_early, held_item}
use Rattle.ibx_time_invariant.proofs.Ends.{inactive_next, inactive_turn, interrupt_way, is_partless, plain_early}
use Rattle.ibx_time_invariant.proofs.Ends.{portion_late, real_kind, refused_way, sleeps_way, two_code, work_next, works_way}
use Rattle.ibx_bus.specs.Port.{PortState, answer_wires, answers}
use Rattle.ibx_bus.specs.PortTimes.{answer_time, grant_time}
use Rattle.ibx_time.specs.Settings.{Setup}
use Rattle.ibx_time.specs.Items.{NoPortion, One, OneBad, Portions, Two, TwoBad, portions_by, plain}
use Rattle.ibx_time.specs.Requests.{Transaction}
use Rattle.ibx_time.specs.Streams.{words}
use Rattle.ibx_time.specs.Times.{AnInstruction, done_by, made_by, portion_answer, portion_grant, portion_number}
use Rattle.ibx_time.specs.Memories.{Write, portion_sent, sent_by, sent_with, write_of, writes_with, written_by}
use Rattle.ibx_time.specs.History.{Story, access_at, done_at, item_at, kind_of, taken}
use Rattle.ibx_arch.specs.Access.{has_second}
use Rattle.ibx_isa.specs.Portions.{portion_addr}
use Rattle.ibx_secded.specs.Code.{encode_of}
use Rattle.ibx_isa.specs.declared.insn.Insn.{Insn}
use Rattle.ibx_isa.specs.declared.event.Access.{Access}
use Rattle.ibx_isa.specs.declared.bus.Rsp.{Rsp}
use Rattle.ibx_lsu.specs.declared.unit.Lsu.{Lsu}
use Rattle.ibx_lsu.specs.declared.unit.LsTurn.{LsTurn}
use Rattle.ibx_plan.specs.declared.site.Wait.{Wait}
use Rattle.ibx_core.specs.Sights.{is_some_access, turn_by}
use Rattle.ibx_core.specs.Core.{ls_by}

-- ---- its portions

-- the portions of an access that isn't refused: there is a first one, and a bad first one has no second
some_portion : (a b c : Bool) → is_partless (portions_by false a b c) ≡ false
some_portion true b c = refl
some_portion false false c = refl
some_portion false true true = refl
some_portion false true false = refl

-- an access that reaches its second portion has two, and memory answers the first
second_by : (a b c : Bool) → reaches (portions_by false a b c) true ≡ true
    → portions_by false a b c ≡ portions_by false false true c
second_by true b c e = let no_ : false ≡ true = e in cc
second_by false false c e = let no_ : false ≡ true = e in cc
second_by false true c e = refl

-- the second portion is reached just where there is one
second_has : (a b c : Bool) → reaches (portions_by false a b c) true ≡ true → b ≡ true
second_has true b c e = let no_ : false ≡ true = e in cc
second_has false false c e = let no_ : false ≡ true = e in cc
second_has false true c e = refl

-- with memory for the first portion, an access of two reaches the second
second_reached : (c : Bool) → reaches (portions_by false false true c) true ≡ true
second_reached true = refl
second_reached false = refl

-- a trap that an answer brings is done after that answer
trap_late : (ws : List Wait) (portions : Portions) (n e stop : ℕ) (b : Bool) → reaches portions b ≡ true
    → portions_phase portions ≢ 0 → portion_answer ws n e b < done_by ws portions n e stop
unfolding done_by answer_time grant_time
trap_late ws NoPortion n e stop b r ne = absurd (ne refl)
trap_late ws One n e stop b r ne = absurd (ne refl)
trap_late ws OneBad n e stop false r ne = omega arith
trap_late ws OneBad n e stop true r ne = let no_ : false ≡ true = r in cc
trap_late ws Two n e stop b r ne = absurd (ne refl)
trap_late ws TwoBad n e stop false r ne = omega arith
trap_late ws TwoBad n e stop true r ne = omega arith

-- the done of an access whose last portion is this one, how many transactions it makes, and the phase of its trap
ends_at_portion : (ws : List Wait) (n e stop : ℕ) (b : Bool)
    → done_by ws (portions_by false false b false) n e stop ≡ portion_answer ws n e b
unfolding done_by
ends_at_portion ws n e stop false = refl
ends_at_portion ws n e stop true = refl

-- a good end has made the transactions up to that of the last portion
ends_made : (n : ℕ) (b : Bool) → made_by (portions_by false false b false) n ≡ suc (portion_number n b)
unfolding made_by
ends_made n false = refl
ends_made n true = refl

-- an end in an error has made the transactions up to that of the bad portion
fails_made : (n : ℕ) (b : Bool) → made_by (fails b) n ≡ suc (portion_number n b)
unfolding made_by
fails_made n false = refl
fails_made n true = refl

-- an error's trap is found in the phase of the bad portion
fails_phase : (b : Bool) → portions_phase (fails b) ≡ portion_code b + 1
fails_phase false = refl
fails_phase true = refl

-- a good end finds no trap
ends_phase : (b : Bool) → portions_phase (portions_by false false b false) ≡ 0
ends_phase false = refl
ends_phase true = refl

-- ---- what it writes and sends is before a cycle

-- what it wrote and sent is before a cycle where its portions so far were granted before it: in a list, and in a story
-- with the item
written_before : (portions : Portions) (store : Bool) (x y : Write) (ws : List Write) (c : ℕ) → IsBefore ws c
    → x.time < c → (reaches portions true ≡ true → y.time < c) → IsBefore (written_by portions store x y ws) c
unfolding written_by
written_before portions false x y ws c b f g = b
written_before NoPortion true x y ws c b f g = b
written_before One true x y ws c b f g = (f, b)
written_before OneBad true x y ws c b f g = (f, b)
written_before Two true x y ws c b f g = (g refl, (f, b))
written_before TwoBad true x y ws c b f g = (g refl, (f, b))

-- the transactions of an access are granted before a cycle where each portion that it reaches is
sent_before : (portions : Portions) (x y : Transaction) (ts : List Transaction) (c : ℕ) → AreGranted ts c → x.grant < c
    → (reaches portions true ≡ true → y.grant < c) → AreGranted (sent_by portions x y ts) c
unfolding sent_by
sent_before NoPortion x y ts c b f g = b
sent_before One x y ts c b f g = (f, b)
sent_before OneBad x y ts c b f g = (f, b)
sent_before Two x y ts c b f g = (g refl, (f, b))
sent_before TwoBad x y ts c b f g = (g refl, (f, b))

-- the grant of a portion of the item
abbrev grant_at : Setup → ℕ → Story → Bool → ℕ
grant_at s t h b = portion_grant s.plan.dwaits h.times.made (t + 1) b

-- the writes of the story with the item are before a cycle where its portions are granted before it
writes_before : (s : Setup) (t : ℕ) (h : Story) (c : ℕ) (w : Access) → access_at s t h ≡ Some w → IsBefore h.writes c
    → grant_at s t h false < c → (reaches (item_at s t h).portions true ≡ true → grant_at s t h true < c)
    → IsBefore (taken s t h).writes c
unfolding taken
writes_before s t h c w e b f g =
    subst (λ a. IsBefore (writes_with s.plan.dwaits h.times.made (t + 1) (item_at s t h).portions a h.writes) c)
    (sym e)
    (written_before (item_at s t h).portions w.store (write_of s.plan.dwaits h.times.made (t + 1) w false)
    (write_of s.plan.dwaits h.times.made (t + 1) w true) h.writes c b f g)

-- the transactions of the story with the item are granted before a cycle where its portions are
sends_before : (s : Setup) (t : ℕ) (h : Story) (c : ℕ) (w : Access) → access_at s t h ≡ Some w → AreGranted h.sent c
    → grant_at s t h false < c → (reaches (item_at s t h).portions true ≡ true → grant_at s t h true < c)
    → AreGranted (taken s t h).sent c
unfolding taken
sends_before s t h c w e b f g =
    subst (λ a. AreGranted (sent_with s.plan.dwaits h.times.made (t + 1) (item_at s t h).portions a h.sent) c) (sym e)
    (sent_before (item_at s t h).portions (portion_sent s.plan.dwaits h.times.made (t + 1) w false)
    (portion_sent s.plan.dwaits h.times.made (t + 1) w true) h.sent c b f g)

-- the first portion is granted before the second
first_before : (ws : List Wait) (n e c : ℕ) (b : Bool) → portion_grant ws n e b < c → portion_grant ws n e false < c
unfolding answer_time grant_time
first_before ws n e c false h = h
first_before ws n e c true h = omega arith

-- ---- the unit, by its fields

-- a portion that is due or not granted yet is asked for, and awaited once it is granted
turn_due : (b : Bool) (first : ℕ) (w : Access) (rsp : Rsp)
    → ls_turn (ls_due b first) w rsp ≡ ls_asks (request_of (encode_of 32 7) w b)
unfolding ls_turn
turn_due false first w rsp = refl
turn_due true first w rsp = refl

-- a portion that is due is asked for from this cycle on, or awaited where it is granted in it
next_due : (b : Bool) (first : ℕ) (w : Access) (rsp : Rsp) (granted : Bool)
    → ls_next (ls_due b first) w rsp granted ≡ ls_asked b granted first
unfolding ls_next
next_due false first w rsp granted = refl
next_due true first w rsp granted = refl

-- a portion that isn't granted yet is still asked for, with the same wires
turn_asked : (b : Bool) (first : ℕ) (w : Access) (rsp : Rsp)
    → ls_turn (ls_asked b false first) w rsp ≡ ls_asks (request_of (encode_of 32 7) w b)
unfolding ls_turn
turn_asked false first w rsp = refl
turn_asked true first w rsp = refl

-- a portion that is asked for stays so, or is awaited where it is granted in this cycle
next_asked : (b : Bool) (first : ℕ) (w : Access) (rsp : Rsp) (granted : Bool)
    → ls_next (ls_asked b false first) w rsp granted ≡ ls_asked b granted first
unfolding ls_next
next_asked false first w rsp granted = refl
next_asked true first w rsp granted = refl

-- no answer, under which an access that awaits one goes on waiting
abbrev silent_rsp : Rsp
silent_rsp = record { valid = false; err = false; word = 0 }

-- a granted portion without an answer drives nothing
turn_silent : (b : Bool) (first : ℕ) (w : Access) → ls_turn (ls_asked b true first) w silent_rsp ≡ awaits
unfolding ls_turn
turn_silent false first w = refl
turn_silent true first w = refl

-- a granted portion without an answer is awaited in the next cycle too
next_silent : (b : Bool) (first : ℕ) (w : Access) (granted : Bool)
    → ls_next (ls_asked b true first) w silent_rsp granted ≡ ls_asked b true first
unfolding ls_next
next_silent false first w granted = refl
next_silent true first w granted = refl

-- a port that doesn't answer drives no answer
rsp_silent : (p : PortState) → answers p ≡ false → answer_wires p ≡ silent_rsp
unfolding answer_wires
rsp_silent p e = ap (λ b. if b then record { valid = true; err = p.err; word = p.word } else silent_rsp) e

-- an answer with this error and word, which comes from a port that answers so
abbrev rsp_with : Bool → ℕ → Rsp
rsp_with err word = record { valid = true; err = err; word = word }

-- a port that answers drives the error and the word that it holds
rsp_comes : (p : PortState) (err : Bool) (word : ℕ) → answers p ≡ true → p.err ≡ err → p.word ≡ word
    → answer_wires p ≡ rsp_with err word
unfolding answer_wires
rsp_comes p err word e f g =
    ap (λ b. if b then rsp_with p.err p.word else silent_rsp) e ∙ ap₂ (λ x n. rsp_with x n) f g

-- an error ends the access with its portion's fault
turn_bad : (b : Bool) (first word : ℕ) (w : Access)
    → ls_turn (ls_asked b true first) w (rsp_with true word) ≡ faults (portion_code b)
unfolding ls_turn
turn_bad false first word w = refl
turn_bad true first word w = refl

-- after an error the unit is idle, whichever portion it was
next_bad : (b : Bool) (first word : ℕ) (w : Access) (granted : Bool)
    → ls_next (ls_asked b true first) w (rsp_with true word) granted ≡ ls_idle
unfolding ls_next
next_bad false first word w granted = refl
next_bad true first word w granted = refl

-- a good first answer ends it, or makes the second portion due
turn_first : (first v : ℕ) (w : Access) (two : Bool) → v < 2 ^ 32 → crosses w ≡ two
    → ls_turn (ls_asked false true first) w (rsp_with false (encode_of 32 7 v))
    ≡ (if two then awaits else gives w.store v 0)
unfolding ls_turn
turn_first first v w true low e = rw (syndrome_of-encode 32 7 v low, e) refl
turn_first first v w false low e = rw (syndrome_of-encode 32 7 v low, e, payload_of-encode 32 7 v low) refl

-- after a good first answer the unit keeps its word for the second portion, or is idle
next_first : (first v : ℕ) (w : Access) (two granted : Bool) → v < 2 ^ 32 → crosses w ≡ two
    → ls_next (ls_asked false true first) w (rsp_with false (encode_of 32 7 v)) granted
    ≡ (if two then ls_due true v else ls_idle)
unfolding ls_next
next_first first v w true granted low e = rw (syndrome_of-encode 32 7 v low, e, payload_of-encode 32 7 v low) refl
next_first first v w false granted low e = rw (syndrome_of-encode 32 7 v low, e) refl

-- a good second answer ends it with both words
turn_second : (first v : ℕ) (w : Access) → v < 2 ^ 32
    → ls_turn (ls_asked true true first) w (rsp_with false (encode_of 32 7 v)) ≡ gives w.store first v
unfolding ls_turn
turn_second first v w low = rw (syndrome_of-encode 32 7 v low, payload_of-encode 32 7 v low) refl

-- after a good second answer the unit is idle
next_second : (first v : ℕ) (w : Access) (granted : Bool) → v < 2 ^ 32
    → ls_next (ls_asked true true first) w (rsp_with false (encode_of 32 7 v)) granted ≡ ls_idle
unfolding ls_next
next_second first v w granted low = rw (syndrome_of-encode 32 7 v low) refl

-- an end without a fault is done, and asks for nothing
gives_done : (store : Bool) (a b : ℕ) → (gives store a b).done ≡ true
gives_done true a b = refl
gives_done false a b = refl

-- an end without a fault reports none
gives_fault : (store : Bool) (a b : ℕ) → (gives store a b).fault ≡ 0
gives_fault true a b = refl
gives_fault false a b = refl

-- an end without a fault drives no request
gives_req : (store : Bool) (a b : ℕ) → (gives store a b).req ≡ no_request
gives_req true a b = refl
gives_req false a b = refl

-- ---- what the stage sees of an access

-- the item is a load or store that neither protection nor another trap stops, with the portions of its address
record Acc (s : Setup) (t : ℕ) (h : Story) (v : Eyes) (w : Access) : Type 0 where
  kind : kind_of s t h ≡ AnInstruction
  access : v.access ≡ Some w
  here : access_at s t h ≡ Some w
  unrefused : v.refused ≡ 0
  untrapped : v.trap ≡ None
  row : is_access v.row ≡ true
  portions : (item_at s t h).portions
      ≡ portions_by false (is_unmapped s (portion_addr w.addr false)) (has_second w.addr w.size)
      (is_unmapped s (portion_addr w.addr true))
  trap : trap_phase s t h ≡ portions_phase (item_at s t h).portions
  straight : trap_phase s t h ≡ 0 → (item_at s t h).redirects ≡ false

-- two accesses that the item is said to make are the same
some_same : (w u : Access) → Some w ≡ Some u → w ≡ u
some_same w u e = cc

-- so what is known of the access that is seen is known of the one that the history has
acc_for : (s : Setup) (t : ℕ) (h : Story) (v : Eyes) (w u : Access) → Acc s t h v w → access_at s t h ≡ Some u
    → Acc s t h v u
acc_for s t h v w u a e = subst (Acc s t h v) (some_same w u (sym a.here ∙ e)) a

-- a load or store is no M row, and ends when its unit is done
access_not_md : (row : Option Insn) → is_access row ≡ true → is_md row ≡ false
access_not_md (Some (Load op rd rs1 imm)) e = refl
access_not_md (Some (Store size rs1 rs2 imm)) e = refl
access_not_md row e = let no_ : false ≡ true = e in cc

-- a load or store retires in the cycle in which its unit is done, and is held in phase 1 until then
worked_access : (row : Option Insn) (id : IdState) (i : IdIn) → is_access row ≡ true
    → worked row id i ≡ (if i.ls_done then Retire false else Hold (held 1 id))
unfolding worked
worked_access (Some (Load op rd rs1 imm)) id i e = refl
worked_access (Some (Store size rs1 rs2 imm)) id i e = refl
worked_access row id i e = let no_ : false ≡ true = e in cc

-- no trap was found yet
abbrev Early : IdState → Type 0
Early id = (id.phase ≡ 0) ⊎ (id.phase ≡ 1)

-- then the unit works at the access, and turns and goes on as its own state says
active_is : (v : Eyes) (id : IdState) (w : Access) → v.access ≡ Some w → v.refused ≡ 0 → Early id
    → is_active v id ≡ true
active_is v id w a r (inl e) =
    ap₂ (λ x n. is_some_access x && n == 0 && nat_lt id.phase 2) a r ∙ ap (λ n. nat_lt n 2) e
active_is v id w a r (inr e) =
    ap₂ (λ x n. is_some_access x && n == 0 && nat_lt id.phase 2) a r ∙ ap (λ n. nat_lt n 2) e

-- the unit drives and answers as its own turn says
seen_is : (v : Eyes) (id : IdState) (w : Access) (ls : Lsu) (rsp : Rsp) → v.access ≡ Some w → v.refused ≡ 0 → Early id
    → ls_seen v id ls rsp ≡ ls_turn ls w rsp
unfolding ls_turn turn_by
seen_is v id w ls rsp a r e = ap₂ (λ b x. turn_by b x ls rsp) (active_is v id w a r e) a

-- the unit's next fields are those of its own step
next_is : (v : Eyes) (id : IdState) (w : Access) (ls : Lsu) (rsp : Rsp) (granted : Bool) → v.access ≡ Some w
    → v.refused ≡ 0 → Early id → ls_left v id ls rsp granted ≡ ls_next ls w rsp granted
unfolding ls_next ls_by
next_is v id w ls rsp granted a r e = ap₂ (λ b x. ls_by b x ls rsp granted) (active_is v id w a r e) a

-- the fault that the stage sees is the unit's
unfaulted : (v : Eyes) (x : LsTurn) → v.refused ≡ 0 → fault_seen v x ≡ x.fault
unfaulted v x r = ap (λ n. if n == 0 then x.fault else n) r

-- without a fault the stage holds the access until it is done, and a portion's fault makes it a trap
acc_turn : (s : Setup) (t : ℕ) (h : Story) (id : IdState) (ls : Lsu) (rsp : Rsp) (v : Eyes) (w : Access)
    → Acc s t h v w → ItemAt s t h id → Early id → (ls_seen v id ls rsp).fault ≡ 0
    → turn_seen v id ls rsp ≡ (if (ls_seen v id ls rsp).done then Retire false else Hold (held 1 id))
acc_turn s t h id ls rsp v w a stage e none =
    let x : LsTurn = ls_seen v id ls rsp in
    early_of id (in_by v x.done (fault_seen v x)) stage.valid (real_kind s t h id stage a.kind) e
    ∙ plain_early id v x.done (fault_seen v x) (unfaulted v x a.unrefused ∙ none) a.untrapped
    ∙ worked_access v.row id (in_by v x.done (fault_seen v x)) a.row

-- a portion's fault holds the item in the phase of that portion's trap
fail_turn : (s : Setup) (t : ℕ) (h : Story) (id : IdState) (ls : Lsu) (rsp : Rsp) (v : Eyes) (w : Access) (b : Bool)
    → Acc s t h v w → ItemAt s t h id → Early id → (ls_seen v id ls rsp).fault ≡ portion_code b
    → turn_seen v id ls rsp ≡ Hold (held (portion_code b + 1) id)
fail_turn s t h id ls rsp v w b a stage e bad =
    let x : LsTurn = ls_seen v id ls rsp in
    early_of id (in_by v x.done (fault_seen v x)) stage.valid (real_kind s t h id stage a.kind) e
    ∙ fault_early id v x.done (fault_seen v x) b (unfaulted v x a.unrefused ∙ bad)

-- ---- the phases

-- a trap comes after its portion's answer; until that answer the phase is 0 or 1, and after the first cycle 1
late_done : (s : Setup) (limit t : ℕ) (h : Story) (v : Eyes) (w : Access) (b : Bool) → Acc s t h v w
    → Portion s t h w b → trap_phase s t h ≢ 0 → answer_at s t h b < done_at s limit t h
late_done s limit t h v w b a r ne =
    omega (
      arith,
      done_is s limit t h,
      trap_late s.plan.dwaits (item_at s t h).portions h.times.made (t + 1) (stop_at s limit t h) b r.reached
          (λ z. ne (a.trap ∙ z)),
    )

-- until a portion has answered no trap is found, and the phase is 0 or 1
portion_early : (s : Setup) (limit t : ℕ) (h : Story) (c : ℕ) (id : IdState) (v : Eyes) (w : Access) (b : Bool)
    → Acc s t h v w → Portion s t h w b → c ≤ answer_at s t h b → PhaseAt s limit t h c id.phase → Early id
portion_early s limit t h c id v w b a r late (fresh e at) = inl e
portion_early s limit t h c id v w b a r late (later e less _) = inr e
portion_early s limit t h c id v w b a r late (found e two less done) =
    absurd (omega (arith, late, done, late_done s limit t h v w b a r (λ z. absurd (omega (arith, e, z, two)))))

-- while a portion's answer is to come the phase of the next cycle is 1
portion_later : (s : Setup) (limit t : ℕ) (h : Story) (c : ℕ) (v : Eyes) (w : Access) (b : Bool) → Acc s t h v w
    → Portion s t h w b → c + 1 ≤ answer_at s t h b → t + 1 ≤ c → PhaseAt s limit t h (c + 1) 1
portion_later s limit t h c v w b a r late in_ =
    later refl (omega arith) (λ ne. omega (arith, late, late_done s limit t h v w b a r ne))

-- the access stays in the stage
acc_stays : (s : Setup) (limit t : ℕ) (h : Story) (c : ℕ) (id : IdState) (md : MulDivUnit) (ls : Lsu) (p : PortState)
    (v : Eyes) (w : Access) (phase : ℕ) → IsState s c h → Sees s t h c id v → Full s limit t h c id md ls p
    → Acc s t h v w → turn_seen v id ls (answer_wires p) ≡ Hold (held phase id) → PhaseAt s limit t h (c + 1) phase
    → LsMid s t h c (ls_seen v id ls (answer_wires p)).req (ls_left v id ls (answer_wires p)) p
    → Turned s limit t h c id md ls p v
acc_stays s limit t h c id md ls p v w phase state sees full a turn at part =
    stays (held phase id) turn (record {
      admitted_at = full.admitted_at;
      item = held_item s t h id phase full.item;
      phase = at;
      count = count_next id.count t c full.count (entered_by s limit t h c id.phase full.phase);
      running = λ none. absurd (true≢false
          (sym (ap is_partless none) ∙ ap is_partless a.portions
          ∙ some_portion (is_unmapped s (portion_addr w.addr false)) (has_second w.addr w.size)
          (is_unmapped s (portion_addr w.addr true))));
      work = work_next s limit t h c id md v phase v.row state sees full.phase full.work refl
          (λ e. absurd (true≢false (sym e ∙ access_not_md v.row a.row)));
      part = part;
    })

-- a portion is asked for
asks_portion : (s : Setup) (limit t : ℕ) (h : Story) (c : ℕ) (id : IdState) (md : MulDivUnit) (ls : Lsu)
    (p : PortState) (v : Eyes) (w : Access) (b : Bool) → IsState s c h → Sees s t h c id v
    → Full s limit t h c id md ls p → Acc s t h v w → Portion s t h w b → c + 1 ≤ answer_at s t h b
    → Ask s.plan.dwaits (number_at h b) (issue_at s t h b) c p
    → ls_turn ls w (answer_wires p) ≡ ls_asks (request_of (encode_of 32 7) w b)
    → ((granted : Bool) → ls_next ls w (answer_wires p) granted ≡ ls_asked b granted (portion_word h w false))
    → Turned s limit t h c id md ls p v
asks_portion s limit t h c id md ls p v w b state sees full a r late ask turn next =
    let rsp : Rsp = answer_wires p in
    let e : Early id = portion_early s limit t h c id v w b a r (omega (arith, late)) full.phase in
    let x : ls_seen v id ls rsp ≡ ls_asks (request_of (encode_of 32 7) w b) =
    seen_is v id w ls rsp a.access a.unrefused e ∙ turn in
    acc_stays s limit t h c id md ls p v w 1 state sees full a
    (acc_turn s t h id ls rsp v w a full.item e (ap (λ (k : LsTurn). k.fault) x)
    ∙ ap (λ (k : LsTurn). if k.done then Retire false else Hold (held 1 id)) x)
    (portion_later s limit t h c v w b a r late (entered_by s limit t h c id.phase full.phase))
    (portion_asks w b r (ap (λ (k : LsTurn). k.req) x)
    (λ granted. next_is v id w ls rsp granted a.access a.unrefused e ∙ next granted) ask)

-- an answer is awaited
waits_portion : (s : Setup) (limit t : ℕ) (h : Story) (c : ℕ) (id : IdState) (md : MulDivUnit) (ls : Lsu)
    (p : PortState) (v : Eyes) (w : Access) (b : Bool) → IsState s c h → Sees s t h c id v
    → Full s limit t h c id md ls p → Acc s t h v w → Portion s t h w b → ls ≡ ls_asked b true (portion_word h w false)
    → Opened s t h w b c p → p.left ≢ 0 → Turned s limit t h c id md ls p v
waits_portion s limit t h c id md ls p v w b state sees full a r l g ne =
    let rsp : Rsp = answer_wires p in
    let first : ℕ = portion_word h w false in
    let late : c + 1 ≤ answer_at s t h b = omega (arith, g.left, ne) in
    let e : Early id = portion_early s limit t h c id v w b a r (omega (arith, late)) full.phase in
    let quiet_ : rsp ≡ silent_rsp = rsp_silent p
    (granted_silent s.plan.dwaits (number_at h b) (issue_at s t h b) (is_unmapped s (portion_addr w.addr b))
    (encode_of 32 7 (portion_word h w b)) c p g ne) in
    let x : ls_seen v id ls rsp ≡ awaits =
    seen_is v id w ls rsp a.access a.unrefused e ∙ ap₂ (λ u q. ls_turn u w q) l quiet_ ∙ turn_silent b first w in
    acc_stays s limit t h c id md ls p v w 1 state sees full a
    (acc_turn s t h id ls rsp v w a full.item e (ap (λ (k : LsTurn). k.fault) x)
    ∙ ap (λ (k : LsTurn). if k.done then Retire false else Hold (held 1 id)) x)
    (portion_later s limit t h c v w b a r late (entered_by s limit t h c id.phase full.phase))
    (opened w b r (ap (λ (k : LsTurn). k.req) x)
    (next_is v id w ls rsp false a.access a.unrefused e ∙ ap₂ (λ u q. ls_next u w q false) l quiet_
    ∙ next_silent b first w false) g ne)

-- ---- an answer comes

-- the answer of the data port is that of the portion's transaction, and leaves the port free
came : (s : Setup) (t : ℕ) (h : Story) (c : ℕ) (p : PortState) (w : Access) (b err : Bool) → Opened s t h w b c p
    → p.left ≡ 0 → is_unmapped s (portion_addr w.addr b) ≡ err
    → answer_wires p ≡ rsp_with err (encode_of 32 7 (portion_word h w b))
came s t h c p w b err g now un =
    rsp_comes p err (encode_of 32 7 (portion_word h w b))
    (granted_answers s.plan.dwaits (number_at h b) (issue_at s t h b) (is_unmapped s (portion_addr w.addr b))
    (encode_of 32 7 (portion_word h w b)) c p g now) (g.err_is ∙ un) g.word_is

-- the answer of a portion leaves the port free for the next transaction
portion_free : (s : Setup) (t : ℕ) (h : Story) (c : ℕ) (p : PortState) (w : Access) (b : Bool) → Opened s t h w b c p
    → p.left ≡ 0 → Free s.plan.dwaits (suc (number_at h b)) p
portion_free s t h c p w b g now =
    granted_free s.plan.dwaits (number_at h b) (issue_at s t h b) (is_unmapped s (portion_addr w.addr b))
    (encode_of 32 7 (portion_word h w b)) c p g now

-- the item's portions, by whether memory answers this one
second_portions : (s : Setup) (t : ℕ) (h : Story) (v : Eyes) (w : Access) → Acc s t h v w → Portion s t h w true
    → (item_at s t h).portions ≡ portions_by false false true (is_unmapped s (portion_addr w.addr true))
second_portions s t h v w a r =
    a.portions ∙ second_by (is_unmapped s (portion_addr w.addr false)) (has_second w.addr w.size)
    (is_unmapped s (portion_addr w.addr true)) (sym (ap (λ k. reaches k true) a.portions) ∙ r.reached)

-- where no memory answers a portion that is reached, the access ends at it in an error
bad_portions : (s : Setup) (t : ℕ) (h : Story) (v : Eyes) (w : Access) (b : Bool) → Acc s t h v w → Portion s t h w b
    → is_unmapped s (portion_addr w.addr b) ≡ true → (item_at s t h).portions ≡ fails b
bad_portions s t h v w false a r un =
    a.portions ∙ ap (λ z. portions_by false z (has_second w.addr w.size) (is_unmapped s (portion_addr w.addr true))) un
bad_portions s t h v w true a r un = second_portions s t h v w a r ∙ ap (λ z. portions_by false false true z) un

-- an error ends the item in the cycle after it
fails_done : (s : Setup) (limit t : ℕ) (h : Story) (b : Bool) → (item_at s t h).portions ≡ fails b
    → done_at s limit t h ≡ answer_at s t h b + 1
fails_done s limit t h b e =
    done_is s limit t h ∙ ap (λ k. done_by s.plan.dwaits k h.times.made (t + 1) (stop_at s limit t h)) e
    ∙ failed_done s.plan.dwaits h.times.made (t + 1) (stop_at s limit t h) b

-- an answer that is an error: the trap is found
comes_bad : (s : Setup) (limit t : ℕ) (h : Story) (c : ℕ) (id : IdState) (md : MulDivUnit) (ls : Lsu) (p : PortState)
    (v : Eyes) (w : Access) (b : Bool) → IsState s c h → Sees s t h c id v → Full s limit t h c id md ls p
    → Acc s t h v w → Portion s t h w b → ls ≡ ls_asked b true (portion_word h w false) → Opened s t h w b c p
    → p.left ≡ 0 → is_unmapped s (portion_addr w.addr b) ≡ true → Turned s limit t h c id md ls p v
comes_bad s limit t h c id md ls p v w b state sees full a r l g now un =
    let rsp : Rsp = answer_wires p in
    let first : ℕ = portion_word h w false in
    let word : ℕ = encode_of 32 7 (portion_word h w b) in
    let at : answer_at s t h b ≡ c = omega (arith, g.left, now) in
    let e : Early id = portion_early s limit t h c id v w b a r (omega (arith, at)) full.phase in
    let portions : (item_at s t h).portions ≡ fails b = bad_portions s t h v w b a r un in
    let x : ls_seen v id ls rsp ≡ faults (portion_code b) =
    seen_is v id w ls rsp a.access a.unrefused e ∙ ap₂ (λ u q. ls_turn u w q) l (came s t h c p w b true g now un)
    ∙ turn_bad b first word w in
    acc_stays s limit t h c id md ls p v w (portion_code b + 1) state sees full a
    (fail_turn s t h id ls rsp v w b a full.item e (ap (λ (k : LsTurn). k.fault) x))
    (found (sym (a.trap ∙ ap portions_phase portions ∙ fails_phase b)) (two_code b)
    (omega (arith, entered_by s limit t h c id.phase full.phase))
    (fails_done s limit t h b portions ∙ ap (λ n. n + 1) at))
    (failed b portions (ap (λ (k : LsTurn). k.req) x)
    (next_is v id w ls rsp false a.access a.unrefused e
    ∙ ap₂ (λ u q. ls_next u w q false) l (came s t h c p w b true g now un) ∙ next_bad b first word w false) at
    (portion_free s t h c p w b g now))

-- a portion is granted before its answer, and the second answer is later than the one after the first
granted_first : (s : Setup) (t : ℕ) (h : Story) (b : Bool) → grant_at s t h b < answer_at s t h b
unfolding answer_time grant_time
granted_first s t h b = omega arith

-- the second answer comes two cycles after the first or later
second_late : (s : Setup) (t : ℕ) (h : Story) → answer_at s t h false + 1 < answer_at s t h true
unfolding answer_time grant_time
second_late s t h = omega arith

-- a good first answer before a second portion: the access goes on
comes_first : (s : Setup) (limit t : ℕ) (h : Story) (c : ℕ) (id : IdState) (md : MulDivUnit) (ls : Lsu) (p : PortState)
    (v : Eyes) (w : Access) → IsState s c h → Sees s t h c id v → Full s limit t h c id md ls p → Acc s t h v w
    → Portion s t h w false → ls ≡ ls_asked false true (portion_word h w false) → Opened s t h w false c p → p.left ≡ 0
    → is_unmapped s (portion_addr w.addr false) ≡ false → has_second w.addr w.size ≡ true
    → Turned s limit t h c id md ls p v
comes_first s limit t h c id md ls p v w state sees full a r l g now un two =
    let rsp : Rsp = answer_wires p in
    let first : ℕ = portion_word h w false in
    let low : first < 2 ^ 32 = portion_low h w false state.good.bytes in
    let at : answer_at s t h false ≡ c = omega (arith, g.left, now) in
    let e : Early id = portion_early s limit t h c id v w false a r (omega (arith, at)) full.phase in
    let portions : (item_at s t h).portions ≡ portions_by false false true (is_unmapped s (portion_addr w.addr true)) =
    a.portions ∙ ap₂ (λ x y. portions_by false x y (is_unmapped s (portion_addr w.addr true))) un two in
    let r2 : Portion s t h w true = record {
      access = r.access;
      reached = ap (λ k. reaches k true) portions ∙ second_reached (is_unmapped s (portion_addr w.addr true));
    } in
    let x : ls_seen v id ls rsp ≡ awaits =
    seen_is v id w ls rsp a.access a.unrefused e ∙ ap₂ (λ u q. ls_turn u w q) l (came s t h c p w false false g now un)
    ∙ turn_first first first w true low two in
    acc_stays s limit t h c id md ls p v w 1 state sees full a
    (acc_turn s t h id ls rsp v w a full.item e (ap (λ (k : LsTurn). k.fault) x)
    ∙ ap (λ (k : LsTurn). if k.done then Retire false else Hold (held 1 id)) x)
    (portion_later s limit t h c v w true a r2 (omega (arith, at, second_late s t h))
    (entered_by s limit t h c id.phase full.phase))
    (turns w r2 (ap (λ (k : LsTurn). k.req) x)
    (next_is v id w ls rsp false a.access a.unrefused e
    ∙ ap₂ (λ u q. ls_next u w q false) l (came s t h c p w false false g now un)
    ∙ next_first first first w true false low two) at
    (portion_free s t h c p w false g now))

-- ---- it ends

-- a load has the words of its portions
gives_first : (store : Bool) (a b : ℕ) → store ≡ false → (gives store a b).first ≡ a
gives_first store a b e = ap (λ k. (gives k a b).first) e

-- a load that ends well gives the second word that it was handed
gives_second : (store : Bool) (a b : ℕ) → store ≡ false → (gives store a b).second ≡ b
gives_second store a b e = ap (λ k. (gives k a b).second) e

-- what holds of the last portion holds of the second, where it is reached
only_second : (b : Bool) (P : Bool → Type 0) → P b → reaches (portions_by false false b false) true ≡ true → P true
only_second false P x e = let no_ : false ≡ true = e in cc
only_second true P x e = x

-- the last good answer ends the item: it is done in this cycle
acc_ends : (s : Setup) (limit t : ℕ) (h : Story) (c : ℕ) (id : IdState) (md : MulDivUnit) (ls : Lsu) (p : PortState)
    (v : Eyes) (w : Access) (b : Bool) (second : ℕ) → IsState s c h → Full s limit t h c id md ls p → Acc s t h v w
    → Early id → (item_at s t h).portions ≡ portions_by false false b false → Opened s t h w b c p → p.left ≡ 0
    → ls_seen v id ls (answer_wires p) ≡ gives w.store (portion_word h w false) second
    → second ≡ (if has_second w.addr w.size then portion_word h w true else 0)
    → ls_left v id ls (answer_wires p) false ≡ ls_idle → Turned s limit t h c id md ls p v
acc_ends s limit t h c id md ls p v w b second state full a e portions g now x words idle_ =
    let rsp : Rsp = answer_wires p in
    let first : ℕ = portion_word h w false in
    let ws : List Wait = s.plan.dwaits in
    let n : ℕ = h.times.made in
    let zero_ : trap_phase s t h ≡ 0 = a.trap ∙ ap portions_phase portions ∙ ends_phase b in
    let past_ : grant_at s t h b < c = g.past in
    let later_ : reaches (item_at s t h).portions true ≡ true → grant_at s t h true < c =
    λ k. only_second b (λ z. grant_at s t h z < c) past_ (sym (ap (λ q. reaches q true) portions) ∙ k) in
    ends (record {
      admitted_at = full.admitted_at;
      done = done_is s limit t h ∙ ap (λ k. done_by ws k n (t + 1) (stop_at s limit t h)) portions
          ∙ ends_at_portion ws n (t + 1) (stop_at s limit t h) b ∙ omega (arith, g.left, now);
      after = omega (arith, entered_by s limit t h c id.phase full.phase);
      turn =
          acc_turn s t h id ls rsp v w a full.item e
          (ap (λ (k : LsTurn). k.fault) x ∙ gives_fault w.store first second)
          ∙ ap (λ q. if q then Retire false else Hold (held 1 id))
          (ap (λ (k : LsTurn). k.done) x ∙ gives_done w.store first second)
          ∙ sym (ap₂ (λ k m. ending k m (item_at s t h).redirects) a.kind zero_ ∙ ap Retire (a.straight zero_));
      request = ap (λ (k : LsTurn). k.req) x ∙ gives_req w.store first second;
      ls_is = idle_;
      free = subst (λ k. Free ws k p) (sym (ap (λ k. made_by k n) portions ∙ ends_made n b))
          (portion_free s t h c p w b g now);
      settled = writes_before s t h c w a.here state.settled.before (first_before ws n (t + 1) c b past_) later_;
      granted = sends_before s t h c w a.here state.settled.granted (first_before ws n (t + 1) c b past_) later_;
      gathered = λ u r store trap.
          subst (λ k. k.store ≡ false → IsGathered h k (ls_seen v id ls rsp)) (some_same w u (sym a.here ∙ r.access))
          (λ load. record {
            first = ap (λ (k : LsTurn). k.first) x ∙ gives_first w.store first second load;
            second = ap (λ (k : LsTurn). k.second) x ∙ gives_second w.store first second load ∙ words;
          })
          store;
      result = λ op rd rs1 rs2 row. absurd (true≢false (sym (ap is_md row) ∙ access_not_md v.row a.row));
    })

-- the last good answer, of the first portion or of the second
comes_alone : (s : Setup) (limit t : ℕ) (h : Story) (c : ℕ) (id : IdState) (md : MulDivUnit) (ls : Lsu) (p : PortState)
    (v : Eyes) (w : Access) → IsState s c h → Full s limit t h c id md ls p → Acc s t h v w
    → Portion s t h w false → ls ≡ ls_asked false true (portion_word h w false) → Opened s t h w false c p → p.left ≡ 0
    → is_unmapped s (portion_addr w.addr false) ≡ false → has_second w.addr w.size ≡ false
    → Turned s limit t h c id md ls p v
comes_alone s limit t h c id md ls p v w state full a r l g now un one =
    let rsp : Rsp = answer_wires p in
    let first : ℕ = portion_word h w false in
    let low : first < 2 ^ 32 = portion_low h w false state.good.bytes in
    let e : Early id = portion_early s limit t h c id v w false a r (omega (arith, g.left, now)) full.phase in
    acc_ends s limit t h c id md ls p v w false 0 state full a e
    (a.portions ∙ ap₂ (λ x y. portions_by false x y (is_unmapped s (portion_addr w.addr true))) un one) g now
    (seen_is v id w ls rsp a.access a.unrefused e
    ∙ ap₂ (λ u q. ls_turn u w q) l (came s t h c p w false false g now un) ∙ turn_first first first w false low one)
    (sym (ap (λ b. if b then portion_word h w true else 0) one))
    (next_is v id w ls rsp false a.access a.unrefused e
    ∙ ap₂ (λ u q. ls_next u w q false) l (came s t h c p w false false g now un)
    ∙ next_first first first w false false low one)

-- a good answer of the second portion ends the item in this cycle
comes_second : (s : Setup) (limit t : ℕ) (h : Story) (c : ℕ) (id : IdState) (md : MulDivUnit) (ls : Lsu)
    (p : PortState) (v : Eyes) (w : Access) → IsState s c h → Full s limit t h c id md ls p → Acc s t h v w
    → Portion s t h w true → ls ≡ ls_asked true true (portion_word h w false) → Opened s t h w true c p → p.left ≡ 0
    → is_unmapped s (portion_addr w.addr true) ≡ false → Turned s limit t h c id md ls p v
comes_second s limit t h c id md ls p v w state full a r l g now un =
    let rsp : Rsp = answer_wires p in
    let first : ℕ = portion_word h w false in
    let second : ℕ = portion_word h w true in
    let low : second < 2 ^ 32 = portion_low h w true state.good.bytes in
    let e : Early id = portion_early s limit t h c id v w true a r (omega (arith, g.left, now)) full.phase in
    let two : has_second w.addr w.size ≡ true =
    second_has (is_unmapped s (portion_addr w.addr false)) (has_second w.addr w.size)
    (is_unmapped s (portion_addr w.addr true)) (sym (ap (λ k. reaches k true) a.portions) ∙ r.reached) in
    acc_ends s limit t h c id md ls p v w true second state full a e
    (second_portions s t h v w a r ∙ ap (λ z. portions_by false false true z) un) g now
    (seen_is v id w ls rsp a.access a.unrefused e ∙ ap₂ (λ u q. ls_turn u w q) l (came s t h c p w true false g now un)
    ∙ turn_second first second w low)
    (sym (ap (λ b. if b then portion_word h w true else 0) two))
    (next_is v id w ls rsp false a.access a.unrefused e
    ∙ ap₂ (λ u q. ls_next u w q false) l (came s t h c p w true false g now un) ∙ next_second first second w false low)

-- so a good answer ends the item or makes the second portion due, and every answer turns the access
comes_good : (s : Setup) (limit t : ℕ) (h : Story) (c : ℕ) (id : IdState) (md : MulDivUnit) (ls : Lsu) (p : PortState)
    (v : Eyes) (w : Access) (b two : Bool) → IsState s c h → Sees s t h c id v → Full s limit t h c id md ls p
    → Acc s t h v w → Portion s t h w b → ls ≡ ls_asked b true (portion_word h w false) → Opened s t h w b c p
    → p.left ≡ 0 → is_unmapped s (portion_addr w.addr b) ≡ false → has_second w.addr w.size ≡ two
    → Turned s limit t h c id md ls p v
comes_good s limit t h c id md ls p v w false true state sees full a r l g now un two =
    comes_first s limit t h c id md ls p v w state sees full a r l g now un two
comes_good s limit t h c id md ls p v w false false state sees full a r l g now un one =
    comes_alone s limit t h c id md ls p v w state full a r l g now un one
comes_good s limit t h c id md ls p v w true two state sees full a r l g now un e =
    comes_second s limit t h c id md ls p v w state full a r l g now un

-- an answer turns the access as it should, be it good or an error
comes_by : (s : Setup) (limit t : ℕ) (h : Story) (c : ℕ) (id : IdState) (md : MulDivUnit) (ls : Lsu) (p : PortState)
    (v : Eyes) (w : Access) (b err : Bool) → IsState s c h → Sees s t h c id v → Full s limit t h c id md ls p
    → Acc s t h v w → Portion s t h w b → ls ≡ ls_asked b true (portion_word h w false) → Opened s t h w b c p
    → p.left ≡ 0 → is_unmapped s (portion_addr w.addr b) ≡ err → Turned s limit t h c id md ls p v
comes_by s limit t h c id md ls p v w b true state sees full a r l g now un =
    comes_bad s limit t h c id md ls p v w b state sees full a r l g now un
comes_by s limit t h c id md ls p v w b false state sees full a r l g now un =
    comes_good s limit t h c id md ls p v w b (has_second w.addr w.size) state sees full a r l g now un refl

-- ---- the cycle after an answer that is an error

-- the unit rests, the phase is that of the portion's trap, and the trap ends the item
failed_still : (v : Eyes) (id : IdState) (w : Access) (b : Bool) → v.access ≡ Some w → v.refused ≡ 0
    → id.phase ≡ portion_code b + 1 → is_active v id ≡ false
failed_still v id w false a r e =
    ap₂ (λ x n. is_some_access x && n == 0 && nat_lt id.phase 2) a r ∙ ap (λ n. nat_lt n 2) e
failed_still v id w true a r e =
    ap₂ (λ x n. is_some_access x && n == 0 && nat_lt id.phase 2) a r ∙ ap (λ n. nat_lt n 2) e

-- in the cycle after the error the phase is that of the bad portion's trap
failed_phase : (s : Setup) (limit t : ℕ) (h : Story) (c : ℕ) (id : IdState) (v : Eyes) (w : Access) (b : Bool)
    → Acc s t h v w → (item_at s t h).portions ≡ fails b → answer_at s t h b + 1 ≡ c → PhaseAt s limit t h c id.phase
    → id.phase ≡ portion_code b + 1
unfolding answer_time grant_time
failed_phase s limit t h c id v w false a portions at (fresh e now) = absurd (omega (arith, at, now))
failed_phase s limit t h c id v w true a portions at (fresh e now) = absurd (omega (arith, at, now))
failed_phase s limit t h c id v w b a portions at (later e less g) =
    absurd (omega (
      arith,
      at,
      fails_done s limit t h b portions,
      g (λ z. absurd (omega (arith, z, a.trap, ap portions_phase portions, fails_phase b, two_code b))),
    ))
failed_phase s limit t h c id v w b a portions at (found e two less done) =
    e ∙ a.trap ∙ ap portions_phase portions ∙ fails_phase b

-- so the trap of the bad portion ends the item in the cycle after the error
failed_way : (s : Setup) (limit t : ℕ) (h : Story) (c : ℕ) (id : IdState) (md : MulDivUnit) (ls : Lsu) (p : PortState)
    (v : Eyes) (w : Access) (b : Bool) → IsState s c h → Full s limit t h c id md ls p → Acc s t h v w
    → (item_at s t h).portions ≡ fails b → ls ≡ ls_idle → answer_at s t h b + 1 ≡ c
    → Idle s.plan.dwaits (suc (number_at h b)) p → Turned s limit t h c id md ls p v
failed_way s limit t h c id md ls p v w b state full a portions l at i =
    let rsp : Rsp = answer_wires p in
    let ws : List Wait = s.plan.dwaits in
    let n : ℕ = h.times.made in
    let phase : id.phase ≡ portion_code b + 1 = failed_phase s limit t h c id v w b a portions at full.phase in
    let still : is_active v id ≡ false = failed_still v id w b a.access a.unrefused phase in
    let trap : trap_phase s t h ≡ portion_code b + 1 = a.trap ∙ ap portions_phase portions ∙ fails_phase b in
    let x : LsTurn = ls_seen v id ls rsp in
    let r : Bool = (item_at s t h).redirects in
    let past_ : grant_at s t h b < c = omega (arith, at, granted_first s t h b) in
    let later_ : reaches (item_at s t h).portions true ≡ true → grant_at s t h true < c =
    λ k. fails_second b (λ z. grant_at s t h z < c) past_ (sym (ap (λ q. reaches q true) portions) ∙ k) in
    ends (record {
      admitted_at = full.admitted_at;
      done = fails_done s limit t h b portions ∙ at;
      after = omega (arith, entered_by s limit t h c id.phase full.phase);
      turn = portion_late id (in_by v x.done (fault_seen v x)) b r full.item.valid
          (real_kind s t h id full.item a.kind) phase ∙ sym (ap₂ (λ k m. ending k m r) a.kind trap);
      request = ap (λ (k : LsTurn). k.req) (inactive_turn (is_active v id) v.access ls rsp still);
      ls_is = inactive_next (is_active v id) v.access ls rsp false still ∙ l;
      free = subst (λ k. Free ws k p) (sym (ap (λ k. made_by k n) portions ∙ fails_made n b))
          (idle_free ws (suc (number_at h b)) p i);
      settled = writes_before s t h c w a.here state.settled.before (first_before ws n (t + 1) c b past_) later_;
      granted = sends_before s t h c w a.here state.settled.granted (first_before ws n (t + 1) c b past_) later_;
      gathered = λ u r2 store zero_. absurd (omega (arith, zero_, trap, two_code b));
      result = λ op rd rs1 rs2 row. absurd (true≢false (sym (ap is_md row) ∙ access_not_md v.row a.row));
    })
  where
    fails_second : (b : Bool) (P : Bool → Type 0) → P b → reaches (fails b) true ≡ true → P true
    fails_second false P x e = let no_ : false ≡ true = e in cc
    fails_second true P x e = x

-- ---- all cases

-- an access turns as it should in each state of its portions, and an item on each of its ways
access_by_portion : (s : Setup) (limit t : ℕ) (h : Story) (c : ℕ) (id : IdState) (md : MulDivUnit) (ls : Lsu)
    (p : PortState) (v : Eyes) (w : Access) → IsState s c h → Sees s t h c id v → Full s limit t h c id md ls p
    → Acc s t h v w → LsAt s t h c ls p → Turned s limit t h c id md ls p v
unfolding answer_time grant_time
access_by_portion s limit t h c id md ls p v w state sees full a (quiet none l i) =
    absurd (true≢false (sym (ap is_partless none) ∙ ap is_partless a.portions
    ∙ some_portion (is_unmapped s (portion_addr w.addr false)) (has_second w.addr w.size)
    (is_unmapped s (portion_addr w.addr true))))
access_by_portion s limit t h c id md ls p v w state sees full a (new u b r l now i) =
    asks_portion s limit t h c id md ls p v u b state sees full (acc_for s t h v w u a r.access) r (omega (arith, now))
    (due now (idle_free s.plan.dwaits (number_at h b) p i))
    (ap (λ k. ls_turn k u (answer_wires p)) l ∙ turn_due b (portion_word h u false) u (answer_wires p))
    (λ granted. ap (λ k. ls_next k u (answer_wires p) granted) l
    ∙ next_due b (portion_word h u false) u (answer_wires p) granted)
access_by_portion s limit t h c id md ls p v w state sees full a (waiting u b r l g) =
    asks_portion s limit t h c id md ls p v u b state sees full (acc_for s t h v w u a r.access) r
    (omega (arith, g.late)) (held_port g)
    (ap (λ k. ls_turn k u (answer_wires p)) l ∙ turn_asked b (portion_word h u false) u (answer_wires p))
    (λ granted. ap (λ k. ls_next k u (answer_wires p) granted) l
    ∙ next_asked b (portion_word h u false) u (answer_wires p) granted)
access_by_portion s limit t h c id md ls p v w state sees full a (opened u b r l g) =
    elim (cases_eq p.left 0) [
      | inl now ↦ comes_by s limit t h c id md ls p v u b (is_unmapped s (portion_addr u.addr b)) state sees full
          (acc_for s t h v w u a r.access) r l g now refl
      | inr ne ↦ waits_portion s limit t h c id md ls p v u b state sees full (acc_for s t h v w u a r.access) r l g ne
    ]
access_by_portion s limit t h c id md ls p v w state sees full a (failed b portions l at i) =
    failed_way s limit t h c id md ls p v w b state full a portions l at i

-- an item turns as it should, on whichever way it ends
turns_by_way : (s : Setup) (limit t : ℕ) (h : Story) (c : ℕ) (id : IdState) (md : MulDivUnit) (ls : Lsu)
    (p : PortState) (v : Eyes) → c < limit → IsState s c h → Sees s t h c id v → Full s limit t h c id md ls p
    → Way s t h c v → Turned s limit t h c id md ls p v
turns_by_way s limit t h c id md ls p v low state sees full (interrupts number kind plain) =
    interrupt_way s limit t h c id md ls p v number low state sees full kind plain
turns_by_way s limit t h c id md ls p v low state sees full (dummy kind plain) =
    dummy_way s limit t h c id md ls p v low state sees full kind plain
turns_by_way s limit t h c id md ls p v low state sees full (caused kind plain some trap) =
    caused_way s limit t h c id md ls p v low state sees full kind plain some trap
turns_by_way s limit t h c id md ls p v low state sees full
    (refused w b kind access code none portions cost sleeps_ trap) =
    refused_way s limit t h c id md ls p v w b low state sees full kind access code portions cost sleeps_ trap
turns_by_way s limit t h c id md ls p v low state sees full
    (accesses w kind access here unrefused none row portions trap straight) =
    access_by_portion s limit t h c id md ls p v w state sees full
    (record {
      kind = kind;
      access = access;
      here = here;
      unrefused = unrefused;
      untrapped = none;
      row = row;
      portions = portions;
      trap = trap;
      straight = straight;
    }) full.part
turns_by_way s limit t h c id md ls p v low state sees full
    (sleeps kind row access unrefused none portions sleeps_ wake trap straight) =
    sleeps_way s limit t h c id md ls p v low state sees full kind row access unrefused none portions sleeps_ wake trap
    straight
turns_by_way s limit t h c id md ls p v low state sees full (works cost kind plain none trap row) =
    works_way s limit t h c id md ls p v cost low state sees full kind plain none trap row

-- so the turn of every cycle ends the item in its last cycle, and else holds it
pub stage_turns : (s : Setup) → StageTurns s
stage_turns s limit t h c id md ls p v low state sees full =
    turns_by_way s limit t h c id md ls p v low state sees full sees.way
