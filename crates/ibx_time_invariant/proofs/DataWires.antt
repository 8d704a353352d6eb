-- The wires of the data port in a cycle are those of the transaction that is issued and not granted before it.
use Rattle.std.proofs.Common.{◌≡◌, ℕ, ◌+◌, ◌<◌, ◌≤◌, Bool, true, false, ◌&&◌, List, [], ◌∷◌, if◌then◌else◌, nat_le}
use Rattle.std.proofs.Common.{Some, None, Option, sym, refl, ap, ◌∙◌, ap₂, arith}
use Rattle.std.proofs.lemmas.Bool.{le-leb, lt-leb}
use Rattle.ibx_time_invariant.proofs.Stages.{opened, asks, failed, fails, LsMid, Opened, Portion, answer_at, issue_at}
use Rattle.ibx_time_invariant.proofs.Stages.{number_at, quiet, reaches, turns}
use Rattle.ibx_secded.specs.Code.{encode_of}
use Rattle.ibx_isa.specs.Wires.{request_of, no_request}
use Rattle.ibx_time_invariant.proofs.Links.{due, held, AreGranted, Ask}
use Rattle.ibx_time.specs.Items.{NoPortion, One, OneBad, Portions, Two, TwoBad}
use Rattle.ibx_time_invariant.proofs.StageSide.{StageWires}
use Rattle.ibx_time_invariant.proofs.Ends.{taken_sent}
use Rattle.ibx_bus.specs.Port.{PortState}
use Rattle.ibx_bus.specs.PortTimes.{answer_time, grant_time}
use Rattle.ibx_time.specs.Settings.{Setup}
use Rattle.ibx_time.specs.Requests.{Transaction}
use Rattle.ibx_time.specs.Memories.{portion_sent, sent_by, sent_with}
use Rattle.ibx_time.specs.History.{Story, access_at, item_at, taken}
use Rattle.ibx_time.specs.BusLines.{wires_at}
use Rattle.ibx_isa.specs.declared.event.Access.{Access}
use Rattle.ibx_isa.specs.declared.bus.Req.{Req}
use Rattle.ibx_lsu.specs.declared.unit.Lsu.{Lsu}
use Rattle.ibx_bus.proofs.Ports.{Grants, Waits, free_starts, waiting_goes}
use Rattle.std.proofs.Common.{◌⊎◌, subst}
use Rattle.ibx_plan.specs.declared.site.Wait.{Wait}

-- the wires with one transaction more
shown_by : (x : Transaction) (sent : List Transaction) (c : ℕ) (a b : Bool) → nat_le x.issue c ≡ a
    → nat_le c x.grant ≡ b → wires_at (x ∷ sent) c ≡ (if a && b then x.wires else wires_at sent c)
unfolding wires_at
shown_by x sent c a b e f = ap₂ (λ m n. if m && n then x.wires else wires_at sent c) e f

-- one that is on the wires, one that is granted before, and one that is to come
pub wired : (x : Transaction) (sent : List Transaction) (c : ℕ) → x.issue ≤ c → c ≤ x.grant
    → wires_at (x ∷ sent) c ≡ x.wires
wired x sent c h k = shown_by x sent c true true (le-leb x.issue c h) (le-leb c x.grant k)

-- a transaction that is granted before the cycle, or issued after it, isn't on the wires
over_by : (b : Bool) (r s : Req) → (if b && false then r else s) ≡ s
over_by true r s = refl
over_by false r s = refl

-- a transaction that was granted before the cycle is no longer on the wires
pub over : (x : Transaction) (sent : List Transaction) (c : ℕ) → x.grant < c → wires_at (x ∷ sent) c ≡ wires_at sent c
over x sent c h = shown_by x sent c (nat_le x.issue c) false refl (lt-leb c x.grant h)
    ∙ over_by (nat_le x.issue c) x.wires (wires_at sent c)

-- a transaction that is issued after the cycle isn't on the wires yet
pub to_come : (x : Transaction) (sent : List Transaction) (c : ℕ) → c < x.issue
    → wires_at (x ∷ sent) c ≡ wires_at sent c
to_come x sent c h = shown_by x sent c false (nat_le c x.grant) (lt-leb x.issue c h) refl

-- where all are granted before the cycle there is no request
pub none_wired : (sent : List Transaction) (c : ℕ) → AreGranted sent c → no_request ≡ wires_at sent c
unfolding wires_at
none_wired [] c g = refl
none_wired (x ∷ sent) c g = none_wired sent c g.1 ∙ sym (over x sent c g.0)

-- ---- by the portions

-- the transaction of a portion of the item, and what the story has sent with its access
abbrev sent_portion : Setup → ℕ → Story → Access → Bool → Transaction
sent_portion s t h w b = portion_sent s.plan.dwaits h.times.made (t + 1) w b

-- the story with an access has its portions' transactions in front of those before
access_sent : (s : Setup) (t : ℕ) (h : Story) (w : Access) → access_at s t h ≡ Some w
    → (taken s t h).sent ≡ sent_by (item_at s t h).portions (sent_portion s t h w false) (sent_portion s t h w true)
    h.sent
unfolding taken
access_sent s t h w e = ap (λ a. sent_with s.plan.dwaits h.times.made (t + 1) (item_at s t h).portions a h.sent) e

-- before the second portion's issue the wires of an access are those with its first portion alone
first_wires : (portions : Portions) (x y : Transaction) (ts : List Transaction) (c : ℕ) → reaches portions false ≡ true
    → c < y.issue → wires_at (sent_by portions x y ts) c ≡ wires_at (x ∷ ts) c
unfolding sent_by
first_wires NoPortion x y ts c r h = let no_ : false ≡ true = r in cc
first_wires One x y ts c r h = refl
first_wires OneBad x y ts c r h = refl
first_wires Two x y ts c r h = to_come y (x ∷ ts) c h
first_wires TwoBad x y ts c r h = to_come y (x ∷ ts) c h

-- the same where the second portion is reached too
second_wires : (portions : Portions) (x y : Transaction) (ts : List Transaction) (c : ℕ) → reaches portions true ≡ true
    → wires_at (sent_by portions x y ts) c ≡ wires_at (y ∷ x ∷ ts) c
unfolding sent_by
second_wires NoPortion x y ts c r = let no_ : false ≡ true = r in cc
second_wires One x y ts c r = let no_ : false ≡ true = r in cc
second_wires OneBad x y ts c r = let no_ : false ≡ true = r in cc
second_wires Two x y ts c r = refl
second_wires TwoBad x y ts c r = refl

-- an item that reaches a portion reaches the first
reached_first : (portions : Portions) (b : Bool) → reaches portions b ≡ true → reaches portions false ≡ true
reached_first NoPortion b r = let no_ : false ≡ true = r in cc
reached_first One b r = refl
reached_first OneBad b r = refl
reached_first Two b r = refl
reached_first TwoBad b r = refl

-- ---- the wires of a portion that is asked for, and of none

-- a transaction that is asked for is between its issue and its grant
pub ask_late : (ws : List Wait) (n x c : ℕ) (p : PortState) → Ask ws n x c p → c ≤ grant_time ws n x
unfolding grant_time
ask_late ws n x c p (due e f) = omega (arith, e)
ask_late ws n x c p (held w) = w.late

-- no portion is asked for before its issue
pub ask_early : (ws : List Wait) (n x c : ℕ) (p : PortState) → Ask ws n x c p → x ≤ c
ask_early ws n x c p (due e f) = omega (arith, e)
ask_early ws n x c p (held w) = omega (arith, w.waited)

-- so the wires are those of the portion
asks_wires : (s : Setup) (t : ℕ) (h : Story) (c : ℕ) (w : Access) (b : Bool) (p : PortState) → Portion s t h w b
    → Ask s.plan.dwaits (number_at h b) (issue_at s t h b) c p
    → request_of (encode_of 32 7) w b ≡ wires_at (taken s t h).sent c
unfolding answer_time
asks_wires s t h c w false p r ask =
    let x : Transaction = sent_portion s t h w false in
    let y : Transaction = sent_portion s t h w true in
    let late : c ≤ x.grant = ask_late s.plan.dwaits (number_at h false) (issue_at s t h false) c p ask in
    sym (ap (λ ts. wires_at ts c) (access_sent s t h w r.access)
    ∙ first_wires (item_at s t h).portions x y h.sent c r.reached (omega (arith, late))
    ∙ wired x h.sent c (ask_early s.plan.dwaits (number_at h false) (issue_at s t h false) c p ask) late)
asks_wires s t h c w true p r ask =
    let x : Transaction = sent_portion s t h w false in
    let y : Transaction = sent_portion s t h w true in
    sym (ap (λ ts. wires_at ts c) (access_sent s t h w r.access)
    ∙ second_wires (item_at s t h).portions x y h.sent c r.reached
    ∙ wired y (x ∷ h.sent) c (ask_early s.plan.dwaits (number_at h true) (issue_at s t h true) c p ask)
    (ask_late s.plan.dwaits (number_at h true) (issue_at s t h true) c p ask))

-- the first portion is granted before c, and the second is to come
between_wires : (s : Setup) (t : ℕ) (h : Story) (c : ℕ) (w : Access) → access_at s t h ≡ Some w
    → reaches (item_at s t h).portions false ≡ true → AreGranted h.sent c → (sent_portion s t h w false).grant < c
    → c < (sent_portion s t h w true).issue → no_request ≡ wires_at (taken s t h).sent c
between_wires s t h c w e r g past_ later_ =
    let x : Transaction = sent_portion s t h w false in
    let y : Transaction = sent_portion s t h w true in
    none_wired h.sent c g ∙ sym (ap (λ ts. wires_at ts c) (access_sent s t h w e)
    ∙ first_wires (item_at s t h).portions x y h.sent c r later_ ∙ over x h.sent c past_)

-- both are granted before c
after_wires : (s : Setup) (t : ℕ) (h : Story) (c : ℕ) (w : Access) → access_at s t h ≡ Some w
    → reaches (item_at s t h).portions true ≡ true → AreGranted h.sent c → (sent_portion s t h w false).grant < c
    → (sent_portion s t h w true).grant < c → no_request ≡ wires_at (taken s t h).sent c
after_wires s t h c w e r g past_ now =
    let x : Transaction = sent_portion s t h w false in
    let y : Transaction = sent_portion s t h w true in
    none_wired h.sent c g ∙ sym (ap (λ ts. wires_at ts c) (access_sent s t h w e)
    ∙ second_wires (item_at s t h).portions x y h.sent c r ∙ over y (x ∷ h.sent) c now ∙ over x h.sent c past_)

-- a portion that awaits its answer has nothing on the wires, nor has one whose answer comes
opened_wires : (s : Setup) (t : ℕ) (h : Story) (c : ℕ) (w : Access) (b : Bool) (p : PortState) → Portion s t h w b
    → Opened s t h w b c p → AreGranted h.sent c → no_request ≡ wires_at (taken s t h).sent c
unfolding answer_time grant_time
opened_wires s t h c w false p r o g = between_wires s t h c w r.access r.reached g o.past (omega (arith, o.left))
opened_wires s t h c w true p r o g = after_wires s t h c w r.access r.reached g (omega (arith, o.past)) o.past

-- in the cycle of the first answer, before the second portion is asked for, no request is on the wires
turns_wires : (s : Setup) (t : ℕ) (h : Story) (c : ℕ) (w : Access) → Portion s t h w true → answer_at s t h false ≡ c
    → AreGranted h.sent c → no_request ≡ wires_at (taken s t h).sent c
unfolding answer_time grant_time
turns_wires s t h c w r at g = between_wires s t h c w r.access (reached_first (item_at s t h).portions true r.reached)
    g (omega (arith, at)) (omega (arith, at))

-- an item without an access sends nothing
none_taken : (s : Setup) (t : ℕ) (h : Story) → access_at s t h ≡ None → (taken s t h).sent ≡ h.sent
unfolding taken
none_taken s t h e = ap (λ a. sent_with s.plan.dwaits h.times.made (t + 1) (item_at s t h).portions a h.sent) e

-- in the cycle of an answer that is an error no request is on the wires
failed_wires : (s : Setup) (t : ℕ) (h : Story) (c : ℕ) (b : Bool) (a : Option Access) → access_at s t h ≡ a
    → (item_at s t h).portions ≡ fails b → answer_at s t h b ≡ c → AreGranted h.sent c
    → no_request ≡ wires_at (taken s t h).sent c
unfolding answer_time grant_time
failed_wires s t h c b None e portions at g =
    none_wired h.sent c g ∙ sym (ap (λ ts. wires_at ts c) (none_taken s t h e))
failed_wires s t h c false (Some w) e portions at g =
    between_wires s t h c w e (ap (λ k. reaches k false) portions) g (omega (arith, at)) (omega (arith, at))
failed_wires s t h c true (Some w) e portions at g =
    after_wires s t h c w e (ap (λ k. reaches k true) portions) g (omega (arith, at)) (omega (arith, at))

-- so in each state of the access the wires are those of the transactions, and in every cycle
mid_wires : (s : Setup) (t : ℕ) (h : Story) (c : ℕ) (req : Req) (next : Bool → Lsu) (p : PortState)
    → AreGranted h.sent c → LsMid s t h c req next p → req ≡ wires_at (taken s t h).sent c
mid_wires s t h c req next p g (quiet none r l f) =
    r ∙ none_wired h.sent c g ∙ sym (ap (λ ts. wires_at ts c) (taken_sent s t h none))
mid_wires s t h c req next p g (asks w b part r l ask) = r ∙ asks_wires s t h c w b p part ask
mid_wires s t h c req next p g (opened w b part r l o ne) = r ∙ opened_wires s t h c w b p part o g
mid_wires s t h c req next p g (turns w part r l at f) = r ∙ turns_wires s t h c w part at g
mid_wires s t h c req next p g (failed b portions r l at f) =
    r ∙ failed_wires s t h c b (access_at s t h) refl portions at g

-- so the data port's wires are those of the history, with an item that stays or without
pub stage_wires : (s : Setup) → StageWires s
stage_wires s limit h None c id md req next p settled m = m.quiet ∙ none_wired h.sent c settled.granted
stage_wires s limit h (Some t) c id md req next p settled m = mid_wires s t h c req next p settled.granted m.part

-- ---- what is asked for

-- a request that is asked for is granted now or waits
pub ask : (ws : List Wait) (n x c : ℕ) (err : Bool) (word : ℕ) (p : PortState) → Ask ws n x c p
    → Grants ws n x err word c p ⊎ Waits ws n x err word c p
ask ws n x c err word p (due e f) =
    subst (λ v. Grants ws n v err word c p ⊎ Waits ws n v err word c p) (sym e) (free_starts ws n err word c p f)
ask ws n x c err word p (held i) = waiting_goes ws n x err word c p i
