-- The laws of a cycle, for every value of the fields and the wires: unused words and grants have no effect on the
-- wires out, what is read is put out, and the alerts are those of their causes.
use Rattle.std.proofs.Common.{◌≡◌, ℕ, ◌+◌, ◌*◌, Bool, true, false, Option, Some, None, refl, sym, ◌∙◌, ap}
use Rattle.std.specs.Prelude.{not, ◌&&◌, ◌||◌, if◌then◌else◌, ◌%◌, ◌/◌, ◌==◌}
use Rattle.ibx_isa.specs.declared.event.Access.{Access}
use Rattle.ibx_isa.specs.declared.bus.Rsp.{Rsp}
use Rattle.ibx_icache.specs.declared.doing.Doing.{Doing}
use Rattle.ibx_icache.specs.declared.port.WordPort.{WordPort}
use Rattle.ibx_icache.specs.Doing.{doing_of, granted_by, state_of}
use Rattle.ibx_icache.specs.WordPort.{WordIn, after_request, is_bad_tag, is_bad_word, matches, walked, word_port_next}
use Rattle.ibx_icache.proofs.States.{doing-state}
use Rattle.ibx_lsu.specs.declared.unit.Lsu.{Lsu}
use Rattle.ibx_lsu.specs.Turns.{granted_of, next_of as ls_next, turn_of as ls_turn}
use Rattle.ibx_lsu.proofs.Grants.{granted_after, granted_silent}
use Rattle.ibx_core.specs.declared.state.State.{State}
use Rattle.ibx_core.specs.Core.{Cycle, IsSameUsed, alerts_of, before_grants, core_next, core_out, cycle_of, cycle_seen}
use Rattle.ibx_core.specs.Core.{cycle_with, gives, granted, granted_port, heard, is_bus, is_internal, is_minor, leaves}
use Rattle.ibx_core.specs.Core.{looks, ls_by, next_by, out_by, out_with, port_of, reads_in, reads_of, takes0, takes1}
use Rattle.ibx_core.specs.Fields.{bit}
use Rattle.ibx_core.specs.Inputs.{drsp_of, inputs_of}
use Rattle.ibx_core.specs.Sights.{sight_of, sight_with, turn_by}
use Rattle.ibx_core.specs.Wires.{InWires}

-- ---- unused words

-- a word where it is used, and 0 else
used : (a b : Bool) → a ≡ b → (u v : ℕ) → (b ≡ true → u ≡ v) → (if a then u else 0) ≡ (if b then v else 0)
used true true e u v h = h refl
used false false e u v h = refl
used true false e u v h = absurd (cc)
used false true e u v h = absurd (cc)

-- a test of a word that is used
one_word : (l : Bool) (m : ℕ → Bool) (s t : ℕ) → (l ≡ true → s ≡ t) → (l && m s) ≡ (l && m t)
one_word true m s t h = ap m (h refl)
one_word false m s t h = refl

-- a test of two words that are used
two_words : (l : Bool) (m : ℕ → Bool) (s t u v : ℕ) → (l ≡ true → s ≡ t) → (l ≡ true → u ≡ v)
    → (l && (not (m s) && m u)) ≡ (l && (not (m t) && m v))
two_words true m s t u v h k = λ n. not (m (h refl n)) && m (k refl n)
two_words false m s t u v h k = refl

-- inputs that are equal but for unused words are heard the same
pub same_heard : (x : State) (i j : InWires) → IsSameUsed x i j → heard x i ≡ heard x j
unfolding heard
same_heard x i j h =
    let at : ℕ → Bool = λ (tag : ℕ). matches tag x.words.c_addr in
    let first : takes0 x.words i.tag0 ≡ takes0 x.words j.tag0 = one_word (looks x.words) at i.tag0 j.tag0 h.tag0 in
    let second : takes1 x.words i.tag0 i.tag1 ≡ takes1 x.words j.tag0 j.tag1 =
    two_words (looks x.words) at i.tag0 j.tag0 i.tag1 j.tag1 h.tag0 h.tag1 in
    let irsp = used i.irsp_valid j.irsp_valid h.irsp_valid i.irsp_word j.irsp_word h.irsp_word in
    let drsp = used i.drsp_valid j.drsp_valid h.drsp_valid i.drsp_word j.drsp_word h.drsp_word in
    let tag0 = used (looks x.words) (looks x.words) refl i.tag0 j.tag0 h.tag0 in
    let tag1 = used (looks x.words) (looks x.words) refl i.tag1 j.tag1 h.tag1 in
    let data0 = used (takes0 x.words i.tag0) (takes0 x.words j.tag0) first i.data0 j.data0 h.data0 in
    let data1 = used (takes1 x.words i.tag0 i.tag1) (takes1 x.words j.tag0 j.tag1) second i.data1 j.data1 h.data1 in
    λ t. record {
      irsp_valid = h.irsp_valid t;
      irsp_err = h.irsp_err t;
      irsp_word = irsp t;
      drsp_valid = h.drsp_valid t;
      drsp_err = h.drsp_err t;
      drsp_word = drsp t;
      igrant = h.igrant t;
      dgrant = h.dgrant t;
      rega = h.rega t;
      regb = h.regb t;
      tag0 = tag0 t;
      tag1 = tag1 t;
      data0 = data0 t;
      data1 = data1 t;
      lines = h.lines t;
      mul = h.mul t;
    }

-- so the wires out are equal
pub unused_out : (x : State) (i j : InWires) → IsSameUsed x i j → core_out x i ≡ core_out x j
unfolding core_out
unused_out x i j h = ap (gives x) (same_heard x i j h)

-- and the fields after the cycle
pub unused_next : (x : State) (i j : InWires) → IsSameUsed x i j → core_next x i ≡ core_next x j
unfolding core_next
unused_next x i j h = ap (leaves x) (same_heard x i j h)

-- ---- grants and reads

-- the wires out don't depend on the grants
pub ungranted : (x : State) (i : InWires) (igrant dgrant : Bool)
    → core_out x (record i { igrant = igrant; dgrant = dgrant }) ≡ core_out x i
unfolding core_out heard gives out_by port_of alerts_of cycle_of cycle_seen cycle_with sight_of sight_with
ungranted x i igrant dgrant = refl

-- a cycle is worked out before its grants
pub seen_ungranted : (x : State) (i : InWires) → cycle_of x (inputs_of (before_grants i)) ≡ cycle_of x (inputs_of i)
unfolding cycle_of cycle_seen cycle_with sight_of sight_with
seen_ungranted x i = refl

-- a request that the word port drove is granted after the cycle as in it
port_granted : (w : WordPort) (p : WordIn) (grant : Bool)
    → (if grant then granted_port (word_port_next w p false) else word_port_next w p false) ≡ word_port_next w p grant
unfolding word_port_next granted_by doing_of
port_granted w p false = refl
port_granted w p true =
    ap (λ (g : Doing). record (after_request w p)
    { c_state = state_of (granted_by true g); c_walk = walked p.fence w.c_walk })
    (doing-state (doing_of (after_request w p).c_state))

-- so is one of an access, where there is one
access_granted : (ls : Lsu) (want : Access) (rsp : Rsp) (driven : Bool) → (ls_turn ls want rsp).req.valid ≡ driven
    → (if driven then granted_of (ls_next ls want rsp false) else ls_next ls want rsp false) ≡ ls_next ls want rsp true
access_granted ls want rsp true e = granted_after ls want rsp e
access_granted ls want rsp false e = sym (granted_silent ls want rsp e)

-- an access that isn't active drives no request
ls_granted : (active : Bool) (access : Option Access) (ls : Lsu) (rsp : Rsp) (grant : Bool)
    → (if grant && (turn_by active access ls rsp).req.valid then granted_of (ls_by active access ls rsp false)
    else ls_by active access ls rsp false) ≡ ls_by active access ls rsp grant
unfolding turn_by ls_by
ls_granted active access ls rsp false = refl
ls_granted false access ls rsp true = refl
ls_granted true None ls rsp true = refl
ls_granted true (Some want) ls rsp true = access_granted ls want rsp (ls_turn ls want rsp).req.valid refl

-- the fields after a cycle are those without a grant, changed by the grants
pub grants_last : (x : State) (i : InWires)
    → granted i.igrant (i.dgrant && (core_out x i).dreq) (core_next x (before_grants i)) ≡ core_next x i
unfolding core_next core_out leaves gives heard out_by out_with next_by port_of cycle_of cycle_seen cycle_with sight_of
    sight_with
grants_last x i =
    let c : Cycle = cycle_of x (inputs_of (heard x i)) in
    let port = port_granted x.words (port_of x (inputs_of (heard x i)) c.request c.effect.fence) i.igrant in
    let access = ls_granted c.sight.active c.sight.access x.ls (drsp_of (heard x i)) i.dgrant in
    λ t. record (core_next x i) { words = port t; ls = access t }

-- what is read is put out
pub reading : (x : State) (i : InWires) → reads_in (core_out x i) ≡ reads_of x
unfolding core_out gives out_by out_with
reading x i = refl

-- ---- alerts

-- a data word counts where its way matches
bad_by : (b0 b1 m0 m1 : Bool) (d : ℕ → Bool) (d0 d1 : ℕ)
    → ((b0 || (m0 && d (if m0 then d0 else 0))) || (b1 || (not m0 && m1 && d (if (not m0 && m1) then d1 else 0))))
    ≡ ((b0 || (m0 && d d0)) || (b1 || (not m0 && m1 && d d1)))
bad_by b0 b1 true m1 d d0 d1 = refl
bad_by b0 b1 false true d d0 d1 = refl
bad_by b0 b1 false false d d0 d1 = refl

-- a lookup
looked_by : (l : Bool) (b m d : ℕ → Bool) (t0 t1 d0 d1 : ℕ)
    → (l && ((b (if l then t0 else 0) || (m (if l then t0 else 0) && d (if (l && m t0) then d0 else 0))) ||
    (b (if l then t1 else 0) ||
    (not (m (if l then t0 else 0)) && m (if l then t1 else 0) && d
    (if (l && (not (m t0) && m t1)) then d1 else 0)))))
    ≡ (l && ((b t0 || (m t0 && d d0)) || (b t1 || (not (m t0) && m t1 && d d1))))
looked_by false b m d t0 t1 d0 d1 = refl
looked_by true b m d t0 t1 d0 d1 = bad_by (b t0) (b t1) (m t0) (m t1) d d0 d1

-- an answer
answered_by : (valid : Bool) (d : ℕ → Bool) (word : ℕ) → (valid && d (if valid then word else 0)) ≡ (valid && d word)
answered_by true d word = refl
answered_by false d word = refl

-- the gate changes no alert
alerts_heard : (x : State) (i : InWires) → alerts_of x (heard x i) ≡ alerts_of x i
unfolding alerts_of heard
alerts_heard x i =
    let minor = looked_by (looks x.words) is_bad_tag
    (λ (tag : ℕ). matches tag x.words.c_addr) is_bad_word i.tag0 i.tag1 i.data0 i.data1 in
    let fetch = answered_by i.irsp_valid is_bad_word i.irsp_word in
    let load = answered_by i.drsp_valid is_bad_word i.drsp_word in
    λ t. bit (minor t) + 2 * bit (is_internal x i) + 4 * bit (fetch t || load t)

-- the alerts that are put out
pub alerts_are : (x : State) (i : InWires) → (core_out x i).alerts ≡ alerts_of x i
unfolding core_out gives out_by out_with
alerts_are x i = alerts_heard x i

-- each bit of a set of alerts
first_bit : (a b c : Bool) → ((bit a + 2 * bit b + 4 * bit c) % 2 == 1) ≡ a
first_bit true true true = refl
first_bit true true false = refl
first_bit true false true = refl
first_bit true false false = refl
first_bit false true true = refl
first_bit false true false = refl
first_bit false false true = refl
first_bit false false false = refl

-- the same of INTERNAL
second_bit : (a b c : Bool) → ((bit a + 2 * bit b + 4 * bit c) / 2 % 2 == 1) ≡ b
second_bit true true true = refl
second_bit true true false = refl
second_bit true false true = refl
second_bit true false false = refl
second_bit false true true = refl
second_bit false true false = refl
second_bit false false true = refl
second_bit false false false = refl

-- the same of BUS
third_bit : (a b c : Bool) → ((bit a + 2 * bit b + 4 * bit c) / 4 == 1) ≡ c
third_bit true true true = refl
third_bit true true false = refl
third_bit true false true = refl
third_bit true false false = refl
third_bit false true true = refl
third_bit false true false = refl
third_bit false false true = refl
third_bit false false false = refl

-- MINOR has its cause
pub minor_alert : (x : State) (i : InWires) → ((core_out x i).alerts % 2 == 1) ≡ is_minor x i
unfolding alerts_of
minor_alert x i = ap (λ (n : ℕ). n % 2 == 1) (alerts_are x i) ∙ first_bit (is_minor x i) (is_internal x i) (is_bus i)

-- INTERNAL has its cause
pub internal_alert : (x : State) (i : InWires) → ((core_out x i).alerts / 2 % 2 == 1) ≡ is_internal x i
unfolding alerts_of
internal_alert x i = ap (λ (n : ℕ). n / 2 % 2 == 1) (alerts_are x i)
    ∙ second_bit (is_minor x i) (is_internal x i) (is_bus i)

-- BUS has its cause
pub bus_alert : (x : State) (i : InWires) → ((core_out x i).alerts / 4 == 1) ≡ is_bus i
unfolding alerts_of
bus_alert x i = ap (λ (n : ℕ). n / 4 == 1) (alerts_are x i) ∙ third_bit (is_minor x i) (is_internal x i) (is_bus i)
