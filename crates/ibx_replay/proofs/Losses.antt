-- What a FENCE.I takes from the cache: the fill that is stored in its cycle or later, and no other.
use Rattle.std.proofs.Common.{◌*◌, ◌≡◌, ℕ, suc, ◌+◌, ◌<◌, ◌≤◌, Bool, true, false, ◌&&◌, List, []}
use Rattle.std.proofs.Common.{◌∷◌, refl, sym, ap, ◌∙◌, arith, inl, inr, nat_lt, nat_le, if◌then◌else◌}
use Rattle.std.proofs.lemmas.Bool.{lt-ltb, le-ltb, le-leb, lt-leb, cases_lt}
use Rattle.ibx_arch.specs.Memory.{is_mapped}
use Rattle.ibx_time.specs.Settings.{Settings}
use Rattle.ibx_time.specs.Requests.{Past, Fill, Switch, line_of, last_fill, found_slot, victim, is_kept}
use Rattle.ibx_time.specs.Requests.{second_answer, request_by, after_request, is_present, is_cached, none_between}
use Rattle.ibx_time.specs.Requests.{made, fill_of, stored_if, transaction, fill_grant}
use Rattle.ibx_isa.specs.Wires.{fetch_wires}
use Rattle.ibx_bus.specs.PortTimes.{answer_time, grant_time}
use Rattle.ibx_time.specs.Streams.{Stream, past, issue, word_addr}
use Rattle.ibx_time.proofs.Times.{IsRequested, issue_is, past_suc}
use Rattle.ibx_time.proofs.Fences.{fenced, by_four, cached_unseen, present_unseen, slot_unseen, victim_unseen}
use Rattle.ibx_time.proofs.Fences.{last_unseen}
use Rattle.ibx_time.proofs.Seen.{AreStored, past_clean, IsClean}

-- the fills without the last one, where that is stored at d or later
abbrev pub dropped : ℕ → List Fill → List Fill
dropped d [] = []
dropped d (x ∷ fills) = if nat_lt x.time d then x ∷ fills else fills

-- the same past with other fills
abbrev pub with_fills : Past → List Fill → Past
with_fills y fills = record y { fills = fills }

-- fills that were stored before d stay
pub none_dropped : (d v : ℕ) (fills : List Fill) → v ≤ d → AreStored fills v → dropped d fills ≡ fills
none_dropped d v [] h z = refl
none_dropped d v (x ∷ fills) h z = rw (lt-ltb x.time d (omega (arith, h, z.0))) refl

-- the fill of a miss, kept or not, with and without the condition
lost_fill : (c : Bool) (x : Fill) (fills : List Fill) (d : ℕ) → nat_lt x.time d ≡ c
    → stored_if (c && true) x fills ≡ dropped d (x ∷ fills)
lost_fill true x fills d e = sym (rw e refl)
lost_fill false x fills d e = sym (rw e refl)

-- a fill that fails one of two tests isn't stored
never_kept : (c : Bool) (x : Fill) (fills : List Fill) → stored_if (c && false) x fills ≡ fills
never_kept true x fills = refl
never_kept false x fills = refl

-- a request whose fill is kept only if it is stored before d, against the same request without that condition
lost_by : (b p n : Bool) (slot : ℕ) (way : Bool) (k : Settings) (y : Past) (t a d : ℕ) → y.answer ≤ d
    → AreStored y.fills y.answer
    → request_by b p (nat_lt (second_answer k y t) d && n) slot way k y t a
    ≡ with_fills (request_by b p n slot way k y t a) (dropped d (request_by b p n slot way k y t a).fills)
unfolding request_by
lost_by false p n slot way k y t a d low z =
    ap (with_fills (record {
      answer = answer_time k.plan.iwaits (made y) t;
      sent = transaction k.plan.iwaits (made y) t (fetch_wires a) ∷ y.sent;
      fills = y.fills;
      grant = grant_time k.plan.iwaits (made y) t;
    })) (sym (none_dropped d y.answer y.fills low z))
lost_by true true n slot way k y t a d low z =
    ap (with_fills (record {
      answer = t + 1;
      sent = y.sent;
      fills = y.fills;
      grant = fill_grant
          (last_fill y.fills slot) a;
    }))
    (sym (none_dropped d y.answer y.fills low z))
lost_by true false true slot way k y t a d low z =
    ap (with_fills (request_by true false true slot way k y t a))
    (lost_fill (nat_lt (second_answer k y t) d) (fill_of k y t a way) y.fills d refl)
lost_by true false false slot way k y t a d low z =
    ap (with_fills (request_by true false false slot way k y t a))
    (never_kept (nat_lt (second_answer k y t) d) (fill_of k y t a way) y.fills
    ∙ sym (none_dropped d y.answer y.fills low z))

-- a span's end is before d where the cycle before it is
end_before : (v d : ℕ) → nat_le (v + 1) d ≡ nat_lt v d
end_before v d = elim (cases_lt v d) [
  | inl low ↦ le-leb (v + 1) d (omega (arith, low)) ∙ sym (lt-ltb v d low)
  | inr high ↦ lt-leb (v + 1) d (omega (arith, high)) ∙ sym (le-ltb v d high)
]

-- ---- with a FENCE.I at d

-- a span that begins before d is free of it just where it ends before d
between_lost : (fs : List ℕ) (d t v : ℕ) → t < d
    → none_between (d ∷ fs) t (v + 1) ≡ (nat_lt v d && none_between fs t (v + 1))
unfolding none_between
between_lost fs d t v h = rw (le-ltb d t (omega arith)) (ap (λ b. b && none_between fs t (v + 1)) (end_before v d))

-- three tests in either grouping
and_assoc : (a b c : Bool) → (a && b) && c ≡ a && (b && c)
and_assoc true b c = refl
and_assoc false b c = refl

-- so a request before d is the same, but for its fill
request_lost : (k : Settings) (ss : List Switch) (fs : List ℕ) (y : Past) (d t a : ℕ) → t < d → y.answer ≤ d
    → AreStored y.fills y.answer
    → after_request k ss (d ∷ fs) y t a
    ≡ with_fills (after_request k ss fs y t a) (dropped d (after_request k ss fs y t a).fills)
request_lost k ss fs y d t a h low z =
    let m = is_mapped k.ram (8 * line_of a) && is_mapped k.ram (8 * line_of a + 4) in
    by_four (is_cached ss (d ∷ fs) t) (is_present (d ∷ fs) y.fills (line_of a) t) (is_cached ss fs t)
    (is_present fs y.fills (line_of a) t) (is_kept k (d ∷ fs) y t a) (found_slot (d ∷ fs) y.fills (line_of a) t)
    (found_slot fs y.fills (line_of a) t) (victim (d ∷ fs) y.fills (line_of a) t) (victim fs y.fills (line_of a) t) k y
    t a (cached_unseen k ss fs d t h) (present_unseen k fs y.fills d t (line_of a) h)
    (slot_unseen k fs y.fills d t (line_of a) h) (victim_unseen k fs y.fills d t (line_of a) h)
    ∙ ap (λ n. request_by (is_cached ss fs t) (is_present fs y.fills (line_of a) t) n
    (found_slot fs y.fills (line_of a) t) (victim fs y.fills (line_of a) t) k y t a)
    (ap (λ b. b && m) (between_lost fs d t (second_answer k y t) h)
    ∙ and_assoc (nat_lt (second_answer k y t) d) (none_between fs t (second_answer k y t + 1)) m)
    ∙ lost_by (is_cached ss fs t) (is_present fs y.fills (line_of a) t) (is_kept k fs y t a)
    (found_slot fs y.fills (line_of a) t) (victim fs y.fills (line_of a) t) k y t a d low z

-- What the words requested before a FENCE.I at d leave with it: the same, but for a fill that is stored at d or later.
-- The item that is the FENCE.I took a word of the stream, so there is one.
pub past_lost : (k : Settings) (x : Stream) (d q j : ℕ) → IsRequested k x d q → q ≡ suc j → IsClean x.fences x.before
    → past k (fenced x d) q ≡ with_fills (past k x q) (dropped d (past k x q).fills)
past_lost k x d q j r e z =
    let y = past k x j in
    let t = issue k x j in
    let before : issue k x j < d = r.before j (omega (arith, e)) in
    ap (past k (fenced x d)) e ∙ last_unseen k x d q j r e
    ∙ request_lost k x.switches x.fences y d t (word_addr x j) before (omega (arith, before, issue_is k x j))
    (past_clean k x j z).stored
    ∙ ap (λ w. with_fills w (dropped d w.fills)) (sym (past_suc k x j) ∙ ap (past k x) (sym e))
