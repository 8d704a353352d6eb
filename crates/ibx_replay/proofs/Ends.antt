-- An event that ends an item keeps what the numbers stand for: its FENCE.I, its icache_enable, and its redirect.
use Rattle.std.proofs.Common.{◌≡◌, ℕ, zero, suc, ◌+◌, ◌/◌, ◌^◌, ◌<◌, ◌≤◌, Bool, true, false}
use Rattle.std.proofs.Common.{List, [], ◌∷◌, length, Option, Some, None, refl, sym, ap, ◌∙◌, subst, arith, inl, inr}
use Rattle.std.proofs.Common.{nat_lt, if◌then◌else◌, ◌⊎◌}
use Rattle.std.proofs.lemmas.Bool.{cases_lt, cases_eq, lt-ltb, le-ltb}
use Rattle.ibx_time.specs.Settings.{Settings}
use Rattle.ibx_time.specs.Requests.{Past, Fill, Switch, made, enabled_at, slot_of, last_fill}
use Rattle.ibx_time.specs.Streams.{Stream, past, issue, gate, last_of, redirected}
use Rattle.ibx_time.proofs.Times.{IsRequested, issue_is, requested_is, next_issue, past_sound}
use Rattle.ibx_time.proofs.Fences.{fenced, switched_by, past_unseen, requested_unseen}
use Rattle.ibx_time.proofs.Seen.{IsClean, past_clean, fenced_clear, first_issue}
use Rattle.ibx_replay.specs.Fetches.{Line, Fetch, stored_before}
use Rattle.ibx_replay.specs.Fetches.{fenced as fetch_fenced, redirected as fetch_redirected}
use Rattle.ibx_replay.proofs.Slots.{place_own}
use Rattle.ibx_replay.proofs.Losses.{dropped, with_fills, past_lost}
use Rattle.ibx_replay.proofs.Serves.{IsCache, front}
use Rattle.ibx_replay.proofs.Gates.{past_marked, requested_marked}
use Rattle.ibx_replay.proofs.Ports.{IsPlace}
use Rattle.ibx_replay.proofs.Fetched.{fill_in_line, fill_in, AreRead, FetchAt, IsSettled}

-- ---- what an event leaves of icache_enable

-- a switch in the cycle before c or later changes nothing of what was requested before c
pub switch_keeps : (k : Settings) (reads : ℕ → ℕ → ℕ) (x : Stream) (q c : ℕ) (v : Switch) (f : Fetch)
    → FetchAt k reads x q c f → c ≤ v.time + 1 → FetchAt k reads (switched_by x v) q c f
unfolding gate
switch_keeps k reads x q c v f h late =
    let same : (j : ℕ) → j ≤ q → past k (switched_by x v) j ≡ past k x j =
    past_marked k x c q v h.requested late in
    record {
      requested = requested_marked k x c q v h.requested late;
      gated = record {
        next = λ more. omega (
          arith,
          issue_is k (switched_by x v) q,
          issue_is k x q,
          gate_same x v q,
          ap (λ y. y.answer) (same q (omega arith)),
          h.gated.next more,
        );
        past = h.gated.past;
      };
      gate_past = h.gate_past;
      held = h.held;
      next = h.next;
      answer = h.answer ∙ ap (λ y. y.answer) (sym (same q (omega arith)));
      words = λ i l.
          let w = h.words i l in
          let old = same (suc (length x.enters + i)) (omega (arith, l, h.held)) in
          record {
            answer = w.answer ∙ ap (λ y. y.answer) (sym old);
            grant = w.grant ∙ ap (λ y. y.grant) (sym old);
            value = w.value;
          };
      port = subst (λ y. IsPlace k.plan.iwaits f.port (made y)) (sym (same q (omega arith))) h.port;
      cache = record {
        places = subst (λ y. IsCache y.fills (λ n. fill_in (f.lines n)) f.other_way (fill_in f.filling))
            (sym (same q (omega arith))) h.cache.places;
        starts_is = h.cache.starts_is;
        lines = h.cache.lines;
        filling = h.cache.filling;
      };
      clean = h.clean;
      sound = h.sound;
    }
  where
    gate_same : (x : Stream) (v : Switch) (j : ℕ) → gate (switched_by x v) j ≡ gate x j
    gate_same x v j = refl

-- from the next cycle on it is the new one
pub switch_settled : (x : Stream) (d : ℕ) (old on : Bool) → IsSettled x (d + 1) old
    → IsSettled (switched_by x (record { time = d; on = on })) (d + 1) on
unfolding enabled_at
switch_settled x d old on z = record { log = z.log; enabled = λ t low. rw (lt-ltb d t (omega (arith, low))) refl }

-- where it is left as it is, that holds in the event's cycle too
pub same_settled : (x : Stream) (d : ℕ) (on : Bool) → IsSettled x d on
    → IsSettled (switched_by x (record { time = d; on = on })) d on
unfolding enabled_at
same_settled x d on z = record { log = z.log; enabled = λ t low. by t low (cases_lt d t) }
  where
    by : (t : ℕ) → d ≤ t → (d < t) ⊎ (t ≤ d) → (if nat_lt d t then on else enabled_at x.switches t) ≡ on
    by t low (inl h) = rw (lt-ltb d t h) refl
    by t low (inr h) = rw (le-ltb d t h) (z.enabled t low)

-- ---- a FENCE.I at d, up to which the requests are made

-- the last answer, the grants and the transactions are the same, and the fills but for one that is stored at d or
-- later
record IsLost (y z : Past) : Type 0 where
  pub answer : y.answer ≡ z.answer
  pub grant : y.grant ≡ z.grant

-- the words that were requested before a FENCE.I lose by it no more than a fill
lost_words : (k : Settings) (x : Stream) (q d j : ℕ) → IsRequested k x d q → IsClean x.fences x.before → j < q
    → IsLost (past k (fenced x d) (suc j)) (past k x (suc j))
lost_words k x q d j r z low = elim (cases_eq (suc j) q) [
  | inl e ↦
      let same : past k (fenced x d) (suc j) ≡ with_fills (past k x (suc j)) (dropped d (past k x (suc j)).fills) =
      subst (λ n. past k (fenced x d) n ≡ with_fills (past k x n) (dropped d (past k x n).fills)) (sym e)
      (past_lost k x d q j r (sym e) z) in
      record { answer = ap (λ y. y.answer) same; grant = ap (λ y. y.grant) same }
  | inr ne ↦
      let same = past_unseen k x d q r (suc j) (omega (arith, low))
      (omega (arith, next_issue k x j, r.before (suc j) (omega (arith, low, ne)))) in
      record { answer = ap (λ y. y.answer) same; grant = ap (λ y. y.grant) same }
]

-- a fill that is that of a line was stored before d, where the line was
fill_before : (reads : ℕ → ℕ → ℕ) (d : ℕ) (w : Fill) (o : Option Line) → Some w ≡ fill_in o → AreRead reads d o
    → w.time < d
fill_before reads d w None e h = absurd (none w e)
  where
    none : (w : Fill) → Some w ≡ None → ⊥
    none w e = cc
fill_before reads d w (Some x) e h = omega (arith, ap (λ v. v.time) (same w (fill_in_line x) e), h.stored)
  where
    same : (a b : Fill) → Some a ≡ Some b → a ≡ b
    same a b e = cc

-- so where nothing is in flight no fill is lost, and else the one in flight or none
none_lost : (reads : ℕ → ℕ → ℕ) (d : ℕ) (stored : List Fill) (lines : ℕ → Option Line)
    → ((n : ℕ) → last_fill stored n ≡ fill_in (lines n)) → ((n : ℕ) → AreRead reads d (lines n))
    → dropped d stored ≡ stored
none_lost reads d [] lines e h = refl
none_lost reads d (w ∷ ws) lines e h =
    let n = slot_of w.line w.way in
    rw (lt-ltb w.time d (fill_before reads d w (lines n) (sym (place_own w ws) ∙ e n) (h n))) refl

-- the line in flight is kept or lost by one test
one_lost : (b : Bool) (x : Line) (stored : List Fill) → (if b then fill_in_line x ∷ stored else stored)
    ≡ front (fill_in (if b then Some x else None)) stored
one_lost true x stored = refl
one_lost false x stored = refl

-- of the fills before a FENCE.I only the one in flight may be lost
lost_split : (reads : ℕ → ℕ → ℕ) (d : ℕ) (o : Option Line) (stored : List Fill) (lines : ℕ → Option Line)
    → ((n : ℕ) → last_fill stored n ≡ fill_in (lines n)) → ((n : ℕ) → AreRead reads d (lines n))
    → dropped d (front (fill_in o) stored) ≡ front (fill_in (stored_before d o)) stored
lost_split reads d None stored lines e h = none_lost reads d stored lines e h
lost_split reads d (Some x) stored lines e h = one_lost (nat_lt x.time d) x stored

-- what is left of the line in flight is still read
lost_read : (reads : ℕ → ℕ → ℕ) (v d : ℕ) (o : Option Line) → AreRead reads v o → AreRead reads v (stored_before d o)
lost_read reads v d None h = tt
lost_read reads v d (Some x) h = by (nat_lt x.time d)
  where
    by : (b : Bool) → AreRead reads v (if b then Some x else None)
    by true = h
    by false = tt

-- So a FENCE.I leaves it. Its item took a word of the stream, so there is one.
pub fence_keeps : (k : Settings) (reads : ℕ → ℕ → ℕ) (x : Stream) (q d j : ℕ) (f : Fetch) → FetchAt k reads x q d f
    → q ≡ suc j → FetchAt k reads (fenced x d) q d (fetch_fenced d f)
unfolding fetch_fenced gate
fence_keeps k reads x q d j f h some =
    let lost : past k (fenced x d) q ≡ with_fills (past k x q) (dropped d (past k x q).fills) =
    past_lost k x d q j h.requested some h.clean in
    let first : issue k x 0 < d = h.requested.before 0 (omega (arith, some)) in
    record {
      requested = requested_unseen k x d q h.requested;
      gated = record {
        next = λ more. omega (
          arith,
          issue_is k (fenced x d) q,
          issue_is k x q,
          gate_same x d q,
          ap (λ y. y.answer) lost,
          h.gated.next more,
        );
        past = h.gated.past;
      };
      gate_past = h.gate_past;
      held = h.held;
      next = h.next;
      answer = h.answer ∙ ap (λ y. y.answer) (sym lost);
      words = λ i l.
          let w = h.words i l in
          let old = lost_words k x q d (length x.enters + i) h.requested h.clean (omega (arith, l, h.held)) in
          record { answer = w.answer ∙ sym old.answer; grant = w.grant ∙ sym old.grant; value = w.value };
      port = subst (λ y. IsPlace k.plan.iwaits f.port (made y)) (sym lost) h.port;
      cache = record {
        places = record {
          stored = h.cache.places.stored;
          split = ap (λ y. y.fills) lost ∙ ap (dropped d) h.cache.places.split
              ∙ lost_split reads d f.filling h.cache.places.stored f.lines h.cache.places.places h.cache.lines;
          places = h.cache.places.places;
          other_is = h.cache.places.other_is;
        };
        starts_is = refl;
        lines = h.cache.lines;
        filling = lost_read reads f.answer d f.filling h.cache.filling;
      };
      clean = record {
        clear = fenced_clear x.fences x.before.fills d x.before.answer
            (omega (arith, first, (first_issue k x).1)) h.clean.stored h.clean.clear;
        stored = h.clean.stored;
      };
      sound = h.sound;
    }
  where
    gate_same : (x : Stream) (d j : ℕ) → gate (fenced x d) j ≡ gate x j
    gate_same x d j = refl

-- no FENCE.I is later
pub fence_settled : (x : Stream) (d : ℕ) (on : Bool) → IsSettled x d on → IsSettled (fenced x d) d on
fence_settled x d on z = record { log = (omega arith, z.log); enabled = z.enabled }

-- ---- a redirect at d, up to which the requests are made

-- the stream after it, where q words are requested
abbrev pub turned : Settings → Stream → ℕ → ℕ → ℕ → Stream
turned k x q d target = record {
  start = d;
  base = target / 4;
  before = past k x q;
  last = last_of x q;
  enters = [];
  fences = x.fences;
  switches = x.switches;
}

-- a redirect takes over the words that were issued before it
turned_is : (k : Settings) (x : Stream) (q d target : ℕ) → IsRequested k x d q
    → redirected k x d target ≡ turned k x q d target
unfolding redirected
turned_is k x q d target r = ap (λ n. turned k x n d target) (requested_is k x d q r)

-- so after a redirect no word is held, and the target's word is next
turned_keeps : (k : Settings) (reads : ℕ → ℕ → ℕ) (x : Stream) (q d target : ℕ) (f : Fetch) → FetchAt k reads x q d f
    → target < 2 ^ 32 → FetchAt k reads (turned k x q d target) 0 d (fetch_redirected d target f)
unfolding fetch_redirected gate past
turned_keeps k reads x q d target f h small =
    let x' = turned k x q d target in
    record {
      requested = record {
        within = omega arith;
        before = λ j l. absurd (omega (arith, l));
        after = λ more. (first_issue k x').0;
      };
      gated = record { next = λ more. issue_is k x' 0; past = gates };
      gate_past = omega arith;
      held = omega arith;
      next = omega (arith, small);
      answer = h.answer;
      words = λ i l. absurd (omega (arith, l));
      port = h.port;
      cache = record {
        places = h.cache.places;
        starts_is = h.cache.starts_is;
        lines = h.cache.lines;
        filling = h.cache.filling;
      };
      clean = past_clean k x q h.clean;
      sound = past_sound k x q h.sound;
    }
  where
    gates : (j : ℕ) → j < 0 + 3 → gate (turned k x q d target) j ≤ d
    gates zero l = omega arith
    gates (suc zero) l = omega arith
    gates (suc (suc zero)) l = omega arith
    gates (suc (suc (suc j))) l = absurd (omega (arith, l))

-- a redirect leaves no word that is requested
pub turn_keeps : (k : Settings) (reads : ℕ → ℕ → ℕ) (x : Stream) (q d target : ℕ) (f : Fetch) → FetchAt k reads x q d f
    → target < 2 ^ 32 → FetchAt k reads (redirected k x d target) 0 d (fetch_redirected d target f)
turn_keeps k reads x q d target f h small =
    subst (λ y. FetchAt k reads y 0 d (fetch_redirected d target f)) (sym (turned_is k x q d target h.requested))
    (turned_keeps k reads x q d target f h small)

-- a redirect leaves the FENCE.Is and icache_enable
pub turn_settled : (k : Settings) (x : Stream) (d target : ℕ) (on : Bool) → IsSettled x d on
    → IsSettled (redirected k x d target) d on
unfolding redirected
turn_settled k x d target on z = record { log = z.log; enabled = z.enabled }
