-- A request in the issue cycle of the next word keeps what the numbers stand for, and so do all requests below a
-- bound.
use Rattle.std.proofs.Common.{◌≡◌, ℕ, zero, suc, ◌+◌, ◌*◌, ◌%◌, ◌^◌, ◌<◌, ◌≤◌, Bool, true, false, ◌&&◌}
use Rattle.std.proofs.Common.{◌==◌, List, length, Option, Some, None, refl, sym, ap, ap₂, ◌∙◌, subst, arith, inl, inr}
use Rattle.std.proofs.Common.{nat_le, nat_lt, if◌then◌else◌, ◌⊎◌}
use Rattle.std.proofs.lemmas.Bool.{eq-eqb, ne_eqb, leb-true, ltb-true, ltb-false, cases_eq, and_parts, and_cases}
use Rattle.ibx_arch.specs.Memory.{is_mapped}
use Rattle.ibx_time.specs.Settings.{Settings}
use Rattle.ibx_time.specs.Requests.{Past, Fill, line_of, slot_of, last_fill, found_slot, is_kept, made, fill_of}
use Rattle.ibx_time.specs.Requests.{is_present, other_way, request_by, after_request}
use Rattle.ibx_time.specs.Streams.{Stream, past, answer, issue}
use Rattle.ibx_time.proofs.Times.{issue_is, past_suc, after_issue, issue_mono, next_issue}
use Rattle.ibx_replay.specs.Fetches.{Word, Line, Fetch, lines_with, other_after, settled, found, way_for, word_alone}
use Rattle.ibx_replay.specs.Fetches.{line_read, word_by, asked, port_after, words_with, request, request_below}
use Rattle.ibx_replay.specs.Fetches.{issue_of}
use Rattle.ibx_replay.proofs.Slots.{starts, log_more}
use Rattle.ibx_replay.proofs.Serves.{IsCache, front, place_with, other_with, settles, fills_by, cached_by, kept_by}
use Rattle.ibx_replay.proofs.Gates.{gated_next}
use Rattle.ibx_replay.proofs.Ports.{IsPlace}
use Rattle.ibx_replay.proofs.Fetched.{fill_in_line, fill_in, AreRead, WordIs, FetchAt, IsSettled, Holds}
use Rattle.ibx_replay.proofs.Requests.{Finds, found_is, found_read, way_is}
use Rattle.ibx_replay.proofs.Brings.{Brings, brings, moves, flies, flight_read, read_words, read_is}

-- ---- once nothing is in flight

-- each place has its last fill, and the other way is that of all fills
pub record IsPlaced (fills : List Fill) (lines : ℕ → Option Line) (other : Bool) : Type 0 where
  pub places : (n : ℕ) → last_fill fills n ≡ fill_in (lines n)
  pub other_is : other ≡ other_way fills

-- a line that goes to its place is the fill that goes there
place_line : (o : Option Line) (lines : ℕ → Option Line) (n : ℕ)
    → place_with (fill_in o) (λ m. fill_in (lines m)) n ≡ fill_in (lines_with o lines n)
place_line None lines n = refl
place_line (Some x) lines n = by (slot_of x.line x.way == n)
  where
    by : (b : Bool) → (if b then Some (fill_in_line x) else fill_in (lines n)) ≡ fill_in
        (if b then Some x else lines n)
    by true = refl
    by false = refl

-- and the other way moves alike
other_line : (o : Option Line) (other : Bool) → other_with (fill_in o) other ≡ other_after o other
other_line None other = refl
other_line (Some x) other = refl

-- with the line in flight at its place, the places are those of all fills
pub placed : (fills : List Fill) (lines : ℕ → Option Line) (other : Bool) (o : Option Line)
    → IsCache fills (λ n. fill_in (lines n)) other (fill_in o)
    → IsPlaced fills (lines_with o lines) (other_after o other)
placed fills lines other o h =
    let s = settles fills (λ n. fill_in (lines n)) other (fill_in o) h in
    record {
      places = λ n. ap (λ fs. last_fill fs n) s.split ∙ s.places n ∙ place_line o lines n;
      other_is = sym (other_line o other) ∙ s.other_is ∙ ap other_way (sym s.split);
    }

-- a line that was stored before a cycle was stored before a later one
pub read_later : (reads : ℕ → ℕ → ℕ) (v w : ℕ) (o : Option Line) → v ≤ w → AreRead reads v o → AreRead reads w o
read_later reads v w None h z = tt
read_later reads v w (Some x) h z = record {
  low = z.low;
  word0 = z.word0;
  word1 = z.word1;
  early0 = z.early0;
  early1 = z.early1;
  stored = omega (arith, h, z.stored);
}

-- a line that goes to its place stays read
placed_read : (reads : ℕ → ℕ → ℕ) (v : ℕ) (o : Option Line) (lines : ℕ → Option Line) (n : ℕ) → AreRead reads v o
    → ((n : ℕ) → AreRead reads v (lines n)) → AreRead reads v (lines_with o lines n)
placed_read reads v None lines n h z = z n
placed_read reads v (Some x) lines n h z = by (slot_of x.line x.way == n)
  where
    by : (b : Bool) → AreRead reads v (if b then Some x else lines n)
    by true = h
    by false = z n

-- ---- the stream and the bit at a later cycle

-- what has settled by a cycle has settled by a later one
pub settled_later : (x : Stream) (c d : ℕ) (on : Bool) → c ≤ d → IsSettled x c on → IsSettled x d on
settled_later x c d on h z = record {
  log = log_more x.fences (c + 1) (d + 1) (omega (arith, h)) z.log;
  enabled = λ t low. z.enabled t (omega (arith, h, low));
}

-- a memory that is known from a cycle on is known from a later one on
pub holds_later : (held reads : ℕ → ℕ → ℕ) (c d : ℕ) → c ≤ d → Holds held reads c → Holds held reads d
holds_later held reads c d h m g a low small even = m g a (omega (arith, h, low)) small even

-- ---- the decisions

-- the request by the code's decisions
decided : (k : Settings) (x : Stream) (y : Past) (t a s : ℕ) (on : Bool) (lines : ℕ → Option Line) (other : Bool)
    → IsSettled x t on → s ≡ starts x.fences → IsPlaced y.fills lines other
    → after_request k x.switches x.fences y t a
    ≡ request_by (on && nat_le (s + 256) t) (is_present x.fences y.fills (line_of a) t) (is_kept k x.fences y t a)
    (found_slot x.fences y.fills (line_of a) t) (way_for s (line_of a) lines other) k y t a
decided k x y t a s on lines other z e p =
    ap₂ (λ b w. request_by b (is_present x.fences y.fills (line_of a) t) (is_kept k x.fences y t a)
    (found_slot x.fences y.fills (line_of a) t) w k y t a)
    (cached_by x.switches x.fences t on (z.enabled t (omega arith)) z.log
    ∙ ap (λ s. on && nat_le (s + 256) t) (sym e))
    (way_is x.fences y.fills t (line_of a) lines other z.log p.places p.other_is
    ∙ ap (λ s. way_for s (line_of a) lines other) (sym e))

-- a request that is cached comes long after the last FENCE.I
cached_late : (on : Bool) (s t : ℕ) → (on && nat_le (s + 256) t) ≡ true → s + 256 ≤ t
cached_late on s t e = leb-true (s + 256) t (and_parts on (nat_le (s + 256) t) e).1

-- ---- the request

-- the words with one more
words_more : (k : Settings) (reads : ℕ → ℕ → ℕ) (x : Stream) (m q : ℕ) (words : ℕ → Word) (count : ℕ) (w : Word)
    → m + count ≡ q → ((i : ℕ) → i < count → WordIs k reads x (m + i) (words i)) → WordIs k reads x q w
    → (i : ℕ) → i < suc count → WordIs k reads x (m + i) (words_with words count w i)
words_more k reads x m q words count w e old new i h = elim (cases_eq i count) [
  | inl same ↦ rw (eq-eqb i count same) (subst (λ j. WordIs k reads x j w) (omega (arith, e, same)) new)
  | inr other ↦ rw (ne_eqb i count other) (old i (omega (arith, h, other)))
]

-- a request at its issue keeps what stands of the fetch side, with one word more
pub request_keeps : (k : Settings) (reads held : ℕ → ℕ → ℕ) (x : Stream) (q c t : ℕ) (on : Bool) (f : Fetch)
    → FetchAt k reads x q c f → IsSettled x c on → Holds held reads c → f.count < 3 → t ≡ issue k x q
    → FetchAt k reads x (suc q) (t + 1) (request k on held t f)
unfolding request
request_keeps k reads held x q c t on f h z m few e =
    let y = past k x q in
    let a = f.next in
    let more : q < length x.enters + 3 = omega (arith, few, h.held) in
    let low : c ≤ t = omega (arith, e, h.requested.after more) in
    let later : t < answer k x q = omega (arith, e, after_issue k x q) in
    let late : y.answer ≤ t = omega (arith, e, issue_is k x q) in
    let zt = settled_later x c t on low z in
    let mt = holds_later held reads c t low m in
    let g = settled f in
    let p = placed y.fills f.lines f.other_way f.filling h.cache.places in
    let lines : (n : ℕ) → AreRead reads t (g.lines n) = λ n. placed_read reads t f.filling f.lines n
    (read_later reads f.answer t f.filling (omega (arith, h.answer, late)) h.cache.filling)
    (λ n. read_later reads c t (f.lines n) low (h.cache.lines n)) in
    let small : a < 2 ^ 32 = omega (arith, h.next) in
    let even : a % 4 ≡ 0 = omega (arith, h.next) in
    let present = is_present x.fences y.fills (line_of a) t in
    let keeps = is_kept k x.fences y t a in
    let slot = found_slot x.fences y.fills (line_of a) t in
    let cached = on && nat_le (f.starts + 256) t in
    let way = way_for f.starts (line_of a) g.lines g.other_way in
    let line = found f.starts (line_of a) g.lines in
    let mapped = is_mapped k.ram (8 * line_of a) && is_mapped k.ram (8 * line_of a + 4) in
    let alone = word_alone k.plan.iwaits f.port held t a in
    let read = line_read k.plan.iwaits f.port held t (line_of a) way in
    let word = word_by cached line alone read t a in
    let after = request_by cached present keeps slot way k y t a in
    let finds : Finds present (last_fill y.fills slot) line =
    subst (λ s. Finds present (last_fill y.fills slot) (found s (line_of a) g.lines)) (sym h.cache.starts_is)
    (found_is x.fences y.fills t (line_of a) g.lines zt.log p.places) in
    let is = found_read reads t (line_of a) f.starts g.lines lines in
    let same : cached ≡ true → keeps ≡ mapped = λ u. kept_by k x.fences y t a zt.log
    (subst (λ s. s + 256 ≤ t) h.cache.starts_is (cached_late on f.starts t u)) in
    let left : past k x (suc q) ≡ after = past_suc k x q
    ∙ ap₂ (after_request k x.switches x.fences y) (sym e) (sym h.next)
    ∙ decided k x y t a f.starts on g.lines g.other_way zt h.cache.starts_is p in
    let b : Brings reads a after word = brings cached present keeps slot way way line k reads held y t a f.port t mt
    small
    even h.port finds is in
    let right : word.answer ≡ answer k x q = b.answer ∙ ap (λ v. v.answer) (sym left) in
    record {
      requested = record {
        within = omega (arith, more);
        before = λ j l. omega (arith, issue_mono k x j q (omega (arith, l)), e);
        after = λ l. omega (arith, next_issue k x q, later);
      };
      gated = gated_next k x q f.gate more h.gated;
      gate_past = omega (arith, h.gate_past, low);
      held = omega (arith, h.held);
      next = omega (arith, h.next);
      answer = right;
      words = words_more k reads x (length x.enters) q f.words f.count word h.held h.words (record {
        answer = right;
        grant = b.grant ∙ ap (λ v. v.grant) (sym left);
        value = b.value ∙ ap (reads word.grant) h.next;
      });
      port = subst (λ v. IsPlace k.plan.iwaits (port_after k.plan.iwaits f.port (asked cached line)) (made v))
          (sym left)
          (moves cached present keeps slot way line k y t a f.port h.port finds);
      cache = record {
        places = record {
          stored = y.fills;
          split = ap (λ v. v.fills) left ∙ fills_by cached present keeps slot way k y t a
              ∙ ap (λ o. front o y.fills) (sym (flies cached present keeps mapped line (last_fill y.fills slot) read
              (fill_of k y t a way) (read_is k y t a f.port held way h.port) finds same));
          places = p.places;
          other_is = p.other_is;
        };
        starts_is = h.cache.starts_is;
        lines = λ n. read_later reads t (t + 1) (g.lines n) (omega arith) (lines n);
        filling = flight_read cached mapped line reads alone read t a
            (read_words k.plan.iwaits reads held t a f.port way mt small);
      };
      clean = h.clean;
      sound = h.sound;
    }

-- ---- all requests below a bound

-- when no request is made up to a later bound, the same stands there
pub fetch_later : (k : Settings) (reads : ℕ → ℕ → ℕ) (x : Stream) (q c b : ℕ) (f : Fetch) → FetchAt k reads x q c f
    → c ≤ b → (q < length x.enters + 3 → b ≤ issue k x q) → FetchAt k reads x q b f
fetch_later k reads x q c b f h low more = record {
  requested = record {
    within = h.requested.within;
    before = λ j l. omega (arith, h.requested.before j l, low);
    after = more;
  };
  gated = h.gated;
  gate_past = omega (arith, h.gate_past, low);
  held = h.held;
  next = h.next;
  answer = h.answer;
  words = h.words;
  port = h.port;
  cache = record {
    places = h.cache.places;
    starts_is = h.cache.starts_is;
    lines = λ n. read_later reads c b (f.lines n) low (h.cache.lines n);
    filling = h.cache.filling;
  };
  clean = h.clean;
  sound = h.sound;
}

-- the next word is issued then, where fewer than three are held
pub issue_now : (k : Settings) (reads : ℕ → ℕ → ℕ) (x : Stream) (q c : ℕ) (f : Fetch) → FetchAt k reads x q c f
    → q < length x.enters + 3 → issue_of f ≡ issue k x q
issue_now k reads x q c f h more = omega (arith, h.gated.next more, h.answer)

-- a request holds one word more
count_more : (k : Settings) (on : Bool) (held : ℕ → ℕ → ℕ) (t : ℕ) (f : Fetch)
    → (request k on held t f).count ≡ suc f.count
unfolding request
count_more k on held t f = refl

-- So all requests that are issued before a bound keep what the numbers stand for, up to the bound. No word is taken
-- back.
pub record IsFlushed (k : Settings) (reads : ℕ → ℕ → ℕ) (x : Stream) (q b : ℕ) (f : Fetch) : Type 0 where
  pub count : ℕ
  pub more : q ≤ count
  pub fetch : FetchAt k reads x count b f

-- all requests that are issued before a bound keep it, and take no word back
pub flush_keeps : (n : ℕ) (k : Settings) (reads held : ℕ → ℕ → ℕ) (x : Stream) (q c b : ℕ) (on : Bool) (f : Fetch)
    → FetchAt k reads x q c f → IsSettled x c on → Holds held reads c → c ≤ b → 3 ≤ f.count + n
    → IsFlushed k reads x q b (request_below k on held b n f)
unfolding request_below
flush_keeps zero k reads held x q c b on f h z m low most =
    record {
      count = q;
      more = omega arith;
      fetch = fetch_later k reads x q c b f h low (λ more. absurd (omega (arith, more, most, h.held)));
    }
flush_keeps (suc n) k reads held x q c b on f h z m low most =
    by (nat_lt f.count 3 && nat_lt (issue_of f) b) refl
    (λ g late soon count. flush_keeps n k reads held x (suc q) (issue_of f + 1) b on (request k on held
    (issue_of f) f) g
    (settled_later x c (issue_of f + 1) on late z) (holds_later held reads c (issue_of f + 1) late m) soon count)
  where
    over : q < length x.enters + 3 → (nat_lt f.count 3 ≡ false) ⊎ (nat_lt (issue_of f) b ≡ false) → b ≤ issue k x q
    over more (inl u) = absurd (omega (arith, more, ltb-false f.count 3 u, h.held))
    over more (inr u) = omega (arith, ltb-false (issue_of f) b u, issue_now k reads x q c f h more)

    one_more : (g : Fetch) → IsFlushed k reads x (suc q) b g → IsFlushed k reads x q b g
    one_more g r = record { count = r.count; more = omega (arith, r.more); fetch = r.fetch }

    by : (u : Bool) → (nat_lt f.count 3 && nat_lt (issue_of f) b) ≡ u
        → (FetchAt k reads x (suc q) (issue_of f + 1) (request k on held (issue_of f) f) → c ≤ issue_of f + 1
        → issue_of f + 1 ≤ b → 3 ≤ (request k on held (issue_of f) f).count + n
        → IsFlushed k reads x (suc q) b (request_below k on held b n (request k on held (issue_of f) f)))
        → IsFlushed k reads x q b
        (if u then request_below k on held b n (request k on held (issue_of f) f) else f)
    by true e rest =
        let parts = and_parts (nat_lt f.count 3) (nat_lt (issue_of f) b) e in
        let few : f.count < 3 = ltb-true f.count 3 parts.0 in
        let soon : issue_of f < b = ltb-true (issue_of f) b parts.1 in
        let more : q < length x.enters + 3 = omega (arith, few, h.held) in
        let now = issue_now k reads x q c f h more in
        one_more (request_below k on held b n (request k on held (issue_of f) f))
        (rest (request_keeps k reads held x q c (issue_of f) on f h z m few now)
        (omega (arith, now, h.requested.after more)) (omega (arith, soon))
        (omega (arith, count_more k on held (issue_of f) f, most)))
    by false e rest = record {
      count = q;
      more = omega arith;
      fetch = fetch_later k reads x q c b f h low
          (λ more. over more (and_cases (nat_lt f.count 3) (nat_lt (issue_of f) b) e));
    }

-- where all requests before a bound are made, none is left
pub request_none : (n : ℕ) (k : Settings) (reads held : ℕ → ℕ → ℕ) (x : Stream) (q c b : ℕ) (on : Bool) (f : Fetch)
    → FetchAt k reads x q c f → b ≤ c → request_below k on held b n f ≡ f
unfolding request_below
request_none zero k reads held x q c b on f h past = refl
request_none (suc n) k reads held x q c b on f h past = by (nat_lt f.count 3) (nat_lt (issue_of f) b) refl refl
  where
    by : (u v : Bool) → nat_lt f.count 3 ≡ u → nat_lt (issue_of f) b ≡ v
        → (if u && v then request_below k on held b n (request k on held (issue_of f) f) else f) ≡ f
    by false v e d = refl
    by true false e d = refl
    by true true e d =
        let more : q < length x.enters + 3 = omega (arith, ltb-true f.count 3 e, h.held) in
        absurd (omega (
          arith,
          past,
          ltb-true (issue_of f) b d,
          issue_now k reads x q c f h more,
          h.requested.after more,
        ))
