-- An event on the fetch side: its switch, and its FENCE.I.
use Rattle.std.proofs.Common.{◌≡◌, ℕ, zero, suc, ◌+◌, ◌*◌, ◌/◌, ◌%◌, ◌^◌, ◌<◌, ◌≤◌, Bool, true, false, not, ◌&&◌, ◌||◌}
use Rattle.std.proofs.Common.{List, ◌∷◌, length, drop, if◌then◌else◌, Some, None, Option, sym, refl, ap, ◌∙◌, subst}
use Rattle.std.proofs.Common.{ap₂, inl, inr, arith, add-zero}
use Rattle.std.proofs.lemmas.Bool.{cases_eq, lt-ltb, le-ltb, lt-leb}
use Rattle.ibx_time.specs.Requests.{line_of, Fill, Past, Switch, after_request, enabled_at, fill_of, last_fill, made}
use Rattle.ibx_time.specs.Requests.{none_between, second_answer, stored_if}
use Rattle.ibx_time.specs.Streams.{word_addr, Stream, gate, last_of, past}
use Rattle.ibx_time_invariant.proofs.Links.{idle, Cached, IsSent, Link, Missed, Origin, Work, bare_asks, bare_waits, filled}
use Rattle.ibx_time_invariant.proofs.Links.{first_asks, first_waits, last, looks, pending, second_asks, second_waits}
use Rattle.ibx_bus.proofs.Ports.{Idle}
use Rattle.ibx_icache.specs.WordPort.{marked}
use Rattle.ibx_icache.specs.Doing.{doing_of, is_rest}
use Rattle.ibx_icache.specs.declared.port.WordPort.{WordPort}
use Rattle.ibx_icache.specs.declared.doing.Doing.{Doing}
use Rattle.ibx_time_invariant.proofs.Fetches.{Count, FetchAt, Holds, coming, dropped, entry_in, rest, word_entry}
use Rattle.ibx_time_invariant.proofs.Caches.{EnableAt, EnableMid, WalkAt, restarts, tag_of, walks}
use Rattle.ibx_time_invariant.proofs.Words.{WordsAt, WordsMid}
use Rattle.ibx_time_invariant.proofs.FetchSide.{FetchMarks}
use Rattle.ibx_time_invariant.proofs.Turns.{link_still, old_more, recent_more}
use Rattle.ibx_bus.specs.Port.{PortState}
use Rattle.ibx_time.specs.Settings.{Settings, Setup, settings_of}
use Rattle.ibx_time.specs.Controls.{enables_cache}
use Rattle.ibx_time.specs.Times.{fenced_if}
use Rattle.ibx_time.specs.Memories.{Write}
use Rattle.ibx_time.proofs.Times.{IsPast, IsRequested, IsSound, answer_mono, issue_is, next_issue}
use Rattle.ibx_time.proofs.Fences.{between_unseen, cached_switched, cached_unseen, fenced, issue_switched}
use Rattle.ibx_time.proofs.Fences.{issue_unseen, last_unseen, past_switched, past_unseen, present_unseen}
use Rattle.ibx_time.proofs.Fences.{request_switched, requested_switched, requested_unseen, switched_by, victim_unseen}
use Rattle.ibx_prefetch.specs.declared.buffer.Prefetch.{Prefetch}
use Rattle.ibx_secded.specs.Code.{encode_of}
use Rattle.ibx_arch.specs.Memory.{is_mapped}

-- ---- words that are held have answered

-- words that are held were requested, and answered before this cycle
held_low : (q m count i : ℕ) (busy drop : Bool) → Count q m busy drop count → i < count → suc (m + i) ≤ q
held_low q m count i busy drop (rest b d e) h = omega (arith, e)
held_low q m count i busy drop (coming b d e) h = omega (arith, e)
held_low q m count i busy drop (dropped b d e n z) h = absurd (omega (arith, n))

-- where no word is outstanding the last one that was requested has answered
link_done : (s : Setup) (log : List Write) (x : Stream) (q c e : ℕ) (busy : Bool) (w : WordPort) (p : PortState)
    (tags lines : List ℕ) → busy ≡ false → (c ≡ 0 → (past (settings_of s) x q).answer ≡ 0)
    → Link s log x q c e busy w p tags lines → (past (settings_of s) x q).answer ≤ c
link_done s log x q c e busy w p tags lines still begin (idle b d i k z) =
    elim (cases_eq c 0) [
      | inl zero_ ↦ omega (arith, zero_, begin zero_)
      | inr some ↦ omega (arith, z (omega arith))
    ]
link_done s log x q c e busy w p tags lines still begin (pending y t a work) =
    let no_ : true ≡ false = sym a.is_busy ∙ still in cc

-- answers come in order
past_mono : (k : Settings) (x : Stream) (i q : ℕ) → suc i ≤ q → (past k x (suc i)).answer ≤ (past k x q).answer
past_mono k x i zero h = absurd (omega arith)
past_mono k x i (suc q) h = answer_mono k x i q (omega arith)

-- so each word in the buffer has answered
there : (s : Setup) (log : List Write) (x : Stream) (half q c : ℕ) (enable : Bool) (f : Prefetch) (w : WordPort)
    (p : PortState) (tags lines : List ℕ) (i : ℕ) → WordsAt s log x half q c enable f w p tags lines
    → Count q (length x.enters) f.f_busy f.f_drop f.buf_count → i < f.buf_count
    → (past (settings_of s) x (suc (length x.enters + i))).answer ≤ c
there s log x half q c enable f w p tags lines i v (rest b d e) h =
    omega (
      arith,
      past_mono (settings_of s) x (length x.enters + i) q (omega (arith, e)),
      link_done s log x q c c f.f_busy w p tags lines b v.begin v.link,
    )
there s log x half q c enable f w p tags lines i v (coming b d e) h =
    omega (
      arith,
      next_issue (settings_of s) x (length x.enters + i),
      v.requested.before (suc (length x.enters + i)) (omega (arith, e)),
    )
there s log x half q c enable f w p tags lines i v (dropped b d e n z) h = absurd (omega (arith, n))

-- the buffer holds the words of any stream with the same past
holds_same : (s : Setup) (log : List Write) (x z : Stream) (b : ℕ) (f : Prefetch) → z.base ≡ x.base
    → ((i : ℕ) → i < f.buf_count → past (settings_of s) z (suc (b + i)) ≡ past (settings_of s) x (suc (b + i)))
    → Holds s log x b f → Holds s log z b f
holds_same s log x z b f base same v =
    let entry : (j : ℕ) → past (settings_of s) z (suc j) ≡ past (settings_of s) x (suc j)
    → word_entry s log x j ≡ word_entry s log z j =
    λ j e. ap₂ (λ (y : Past) n. entry_in s log y.grant (4 * ((n + j) % 2 ^ 30))) (sym e) (sym base) in
    record {
      word0 = λ h. v.word0 h ∙ entry b
          (subst (λ j. past (settings_of s) z (suc j) ≡ past (settings_of s) x (suc j)) (add-zero b) (same 0 h));
      word1 = λ h. v.word1 h ∙ entry (b + 1) (same 1 h);
      word2 = λ h. v.word2 h ∙ entry (b + 2) (same 2 h);
      none0 = v.none0;
      none1 = v.none1;
      none2 = v.none2;
    }

-- ---- a switch in cycle c

-- a switch changes no request before it: its work, the last address, where it came from, and the link
work_switched : (s : Setup) (log : List Write) (ss : List Switch) (v : Switch) (fs : List ℕ) (y : Past) (t a c e : ℕ)
    (w : WordPort) (p : PortState) (tags lines : List ℕ) → t ≤ v.time
    → Work s log ss fs y t a c e w p tags lines → Work s log (v ∷ ss) fs y t a c e w p tags lines
work_switched s log ss v fs y t a c e w p tags lines h (bare_asks b d i k) =
    bare_asks (cached_switched (settings_of s) ss fs v t h ∙ b) d i k
work_switched s log ss v fs y t a c e w p tags lines h (bare_waits b d i k) =
    bare_waits (cached_switched (settings_of s) ss fs v t h ∙ b) d i k
work_switched s log ss v fs y t a c e w p tags lines h (looks b n d x i k) =
    looks (cached_switched (settings_of s) ss fs v t h ∙ b) n d x i k
work_switched s log ss v fs y t a c e w p tags lines h (first_asks b m d i k) =
    first_asks (cached_switched (settings_of s) ss fs v t h ∙ b) m d i k
work_switched s log ss v fs y t a c e w p tags lines h (first_waits b m d i k) =
    first_waits (cached_switched (settings_of s) ss fs v t h ∙ b) m d i k
work_switched s log ss v fs y t a c e w p tags lines h (second_asks b m d x i k) =
    second_asks (cached_switched (settings_of s) ss fs v t h ∙ b) m d x i k
work_switched s log ss v fs y t a c e w p tags lines h (second_waits b m d x i k) =
    second_waits (cached_switched (settings_of s) ss fs v t h ∙ b) m d x i k
work_switched s log ss v fs y t a c e w p tags lines h (last b m d x u z i k) =
    last (cached_switched (settings_of s) ss fs v t h ∙ b) m d x u z i k

-- a switch leaves the address of the last request
last_switched : (x : Stream) (v : Switch) (q : ℕ) → last_of (switched_by x v) q ≡ last_of x q
unfolding last_of
last_switched x v zero = refl
last_switched x v (suc j) = refl

-- the last request came in the same cycle, after the same past, with the switch as without
origin_switched : (k : Settings) (x : Stream) (c q : ℕ) (v : Switch) → IsRequested k x c q → c ≤ v.time → (n : ℕ)
    → n ≤ q → (y : Past) (t : ℕ) → Origin k x n y t → Origin k (switched_by x v) n y t
origin_switched k x c q v r late zero low y t o = tt
origin_switched k x c q v r late (suc j) low y t o = (
  o.0 ∙ sym (past_switched k x c q v r late j (omega arith)),
  o.1 ∙ sym (issue_switched k x c q v r late j (omega arith)),
)

-- so the last word request stands in the stream with the switch as in the one without
link_switched : (s : Setup) (log : List Write) (x : Stream) (q c e : ℕ) (busy : Bool) (w : WordPort) (p : PortState)
    (tags lines : List ℕ) (v : Switch) → IsRequested (settings_of s) x c q → c ≤ v.time
    → Link s log x q c e busy w p tags lines → Link s log (switched_by x v) q c e busy w p tags lines
link_switched s log x q c e busy w p tags lines v r late (idle b d i k z) =
    let same : past (settings_of s) x q ≡ past (settings_of s) (switched_by x v) q =
    sym (past_switched (settings_of s) x c q v r late q (omega arith)) in
    idle b d (subst (λ (y : Past). Idle s.plan.iwaits (made y) p) same i)
    (subst (λ (y : Past). Cached s log x.fences y.fills c e w tags lines) same k)
    (λ h. subst (λ (y : Past). y.answer < c) same (z h))
link_switched s log x q c e busy w p tags lines v r late (pending y t a work) =
    pending y t (record {
      origin = origin_switched (settings_of s) x c q v r late q (omega arith) y t a.origin;
      left = past_switched (settings_of s) x c q v r late q (omega arith) ∙ a.left
          ∙ sym (ap (λ n. after_request (settings_of s) (v ∷ x.switches) x.fences y t n) (last_switched x v q)
          ∙ request_switched (settings_of s) x.switches x.fences y v t (last_of x q) (omega (arith, a.early)));
      order = a.order;
      sent = a.sent;
      early = a.early;
      is_busy = a.is_busy;
      addr = a.addr ∙ sym (last_switched x v q);
      aligned = ap (λ n. n % 4) (last_switched x v q) ∙ a.aligned;
      low = subst (λ n. n < 2 ^ 32) (sym (last_switched x v q)) a.low;
    }) (subst (λ n. Work s log (v ∷ x.switches) x.fences y t n c e w p tags lines) (sym (last_switched x v q))
    (work_switched s log x.switches v x.fences y t (last_of x q) c e w p tags lines (omega (arith, a.early)) work))

-- what holds before the cycle, but for the bit that enables the cache
record Base (s : Setup) (log : List Write) (x : Stream) (half q c : ℕ) (f : Prefetch) (w : WordPort) (p : PortState)
    (tags lines : List ℕ) : Type 0 where
  fetch : FetchAt s log x half q f
  link : Link s log x q c c f.f_busy w p tags lines
  requested : IsRequested (settings_of s) x c q
  gates : IsPast x c
  begin : c ≡ 0 → (past (settings_of s) x q).answer ≡ 0
  walk : WalkAt x.fences c w.c_walk
  sound : IsSound x.before
  sent : IsSent x.before
  held : (i : ℕ) → i < f.buf_count → (past (settings_of s) x (suc (length x.enters + i))).answer ≤ c

-- FENCE.I and switches hold back no word
gate_same : (x : Stream) (fs : List ℕ) (ss : List Switch) (q : ℕ)
    → gate (record x { fences = fs; switches = ss }) q ≡ gate x q
unfolding gate
gate_same x fs ss q = refl

-- the words with the switch, but for the bit
switched_base : (s : Setup) (log : List Write) (x : Stream) (half q c : ℕ) (enable : Bool) (f : Prefetch)
    (w : WordPort) (p : PortState) (tags lines : List ℕ) (v : Switch) → c ≤ v.time
    → WordsAt s log x half q c enable f w p tags lines → Base s log (switched_by x v) half q c f w p tags lines
switched_base s log x half q c enable f w p tags lines v late u =
    let k : Settings = settings_of s in
    let z : Stream = switched_by x v in
    let same : (j : ℕ) → j ≤ q → past k z j ≡ past k x j = past_switched k x c q v u.requested late in
    let low : (i : ℕ) → i < f.buf_count → suc (length x.enters + i) ≤ q =
    λ i h. held_low q (length x.enters) f.buf_count i f.f_busy f.f_drop u.fetch.count h in
    record {
      fetch = record {
        head = u.fetch.head;
        half_low = u.fetch.half_low;
        addr = u.fetch.addr ∙ sym (last_switched x v q);
        fresh = u.fetch.fresh;
        count = u.fetch.count;
        holds = holds_same s log x z (length x.enters) f refl (λ i h. same (suc (length x.enters + i)) (low i h))
            u.fetch.holds;
      };
      link = link_switched s log x q c c f.f_busy w p tags lines v u.requested late u.link;
      requested = requested_switched k x c q v u.requested late;
      gates = λ n h. omega (arith, gate_same x x.fences (v ∷ x.switches) n, u.gates n h);
      begin = λ e. ap (λ (y : Past). y.answer) (same q (omega arith)) ∙ u.begin e;
      walk = u.walk;
      sound = u.sound;
      sent = u.sent;
      held = λ i h. omega (
        arith,
        ap (λ (y : Past). y.answer) (same (suc (length x.enters + i)) (low i h)),
        there s log x half q c enable f w p tags lines i u u.fetch.count h,
      );
    }

-- ---- a FENCE.I in cycle c

-- a FENCE.I in this cycle changes no tag before the walk comes to it, so the cache is as before
tag_fenced : (fs : List ℕ) (c : ℕ) (o : Option Fill) → tag_of (c ∷ fs) c o ≡ tag_of fs c o
tag_fenced fs c None = refl
tag_fenced fs c (Some x) =
    ap (λ b. if b then 2 ^ 21 + x.line / 256 else 0) (between_unseen fs c x.time c (omega arith))

-- so the cache's words are those of the log with this FENCE.I, until the walk begins anew
fenced_cached : (s : Setup) (log : List Write) (fs : List ℕ) (fills : List Fill) (c : ℕ) (w : WordPort)
    (tags lines : List ℕ) → Cached s log fs fills c c w tags lines → Cached s log (c ∷ fs) fills c (c + 1) w tags lines
fenced_cached s log fs fills c w tags lines k =
    record {
      tag_count = k.tag_count;
      line_count = k.line_count;
      tag_codes = k.tag_codes;
      line_codes = k.line_codes;
      tag = λ n h low. k.tag n h low ∙ sym (ap (encode_of 22 6) (tag_fenced fs c (last_fill fills n)));
      word0 = k.word0;
      word1 = k.word1;
      quiet = λ h n. tag_fenced fs c (last_fill fills n) ∙ k.quiet h n;
      old = old_more fills c k.old;
      mapped = k.mapped;
      alt_is = k.alt_is;
    }

-- the line of a request that is outstanding is kept from being stored, by the history and by the mark
pub broken : (fs : List ℕ) (t c : ℕ) → t ≤ c → none_between (c ∷ fs) t (c + 1) ≡ false
unfolding none_between
broken fs t c h = rw (le-ltb c t h, lt-leb (c + 1) c (omega arith)) refl

-- the mark of a port that is at work says that a FENCE.I came since its request
nostore_fenced : (fs : List ℕ) (t c : ℕ) (g : Doing) (n : Bool) → t ≤ c → is_rest g ≡ false
    → (not (is_rest g) && (n || true)) ≡ not (none_between (c ∷ fs) t (c + 1))
nostore_fenced fs t c g n h r = by (is_rest g) n r ∙ sym (ap not (broken fs t c h))
  where
    by : (b n : Bool) → b ≡ false → (not b && (n || true)) ≡ true
    by true n e = let no_ : true ≡ false = e in cc
    by false true e = refl
    by false false e = refl

-- so a miss that a FENCE.I finds outstanding won't be stored
missed_fenced : (k : Settings) (fs : List ℕ) (y : Past) (t a c e : ℕ) (w : WordPort) → t < c
    → is_rest (doing_of w.c_state) ≡ false → Missed fs y t a e w → Missed (c ∷ fs) y t a (c + 1) (marked true w)
missed_fenced k fs y t a c e w h r m =
    record {
      absent = present_unseen k fs y.fills c t (line_of a) h ∙ m.absent;
      way = m.way ∙ sym (victim_unseen k fs y.fills c t (line_of a) h);
      nostore = nostore_fenced fs t c (doing_of w.c_state) w.c_nostore (omega arith) r;
    }

-- a line that was stored before stays stored
filled_fenced : (k : Settings) (fs : List ℕ) (y : Past) (t a c : ℕ) → t < c → second_answer k y t + 1 ≡ c
    → filled k (c ∷ fs) y t a ≡ filled k fs y t a
filled_fenced k fs y t a c h at =
    ap₂ (λ b v. stored_if b (fill_of k y t a v) y.fills)
    (ap (λ b. b && (is_mapped k.ram (8 * line_of a) && is_mapped k.ram (8 * line_of a + 4)))
    (between_unseen fs c t (second_answer k y t + 1) (omega (arith, at))))
    (victim_unseen k fs y.fills c t (line_of a) h)

-- so the outstanding request is that of the stream with the FENCE.I, and the words in the buffer too
work_fenced : (s : Setup) (log : List Write) (ss : List Switch) (fs : List ℕ) (y : Past) (t a c : ℕ) (w : WordPort)
    (p : PortState) (tags lines : List ℕ) → t < c
    → Work s log ss fs y t a c c w p tags lines → Work s log ss (c ∷ fs) y t a c (c + 1) (marked true w) p tags lines
work_fenced s log ss fs y t a c w p tags lines h (bare_asks b d i k) =
    bare_asks (cached_unseen (settings_of s) ss fs c t h ∙ b) d i (fenced_cached s log fs y.fills c w tags lines k)
work_fenced s log ss fs y t a c w p tags lines h (bare_waits b d i k) =
    bare_waits (cached_unseen (settings_of s) ss fs c t h ∙ b) d i (fenced_cached s log fs y.fills c w tags lines k)
work_fenced s log ss fs y t a c w p tags lines h (looks b n d x i k) =
    looks (cached_unseen (settings_of s) ss fs c t h ∙ b)
    (nostore_fenced fs t c (doing_of w.c_state) w.c_nostore (omega arith) (ap is_rest d)) d x i
    (fenced_cached s log fs y.fills c w tags lines k)
work_fenced s log ss fs y t a c w p tags lines h (first_asks b m d i k) =
    first_asks (cached_unseen (settings_of s) ss fs c t h ∙ b)
    (missed_fenced (settings_of s) fs y t a c c w h (ap is_rest d) m) d i
    (fenced_cached s log fs y.fills c w tags lines k)
work_fenced s log ss fs y t a c w p tags lines h (first_waits b m d i k) =
    first_waits (cached_unseen (settings_of s) ss fs c t h ∙ b)
    (missed_fenced (settings_of s) fs y t a c c w h (ap is_rest d) m) d i
    (fenced_cached s log fs y.fills c w tags lines k)
work_fenced s log ss fs y t a c w p tags lines h (second_asks b m d x i k) =
    second_asks (cached_unseen (settings_of s) ss fs c t h ∙ b)
    (missed_fenced (settings_of s) fs y t a c c w h (ap is_rest d) m) d x i
    (fenced_cached s log fs y.fills c w tags lines k)
work_fenced s log ss fs y t a c w p tags lines h (second_waits b m d x i k) =
    second_waits (cached_unseen (settings_of s) ss fs c t h ∙ b)
    (missed_fenced (settings_of s) fs y t a c c w h (ap is_rest d) m) d x i
    (fenced_cached s log fs y.fills c w tags lines k)
work_fenced s log ss fs y t a c w p tags lines h (last b m d x u z i k) =
    last (cached_unseen (settings_of s) ss fs c t h ∙ b)
    (present_unseen (settings_of s) fs y.fills c t (line_of a) h ∙ m) d x u z i
    (subst (λ l. Cached s log (c ∷ fs) l c (c + 1) w tags lines) (sym (filled_fenced (settings_of s) fs y t a c h z))
    (fenced_cached s log fs (filled (settings_of s) fs y t a) c w tags lines k))

-- the last word request stands in the stream with the FENCE.I, outstanding or not
link_fenced : (s : Setup) (log : List Write) (x : Stream) (j c : ℕ) (busy : Bool) (w : WordPort) (p : PortState)
    (tags lines : List ℕ) → IsRequested (settings_of s) x c (suc j)
    → Link s log x (suc j) c c busy w p tags lines
    → Link s log (fenced x c) (suc j) c (c + 1) busy (marked true w) p tags lines
unfolding last_of
link_fenced s log x j c busy w p tags lines r (idle b d i k z) =
    let some : 0 < c = omega (arith, r.before j (omega arith)) in
    let same : past (settings_of s) x (suc j) ≡ past (settings_of s) (fenced x c) (suc j) =
    sym (past_unseen (settings_of s) x c (suc j) r (suc j) (omega arith) (omega (arith, z some))) in
    idle b d (subst (λ (y : Past). Idle s.plan.iwaits (made y) p) same i)
    (subst (λ (y : Past). Cached s log (c ∷ x.fences) y.fills c (c + 1) w tags lines) same
    (fenced_cached s log x.fences (past (settings_of s) x (suc j)).fills c w tags lines k))
    (λ h. subst (λ (y : Past). y.answer < c) same (z h))
link_fenced s log x j c busy w p tags lines r (pending y t a work) =
    let k : Settings = settings_of s in
    let old : past k (fenced x c) j ≡ past k x j =
    past_unseen k x c (suc j) r j (omega arith) (omega (arith, issue_is k x j, r.before j (omega arith))) in
    pending y t (record {
      origin = (a.origin.0 ∙ sym old, a.origin.1 ∙ sym (issue_unseen k x c (suc j) r j (omega arith)));
      left = last_unseen k x c (suc j) j r refl
          ∙ sym (ap₂ (λ u n. after_request k x.switches (c ∷ x.fences) u n (word_addr x j)) a.origin.0 a.origin.1);
      order = a.order;
      sent = a.sent;
      early = a.early;
      is_busy = a.is_busy;
      addr = a.addr;
      aligned = a.aligned;
      low = a.low;
    }) (work_fenced s log x.switches x.fences y t (word_addr x j) c w p tags lines a.early work)

-- a FENCE.I changes none of the words that the buffer holds
fenced_fetch : (s : Setup) (log : List Write) (x : Stream) (half j c : ℕ) (f : Prefetch)
    → IsRequested (settings_of s) x c (suc j)
    → ((i : ℕ) → i < f.buf_count → (past (settings_of s) x (suc (length x.enters + i))).answer ≤ c)
    → FetchAt s log x half (suc j) f → FetchAt s log (fenced x c) half (suc j) f
unfolding last_of
fenced_fetch s log x half j c f r old u =
    record {
      head = u.head;
      half_low = u.half_low;
      addr = u.addr;
      fresh = u.fresh;
      count = u.count;
      holds = holds_same s log x (fenced x c) (length x.enters) f refl
          (λ i h. past_unseen (settings_of s) x c (suc j) r (suc (length x.enters + i))
          (held_low (suc j) (length x.enters) f.buf_count i f.f_busy f.f_drop u.count h) (old i h)) u.holds;
    }

-- ---- both

-- an event's FENCE.I, if it is one
marks_by : (s : Setup) (log : List Write) (x : Stream) (half q c : ℕ) (fence enable next : Bool) (f : Prefetch)
    (w : WordPort) (p : PortState) (tags lines : List ℕ) → Base s log x half q c f w p tags lines
    → EnableMid x.switches c enable next → (fence ≡ true → 0 < q)
    → WordsMid s log (record x { fences = fenced_if fence c x.fences }) half q c fence enable next f w p tags lines
marks_by s log x half q c false enable next f w p tags lines u e some =
    record {
      fetch = u.fetch;
      link = link_still s log x q c f.f_busy w p tags lines u.walk.log u.link;
      requested = u.requested;
      gates = u.gates;
      begin = u.begin;
      walk = walks refl u.walk;
      enabled = e;
      sound = u.sound;
      sent = u.sent;
    }
marks_by s log x half zero c true enable next f w p tags lines u e some = absurd (omega (arith, some refl))
marks_by s log x half (suc j) c true enable next f w p tags lines u e some =
    record {
      fetch = fenced_fetch s log x half j c f u.requested u.held u.fetch;
      link = link_fenced s log x j c f.f_busy w p tags lines u.requested u.link;
      requested = requested_unseen (settings_of s) x c (suc j) u.requested;
      gates = λ n h. omega (arith, gate_same x (c ∷ x.fences) x.switches n, u.gates n h);
      begin = λ z. absurd (omega (arith, z, u.requested.before j (omega arith)));
      walk = restarts x.fences refl refl u.walk;
      enabled = e;
      sound = u.sound;
      sent = u.sent;
    }

-- an event's switch of the cache
switch_mid : (ss : List Switch) (c : ℕ) (enable bit : Bool) → EnableAt ss c enable
    → EnableMid (record { time = c; on = bit } ∷ ss) c enable bit
unfolding enabled_at
switch_mid ss c enable bit e =
    record {
      enabled = e.enabled ∙ sym (rw (le-ltb c c (omega arith)) refl);
      follows = sym (rw (lt-ltb c (c + 1) (omega arith)) refl);
      recent = (omega arith, recent_more ss c e.recent);
    }

-- so the words are those of the stream with both marks
pub fetch_marks : (s : Setup) → FetchMarks s
fetch_marks s log x half q c enable fences ctl f w p tags lines u some =
    let v : Switch = record { time = c; on = enables_cache ctl } in
    marks_by s log (switched_by x v) half q c fences enable (enables_cache ctl) f w p tags lines
    (switched_base s log x half q c enable f w p tags lines v (omega arith) u)
    (switch_mid x.switches c enable (enables_cache ctl) u.enabled) some
