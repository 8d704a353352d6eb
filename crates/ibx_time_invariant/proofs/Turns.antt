-- A redirect, and a cycle without an event, on the fetch side.
use Rattle.std.proofs.Common.{◌≡◌, ℕ, zero, suc, ◌+◌, ◌*◌, ◌/◌, ◌%◌, ◌^◌, ◌<◌, ◌≤◌, Bool, true, false, not, ◌&&◌, ◌||◌}
use Rattle.std.proofs.Common.{List, [], ◌∷◌, Some, sym, refl, ap, ◌∙◌, subst, arith}
use Rattle.std.proofs.lemmas.Bool.{lt-ltb}
use Rattle.ibx_icache.specs.WordPort.{marked}
use Rattle.ibx_icache.specs.Doing.{doing_of, is_rest}
use Rattle.ibx_icache.specs.declared.port.WordPort.{WordPort}
use Rattle.ibx_icache.specs.declared.doing.Doing.{Doing}
use Rattle.std.proofs.lemmas.Nat.{mod_below}
use Rattle.std.proofs.Math.Nat.{mod-eq_of_lt}
use Rattle.ibx_time_invariant.proofs.Links.{idle, AreGranted, Cached, IsSent, Link, Missed, Work, bare_asks, bare_waits}
use Rattle.ibx_time_invariant.proofs.Links.{filled, first_asks, first_waits, last, looks, pending, second_asks, second_waits}
use Rattle.ibx_time_invariant.proofs.Fetches.{Count, dropped, rest}
use Rattle.ibx_time_invariant.proofs.Caches.{IsLog, IsOld, IsRecent, walks}
use Rattle.ibx_time.proofs.Walks.{between_more}
use Rattle.ibx_time_invariant.proofs.Words.{WordsMid}
use Rattle.ibx_time_invariant.proofs.FetchSide.{FetchRests, FetchTurns}
use Rattle.ibx_time_invariant.proofs.Runs.{before}
use Rattle.ibx_bus.specs.Port.{PortState}
use Rattle.ibx_bus.specs.PortTimes.{answer_time, grant_time}
use Rattle.ibx_time.specs.Settings.{Settings, Setup, settings_of}
use Rattle.ibx_time.specs.Requests.{Fill, Past, Switch, Transaction, enabled_at, found_slot, is_cached, is_kept}
use Rattle.ibx_time.specs.Requests.{is_present, line_of, made, none_between, request_by, second_answer, victim}
use Rattle.ibx_time.specs.Streams.{Stream, gate, issue, last_of, past, redirected, word_addr}
use Rattle.ibx_time.specs.Memories.{Write}
use Rattle.ibx_time.proofs.Times.{IsPast, issue_is, past_sound, past_suc, requested_is}
use Rattle.ibx_prefetch.specs.declared.buffer.Prefetch.{Prefetch}
use Rattle.ibx_prefetch.specs.Buffer.{turned}

-- ---- transactions are granted before the last answer

-- those before one cycle are before a later one, and a request adds its own
pub granted_later : (sent : List Transaction) (c d : ℕ) → c ≤ d → AreGranted sent c → AreGranted sent d
granted_later [] c d h g = tt
granted_later (x ∷ sent) c d h g = (omega (arith, g.0), granted_later sent c d h g.1)

-- a request's transactions, and those before it, are granted before it answers
request_sent : (k : Settings) (y : Past) (t a : ℕ) (b n m : Bool) (slot : ℕ) (way : Bool) → y.answer ≤ t → IsSent y
    → IsSent (request_by b n m slot way k y t a)
unfolding request_by answer_time grant_time
request_sent k y t a false n m slot way h g =
    (omega arith, granted_later y.sent y.answer (answer_time k.plan.iwaits (made y) t) (omega arith) g)
request_sent k y t a true true m slot way h g = granted_later y.sent y.answer (t + 1) (omega arith) g
request_sent k y t a true false m slot way h g =
    (omega arith, (omega arith, granted_later y.sent y.answer (second_answer k y t + 1) (omega arith) g))

-- so one word more keeps every grant before the last answer
sent_by : (k : Settings) (x : Stream) (j : ℕ) → IsSent (past k x j) → IsSent (past k x (suc j))
sent_by k x j g =
    let t : ℕ = issue k x j in
    let y : Past = past k x j in
    let a : ℕ = word_addr x j in
    subst IsSent (sym (past_suc k x j))
    (request_sent k y t a (is_cached x.switches x.fences t) (is_present x.fences y.fills (line_of a) t)
    (is_kept k x.fences y t a) (found_slot x.fences y.fills (line_of a) t)
    (victim x.fences y.fills (line_of a) t) (omega (arith, issue_is k x j)) g)

-- so all transactions of a stream's words are granted before the last of these has answered
pub past_sent : (k : Settings) (x : Stream) (j : ℕ) → IsSent x.before → IsSent (past k x j)
unfolding past
past_sent k x zero g = g
past_sent k x (suc j) g = sent_by k x j (past_sent k x j g)

-- ---- a redirect

-- the stream after a redirect
abbrev restarting : Settings → Stream → ℕ → ℕ → ℕ → Stream
restarting k x q c target = record {
  start = c;
  base = target / 4;
  before = past k x q;
  last = last_of x q;
  enters = [];
  fences = x.fences;
  switches = x.switches;
}

-- no word is held or taken, and none holds back the first
none_left : (b : Bool) → Count 0 0 b b 0
none_left true = dropped refl refl refl refl refl
none_left false = rest refl refl refl

-- what holds back the first words of a new stream is no later than the redirect
fresh_past : (c base end_ : ℕ) (before : Past) (fs : List ℕ) (ss : List Switch)
    → IsPast (record { start = c; base = base; before = before; last = end_; enters = []; fences = fs; switches = ss })
    c
unfolding gate
fresh_past c base end_ before fs ss zero h = omega arith
fresh_past c base end_ before fs ss (suc zero) h = omega arith
fresh_past c base end_ before fs ss (suc (suc zero)) h = omega arith
fresh_past c base end_ before fs ss (suc (suc (suc i))) h = absurd (omega arith)

-- the first word is requested at the redirect or later
first_gate : (k : Settings) (x : Stream) → x.start ≤ issue k x 0
unfolding gate
first_gate k x = omega (arith, issue_is k x 0)

-- the outstanding request is now one from before the redirect
relinked : (s : Setup) (log : List Write) (x : Stream) (q c e target : ℕ) (busy : Bool) (w : WordPort) (p : PortState)
    (tags lines : List ℕ)
    → Link s log x q c e busy w p tags lines
    → Link s log (restarting (settings_of s) x q c target) 0 c e busy w p tags lines
unfolding past last_of
relinked s log x q c e target busy w p tags lines (idle b d i k z) = idle b d i k z
relinked s log x q c e target busy w p tags lines (pending y t a work) =
    pending y t (record {
      origin = tt;
      left = a.left;
      order = a.order;
      sent = a.sent;
      early = a.early;
      is_busy = a.is_busy;
      addr = a.addr;
      aligned = a.aligned;
      low = a.low;
    }) work

-- the target by its word and half
half_is : (a : ℕ) → a % 2 ≡ 0 → a < 2 ^ 32 → a ≡ (4 * (a / 4 + 0) + 2 * (a / 2 % 2)) % 2 ^ 32
half_is a even low =
    let same : 4 * (a / 4 + 0) + 2 * (a / 2 % 2) ≡ a = omega (arith, even) in
    sym (ap (λ x. x % 2 ^ 32) same ∙ mod-eq_of_lt low)

-- so the words are those of the new stream, for every redirect
restarted : (s : Setup) (log : List Write) (x : Stream) (half q c target : ℕ) (fence enable next : Bool) (f : Prefetch)
    (w : WordPort) (p : PortState) (tags lines : List ℕ)
    → WordsMid s log x half q c fence enable next f w p tags lines → target % 2 ≡ 0 → target < 2 ^ 32
    → WordsMid s log (restarting (settings_of s) x q c target) (target / 2 % 2) 0 c fence enable next
    (turned (Some target) f) w p tags lines
unfolding turned past last_of
restarted s log x half q c target fence enable next f w p tags lines v even low =
    record {
      fetch = record {
        head = half_is target even low;
        half_low = mod_below (target / 2) 2 (omega arith);
        addr = v.fetch.addr;
        fresh = refl;
        count = none_left f.f_busy;
        holds = record {
          word0 = λ h. absurd (omega arith);
          word1 = λ h. absurd (omega arith);
          word2 = λ h. absurd (omega arith);
          none0 = λ _. refl;
          none1 = λ _. refl;
          none2 = λ _. refl;
        };
      };
      link = relinked s log x q c (c + 1) target f.f_busy (marked fence w) p tags lines v.link;
      requested = record {
        within = omega arith;
        before = λ j h. absurd (omega arith);
        after = λ _. omega (arith, first_gate (settings_of s) (restarting (settings_of s) x q c target));
      };
      gates = fresh_past c (target / 4) (last_of x q) (past (settings_of s) x q) x.fences x.switches;
      begin = v.begin;
      walk = v.walk;
      enabled = v.enabled;
      sound = past_sound (settings_of s) x q v.sound;
      sent = past_sent (settings_of s) x q v.sent;
    }

-- so a redirect leaves the words of the stream that the history begins there
pub fetch_turns : (s : Setup) → FetchTurns s
unfolding redirected
fetch_turns s log x half q c target fence enable next f w p tags lines v even low =
    subst (λ n. WordsMid s log (restarting (settings_of s) x n c target) (target / 2 % 2) 0 c fence enable next
    (turned (Some target) f) w p tags lines)
    (sym (requested_is (settings_of s) x c q v.requested))
    (restarted s log x half q c target fence enable next f w p tags lines v even low)

-- ---- a cycle without an event

-- fills that were stored before a cycle were stored before the next one
pub old_more : (fills : List Fill) (c : ℕ) → IsOld fills c → IsOld fills (c + 1)
old_more [] c l = tt
old_more (x ∷ fills) c l = (omega (arith, l.0), l.1, l.2, l.3, old_more fills c l.4)

-- the cache of lines stored before this cycle is one of lines stored before the next
pub still_cached : (s : Setup) (log : List Write) (fs : List ℕ) (fills : List Fill) (c : ℕ) (w : WordPort)
    (tags lines : List ℕ) → Cached s log fs fills c c w tags lines → Cached s log fs fills c (c + 1) w tags lines
still_cached s log fs fills c w tags lines k =
    record {
      tag_count = k.tag_count;
      line_count = k.line_count;
      tag_codes = k.tag_codes;
      line_codes = k.line_codes;
      tag = k.tag;
      word0 = k.word0;
      word1 = k.word1;
      quiet = k.quiet;
      old = old_more fills c k.old;
      mapped = k.mapped;
      alt_is = k.alt_is;
    }

-- the mark of no FENCE.I
nostore_still : (fs : List ℕ) (t c : ℕ) (g : Doing) (n : Bool) → IsLog fs c → is_rest g ≡ false
    → n ≡ not (none_between fs t c) → (not (is_rest g) && (n || false)) ≡ not (none_between fs t (c + 1))
nostore_still fs t c g n l r e = by (is_rest g) n r ∙ e ∙ ap not (between_more fs t c l)
  where
    by : (b n : Bool) → b ≡ false → (not b && (n || false)) ≡ n
    by true n e = let no_ : true ≡ false = e in cc
    by false true e = refl
    by false false e = refl

-- the same of a miss, of a request's work and of the link
missed_still : (fs : List ℕ) (y : Past) (t a c : ℕ) (w : WordPort) → IsLog fs c → is_rest (doing_of w.c_state) ≡ false
    → Missed fs y t a c w → Missed fs y t a (c + 1) (marked false w)
missed_still fs y t a c w l r m = record {
  absent = m.absent;
  way = m.way;
  nostore = nostore_still fs t c (doing_of w.c_state) w.c_nostore l r m.nostore;
}

-- without a FENCE.I in this cycle an outstanding request is at work as before
work_still : (s : Setup) (log : List Write) (ss : List Switch) (fs : List ℕ) (y : Past) (t a c : ℕ) (w : WordPort)
    (p : PortState) (tags lines : List ℕ) → IsLog fs c
    → Work s log ss fs y t a c c w p tags lines → Work s log ss fs y t a c (c + 1) (marked false w) p tags lines
work_still s log ss fs y t a c w p tags lines l (bare_asks b d i k) =
    bare_asks b d i (still_cached s log fs y.fills c w tags lines k)
work_still s log ss fs y t a c w p tags lines l (bare_waits b d i k) =
    bare_waits b d i (still_cached s log fs y.fills c w tags lines k)
work_still s log ss fs y t a c w p tags lines l (looks b n d x i k) =
    looks b (nostore_still fs t c (doing_of w.c_state) w.c_nostore l (ap is_rest d) n) d x i
    (still_cached s log fs y.fills c w tags lines k)
work_still s log ss fs y t a c w p tags lines l (first_asks b m d i k) =
    first_asks b (missed_still fs y t a c w l (ap is_rest d) m) d i (still_cached s log fs y.fills c w tags lines k)
work_still s log ss fs y t a c w p tags lines l (first_waits b m d i k) =
    first_waits b (missed_still fs y t a c w l (ap is_rest d) m) d i (still_cached s log fs y.fills c w tags lines k)
work_still s log ss fs y t a c w p tags lines l (second_asks b m d x i k) =
    second_asks b (missed_still fs y t a c w l (ap is_rest d) m) d x i (still_cached s log fs y.fills c w tags lines k)
work_still s log ss fs y t a c w p tags lines l (second_waits b m d x i k) =
    second_waits b (missed_still fs y t a c w l (ap is_rest d) m) d x i
    (still_cached s log fs y.fills c w tags lines k)
work_still s log ss fs y t a c w p tags lines l (last b m d x u v i k) =
    last b m d x u v i (still_cached s log fs (filled (settings_of s) fs y t a) c w tags lines k)

-- without a FENCE.I in this cycle the last word request stands as before, outstanding or not
pub link_still : (s : Setup) (log : List Write) (x : Stream) (q c : ℕ) (busy : Bool) (w : WordPort) (p : PortState)
    (tags lines : List ℕ) → IsLog x.fences c
    → Link s log x q c c busy w p tags lines → Link s log x q c (c + 1) busy (marked false w) p tags lines
link_still s log x q c busy w p tags lines l (idle b d i k z) =
    idle b d i (still_cached s log x.fences (past (settings_of s) x q).fills c w tags lines k) z
link_still s log x q c busy w p tags lines l (pending y t a work) =
    pending y t (record {
      origin = a.origin;
      left = a.left;
      order = a.order;
      sent = a.sent;
      early = a.early;
      is_busy = a.is_busy;
      addr = a.addr;
      aligned = a.aligned;
      low = a.low;
    })
    (work_still s log x.switches x.fences y t (last_of x q) c w p tags lines l work)

-- and of the switches
pub recent_more : (ss : List Switch) (c : ℕ) → IsRecent ss c → IsRecent ss (c + 1)
recent_more [] c r = tt
recent_more (w ∷ ss) c r = (omega (arith, r.0), recent_more ss c r.1)

-- a cycle without a switch leaves the enable bit
pub enabled_still : (ss : List Switch) (c : ℕ) → IsRecent ss c → enabled_at ss c ≡ enabled_at ss (c + 1)
unfolding enabled_at
enabled_still [] c r = refl
enabled_still (w ∷ ss) c r = rw (lt-ltb w.time c r.0, lt-ltb w.time (c + 1) (omega (arith, r.0))) refl

-- so the words are those of the same stream in the next cycle
pub fetch_rests : (s : Setup) → FetchRests s
fetch_rests s log x half q c enable f w p tags lines v =
    record {
      fetch = v.fetch;
      link = link_still s log x q c f.f_busy w p tags lines v.walk.log v.link;
      requested = v.requested;
      gates = v.gates;
      begin = v.begin;
      walk = walks refl v.walk;
      enabled = record {
        enabled = v.enabled.enabled;
        follows = v.enabled.enabled ∙ enabled_still x.switches c v.enabled.recent;
        recent = recent_more x.switches c v.enabled.recent;
      };
      sound = v.sound;
      sent = v.sent;
    }
