-- The issue of a cycle: the next word is requested where none is outstanding and there is room.
use Rattle.std.proofs.Common.{◌≡◌, ℕ, zero, suc, ◌+◌, ◌*◌, ◌/◌, ◌%◌, ◌^◌, ◌<◌, ◌≤◌, Bool, true, false, not, ◌&&◌, ◌||◌}
use Rattle.std.proofs.Common.{List, length, drop, if◌then◌else◌, nat_lt, nat_le, Some, None, Option, sym}
use Rattle.std.proofs.Common.{refl, ap, ◌∙◌, subst, ap₂, inl, inr, arith}
use Rattle.std.proofs.lemmas.Bool.{cases_lt, lt-ltb, le-ltb, le-leb, lt-leb}
use Rattle.ibx_time_invariant.proofs.Caches.{starts, WalkAt, WalkMid, restarts, walks}
use Rattle.ibx_time.specs.Requests.{is_cached, Past, Switch, after_request, enabled_at, first_answer, found_slot}
use Rattle.ibx_time.specs.Requests.{is_kept, is_present, is_walked, line_of, made, none_between, request_by}
use Rattle.ibx_time.specs.Requests.{second_answer, victim}
use Rattle.ibx_prefetch.specs.Buffer.{requested, request_of, next_addr}
use Rattle.ibx_prefetch.specs.declared.buffer.Prefetch.{Prefetch}
use Rattle.ibx_time_invariant.proofs.Fetches.{Count, coming, dropped, is_zero, pc_in, rest}
use Rattle.ibx_time_invariant.proofs.Links.{Cached, IsSent, Mid, Wired, bare_asks, bare_waits, due, first_asks, first_waits}
use Rattle.ibx_time_invariant.proofs.Links.{free, last, looks, pending, second_asks, second_waits}
use Rattle.ibx_time_invariant.proofs.Words.{AfterAnswer, AfterIssue}
use Rattle.ibx_time_invariant.proofs.FetchSide.{FetchIssues, issued}
use Rattle.ibx_time_invariant.proofs.Turns.{past_sent}
use Rattle.ibx_time.proofs.Walks.{between_old, starts_before, walked_fence, walked_not, walked_old}
use Rattle.ibx_time_invariant.proofs.DataWires.{ask_late}
use Rattle.ibx_bus.specs.Port.{PortState}
use Rattle.ibx_bus.specs.PortTimes.{answer_time, grant_time}
use Rattle.ibx_bus.proofs.Ports.{Free}
use Rattle.ibx_time.specs.Settings.{Settings, Setup, settings_of}
use Rattle.ibx_time.specs.Streams.{Stream, issue, last_of, past, word_addr}
use Rattle.ibx_time.specs.Memories.{Write}
use Rattle.ibx_time.proofs.Times.{after_issue, issue_is, next_issue, past_suc}
use Rattle.ibx_icache.specs.declared.doing.Doing.TheVariants.{Rests}
use Rattle.ibx_icache.specs.Doing.{doing_of, is_rest}
use Rattle.ibx_icache.specs.WordPort.{begun_by}
use Rattle.ibx_icache.specs.declared.port.WordPort.{WordPort}

-- ---- the walk and the enable bit, against what the equations ask

-- so the walk has come to 256 just where the equations say that it has ended
walk_is : (fs : List ℕ) (c walk : ℕ) → WalkAt fs c walk → nat_le 256 walk ≡ is_walked fs c
walk_is fs c walk w =
    let b : starts fs ≤ c = starts_before fs c w.log in
    elim (cases_lt c (starts fs + 256)) [
      | inl before_ ↦ lt-leb 256 walk (omega (arith, w.walk_is)) ∙ sym (walked_not fs c b before_)
      | inr after_ ↦ le-leb 256 walk (omega (arith, w.walk_is)) ∙ sym (walked_old fs c after_ w.log)
    ]

-- the port takes a request as cached just where the equations do
cached_by : (ss : List Switch) (fs : List ℕ) (c walk : ℕ) (fence enable : Bool) → enable ≡ enabled_at ss c
    → WalkMid fs c fence walk → (enable && nat_le 256 walk && not fence) ≡ is_cached ss fs c
unfolding is_cached
cached_by ss fs c walk fence enable e (walks f w) =
    ap (λ b. enable && nat_le 256 walk && not b) f ∙ keeps enable (nat_le 256 walk)
    ∙ ap₂ (λ x y. x && y) e (walk_is fs c walk w)
  where
    keeps : (a b : Bool) → (a && b && true) ≡ (a && b)
    keeps true true = refl
    keeps true false = refl
    keeps false b = refl
cached_by ss fs c walk fence enable e (restarts old same f w) =
    ap (λ b. enable && nat_le 256 walk && not b) f ∙ drops enable (nat_le 256 walk)
    ∙ sym (ap (λ l. enabled_at ss c && is_walked l c) same ∙ ap (λ b. enabled_at ss c && b) (walked_fence old c)
    ∙ none (enabled_at ss c))
  where
    drops : (a b : Bool) → (a && b && false) ≡ false
    drops true true = refl
    drops true false = refl
    drops false b = refl

    none : (a : Bool) → (a && false) ≡ false
    none true = refl
    none false = refl

-- ---- the mark of a new request

-- a cached request begins without the mark of a FENCE.I
unmarked : (ss : List Switch) (fs : List ℕ) (c walk : ℕ) (fence : Bool) → is_cached ss fs c ≡ true
    → WalkMid fs c fence walk → false ≡ not (none_between fs c (c + 1))
unfolding is_cached
unmarked ss fs c walk fence e (walks f w) = sym (ap not (between_old fs c (c + 1) w.log))
unmarked ss fs c walk fence e (restarts old same f w) =
    let no_ : false ≡ true = sym (none (enabled_at ss c)) ∙ sym (ap (λ b. enabled_at ss c && b) (walked_fence old c))
    ∙ sym (ap (λ l. enabled_at ss c && is_walked l c) same) ∙ e in cc
  where
    none : (a : Bool) → (a && false) ≡ false
    none true = refl
    none false = refl

-- ---- a request that is outstanding answers after this cycle

-- when an uncached request answers, and a miss
pub bare_answer : (k : Settings) (ss : List Switch) (fs : List ℕ) (y : Past) (t a : ℕ) → is_cached ss fs t ≡ false
    → (after_request k ss fs y t a).answer ≡ answer_time k.plan.iwaits (made y) t
unfolding request_by
bare_answer k ss fs y t a e =
    ap (λ b. (request_by b (is_present fs y.fills (line_of a) t) (is_kept k fs y t a)
    (found_slot fs y.fills (line_of a) t) (victim fs y.fills (line_of a) t) k y t a).answer) e

-- a miss answers in the cycle after that of its line's second word
pub miss_answer : (k : Settings) (ss : List Switch) (fs : List ℕ) (y : Past) (t a : ℕ) → is_cached ss fs t ≡ true
    → is_present fs y.fills (line_of a) t ≡ false → (after_request k ss fs y t a).answer ≡ second_answer k y t + 1
unfolding request_by
miss_answer k ss fs y t a e f =
    ap₂ (λ b n. (request_by b n (is_kept k fs y t a) (found_slot fs y.fills (line_of a) t)
    (victim fs y.fills (line_of a) t) k y t a).answer) e f

-- a request answers after its own cycle, and so does one that is outstanding
later_by : (k : Settings) (y : Past) (t a : ℕ) (b n m : Bool) (slot : ℕ) (way : Bool)
    → t < (request_by b n m slot way k y t a).answer
unfolding request_by answer_time grant_time
later_by k y t a false n m slot way = omega arith
later_by k y t a true true m slot way = omega arith
later_by k y t a true false m slot way = omega arith

-- whatever it finds, no request answers in its own cycle
request_later : (k : Settings) (ss : List Switch) (fs : List ℕ) (y : Past) (t a : ℕ)
    → t < (after_request k ss fs y t a).answer
request_later k ss fs y t a = later_by k y t a (is_cached ss fs t) (is_present fs y.fills (line_of a) t)
    (is_kept k fs y t a) (found_slot fs y.fills (line_of a) t) (victim fs y.fills (line_of a) t)

-- a request that is still at work after this cycle's answer answers in a later one
wired_late : (s : Setup) (log : List Write) (ss : List Switch) (fs : List ℕ) (y : Past) (t a c : ℕ) (w : WordPort)
    (p : PortState) (tags lines : List ℕ) → Wired s log ss fs y t a c w p tags lines
    → c < (after_request (settings_of s) ss fs y t a).answer
unfolding request_by answer_time grant_time
wired_late s log ss fs y t a c w p tags lines (bare_asks b d ask k) =
    omega (arith, bare_answer (settings_of s) ss fs y t a b, ask_late s.plan.iwaits (made y) t c p ask)
wired_late s log ss fs y t a c w p tags lines (bare_waits b d o ne k) =
    omega (arith, bare_answer (settings_of s) ss fs y t a b, o.left, ne)
wired_late s log ss fs y t a c w p tags lines (looks b n d now f k) =
    omega (arith, now, request_later (settings_of s) ss fs y t a)
wired_late s log ss fs y t a c w p tags lines (first_asks b m d ask k) =
    omega (arith, miss_answer (settings_of s) ss fs y t a b m.absent, ask_late s.plan.iwaits (made y) (t + 1) c p ask)
wired_late s log ss fs y t a c w p tags lines (first_waits b m d o ne k) =
    omega (arith, miss_answer (settings_of s) ss fs y t a b m.absent, o.left, ne)
wired_late s log ss fs y t a c w p tags lines (second_asks b m d e ask k) =
    omega (
      arith,
      miss_answer (settings_of s) ss fs y t a b m.absent,
      ask_late s.plan.iwaits (suc (made y)) (first_answer (settings_of s) y t) c p ask,
    )
wired_late s log ss fs y t a c w p tags lines (second_waits b m d e o ne k) =
    omega (arith, miss_answer (settings_of s) ss fs y t a b m.absent, o.left, ne)
wired_late s log ss fs y t a c w p tags lines (last b m d e u now f k) =
    omega (arith, miss_answer (settings_of s) ss fs y t a b m, now)

-- ---- the next address

-- the first word after a redirect is the target's, and each further one the next
fresh_addr : (base half : ℕ) → half < 2 → (4 * (base + 0) + 2 * half) % 2 ^ 32 / 4 * 4 ≡ 4 * ((base + 0) % 2 ^ 30)
fresh_addr base half h = omega arith

-- the word after word j is four bytes further, and address 0 comes after the last
more_addr : (base j : ℕ) → (4 * ((base + j) % 2 ^ 30) / 4 * 4 + 4) % 2 ^ 32 ≡ 4 * ((base + suc j) % 2 ^ 30)
more_addr base j = omega arith

-- ---- by whether a word is outstanding, and whether there is room

-- nothing is requested while a word is outstanding, nor where there is no room, and else the next word
pub request_busy : (f : Prefetch) → f.f_busy ≡ true → request_of f ≡ None
unfolding request_of
request_busy f e = ap (λ b. if not b && (f.f_fresh || nat_lt f.buf_count 3) then Some (next_addr f) else None) e

-- with three words held, and one requested since the redirect, there is no room for more
request_full : (f : Prefetch) → f.f_busy ≡ false → f.f_fresh ≡ false → nat_lt f.buf_count 3 ≡ false
    → request_of f ≡ None
unfolding request_of
request_full f e k n = ap₂ (λ b r. if not b && r then Some (next_addr f) else None) e (ap₂ (λ x y. x || y) k n)

-- one test that holds is enough
or_true : (a : Bool) → (a || true) ≡ true
or_true true = refl
or_true false = refl

-- with no word outstanding and fewer than three held, the next one is requested
request_room : (f : Prefetch) → f.f_busy ≡ false → nat_lt f.buf_count 3 ≡ true → request_of f ≡ Some (next_addr f)
unfolding request_of
request_room f e n =
    ap₂ (λ b r. if not b && r then Some (next_addr f) else None) e (ap (λ y. f.f_fresh || y) n ∙ or_true f.f_fresh)

-- the address of the next word, by whether it is the first of the stream
addr_by : (x : Stream) (half q : ℕ) (f : Prefetch) (b : Bool) → half < 2 → f.head_pc ≡ pc_in x half
    → f.f_addr ≡ last_of x q → f.f_fresh ≡ b → b ≡ is_zero q → (q ≡ 0 → length x.enters ≡ 0)
    → next_addr f ≡ word_addr x q
unfolding last_of
addr_by x half zero f false low head addr is_fresh e none = let no_ : false ≡ true = e in cc
addr_by x half (suc j) f true low head addr is_fresh e none = let no_ : true ≡ false = e in cc
addr_by x half zero f true low head addr is_fresh e none =
    ap (λ b. if b then f.head_pc / 4 * 4 else (f.f_addr / 4 * 4 + 4) % 2 ^ 32) is_fresh
    ∙ ap (λ n. n / 4 * 4) (head ∙ ap (λ n. (4 * (x.base + n) + 2 * half) % 2 ^ 32) (none refl))
    ∙ fresh_addr x.base half low
addr_by x half (suc j) f false low head addr is_fresh e none =
    ap (λ b. if b then f.head_pc / 4 * 4 else (f.f_addr / 4 * 4 + 4) % 2 ^ 32) is_fresh
    ∙ ap (λ n. (n / 4 * 4 + 4) % 2 ^ 32) addr ∙ more_addr x.base j

-- the words after the request of a cycle
abbrev Issued : Setup → List Write → Stream → ℕ → ℕ → ℕ → Bool → Bool → Bool → Prefetch → WordPort → PortState → List ℕ
    → List ℕ → Option ℕ → Type 0
Issued s log x half c walk fence enable next f w p tags lines request =
    (i : ℕ) × AfterIssue s log x half i c walk fence enable next (requested request f)
    (issued enable fence walk request w) p tags lines

-- nothing is requested
issue_none : (s : Setup) (log : List Write) (x : Stream) (half q c walk : ℕ) (fence enable next : Bool) (f : Prefetch)
    (w : WordPort) (p : PortState) (tags lines : List ℕ)
    → AfterAnswer s log x half q c walk fence enable next f w p tags lines
    → (q < length x.enters + 3 → c + 1 ≤ issue (settings_of s) x q) → (b d : Bool) → is_rest (doing_of w.c_state) ≡ b
    → (enable && nat_le 256 walk && not fence) ≡ d
    → AfterIssue s log x half q c walk fence enable next (requested None f) (begun_by b d None w) p tags lines
unfolding requested begun_by
issue_none s log x half q c walk fence enable next f w p tags lines u late b d e k =
    record {
      fetch = u.fetch;
      mid = u.mid;
      requested =
          record { within = u.requested.within; before = λ j h. omega (arith, u.requested.before j h); after = late };
      gates = u.gates;
      kept = u.kept;
      walk_is = u.walk_is;
      cleared = u.cleared;
      enabled = u.enabled;
      sound = u.sound;
      sent = u.sent;
    }

-- a word that is outstanding answers later
busy_late : (s : Setup) (log : List Write) (x : Stream) (q c : ℕ) (busy : Bool) (w : WordPort) (p : PortState)
    (tags lines : List ℕ) → busy ≡ true → Mid s log x q c busy w p tags lines → c < (past (settings_of s) x q).answer
busy_late s log x q c busy w p tags lines e (free b d i k z) = let no_ : true ≡ false = sym e ∙ b in cc
busy_late s log x q c busy w p tags lines e (pending y t a work) =
    omega (
      arith,
      ap (λ (z : Past). z.answer) a.left,
      wired_late s log x.switches x.fences y t (last_of x q) c w p tags lines work,
    )

-- no word is outstanding, and the port and the cache are free
record IsFree (s : Setup) (log : List Write) (x : Stream) (q c : ℕ) (w : WordPort) (p : PortState)
    (tags lines : List ℕ) : Type 0 where
  rests_ : doing_of w.c_state ≡ Rests
  port : Free s.plan.iwaits (made (past (settings_of s) x q)) p
  cache : Cached s log x.fences (past (settings_of s) x q).fills c (c + 1) w tags lines
  done : (past (settings_of s) x q).answer ≤ c

-- without one they are, and the words held and taken are all that were requested
is_free : (s : Setup) (log : List Write) (x : Stream) (q c : ℕ) (busy : Bool) (w : WordPort) (p : PortState)
    (tags lines : List ℕ) → busy ≡ false → Mid s log x q c busy w p tags lines → IsFree s log x q c w p tags lines
is_free s log x q c busy w p tags lines e (free b d i k z) = record { rests_ = d; port = i; cache = k; done = z }
is_free s log x q c busy w p tags lines e (pending y t a work) = let no_ : true ≡ false = sym a.is_busy ∙ e in cc

-- with no word outstanding, those held and taken are all that were requested, and none is to be dropped
pub count_free : (q m count : ℕ) (busy drop : Bool) → busy ≡ false → Count q m busy drop count
    → (count + m ≡ q) × (drop ≡ false)
count_free q m count busy drop e (rest b d k) = (k, d)
count_free q m count busy drop e (coming b d k) = let no_ : true ≡ false = sym b ∙ e in cc
count_free q m count busy drop e (dropped b d k n z) = let no_ : true ≡ false = sym b ∙ e in cc

-- the work of the new request, by whether it is cached
begins_work : (s : Setup) (log : List Write) (x : Stream) (q c addr walk : ℕ) (fence d : Bool) (w : WordPort)
    (p : PortState) (tags lines : List ℕ) → is_cached x.switches x.fences c ≡ d → IsFree s log x q c w p tags lines
    → WalkMid x.fences c fence walk → Wired s log x.switches x.fences (past (settings_of s) x q) c addr c
    (begun_by true d (Some addr) w) p tags lines
unfolding begun_by doing_of
begins_work s log x q c addr walk fence true w p tags lines e f m =
    looks e (unmarked x.switches x.fences c walk fence e m) refl refl f.port f.cache
begins_work s log x q c addr walk fence false w p tags lines e f m = bare_asks e refl (due refl f.port) f.cache

-- the port keeps the address of its request
begun_addr : (d : Bool) (addr : ℕ) (w : WordPort) → (begun_by true d (Some addr) w).c_addr ≡ addr
unfolding begun_by
begun_addr true addr w = refl
begun_addr false addr w = refl

-- the request is outstanding from this cycle on
asked_mid : (s : Setup) (log : List Write) (x : Stream) (q c addr : ℕ) (d : Bool) (w : WordPort) (p : PortState)
    (tags lines : List ℕ) → IsSent x.before → issue (settings_of s) x q ≡ c → addr ≡ word_addr x q
    → Wired s log x.switches x.fences (past (settings_of s) x q) c addr c (begun_by true d (Some addr) w) p tags lines
    → Mid s log x (suc q) c true (begun_by true d (Some addr) w) p tags lines
unfolding last_of
asked_mid s log x q c addr d w p tags lines sent now at work =
    let k : Settings = settings_of s in
    pending (past k x q) (issue k x q) (record {
      origin = (refl, refl);
      left = past_suc k x q;
      order = omega (arith, issue_is k x q);
      sent = past_sent k x q sent;
      early = omega (arith, now);
      is_busy = refl;
      addr = begun_addr d addr w ∙ at;
      aligned = omega arith;
      low = omega arith;
    })
    (subst (λ t. Wired s log x.switches x.fences (past k x q) t (word_addr x q) c (begun_by true d (Some addr) w) p
    tags lines) (sym now)
    (subst (λ a. Wired s log x.switches x.fences (past k x q) c a c (begun_by true d (Some addr) w) p tags lines) at
    work))

-- the next word is requested
issue_some : (s : Setup) (log : List Write) (x : Stream) (half q c walk : ℕ) (fence enable next : Bool) (f : Prefetch)
    (w : WordPort) (p : PortState) (tags lines : List ℕ)
    → AfterAnswer s log x half q c walk fence enable next f w p tags lines → f.f_busy ≡ false → f.buf_count < 3
    → IsFree s log x q c w p tags lines → (addr : ℕ) → addr ≡ word_addr x q → (b d : Bool) → b ≡ true
    → is_cached x.switches x.fences c ≡ d
    → AfterIssue s log x half (suc q) c walk fence enable next (requested (Some addr) f) (begun_by b d (Some addr) w) p
    tags lines
unfolding requested begun_by last_of
issue_some s log x half q c walk fence enable next f w p tags lines u still room free_ addr at false d e cached =
    let no_ : false ≡ true = e in cc
issue_some s log x half q c walk fence enable next f w p tags lines u still room free_ addr at true d e cached =
    let k : Settings = settings_of s in
    let n = count_free q (length x.enters) f.buf_count f.f_busy f.f_drop still u.fetch.count in
    let low : q < length x.enters + 3 = omega (arith, n.0, room) in
    let now : issue k x q ≡ c = omega (arith, u.requested.after low, issue_is k x q, free_.done, u.gates q low) in
    let work : Wired s log x.switches x.fences (past k x q) c addr c (begun_by true d (Some addr) w) p tags lines =
    begins_work s log x q c addr walk fence d w p tags lines cached free_ u.walk_is in
    record {
      fetch = record {
        head = u.fetch.head;
        half_low = u.fetch.half_low;
        addr = at;
        fresh = refl;
        count = coming refl n.1 (omega (arith, n.0));
        holds = record {
          word0 = u.fetch.holds.word0;
          word1 = u.fetch.holds.word1;
          word2 = u.fetch.holds.word2;
          none0 = u.fetch.holds.none0;
          none1 = u.fetch.holds.none1;
          none2 = u.fetch.holds.none2;
        };
      };
      mid = asked_mid s log x q c addr d w p tags lines u.sent now at work;
      requested = record {
        within = omega (arith, low);
        before = λ j h. elim (cases_lt j q) [
          | inl old ↦ omega (arith, u.requested.before j old)
          | inr same ↦ omega (arith, now, ap (issue k x) (equal j q h same))
        ];
        after = λ h. omega (arith, now, next_issue k x q, after_issue k x q);
      };
      gates = u.gates;
      kept = kept_by d;
      walk_is = u.walk_is;
      cleared = u.cleared;
      enabled = u.enabled;
      sound = u.sound;
      sent = u.sent;
    }
  where
    equal : (j q : ℕ) → j < suc q → q ≤ j → j ≡ q
    equal j q h k = omega arith

    kept_by : (d : Bool) → (begun_by true d (Some addr) w).c_walk ≡ walk
    kept_by true = u.kept
    kept_by false = u.kept

-- ---- all cases

-- with room the next word is requested, without room none, and in every cycle what is due
issue_room : (s : Setup) (log : List Write) (x : Stream) (half q c walk : ℕ) (fence enable next : Bool) (f : Prefetch)
    (w : WordPort) (p : PortState) (tags lines : List ℕ)
    → AfterAnswer s log x half q c walk fence enable next f w p tags lines → f.f_busy ≡ false
    → Issued s log x half c walk fence enable next f w p tags lines (request_of f)
issue_room s log x half q c walk fence enable next f w p tags lines u still =
    let free_ : IsFree s log x q c w p tags lines = is_free s log x q c f.f_busy w p tags lines still u.mid in
    let n = count_free q (length x.enters) f.buf_count f.f_busy f.f_drop still u.fetch.count in
    let d : Bool = enable && nat_le 256 walk && not fence in
    let b : Bool = is_rest (doing_of w.c_state) in
    let cached : is_cached x.switches x.fences c ≡ d =
    sym (cached_by x.switches x.fences c walk fence enable u.enabled.enabled u.walk_is) in
    elim (cases_lt f.buf_count 3) [
      | inl room ↦
          subst (Issued s log x half c walk fence enable next f w p tags lines)
          (sym (request_room f still (lt-ltb f.buf_count 3 room))) (
            suc q,
            issue_some s log x half q c walk fence enable next f w p tags lines u still room free_ (next_addr f)
                (addr_by x half q f f.f_fresh u.fetch.half_low u.fetch.head u.fetch.addr refl u.fetch.fresh
                (λ e. omega (arith, e, n.0))) b d (ap is_rest free_.rests_) cached,
          )
      | inr full ↦
          let some : is_zero q ≡ false = not_zero q (omega (arith, n.0, full)) in
          subst (Issued s log x half c walk fence enable next f w p tags lines)
          (sym (request_full f still (u.fetch.fresh ∙ some) (le-ltb f.buf_count 3 full))) (
            q,
            issue_none s log x half q c walk fence enable next f w p tags lines u
                (λ h. absurd (omega (arith, h, n.0, full))) b d refl refl,
          )
    ]
  where
    not_zero : (q : ℕ) → 0 < q → is_zero q ≡ false
    not_zero zero h = absurd (omega arith)
    not_zero (suc q) h = refl

-- what is due is requested, whether a word is outstanding or not
issue_by : (s : Setup) (log : List Write) (x : Stream) (half q c walk : ℕ) (fence enable next : Bool) (f : Prefetch)
    (w : WordPort) (p : PortState) (tags lines : List ℕ) (b : Bool)
    → AfterAnswer s log x half q c walk fence enable next f w p tags lines → f.f_busy ≡ b
    → Issued s log x half c walk fence enable next f w p tags lines (request_of f)
issue_by s log x half q c walk fence enable next f w p tags lines false u still =
    issue_room s log x half q c walk fence enable next f w p tags lines u still
issue_by s log x half q c walk fence enable next f w p tags lines true u busy_ =
    subst (Issued s log x half c walk fence enable next f w p tags lines) (sym (request_busy f busy_)) (
      q,
      issue_none s log x half q c walk fence enable next f w p tags lines u
          (λ h. omega (arith, busy_late s log x q c f.f_busy w p tags lines busy_ u.mid, issue_is (settings_of s) x q))
          (is_rest (doing_of w.c_state)) (enable && nat_le 256 walk && not fence) refl refl,
    )

-- so the issue of every cycle leaves the words as after the request
pub fetch_issues : (s : Setup) → FetchIssues s
fetch_issues s log x half q c walk fence enable next f w p tags lines u =
    issue_by s log x half q c walk fence enable next f w p tags lines f.f_busy u refl
