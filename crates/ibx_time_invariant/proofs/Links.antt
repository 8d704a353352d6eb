-- The word port with its port of the bus and the cache, against the outstanding word request.
use Rattle.std.proofs.Common.{◌≡◌, ℕ, zero, suc, ◌+◌, ◌*◌, ◌%◌, ◌^◌, ◌<◌, ◌≤◌, Bool, true, false, not, ◌≢◌, List, []}
use Rattle.std.proofs.Common.{◌∷◌}
use Rattle.ibx_time_invariant.proofs.Fetches.{entry_in, is_unmapped, word_in}
use Rattle.ibx_time_invariant.proofs.Caches.{CacheAt}
use Rattle.ibx_bus.specs.Port.{PortState}
use Rattle.ibx_bus.specs.PortTimes.{grant_time}
use Rattle.ibx_bus.proofs.Ports.{Free, Granted, Idle, Waiting}
use Rattle.ibx_time.specs.Settings.{Settings, Setup, settings_of}
use Rattle.ibx_time.specs.Requests.{Fill, Past, Switch, Transaction, after_request, fill_of, first_answer, first_grant}
use Rattle.ibx_time.specs.Requests.{is_cached, is_kept, is_present, line_of, made, none_between, second_answer}
use Rattle.ibx_time.specs.Requests.{second_grant, stored_if, victim}
use Rattle.ibx_time.specs.Streams.{Stream, issue, last_of, past}
use Rattle.ibx_time.specs.Memories.{Write}
use Rattle.ibx_icache.specs.declared.doing.Doing.TheVariants.{Answers, AsksBare, AsksFirst, AsksSecond, AwaitsBare}
use Rattle.ibx_icache.specs.declared.doing.Doing.TheVariants.{AwaitsFirst, AwaitsSecond, Looks, Rests}
use Rattle.ibx_icache.specs.Doing.{doing_of}
use Rattle.ibx_icache.specs.declared.port.WordPort.{WordPort}
use Rattle.ibx_secded.specs.Code.{encode_of}
use Rattle.ibx_plan.specs.declared.site.Wait.{Wait}

-- ---- the transactions of a request, and what they bring

-- transaction m was issued at x for the word at an address, and is granted before c and not answered before c
abbrev pub Reads : Setup → List Write → ℕ → ℕ → ℕ → ℕ → ℕ → PortState → Type 0
Reads s log m x g a c p = Granted s.plan.iwaits m x (is_unmapped s a) (encode_of 32 7 (word_in s log g a)) c p

-- the two words of the line, and the line's first address
abbrev pub line_base : ℕ → ℕ
line_base a = 8 * line_of a

-- the two words of the line, as memory held them in their grants
abbrev pub entry0 : Setup → List Write → Past → ℕ → ℕ → ℕ
entry0 s log y t a = entry_in s log (first_grant (settings_of s) y t) (line_base a)

-- the second of them
abbrev pub entry1 : Setup → List Write → Past → ℕ → ℕ → ℕ
entry1 s log y t a = entry_in s log (second_grant (settings_of s) y t) (line_base a + 4)

-- the stored lines after a miss
abbrev pub filled : Settings → List ℕ → Past → ℕ → ℕ → List Fill
filled k fs y t a = stored_if (is_kept k fs y t a) (fill_of k y t a (victim fs y.fills (line_of a) t)) y.fills

-- the line was absent, its way is chosen, and it isn't stored where a FENCE.I came since the request
pub record Missed (fs : List ℕ) (y : Past) (t a e : ℕ) (w : WordPort) : Type 0 where
  pub absent : is_present fs y.fills (line_of a) t ≡ false
  pub way : w.c_way ≡ victim fs y.fills (line_of a) t
  pub nostore : w.c_nostore ≡ not (none_between fs t e)

-- the cache with this port
abbrev pub Cached : Setup → List Write → List ℕ → List Fill → ℕ → ℕ → WordPort → List ℕ → List ℕ → Type 0
Cached s log fs fills d e w tags lines = CacheAt s log fs fills d e w.c_walk w.c_alt tags lines

-- A request at t for the word at a, after what y left, before cycle c. The fences are those before e.
pub data Work (s : Setup) (log : List Write) (ss : List Switch) (fs : List ℕ) (y : Past) (t a c e : ℕ) (w : WordPort)
    (p : PortState) (tags lines : List ℕ) : Type 0 where
  bare_asks : is_cached ss fs t ≡ false → doing_of w.c_state ≡ AsksBare → Waiting s.plan.iwaits (made y) t c p
      → Cached s log fs y.fills c e w tags lines → Work s log ss fs y t a c e w p tags lines
  bare_waits : is_cached ss fs t ≡ false → doing_of w.c_state ≡ AwaitsBare
      → Reads s log (made y) t (grant_time s.plan.iwaits (made y) t) a c p → Cached s log fs y.fills c e w tags lines
      → Work s log ss fs y t a c e w p tags lines
  looks : is_cached ss fs t ≡ true → w.c_nostore ≡ not (none_between fs t e) → doing_of w.c_state ≡ Looks → t + 1 ≡ c
      → Idle s.plan.iwaits (made y) p → Cached s log fs y.fills c e w tags lines
      → Work s log ss fs y t a c e w p tags lines
  first_asks : is_cached ss fs t ≡ true → Missed fs y t a e w → doing_of w.c_state ≡ AsksFirst
      → Waiting s.plan.iwaits (made y) (t + 1) c p → Cached s log fs y.fills c e w tags lines
      → Work s log ss fs y t a c e w p tags lines
  first_waits : is_cached ss fs t ≡ true → Missed fs y t a e w → doing_of w.c_state ≡ AwaitsFirst
      → Reads s log (made y) (t + 1) (first_grant (settings_of s) y t) (line_base a) c p
      → Cached s log fs y.fills c e w tags lines → Work s log ss fs y t a c e w p tags lines
  second_asks : is_cached ss fs t ≡ true → Missed fs y t a e w → doing_of w.c_state ≡ AsksSecond
      → w.c_word0 ≡ entry0 s log y t a → Waiting s.plan.iwaits (suc (made y)) (first_answer (settings_of s) y t) c p
      → Cached s log fs y.fills c e w tags lines → Work s log ss fs y t a c e w p tags lines
  second_waits : is_cached ss fs t ≡ true → Missed fs y t a e w → doing_of w.c_state ≡ AwaitsSecond
      → w.c_word0 ≡ entry0 s log y t a
      → Reads s log (suc (made y)) (first_answer (settings_of s) y t) (second_grant (settings_of s) y t)
      (line_base a + 4) c p → Cached s log fs y.fills c e w tags lines → Work s log ss fs y t a c e w p tags lines
  last : is_cached ss fs t ≡ true → is_present fs y.fills (line_of a) t ≡ false → doing_of w.c_state ≡ Answers
      → w.c_word0 ≡ entry0 s log y t a → w.c_word1 ≡ entry1 s log y t a → second_answer (settings_of s) y t + 1 ≡ c
      → Idle s.plan.iwaits (suc (suc (made y))) p → Cached s log fs (filled (settings_of s) fs y t a) c e w tags lines
      → Work s log ss fs y t a c e w p tags lines

-- transaction n, issued at x, is on the wires in cycle c
pub data Ask (ws : List Wait) (n x c : ℕ) (p : PortState) : Type 0 where
  due : x ≡ c → Free ws n p → Ask ws n x c p
  held : Waiting ws n x c p → Ask ws n x c p

-- the same in cycle c, after the answer and the issue
pub data Wired (s : Setup) (log : List Write) (ss : List Switch) (fs : List ℕ) (y : Past) (t a c : ℕ) (w : WordPort)
    (p : PortState) (tags lines : List ℕ) : Type 0 where
  bare_asks : is_cached ss fs t ≡ false → doing_of w.c_state ≡ AsksBare → Ask s.plan.iwaits (made y) t c p
      → Cached s log fs y.fills c (c + 1) w tags lines → Wired s log ss fs y t a c w p tags lines
  bare_waits : is_cached ss fs t ≡ false → doing_of w.c_state ≡ AwaitsBare
      → Reads s log (made y) t (grant_time s.plan.iwaits (made y) t) a c p → p.left ≢ 0
      → Cached s log fs y.fills c (c + 1) w tags lines → Wired s log ss fs y t a c w p tags lines
  looks : is_cached ss fs t ≡ true → w.c_nostore ≡ not (none_between fs t (c + 1)) → doing_of w.c_state ≡ Looks → t ≡ c
      → Free s.plan.iwaits (made y) p → Cached s log fs y.fills c (c + 1) w tags lines
      → Wired s log ss fs y t a c w p tags lines
  first_asks : is_cached ss fs t ≡ true → Missed fs y t a (c + 1) w → doing_of w.c_state ≡ AsksFirst
      → Ask s.plan.iwaits (made y) (t + 1) c p → Cached s log fs y.fills c (c + 1) w tags lines
      → Wired s log ss fs y t a c w p tags lines
  first_waits : is_cached ss fs t ≡ true → Missed fs y t a (c + 1) w → doing_of w.c_state ≡ AwaitsFirst
      → Reads s log (made y) (t + 1) (first_grant (settings_of s) y t) (line_base a) c p → p.left ≢ 0
      → Cached s log fs y.fills c (c + 1) w tags lines → Wired s log ss fs y t a c w p tags lines
  second_asks : is_cached ss fs t ≡ true → Missed fs y t a (c + 1) w → doing_of w.c_state ≡ AsksSecond
      → w.c_word0 ≡ entry0 s log y t a → Ask s.plan.iwaits (suc (made y)) (first_answer (settings_of s) y t) c p
      → Cached s log fs y.fills c (c + 1) w tags lines → Wired s log ss fs y t a c w p tags lines
  second_waits : is_cached ss fs t ≡ true → Missed fs y t a (c + 1) w → doing_of w.c_state ≡ AwaitsSecond
      → w.c_word0 ≡ entry0 s log y t a
      → Reads s log (suc (made y)) (first_answer (settings_of s) y t) (second_grant (settings_of s) y t)
      (line_base a + 4) c p → p.left ≢ 0 → Cached s log fs y.fills c (c + 1) w tags lines
      → Wired s log ss fs y t a c w p tags lines
  last : is_cached ss fs t ≡ true → is_present fs y.fills (line_of a) t ≡ false → doing_of w.c_state ≡ Answers
      → w.c_word0 ≡ entry0 s log y t a → w.c_word1 ≡ entry1 s log y t a → second_answer (settings_of s) y t ≡ c
      → Free s.plan.iwaits (suc (suc (made y))) p
      → Cached s log fs (filled (settings_of s) fs y t a) c (c + 1) w tags lines
      → Wired s log ss fs y t a c w p tags lines

-- every transaction is granted before c, and those of the words so far before the last answer
abbrev pub AreGranted : List Transaction → ℕ → Type 0
AreGranted [] c = Unit {0}
AreGranted (x ∷ sent) c = (x.grant < c) × AreGranted sent c

-- those of a past are granted before its answer
abbrev pub IsSent : Past → Type 0
IsSent y = AreGranted y.sent y.answer

-- ---- the last word request

-- where the request for word q - 1 of the stream came from; one from before the redirect came from anywhere
abbrev pub Origin : Settings → Stream → ℕ → Past → ℕ → Type 0
Origin k x zero y t = Unit {0}
Origin k x (suc j) y t = (y ≡ past k x j) × (t ≡ issue k x j)

-- a request at t after y is the last one, and is outstanding
pub record Asked (s : Setup) (x : Stream) (q c : ℕ) (busy : Bool) (w : WordPort) (y : Past) (t : ℕ) : Type 0 where
  pub origin : Origin (settings_of s) x q y t
  pub left : past (settings_of s) x q ≡ after_request (settings_of s) x.switches x.fences y t (last_of x q)
  pub order : y.answer ≤ t
  pub sent : IsSent y
  pub early : t < c
  pub is_busy : busy ≡ true
  pub addr : w.c_addr ≡ last_of x q
  pub aligned : last_of x q % 4 ≡ 0
  pub low : last_of x q < 2 ^ 32

-- before cycle c, with the fences before e
pub data Link (s : Setup) (log : List Write) (x : Stream) (q c e : ℕ) (busy : Bool) (w : WordPort) (p : PortState)
    (tags lines : List ℕ) : Type 0 where
  idle : busy ≡ false → doing_of w.c_state ≡ Rests → Idle s.plan.iwaits (made (past (settings_of s) x q)) p
      → Cached s log x.fences (past (settings_of s) x q).fills c e w tags lines
      → (0 < c → (past (settings_of s) x q).answer < c) → Link s log x q c e busy w p tags lines
  pending : (y : Past) (t : ℕ) → Asked s x q c busy w y t
      → Work s log x.switches x.fences y t (last_of x q) c e w p tags lines → Link s log x q c e busy w p tags lines

-- in cycle c, after the answer
pub data Mid (s : Setup) (log : List Write) (x : Stream) (q c : ℕ) (busy : Bool) (w : WordPort) (p : PortState)
    (tags lines : List ℕ) : Type 0 where
  free : busy ≡ false → doing_of w.c_state ≡ Rests → Free s.plan.iwaits (made (past (settings_of s) x q)) p
      → Cached s log x.fences (past (settings_of s) x q).fills c (c + 1) w tags lines
      → (past (settings_of s) x q).answer ≤ c → Mid s log x q c busy w p tags lines
  pending : (y : Past) (t : ℕ) → Asked s x q (c + 1) busy w y t
      → Wired s log x.switches x.fences y t (last_of x q) c w p tags lines → Mid s log x q c busy w p tags lines
