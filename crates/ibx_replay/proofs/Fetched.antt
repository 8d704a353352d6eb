-- What the numbers of the fetch side stand for, against the stream and what the requests leave.
use Rattle.std.proofs.Common.{◌≡◌, ℕ, suc, ◌+◌, ◌*◌, ◌<◌, ◌≤◌, ◌^◌, ◌%◌, Bool, List, length, Option, Some, None}
use Rattle.ibx_time.specs.Settings.{Settings}
use Rattle.ibx_time.specs.Requests.{Fill, enabled_at, made}
use Rattle.ibx_time.specs.Streams.{Stream, past, answer, word_addr}
use Rattle.ibx_time.proofs.Times.{IsRequested, IsSound}
use Rattle.ibx_time.proofs.Seen.{IsClean}
use Rattle.ibx_replay.specs.Fetches.{Word, Line, Fetch}
use Rattle.ibx_replay.proofs.Slots.{IsLog, starts}
use Rattle.ibx_replay.proofs.Serves.{IsCache}
use Rattle.ibx_replay.proofs.Gates.{IsGated}
use Rattle.ibx_replay.proofs.Ports.{IsPlace}

-- a line without its words is a fill
abbrev pub fill_in_line : Line → Fill
fill_in_line x =
    record { line = x.line; way = x.way; time = x.time; grant0 = x.grant0; grant1 = x.grant1 }

-- the fill that a line is, if there is one
abbrev pub fill_in : Option Line → Option Fill
fill_in None = None
fill_in (Some x) = Some (fill_in_line x)

-- A line has the words that memory held in its grants (`reads g a` is the word at a in cycle g), and it was stored
-- before v.
pub record IsRead (reads : ℕ → ℕ → ℕ) (v : ℕ) (x : Line) : Type 0 where
  pub low : x.line < 2 ^ 29
  pub word0 : x.word0 ≡ reads x.grant0 (8 * x.line)
  pub word1 : x.word1 ≡ reads x.grant1 (8 * x.line + 4)
  pub early0 : x.grant0 < x.time
  pub early1 : x.grant1 < x.time
  pub stored : x.time < v

-- where there is a line
abbrev pub AreRead : (ℕ → ℕ → ℕ) → ℕ → Option Line → Type 0
AreRead reads v None = Unit {0}
AreRead reads v (Some x) = IsRead reads v x

-- word j of a stream
pub record WordIs (k : Settings) (reads : ℕ → ℕ → ℕ) (x : Stream) (j : ℕ) (w : Word) : Type 0 where
  pub answer : w.answer ≡ answer k x j
  pub grant : w.grant ≡ (past k x (suc j)).grant
  pub value : w.value ≡ reads w.grant (word_addr x j)

-- The lines are those of the fills. All but the one in flight were stored before c, which is after the last request.
pub record CacheIs (reads : ℕ → ℕ → ℕ) (c : ℕ) (fences : List ℕ) (fills : List Fill) (f : Fetch) : Type 0 where
  pub places : IsCache fills (λ n. fill_in (f.lines n)) f.other_way (fill_in f.filling)
  pub starts_is : f.starts ≡ starts fences
  pub lines : (n : ℕ) → AreRead reads c (f.lines n)
  pub filling : AreRead reads f.answer f.filling

-- q words of the stream are requested, those that are issued before c
pub record FetchAt (k : Settings) (reads : ℕ → ℕ → ℕ) (x : Stream) (q c : ℕ) (f : Fetch) : Type 0 where
  pub requested : IsRequested k x c q
  pub gated : IsGated k x q f.gate
  pub gate_past : f.gate ≤ c
  pub held : length x.enters + f.count ≡ q
  pub next : f.next ≡ word_addr x q
  pub answer : f.answer ≡ (past k x q).answer
  pub words : (i : ℕ) → i < f.count → WordIs k reads x (length x.enters + i) (f.words i)
  pub port : IsPlace k.plan.iwaits f.port (made (past k x q))
  pub cache : CacheIs reads c x.fences (past k x q).fills f
  pub clean : IsClean x.fences x.before
  pub sound : IsSound x.before

-- from c on the FENCE.Is and icache_enable are as they are now
pub record IsSettled (x : Stream) (c : ℕ) (on : Bool) : Type 0 where
  pub log : IsLog x.fences (c + 1)
  pub enabled : (t : ℕ) → c ≤ t → enabled_at x.switches t ≡ on

-- `held` is what memory holds from c on
abbrev pub Holds : (ℕ → ℕ → ℕ) → (ℕ → ℕ → ℕ) → ℕ → Type 0
Holds held reads c = (g a : ℕ) → c ≤ g → a < 2 ^ 32 → a % 4 ≡ 0 → held g a ≡ reads g a
