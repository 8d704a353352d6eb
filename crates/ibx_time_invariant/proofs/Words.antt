-- The fetch side before a cycle, and between the phases of a cycle.
use Rattle.std.proofs.Common.{◌≡◌, ℕ, ◌+◌, Bool, List}
use Rattle.ibx_icache.specs.WordPort.{marked}
use Rattle.ibx_icache.specs.declared.port.WordPort.{WordPort}
use Rattle.ibx_time_invariant.proofs.Fetches.{FetchAt}
use Rattle.ibx_time_invariant.proofs.Caches.{Cleared, EnableAt, EnableMid, WalkAt, WalkMid}
use Rattle.ibx_time_invariant.proofs.Links.{IsSent, Link, Mid}
use Rattle.ibx_bus.specs.Port.{PortState}
use Rattle.ibx_time.specs.Settings.{Setup, settings_of}
use Rattle.ibx_time.specs.Streams.{Stream, past}
use Rattle.ibx_time.specs.Memories.{Write}
use Rattle.ibx_time.specs.History.{Story}
use Rattle.ibx_time.proofs.Times.{IsPast, IsRequested, IsSound}
use Rattle.ibx_prefetch.specs.declared.buffer.Prefetch.{Prefetch}

-- before cycle c: q words of the stream are requested, and the bit that enables the cache is this
pub record WordsAt (s : Setup) (log : List Write) (x : Stream) (half q c : ℕ) (enable : Bool) (f : Prefetch)
    (w : WordPort) (p : PortState) (tags lines : List ℕ) : Type 0 where
  pub fetch : FetchAt s log x half q f
  pub link : Link s log x q c c f.f_busy w p tags lines
  pub requested : IsRequested (settings_of s) x c q
  pub gates : IsPast x c
  pub begin : c ≡ 0 → (past (settings_of s) x q).answer ≡ 0
  pub walk : WalkAt x.fences c w.c_walk
  pub enabled : EnableAt x.switches c enable
  pub sound : IsSound x.before
  pub sent : IsSent x.before

-- in cycle c after the done, with a FENCE.I in it or without, and the bit of the next cycle
pub record WordsMid (s : Setup) (log : List Write) (x : Stream) (half q c : ℕ) (fence enable next : Bool)
    (f : Prefetch) (w : WordPort) (p : PortState) (tags lines : List ℕ) : Type 0 where
  pub fetch : FetchAt s log x half q f
  pub link : Link s log x q c (c + 1) f.f_busy (marked fence w) p tags lines
  pub requested : IsRequested (settings_of s) x c q
  pub gates : IsPast x c
  pub begin : c ≡ 0 → (past (settings_of s) x q).answer ≡ 0
  pub walk : WalkMid x.fences c fence w.c_walk
  pub enabled : EnableMid x.switches c enable next
  pub sound : IsSound x.before
  pub sent : IsSent x.before

-- After the answer, with the cache's words as this cycle leaves them. The walk is where it was before the cycle.
pub record AfterAnswer (s : Setup) (log : List Write) (x : Stream) (half q c walk : ℕ) (fence enable next : Bool)
    (f : Prefetch) (w : WordPort) (p : PortState) (tags lines : List ℕ) : Type 0 where
  pub fetch : FetchAt s log x half q f
  pub mid : Mid s log x q c f.f_busy w p tags lines
  pub requested : IsRequested (settings_of s) x c q
  pub gates : IsPast x c
  pub kept : w.c_walk ≡ walk
  pub walk_is : WalkMid x.fences c fence walk
  pub cleared : Cleared walk tags
  pub enabled : EnableMid x.switches c enable next
  pub sound : IsSound x.before
  pub sent : IsSent x.before

-- after the issue: what is requested before the next cycle
pub record AfterIssue (s : Setup) (log : List Write) (x : Stream) (half q c walk : ℕ) (fence enable next : Bool)
    (f : Prefetch) (w : WordPort) (p : PortState) (tags lines : List ℕ) : Type 0 where
  pub fetch : FetchAt s log x half q f
  pub mid : Mid s log x q c f.f_busy w p tags lines
  pub requested : IsRequested (settings_of s) x (c + 1) q
  pub gates : IsPast x c
  pub kept : w.c_walk ≡ walk
  pub walk_is : WalkMid x.fences c fence walk
  pub cleared : Cleared walk tags
  pub enabled : EnableMid x.switches c enable next
  pub sound : IsSound x.before
  pub sent : IsSent x.before

-- of a story
abbrev pub Words : Setup → Story → ℕ → ℕ → Bool → Prefetch → WordPort → PortState → List ℕ → List ℕ → Type 0
Words s y q c enable f w p tags lines = WordsAt s y.writes y.times.stream y.times.half q c enable f w p tags lines
