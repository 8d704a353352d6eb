-- At reset the fetch side stands for the stream from cycle 0 on.
use Rattle.std.proofs.Common.{ℕ, zero, suc, ◌+◌, ◌/◌, ◌^◌, ◌<◌, ◌≤◌, false, [], refl, arith}
use Rattle.ibx_time.specs.Settings.{Settings}
use Rattle.ibx_time.specs.Requests.{enabled_at, last_fill, nothing_past}
use Rattle.ibx_time.specs.Streams.{Stream, gate, past}
use Rattle.ibx_time.specs.Times.{first_times}
use Rattle.ibx_time.proofs.Times.{issue_is}
use Rattle.ibx_replay.specs.Fetches.{reset_fetch}
use Rattle.ibx_replay.proofs.Fetched.{FetchAt}
use Rattle.ibx_replay.proofs.Finishes.{IsAt}

-- the first stream
abbrev first_stream : ℕ → Stream
first_stream pc =
    record { start = 0; base = pc / 4; before = nothing_past; last = 0; enters = []; fences = []; switches = [] }

-- at reset nothing is requested, and the entry's word is next
first_at : (k : Settings) (reads : ℕ → ℕ → ℕ) (pc : ℕ) → pc < 2 ^ 32
    → FetchAt k reads (first_stream pc) 0 0 (reset_fetch pc)
unfolding gate past last_fill reset_fetch
first_at k reads pc small =
    record {
      requested = record {
        within = omega arith;
        before = λ j l. absurd (omega (arith, l));
        after = λ more. omega arith;
      };
      gated = record { next = λ more. issue_is k (first_stream pc) 0; past = gates };
      gate_past = omega arith;
      held = omega arith;
      next = omega (arith, small);
      answer = refl;
      words = λ i l. absurd (omega (arith, l));
      port = record { same = λ i. refl };
      cache = record {
        places = record { stored = []; split = refl; places = λ n. refl; other_is = refl };
        starts_is = refl;
        lines = λ n. tt;
        filling = tt;
      };
      clean = record { clear = tt; stored = tt };
      sound = tt;
    }
  where
    gates : (j : ℕ) → j < 0 + 3 → gate (first_stream pc) j ≤ 0
    gates zero l = omega arith
    gates (suc zero) l = omega arith
    gates (suc (suc zero)) l = omega arith
    gates (suc (suc (suc j))) l = absurd (omega (arith, l))

-- so it is at reset, with the cache off
pub opens : (k : Settings) (reads : ℕ → ℕ → ℕ) (pc : ℕ) → pc < 2 ^ 32
    → IsAt k reads (first_times pc).stream 0 false (reset_fetch pc)
unfolding first_times enabled_at
opens k reads pc small =
    record { q = 0; fetch = first_at k reads pc small; settled = record { log = tt; enabled = λ t low. refl } }
