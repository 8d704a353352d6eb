-- What the core in its system holds of the words of instructions, before each cycle of a run. Our own rule.
use Rattle.std.specs.Prelude.{ℕ, List}
use Rattle.ibx_core.specs.declared.state.State.{State}
use Rattle.ibx_system.specs.System.{Whole}
use Rattle.ibx_icache.specs.declared.port.WordPort.{WordPort}
use Rattle.ibx_time_system.specs.Laws.{after}
use Rattle.ibx_prefetch.specs.declared.buffer.Prefetch.{Prefetch}
use Rattle.ibx_time.specs.History.{Story}
use Rattle.ibx_time.specs.Settings.{Setup, settings_of}
use Rattle.ibx_time.specs.Streams.{past, requested}
use Rattle.ibx_time_units.specs.Buffer.{IsBuffer}
use Rattle.ibx_time.specs.Runs.{story_at}
use Rattle.ibx_time_units.specs.Port.{IsCache, stored}

-- the words of a story that are requested before a cycle
abbrev pub count_at : Setup → Story → ℕ → ℕ
count_at s y c = requested (settings_of s) y.times.stream c

-- the buffer, and the word port with the cache, hold the words of a story
pub record HoldsStory (s : Setup) (y : Story) (c : ℕ) (f : Prefetch) (w : WordPort) (tags lines : List ℕ) : Type 0 where
  pub buffer : IsBuffer s y.writes y.times (count_at s y c) c f
  pub cache : IsCache s y.writes y.times.stream.fences
      (stored (past (settings_of s) y.times.stream (count_at s y c)).fills c) c w tags lines

-- before each cycle of a run main holds those of the history
abbrev pub HoldsFetches : Setup → Whole State → Type 0
HoldsFetches s w =
    (c : ℕ) → HoldsStory s (story_at s c) c (after w c).main.fetch (after w c).main.words
    (after w c).place.tags (after w c).place.lines
