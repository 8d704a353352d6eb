-- What holds of the story that a history leaves.
use Rattle.std.proofs.Common.{◌≡◌, ℕ, ◌<◌, ◌≤◌}
use Rattle.ibx_arch.specs.Memory.{image_memory}
use Rattle.ibx_time.specs.Settings.{Setup}
use Rattle.ibx_time.specs.Memories.{memory_at}
use Rattle.ibx_time.specs.History.{Story}
use Rattle.ibx_time.specs.Chains.{story_after}
use Rattle.ibx_time.proofs.Follows.{HasCtl}
use Rattle.ibx_time.proofs.Chains.{story_ctl}
use Rattle.ibx_time.proofs.Seen.{story_half}
use Rattle.ibx_time.proofs.States.{IsGood}
use Rattle.ibx_time.proofs.Stories.{IsSane, story_good}
use Rattle.ibx_time.proofs.Places.{HasPlace, story_place}
use Rattle.ibx_time.proofs.Settled.{IsBefore, story_before, story_memory}

-- the times and the state of a story agree, and its state is valid
pub record IsStory (s : Setup) (h : Story) : Type 0 where
  pub ctl : HasCtl h
  pub place : HasPlace h
  pub half_low : h.times.half < 2
  pub good : IsGood s.image.ram h.state
  pub before : IsBefore h.writes h.done
  pub memory : (c : ℕ) → h.done ≤ c → h.state.memory ≡ memory_at (image_memory s.image) h.writes c

-- this holds along a story
pub story_holds : (s : Setup) (limit n : ℕ) → IsSane s → IsStory s (story_after s limit n)
story_holds s limit n ok = record {
  ctl = story_ctl s limit n;
  place = story_place s limit n ok;
  half_low = story_half s limit n;
  good = story_good s limit n ok;
  before = story_before s limit n;
  memory = λ c late. story_memory s limit n c ok late;
}
