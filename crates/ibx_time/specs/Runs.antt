-- What is said of a run: its setup, its events, and what its words hold before a cycle. Our own rule.
use Rattle.std.specs.Prelude.{◌≡◌, ℕ, ◌+◌, ◌*◌, ◌%◌, ◌^◌, ◌<◌, map, slice_index, List, ◌∷◌, Option, Some, None}
use Rattle.ibx_elf.specs.Ram.{IsRamRange, IsInRam}
use Rattle.ibx_elf.specs.Image.{image_byte}
use Rattle.ibx_isa.specs.declared.event.Event.{Event}
use Rattle.ibx_secded.specs.Code.{encode_of}
use Rattle.ibx_arch.specs.Memory.{image_memory, read_bytes}
use Rattle.ibx_time.specs.Settings.{Setup, lines_in, settings_of}
use Rattle.ibx_time.specs.Memories.{memory_at}
use Rattle.ibx_time.specs.History.{Story, open_item, told_below, with_item}

-- an image whose RAM may lie there, with an even entry in it
pub record IsSetup (s : Setup) : Type 0 where
  pub ram : IsRamRange s.image.ram
  pub entry : IsInRam s.image.ram s.image.entry
  pub even : s.image.entry % 2 ≡ 0

-- a setup whose image has bytes, and whose interrupt lines are words
pub record IsPlaced (s : Setup) : Type 0 where
  pub setup : IsSetup s
  pub lines : (c : ℕ) → lines_in (settings_of s) c < 2 ^ 32
  pub bytes : (addr : ℕ) → image_byte s.image addr < 256

-- the events of a run with that of an earlier step before them, where it has one
abbrev pub with_event : Option Event → List Event → List Event
with_event None events = events
with_event (Some e) events = e ∷ events

-- the history below a cycle, with the item in the stage
abbrev pub story_at : Setup → ℕ → Story
story_at s c = let h = (told_below s c).story in with_item s h (open_item s c h)

-- the registers' words before a cycle are codewords of what the events left
abbrev pub HoldsRegisters : Setup → ℕ → List ℕ → Type 0
HoldsRegisters s c registers = registers ≡ map (encode_of 32 7) (told_below s c).story.state.regs

-- the words of RAM before a cycle are codewords of what the events left, and of the portions of the item in the stage
-- that are granted
abbrev pub HoldsRam : Setup → ℕ → List ℕ → Type 0
HoldsRam s c memory =
    (i : ℕ) → 4 * i < s.image.ram.size
    → slice_index memory i
    ≡ encode_of 32 7
    (read_bytes (memory_at (image_memory s.image) (story_at s c).writes c) (s.image.ram.base + 4 * i) 4)
