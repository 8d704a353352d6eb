-- Where the firmware that a number gives stands in memory.
use Rattle.std.specs.Prelude.{ℕ, ◌+◌, ◌*◌, ◌≡◌, ◌<◌, ◌≤◌, List, length, slice_index}
use Rattle.ibx_elf.specs.declared.ram.Ram.{Ram}
use Rattle.ibx_elf.specs.Image.{Placed, image_byte, image_word}
use Rattle.ibx_wrap.specs.Wrapped.{code_address}

-- the memory of a run without options: 1 MiB from 0x00100000 on
abbrev pub default_ram : Ram
default_ram = record { base = 0x00100000; size = 0x00100000 }

-- the run begins at the first of these words, which stand one after the other, and all other bytes are 0
pub record HoldsProgram (words : List ℕ) (image : Placed) : Type 0 where
  pub entry : image.entry ≡ code_address
  pub there : (i : ℕ) → i < length words → image_word image (code_address + 4 * i) ≡ slice_index words i
  pub before : (addr : ℕ) → addr < code_address → image_byte image addr ≡ 0
  pub after : (addr : ℕ) → code_address + 4 * length words ≤ addr → image_byte image addr ≡ 0
