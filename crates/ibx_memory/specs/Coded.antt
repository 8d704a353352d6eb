-- A memory of codewords, and the bytes that it stands for.
use Rattle.std.specs.Prelude.{◌≡◌, ℕ, ◌+◌, ◌*◌, ◌<◌, length, slice_index}
use Rattle.ibx_elf.specs.declared.ram.Ram.{Ram}
use Rattle.ibx_secded.specs.Code.{encode_of}
use Rattle.ibx_bus.specs.Memory.{MemoryState}
use Rattle.ibx_arch.specs.Memory.{Memory, read_bytes}

-- in this range of RAM each word is the codeword of its four bytes
pub record HoldsMemory (ram : Ram) (m : MemoryState) (memory : Memory) : Type 0 where
  pub base : m.base ≡ ram.base
  pub size : 4 * length m.words ≡ ram.size
  pub words : (i : ℕ) → i < length m.words
      → slice_index m.words i ≡ encode_of 32 7 (read_bytes memory (ram.base + 4 * i) 4)
