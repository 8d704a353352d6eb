-- Memory as its words.
use Rattle.std.specs.Prelude.{ℕ, ◌+◌, ◌-◌, ◌*◌, ◌/◌, ◌%◌, ◌^◌, ◌<◌, ◌≡◌, List, length, slice_index, Bool, true, false}
use Rattle.std.specs.Prelude.{◌==◌, if◌then◌else◌}
use Rattle.std.specs.Int.{bit_at}
use Rattle.ibx_elf.specs.declared.ram.Ram.{Ram}
use Rattle.ibx_elf.specs.Ram.{ram_has, IsRamRange}
use Rattle.ibx_bits.specs.Bytes.{word_byte}
use Rattle.ibx_isa.specs.Portions.{portion_size}
use Rattle.ibx_arch.specs.Memory.{Memory, read_byte}

-- the byte at an address, where word i of RAM has the four bytes from 4 i on; outside RAM there is 0
abbrev pub byte_in : Ram → List ℕ → ℕ → ℕ
byte_in ram words a = if ram_has ram a then word_byte (slice_index words ((a - ram.base) / 4)) (a % 4) else 0

-- memory as its range and its words
pub record Words : Type 0 where
  pub ram : Ram
  pub words : List ℕ

-- the memory that these words are
unfoldable pub memory_of : Words → Memory
memory_of w = record { ram = w.ram; byte = byte_in w.ram w.words }

-- the range may be RAM, and has as many words
pub record IsWhole (w : Words) : Type 0 where
  pub ram : IsRamRange w.ram
  pub count : 4 * length w.words ≡ w.ram.size

-- the bytes of an access that a portion has: from which number, and up to which
abbrev pub portion_from : ℕ → ℕ → Bool → ℕ
portion_from addr size false = 0
portion_from addr size true = portion_size addr size false

-- the number past the last byte of a portion
abbrev pub portion_to : ℕ → ℕ → Bool → ℕ
portion_to addr size false = portion_size addr size false
portion_to addr size true = size

-- a word has the four bytes that a read gives from an address on
abbrev pub HoldsBytes : Memory → ℕ → ℕ → Type 0
HoldsBytes memory addr word = (k : ℕ) → k < 4 → word_byte word k ≡ read_byte memory (addr + k)

-- byte j of a word where its lane isn't enabled, and else that of the lanes
abbrev pub merged_byte : ℕ → ℕ → ℕ → ℕ → ℕ
merged_byte word enables bits j = if bit_at enables j == 1 then word_byte bits j else word_byte word j

-- the word of a portion, by its number among all words
abbrev pub portion_word : ℕ → Bool → ℕ
portion_word addr false = addr / 4
portion_word addr true = (addr / 4 + 1) % 2 ^ 30
