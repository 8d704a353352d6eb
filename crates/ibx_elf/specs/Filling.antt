-- Words that are filled byte by byte.
use Rattle.std.specs.Prelude.{ℕ, ◌+◌, ◌-◌, ◌*◌, ◌/◌, ◌%◌, ◌^◌, ◌<◌, ◌≡◌, ◌&&◌, ◌==◌, nat_lt, nat_le, List, length}
use Rattle.std.specs.Prelude.{slice_index, if◌then◌else◌, unwrap_or}
use Rattle.ibx_elf.specs.Image.{placed_by}
use Rattle.ibx_elf.specs.Search.{first_below}
use Rattle.ibx_bits.specs.Bytes.{word_byte}

-- byte a of words, the lowest byte of each first
abbrev pub byte_of : List ℕ → ℕ → ℕ
byte_of words a = word_byte (slice_index words (a / 4)) (a % 4)

-- each number fits a word
abbrev pub AreWords : List ℕ → Type 0
AreWords words = (i : ℕ) → slice_index words i < 2 ^ 32

-- after, byte `at` is this one and the others are as before
abbrev pub HasPutByte : List ℕ → ℕ → ℕ → List ℕ → Type 0
HasPutByte before at byte after =
    (a : ℕ) → byte_of after a ≡ (if a == at then byte else byte_of before a)

-- after, the first n bytes of a list stand from `start` on, and the others are as before
abbrev pub HasPut : List ℕ → ℕ → List ℕ → ℕ → List ℕ → Type 0
HasPut before start bytes n after =
    (a : ℕ) → byte_of after a
    ≡ (if nat_le start a && nat_lt a (start + n) then slice_index bytes (a - start) else byte_of before a)

-- words that have the bytes which the headers below n place from the base on, and 0 elsewhere
pub record FilledBelow (file : List ℕ) (base : ℕ) (words : List ℕ) (n : ℕ) : Type 0 where
  pub bytes : (a : ℕ) → a < 4 * length words
      → byte_of words a ≡ unwrap_or (first_below (placed_by file (base + a)) n) 0
  pub small : AreWords words
