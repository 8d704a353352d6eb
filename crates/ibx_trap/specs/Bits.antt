-- Words as sets of bits.
use Rattle.std.specs.Prelude.{ℕ, ◌-◌, ◌^◌, ◌/◌, Bool, not, bit_and, bit_or, ◌==◌, if◌then◌else◌}

-- whether a word has one of these bits, and whether it has all of them
abbrev pub has_some : ℕ → ℕ → Bool
has_some word bits = not (bit_and word bits == 0)

-- none of these bits is 0 in the word; so MPP is M mode only where both of its bits are 1
abbrev pub has_all : ℕ → ℕ → Bool
has_all word bits = bit_and word bits == bits

-- the word with these bits 0, and with these bits 1
abbrev pub cleared : ℕ → ℕ → ℕ
cleared word bits = bit_and word (2 ^ 32 - 1 - bits)

-- these bits become 1, and the word's other bits stay as they were
abbrev pub set : ℕ → ℕ → ℕ
set word bits = bit_or word bits

-- the word with these bits 1, where the test holds
abbrev pub set_if : Bool → ℕ → ℕ → ℕ
set_if test word bits = bit_or word (if test then bits else 0)

-- whether bit n of a word is 1
abbrev pub bit_of : ℕ → ℕ → Bool
bit_of word n = bit_and (word / 2 ^ n) 1 == 1
