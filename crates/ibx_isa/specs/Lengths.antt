-- The length of an instruction (Unprivileged ISA, 1.5).
use Rattle.std.specs.Prelude.{◌≡◌, ℕ, ◌%◌, ◌^◌, ◌<◌, ◌==◌, Bool, false}

-- an instruction of 32 bits begins with a parcel whose two lowest bits are 1
abbrev pub is_long : ℕ → Bool
is_long first = first % 4 == 3

-- an instruction as fetched: a word of 32 bits, or a halfword
abbrev pub IsWordOrHalf : ℕ → Type 0
IsWordOrHalf word = is_long word ≡ false → word < 2 ^ 16
