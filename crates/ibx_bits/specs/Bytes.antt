-- Bits and bytes of numbers. Bytes are little-endian: byte 0 is the least significant (Unprivileged ISA, 1.4).
use Rattle.std.specs.Prelude.{ℕ, zero, suc, ◌+◌, ◌-◌, ◌*◌, ◌/◌, ◌%◌, ◌^◌, Bool, nat_lt, if◌then◌else◌}

-- byte k of a number, the least significant first
abbrev pub word_byte : ℕ → ℕ → ℕ
word_byte w k = w / 256 ^ k % 256

-- the number of which these are the lowest bytes
unfoldable pub bytes_number : (ℕ → ℕ) → ℕ → ℕ
bytes_number f zero = 0
bytes_number f (suc n) = bytes_number f n + f n * 256 ^ n

-- the number of which these are the lowest bits
unfoldable pub bits_number : (ℕ → Bool) → ℕ → ℕ
bits_number f zero = 0
bits_number f (suc n) = bits_number f n + (if f n then 2 ^ n else 0)

-- so many bits from bit `low` on
abbrev pub bits_at : ℕ → ℕ → ℕ → ℕ
bits_at w low count = w / 2 ^ low % 2 ^ count

-- a two's complement number of so many bits, sign-extended to 32
abbrev pub sign_extended : ℕ → ℕ → ℕ
sign_extended bits n = if nat_lt n (2 ^ (bits - 1)) then n else n + (2 ^ 32 - 2 ^ bits)

-- the complement of a word of 32 bits
abbrev pub complement : ℕ → ℕ
complement n = 2 ^ 32 - 1 - n
