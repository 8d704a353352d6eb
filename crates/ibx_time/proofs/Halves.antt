-- The halves of a word, with anything above it, are the halfwords that memory has there.
use Rattle.std.proofs.Common.{◌≡◌, ℕ, zero, suc, ◌+◌, ◌*◌, ◌/◌, ◌%◌, ◌^◌, ◌<◌, true, false, if◌then◌else◌, sym, ap}
use Rattle.std.proofs.Common.{ap₂, ◌∙◌, arith}
use Rattle.ibx_bits.specs.Bytes.{bytes_number}
use Rattle.ibx_elf.specs.Ram.{ram_has}
use Rattle.ibx_arch.specs.Memory.{Memory, read_byte, read_bytes}

-- a word is the sum of its bytes
four_is : (f : ℕ → ℕ) → bytes_number f 4 ≡ f 0 + f 1 * 256 + f 2 * 65536 + f 3 * 16777216
unfolding bytes_number
four_is f = omega arith

-- a halfword is its lower byte and 256 times its upper one
two_is : (f : ℕ → ℕ) → bytes_number f 2 ≡ f 0 + f 1 * 256
unfolding bytes_number
two_is f = omega arith

-- the lower half of a word is that of its lower two bytes, whatever is above the word
low_half : (e b0 b1 b2 b3 : ℕ) → b0 < 256 → b1 < 256
    → (b0 + b1 * 256 + b2 * 65536 + b3 * 16777216 + (e * 4294967296)) / 1 % 65536 ≡ b0 + b1 * 256
low_half e b0 b1 b2 b3 h0 h1 = omega arith

-- the upper half of a word is that of its upper two bytes, whatever is above the word
high_half : (e b0 b1 b2 b3 : ℕ) → b0 < 256 → b1 < 256 → b2 < 256 → b3 < 256
    → (b0 + b1 * 256 + b2 * 65536 + b3 * 16777216 + (e * 4294967296)) / 65536 % 65536 ≡ b2 + b3 * 256
high_half e b0 b1 b2 b3 h0 h1 h2 h3 = omega arith

-- a byte that is read is one that memory holds, or 0
byte_low : (memory : Memory) (a : ℕ) → ((b : ℕ) → memory.byte b < 256) → read_byte memory a < 256
byte_low memory a h =
    elim (ram_has memory.ram a) as (λ b. (if b then memory.byte a else 0) < 256) [ true ↦ h a | false ↦ omega arith ]

-- half h of a word, whatever is above the word
abbrev pub half_at : ℕ → ℕ → ℕ
half_at entry h = entry / 2 ^ (16 * h) % 2 ^ 16

-- it is the halfword that memory has there
pub half_is : (memory : Memory) (e a h : ℕ) → ((b : ℕ) → memory.byte b < 256) → h < 2
    → half_at (read_bytes memory a 4 + e * 2 ^ 32) h ≡ read_bytes memory (a + 2 * h) 2
half_is memory e a zero low small =
    let b : ℕ → ℕ = λ k. read_byte memory ((a + k) % 2 ^ 32) in
    ap (λ v. (v + e * 4294967296) / 1 % 65536) (four_is b)
    ∙ low_half e (b 0) (b 1) (b 2) (b 3) (byte_low memory ((a + 0) % 2 ^ 32) low)
    (byte_low memory ((a + 1) % 2 ^ 32) low)
    ∙ ap₂ (λ v w. read_byte memory (v % 2 ^ 32) + read_byte memory (w % 2 ^ 32) * 256) (omega arith) (omega arith)
    ∙ sym (two_is (λ k. read_byte memory ((a + 0 + k) % 2 ^ 32)))
half_is memory e a (suc zero) low small =
    let b : ℕ → ℕ = λ k. read_byte memory ((a + k) % 2 ^ 32) in
    ap (λ v. (v + e * 4294967296) / 65536 % 65536) (four_is b)
    ∙ high_half e (b 0) (b 1) (b 2) (b 3) (byte_low memory ((a + 0) % 2 ^ 32) low)
    (byte_low memory ((a + 1) % 2 ^ 32) low) (byte_low memory ((a + 2) % 2 ^ 32) low)
    (byte_low memory ((a + 3) % 2 ^ 32) low)
    ∙ ap₂ (λ v w. read_byte memory (v % 2 ^ 32) + read_byte memory (w % 2 ^ 32) * 256) (omega arith) (omega arith)
    ∙ sym (two_is (λ k. read_byte memory ((a + 2 + k) % 2 ^ 32)))
half_is memory e a (suc (suc h)) low small = absurd (omega arith)
