-- The numbers among operands: which values a field holds, and at which bits of the instruction.
-- 32-bit instructions: RISC-V Unprivileged ISA, 2.2 and 2.3; compressed ones: 16.2 to 16.5.
use Rattle.std.specs.Prelude.{ℕ, ◌-◌, ◌*◌, ◌%◌, ◌^◌, Bool, true, false, not, ◌==◌, ◌&&◌, ◌||◌, nat_le, bit_or, List, []}
use Rattle.std.specs.Prelude.{◌∷◌, map, if◌then◌else◌}
use Rattle.ibx_bits.specs.Bytes.{bits_at}
use Rattle.ibx_asm.specs.declared.fields.Field.{Field}
use Rattle.ibx_asm.specs.declared.fields.Field.TheVariants as field
use Rattle.ibx_asm.specs.declared.fields.Range.{Range}
use Rattle.ibx_asm.specs.declared.operand.Signed.{Signed}

-- from -lowest to highest, multiples of the step; and whether 0 is one of them
abbrev pub multiples : ℕ → ℕ → ℕ → Bool → Range
multiples lowest highest step zero = record { lowest = lowest; highest = highest; step = step; zero = zero }

-- the numbers that a field holds
unfoldable pub range_of : Field → Range
range_of field.I = multiples 2048 2047 1 true
range_of field.S = multiples 2048 2047 1 true
range_of field.B = multiples 4096 4094 2 true
range_of field.U = multiples 0 0xfffff 1 true
range_of field.J = multiples 0x100000 0xffffe 2 true
range_of field.Shift = multiples 0 31 1 true
range_of field.Csr = multiples 0 4095 1 true
range_of field.Source = multiples 0 31 1 true
range_of field.StackAddress = multiples 0 1020 4 false
range_of field.ShortOffset = multiples 0 124 4 true
range_of field.StackLoad = multiples 0 252 4 true
range_of field.StackStore = multiples 0 252 4 true
range_of field.Six = multiples 32 31 1 true
range_of field.Upper = multiples 32 31 1 false
range_of field.StackAdjust = multiples 512 496 16 false
range_of field.ShortShift = multiples 0 31 1 true
range_of field.ShortJump = multiples 2048 2046 2 true
range_of field.ShortBranch = multiples 256 254 2 true
range_of field.Word = multiples 0 0xffffffff 1 true
range_of field.Half = multiples 0 0xffff 1 true
range_of field.Byte = multiples 0 0xff 1 true

-- the number's bits from one on, how many, and from which bit of the instruction on they stand
unfoldable pub places_of : Field → List (ℕ × ℕ × ℕ)
places_of field.I = (0, 12, 20) ∷ []
places_of field.S = (5, 7, 25) ∷ (0, 5, 7) ∷ []
places_of field.B = (12, 1, 31) ∷ (5, 6, 25) ∷ (1, 4, 8) ∷ (11, 1, 7) ∷ []
places_of field.U = (0, 20, 12) ∷ []
places_of field.J = (20, 1, 31) ∷ (1, 10, 21) ∷ (11, 1, 20) ∷ (12, 8, 12) ∷ []
places_of field.Shift = (0, 5, 20) ∷ []
places_of field.Csr = (0, 12, 20) ∷ []
places_of field.Source = (0, 5, 15) ∷ []
places_of field.StackAddress = (4, 2, 11) ∷ (6, 4, 7) ∷ (2, 1, 6) ∷ (3, 1, 5) ∷ []
places_of field.ShortOffset = (3, 3, 10) ∷ (2, 1, 6) ∷ (6, 1, 5) ∷ []
places_of field.StackLoad = (5, 1, 12) ∷ (2, 3, 4) ∷ (6, 2, 2) ∷ []
places_of field.StackStore = (2, 4, 9) ∷ (6, 2, 7) ∷ []
places_of field.Six = (5, 1, 12) ∷ (0, 5, 2) ∷ []
places_of field.Upper = (5, 1, 12) ∷ (0, 5, 2) ∷ []
places_of field.StackAdjust = (9, 1, 12) ∷ (4, 1, 6) ∷ (6, 1, 5) ∷ (7, 2, 3) ∷ (5, 1, 2) ∷ []
places_of field.ShortShift = (0, 5, 2) ∷ []
places_of field.ShortJump =
    (11, 1, 12) ∷ (4, 1, 11) ∷ (8, 2, 9) ∷ (10, 1, 8) ∷ (6, 1, 7) ∷ (7, 1, 6) ∷ (1, 3, 3) ∷ (5, 1, 2) ∷ []
places_of field.ShortBranch = (8, 1, 12) ∷ (3, 2, 10) ∷ (6, 2, 5) ∷ (1, 2, 3) ∷ (5, 1, 2) ∷ []
places_of field.Word = (0, 32, 0) ∷ []
places_of field.Half = (0, 16, 0) ∷ []
places_of field.Byte = (0, 8, 0) ∷ []

-- whether a range has a number
unfoldable pub has : Range → Signed → Bool
has r n =
    (if n.minus then nat_le n.size r.lowest else nat_le n.size r.highest)
    && (n.size % r.step == 0) && (r.zero || not (n.size == 0))

-- a number in two's complement of 32 bits
unfoldable pub twos_complement : Signed → ℕ
twos_complement n = if n.minus then (2 ^ 32 - n.size % 2 ^ 32) % 2 ^ 32 else n.size % 2 ^ 32

-- one part of a number at its place
abbrev pub placed_part : ℕ → ℕ × ℕ × ℕ → ℕ
placed_part bits p = bits_at bits p.0 p.1 * 2 ^ p.2

-- numbers whose bits are united
unfoldable pub united : List ℕ → ℕ
united [] = 0
united (x ∷ []) = x
united (x ∷ y ∷ more) = bit_or x (united (y ∷ more))

-- a number's bits at their places
unfoldable pub scattered : Field → ℕ → ℕ
scattered f bits = united (map (placed_part bits) (places_of f))
