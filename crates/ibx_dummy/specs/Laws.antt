-- What the rule of dummies comes to: the threshold and the register by their bits, and the dummy's word by the fields
-- of its format.
use Rattle.std.specs.Prelude.{◌≡◌, ℕ, ◌+◌, ◌*◌, ◌/◌, ◌%◌, ◌^◌, ◌<◌, Bool, ◌||◌, ◌==◌, nat_le, if◌then◌else◌, bit_xor}
use Rattle.std.specs.Prelude.{min}
use Rattle.std.specs.Int.{bit_at}

-- A threshold is below 32. Its bits 1:0 are the register's, and each of bits 4:2 is the register's where the mask has
-- the bit two below.
pub record IsThreshold (lfsr mask n : ℕ) : Type 0 where
  pub most : n < 32
  pub low : (k : ℕ) → k < 2 → bit_at n k ≡ bit_at lfsr k
  pub high : (k : ℕ) → k < 3 → bit_at n (k + 2) ≡ min (bit_at lfsr (k + 2)) (bit_at mask k)

-- the feedback of the polynomial x^32 + x^22 + x^2 + x + 1 goes into the bits one below its exponents
abbrev pub is_tap : ℕ → Bool
is_tap k = (k == 31) || (k == 21) || (k == 1) || (k == 0)

-- one step to the right: each bit takes the one above it, and where the feedback goes in, the sum of this one and the
-- bit that falls out
abbrev pub Shifts : ℕ → ℕ → Type 0
Shifts before after =
    (k : ℕ) → k < 32 → bit_at after k ≡ (bit_at before (k + 1) + (if is_tap k then bit_at before 0 else 0)) % 2

-- the value whose step gives this one: bit 31 tells whether there was feedback
abbrev pub stepped_back : ℕ → ℕ
stepped_back x = if nat_le (2 ^ 31) x then bit_xor x 0x80200003 * 2 + 1 else x * 2

-- ADD, MUL, DIV and AND by their functions (RISC-V Unprivileged ISA, 24)
abbrev pub funct3_of : ℕ → ℕ
funct3_of kind = if kind == 2 then 4 else if kind == 3 then 7 else 0

-- funct7 is 1 for MUL and DIV, which are of the M extension, and 0 for ADD and AND
abbrev pub funct7_of : ℕ → ℕ
funct7_of kind = if (kind == 1) || (kind == 2) then 1 else 0

-- The word has the fields of the R format (Unprivileged ISA, 2.2) with the opcode OP. Its destination is x0, and bits
-- 16:15 of the register choose the instruction, 9:5 its first operand, and 14:10 its second.
pub record IsDummyOf (lfsr word : ℕ) : Type 0 where
  pub opcode : word % 2 ^ 7 ≡ 0x33
  pub rd : word / 2 ^ 7 % 2 ^ 5 ≡ 0
  pub funct3 : word / 2 ^ 12 % 2 ^ 3 ≡ funct3_of (lfsr / 2 ^ 15 % 4)
  pub rs1 : word / 2 ^ 15 % 2 ^ 5 ≡ lfsr / 2 ^ 5 % 2 ^ 5
  pub rs2 : word / 2 ^ 20 % 2 ^ 5 ≡ lfsr / 2 ^ 10 % 2 ^ 5
  pub funct7 : word / 2 ^ 25 ≡ funct7_of (lfsr / 2 ^ 15 % 4)
