-- The integer computations and the comparisons of branches (Unprivileged ISA, 2.4 and 2.5), by whole numbers of 32
-- bits.
use Rattle.std.specs.Prelude.{ℕ, ◌+◌, ◌-◌, ◌*◌, ◌/◌, ◌%◌, ◌^◌, pos, Bool, not, ◌==◌, nat_lt, int_lt, bit_and, bit_or}
use Rattle.std.specs.Prelude.{bit_xor}
use Rattle.std.specs.Int.{cast_unsigned, from_bool, int_div_euclid, w32}
use Rattle.ibx_isa.specs.Multiply.{signed}
use Rattle.ibx_isa.specs.declared.insn.AluOp.{AluOp}
use Rattle.ibx_isa.specs.declared.insn.AluOp.TheVariants.{Add, Sub, Sll, Slt, Sltu, Xor, Srl, Sra, Or, And}
use Rattle.ibx_isa.specs.declared.insn.BranchOp.{BranchOp}
use Rattle.ibx_isa.specs.declared.insn.BranchOp.TheVariants.{Eq, Ne, Lt, Ge, Ltu, Geu}

-- a shift's amount: the low five bits of the operand
abbrev pub shift_amount : ℕ → ℕ
shift_amount b = b % 32

-- Sums and differences are modulo 2 ^ 32, and a comparison gives 1 or 0.
-- An arithmetic shift to the right is the signed number over the power of two, rounded down.
unfoldable pub alu_of : AluOp → ℕ → ℕ → ℕ
alu_of Add a b = (a + b) % 2 ^ 32
alu_of Sub a b = (a + (2 ^ 32 - b)) % 2 ^ 32
alu_of Sll a b = a * 2 ^ shift_amount b % 2 ^ 32
alu_of Slt a b = from_bool (int_lt (signed a) (signed b))
alu_of Sltu a b = from_bool (nat_lt a b)
alu_of Xor a b = bit_xor a b
alu_of Srl a b = a / 2 ^ shift_amount b
alu_of Sra a b = cast_unsigned w32 (int_div_euclid (signed a) (pos (2 ^ shift_amount b)))
alu_of Or a b = bit_or a b
alu_of And a b = bit_and a b

-- whether a conditional branch is taken
unfoldable pub branch_of : BranchOp → ℕ → ℕ → Bool
branch_of Eq a b = a == b
branch_of Ne a b = not (a == b)
branch_of Lt a b = int_lt (signed a) (signed b)
branch_of Ge a b = not (int_lt (signed a) (signed b))
branch_of Ltu a b = nat_lt a b
branch_of Geu a b = not (nat_lt a b)
