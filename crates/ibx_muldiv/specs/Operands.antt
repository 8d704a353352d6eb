-- What the unit computes with: magnitudes, which of the two answer words is wanted, and its sign.
use Rattle.std.specs.Prelude.{ℕ, Bool, true, false, not, ◌&&◌, ◌==◌, unsigned_abs}
use Rattle.std.specs.Int.{is_negative}
use Rattle.ibx_isa.specs.declared.insn.MdOp.{MdOp}
use Rattle.ibx_isa.specs.declared.insn.MdOp.TheVariants.{Mul, Mulh, Mulhsu, Mulhu, Div, Divu, Rem, Remu}
use Rattle.ibx_isa.specs.Multiply.{signed}
use Rattle.ibx_muldiv.specs.declared.operands.Operands.{Operands}

-- whether the signed number of a word is below 0, and how far it is from 0
abbrev pub sign : ℕ → Bool
sign a = is_negative (signed a)

-- the absolute value of a word in two's complement: that of the least number is 2^31, which still fits a word
abbrev pub magnitude : ℕ → ℕ
magnitude a = unsigned_abs (signed a)

-- whether exactly one of two numbers is below 0
abbrev pub differ : Bool → Bool → Bool
differ true b = not b
differ false b = b

-- whether an operation gives a quotient or a remainder
abbrev pub is_division : MdOp → Bool
is_division Mul = false
is_division Mulh = false
is_division Mulhsu = false
is_division Mulhu = false
is_division Div = true
is_division Divu = true
is_division Rem = true
is_division Remu = true

-- the two magnitudes, whether the high word is the answer, and whether it is negated
abbrev pub operands : ℕ → ℕ → Bool → Bool → Operands
operands first second high negate = record { first = first; second = second; high = high; negate = negate }

-- A product has a high and a low word; a division's remainder counts as its high word and its quotient as the low one.
-- A remainder has the sign of the dividend, and the quotient by 0 isn't negated (Unprivileged ISA, 7.2).
unfoldable pub operands_of : MdOp → ℕ → ℕ → Operands
operands_of Mul a b = operands a b false false
operands_of Mulh a b = operands (magnitude a) (magnitude b) true (differ (sign a) (sign b))
operands_of Mulhsu a b = operands (magnitude a) b true (sign a)
operands_of Mulhu a b = operands a b true false
operands_of Div a b = operands (magnitude a) (magnitude b) false (differ (sign a) (sign b) && not (b == 0))
operands_of Divu a b = operands a b false false
operands_of Rem a b = operands (magnitude a) (magnitude b) true (sign a)
operands_of Remu a b = operands a b true false
