-- The values of the M extension (Unprivileged ISA, 7.1 and 7.2), by whole numbers.
use Rattle.std.specs.Prelude.{ℕ, ◌*◌, ◌/◌, ◌%◌, ◌^◌, ◌-◌, ℤ, pos, ◌*ℤ◌, ◌==◌, if◌then◌else◌, int_div, int_rem}
use Rattle.std.specs.Int.{cast_signed, cast_unsigned, w32, w64}
use Rattle.ibx_isa.specs.declared.insn.MdOp.{MdOp}
use Rattle.ibx_isa.specs.declared.insn.MdOp.TheVariants.{Mul, Mulh, Mulhsu, Mulhu, Div, Divu, Rem, Remu}

-- the signed number that a word stands for
abbrev pub signed : ℕ → ℤ
signed a = cast_signed w32 a

-- the high word of a product, as 64 bits of two's complement
abbrev pub high_word : ℤ → ℕ
high_word product = cast_unsigned w64 product / 2 ^ 32

-- Division rounds toward zero. By 0 it gives all ones, and leaves the dividend.
unfoldable pub md_value : MdOp → ℕ → ℕ → ℕ
md_value Mul a b = a * b % 2 ^ 32
md_value Mulh a b = high_word (signed a *ℤ signed b)
md_value Mulhsu a b = high_word (signed a *ℤ pos b)
md_value Mulhu a b = a * b / 2 ^ 32
md_value Div a b = if b == 0 then 2 ^ 32 - 1 else cast_unsigned w32 (int_div (signed a) (signed b))
md_value Divu a b = if b == 0 then 2 ^ 32 - 1 else a / b
md_value Rem a b = if b == 0 then a else cast_unsigned w32 (int_rem (signed a) (signed b))
md_value Remu a b = if b == 0 then a else a % b
