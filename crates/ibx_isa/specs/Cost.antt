-- The cycles that a multiplication or a division takes beyond the one in which it enters (this core's own rule).
use Rattle.std.specs.Prelude.{◌≡◌, ℕ, ◌+◌, ◌-◌, ◌*◌, ◌^◌, ◌<◌, ◌≤◌, Bool, true, false, ◌==◌, if◌then◌else◌}
use Rattle.std.specs.Int.{leading_zeros, w32}
use Rattle.ibx_isa.specs.declared.insn.MdOp.{MdOp}
use Rattle.ibx_isa.specs.declared.insn.MdOp.TheVariants.{Mul, Mulh, Mulhsu, Mulhu, Div, Divu, Rem, Remu}
use Rattle.ibx_isa.specs.declared.insn.MulKind.{MulKind}
use Rattle.ibx_isa.specs.declared.insn.MulKind.TheVariants.{Single, Fast, Slow}

-- the bits of a word from its highest set bit down, 0 for 0
abbrev pub significant_bits : ℕ → ℕ
significant_bits b = 32 - leading_zeros w32 b

-- n is the least number of bits that b fits in
pub record IsWidth (b n : ℕ) : Type 0 where
  pub enough : b < 2 ^ n
  pub least : 2 ^ n ≤ 2 * b + 1

-- the low half of a product: the slow multiplier stops at the highest set bit of b, but for fixed timing
abbrev pub low_cost : MulKind → ℕ → Bool → ℕ
low_cost Single b fixed = 0
low_cost Fast b fixed = 2
low_cost Slow b true = 32
low_cost Slow b false = significant_bits b

-- the high half of a product
abbrev pub high_cost : MulKind → ℕ
high_cost Single = 1
high_cost Fast = 3
high_cost Slow = 32

-- a quotient or a remainder: a division by 0 ends at once, but for fixed timing
abbrev pub division_cost : ℕ → Bool → ℕ
division_cost b true = 37
division_cost b false = if b == 0 then 1 else 37

-- the cost of an operation with the second operand b; `fixed` is data-independent timing
unfoldable pub md_cost_of : MdOp → ℕ → Bool → MulKind → ℕ
md_cost_of Mul b fixed mul = low_cost mul b fixed
md_cost_of Mulh b fixed mul = high_cost mul
md_cost_of Mulhsu b fixed mul = high_cost mul
md_cost_of Mulhu b fixed mul = high_cost mul
md_cost_of Div b fixed mul = division_cost b fixed
md_cost_of Divu b fixed mul = division_cost b fixed
md_cost_of Rem b fixed mul = division_cost b fixed
md_cost_of Remu b fixed mul = division_cost b fixed

-- A multiplication of variable cost takes as many cycles as its second operand has bits.
abbrev pub StopsAtWidth : MdOp → ℕ → Bool → MulKind → ℕ → Type 0
StopsAtWidth op b fixed mul cost = op ≡ Mul → fixed ≡ false → mul ≡ Slow → IsWidth b cost
