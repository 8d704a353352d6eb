-- The unit's three fields: how they hold a calculation, and what a cycle does to them.
use Rattle.std.specs.Prelude.{◌≡◌, ℕ, zero, suc, ◌+◌, ◌*◌, ◌/◌, ◌%◌, ◌^◌, Bool, true, false, ◌==◌}
use Rattle.std.specs.Int.{from_bool}
use Rattle.ibx_isa.specs.declared.insn.MdOp.{MdOp}
use Rattle.ibx_isa.specs.declared.insn.MulKind.{MulKind}
use Rattle.ibx_isa.specs.Cost.{md_cost_of}
use Rattle.ibx_muldiv.specs.declared.unit.MulDiv.{MulDiv}
use Rattle.ibx_muldiv.specs.declared.work.Work.{Work}
use Rattle.ibx_muldiv.specs.Operands.{is_division, operands_of}
use Rattle.ibx_muldiv.specs.Steps.{step_of, begun_product, begun_division, answer_of}

-- md_acc is the sum or the remainder, and md_a the multiplicand or, in its low word, the dividend's rest above the
-- quotient. Bits 31:0 of md_b are the multiplier's rest or the divisor, 37:32 the cycles left, and 43:38 the bits a
-- cycle; bit 44 tells a division, bit 45 that the high word is wanted, and bit 46 that the answer is negated.
unfoldable pub seen : MulDiv → Work
seen m = record {
  sum = m.md_acc;
  multiplicand = m.md_a;
  rest = m.md_b % 2 ^ 32;
  left = m.md_b / 2 ^ 32 % 64;
  pace = m.md_b / 2 ^ 38 % 64;
  divides = m.md_b / 2 ^ 44 % 2 == 1;
  high = m.md_b / 2 ^ 45 % 2 == 1;
  negate = m.md_b / 2 ^ 46 % 2 == 1;
}

-- the fields that hold a calculation: `seen` of them gives it back, where its numbers have their widths
unfoldable pub packed : Work → MulDiv
packed w = record {
  md_a = w.multiplicand;
  md_b = w.rest + w.left * 2 ^ 32 + w.pace * 2 ^ 38 + from_bool w.divides * 2 ^ 44 + from_bool w.high * 2 ^ 45
      + from_bool w.negate * 2 ^ 46;
  md_acc = w.sum;
}

-- the cycles that are left until the result
abbrev pub left_of : MulDiv → ℕ
left_of m = m.md_b / 2 ^ 32 % 64

-- the unit with nothing to calculate
unfoldable pub idle_of : MulDiv
idle_of = record { md_a = 0; md_b = 0; md_acc = 0 }

-- the calculation of an operation, with its cycles to go
abbrev pub begun : Bool → MdOp → ℕ → ℕ → ℕ → MulKind → Work
begun true op a b cost mul = begun_division (operands_of op a b) cost
begun false op a b cost mul = begun_product (operands_of op a b) cost mul

-- the fields after a start
unfoldable pub start_of : MdOp → ℕ → ℕ → Bool → MulKind → MulDiv
start_of op a b fixed mul = packed (begun (is_division op) op a b (md_cost_of op b fixed mul) mul)

-- the fields after one cycle
unfoldable pub tick_of : MulDiv → MulDiv
tick_of m = packed (step_of (seen m))

-- the word that the fields hold as their result
unfoldable pub result_of : MulDiv → ℕ
result_of m = answer_of (seen m).divides (seen m).high (seen m).negate (seen m).sum (seen m).multiplicand

-- the fields after n cycles
unfoldable pub ticks : ℕ → MulDiv → MulDiv
ticks zero m = m
ticks (suc n) m = ticks n (tick_of m)

-- after n cycles the result is this value
unfoldable pub Finishes : MulDiv → ℕ → ℕ → Type 0
Finishes m n value = result_of (ticks n m) ≡ value
