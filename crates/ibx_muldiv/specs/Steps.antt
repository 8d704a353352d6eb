-- The steps of a multiplication and of a division, on numbers.
use Rattle.std.specs.Prelude.{ℕ, ◌+◌, ◌-◌, ◌*◌, ◌/◌, ◌%◌, ◌^◌, Bool, true, false, ◌==◌, nat_lt, nat_le}
use Rattle.std.specs.Prelude.{if◌then◌else◌}
use Rattle.ibx_isa.specs.declared.insn.MulKind.{MulKind}
use Rattle.ibx_isa.specs.declared.insn.MulKind.TheVariants.{Single, Fast, Slow}
use Rattle.ibx_muldiv.specs.declared.operands.Operands.{Operands}
use Rattle.ibx_muldiv.specs.declared.work.Work.{Work}

-- the bits of the multiplier that a multiplication takes in each cycle (our own rule)
abbrev pub pace_of : MulKind → ℕ
pace_of Single = 32
pace_of Fast = 16
pace_of Slow = 1

-- The lowest bits of the multiplier are taken: their product joins the sum, and the multiplicand moves up to the bits
-- that are left.
unfoldable pub multiplied : ℕ → Work → Work
multiplied bits w = record w {
  sum = (w.sum + w.multiplicand * (w.rest % 2 ^ bits)) % 2 ^ 64;
  multiplicand = w.multiplicand * 2 ^ bits % 2 ^ 64;
  rest = w.rest / 2 ^ bits;
}

-- Restoring division: the remainder takes the dividend's next bit from the top of the low word, into which the
-- quotient's bits come from below. The divisor is taken off where it fits, and then the quotient's bit is 1.
unfoldable pub divided : Work → Work
divided w =
    (let partial = w.sum % 2 ^ 63 * 2 + w.multiplicand / 2 ^ 31 % 2 in
    let low = w.multiplicand % 2 ^ 31 * 2 in
    if nat_le w.rest partial
    then record w { sum = partial - w.rest; multiplicand = low + 1 }
    else record w { sum = partial; multiplicand = low })

-- A division of 37 cycles takes a bit in each of the first 32; the last 5 leave what it has.
unfoldable pub division_step : Work → Work
division_step w = if nat_lt 5 w.left then divided w else w

-- one cycle
unfoldable pub step_of : Work → Work
step_of w = record (if w.divides then division_step w else multiplied w.pace w) { left = w.left - 1 }

-- the first state: a product of cost 0 is made at once
unfoldable pub begun_product : Operands → ℕ → MulKind → Work
begun_product o cost mul =
    (let w : Work = record {
      sum = 0;
      multiplicand = o.first;
      rest = o.second;
      left = cost;
      pace = pace_of mul;
      divides = false;
      high = o.high;
      negate = o.negate;
    } in
    if cost == 0 then multiplied 32 w else w)

-- A division of one cycle is by 0 and has its answer at once: the quotient is all ones, and leaves the dividend
-- (Unprivileged ISA, 7.2).
unfoldable pub begun_division : Operands → ℕ → Work
begun_division o cost = record {
  sum = if cost == 1 then o.first else 0;
  multiplicand = if cost == 1 then 2 ^ 32 - 1 else o.first;
  rest = o.second;
  left = cost;
  pace = 0;
  divides = true;
  high = o.high;
  negate = o.negate;
}

-- a number of so many bits, or its two's complement
abbrev pub negated : ℕ → Bool → ℕ → ℕ
negated bits true n = (2 ^ bits - n) % 2 ^ bits
negated bits false n = n

-- the high or the low word
abbrev pub word_of : Bool → ℕ → ℕ
word_of true n = n / 2 ^ 32
word_of false n = n % 2 ^ 32

-- A product is negated whole, and of a division the word that is wanted: the remainder is in the sum, and the quotient
-- in the other number.
abbrev pub answer_of : Bool → Bool → Bool → ℕ → ℕ → ℕ
answer_of true high negate sum low = negated 32 negate ((if high then sum else low) % 2 ^ 32)
answer_of false high negate sum low = word_of high (negated 64 negate sum)
