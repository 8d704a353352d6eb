use Rattle.std.proofs.Common.{◌<◌, ◌+◌, ◌*◌, ◌^◌, lit<, sym, ◌∙◌, arith, get_or}
use Rattle.std.proofs.Math.ListN.{drop_of_length-le}
use Rattle.ibx_text.proofs.Reading.{none_read, next_digit, no_digit, digit_small, all_read, stays_small, small_fits}
use Rattle.ibx_text.proofs.numbers.value_in.Goals as goal

-- the value with one digit more stays below 2^40, so nothing overflows
small : (c : goal.After-from) → c.loop-byte.value * c.args.base + c.in_ok-digit.digit < 2 ^ 40
small c =
    let d = digit_small c.args.base (get_or c.args.digits.now c.loop-byte.byte-index 0) c.in_ok-digit.digit
    c.in_ok-digit.ensures in
    small_fits _ (c.loop-byte.byte-index + 1) (omega arith)
    (stays_small c.loop-byte.value c.args.base c.in_ok-digit.digit c.loop-byte.byte-index c.loop-byte.invariant.0
    c.requires.high d)

pub loop-byte-init : goal.loop-byte-init
loop-byte-init c = (lit< tt, sym (none_read c.args.base c.args.digits.now))

pub returns-in_err-digit : goal.returns-in_err-digit
returns-in_err-digit c = c.from_residual.ensures
    ∙ sym (c.loop-byte.invariant.1 ∙ no_digit c.args.base c.loop-byte.value c.loop-byte.byte-index c.args.digits.now
    (omega arith) c.in_err-digit.ensures)

pub overflow_mul-value : goal.overflow_mul-value
overflow_mul-value c = rw c.from.ensures (omega (arith, small c))

pub overflow_add-value : goal.overflow_add-value
overflow_add-value c = rw c.from.ensures (omega (arith, small c))

pub loop-byte-preserved : goal.loop-byte-preserved
loop-byte-preserved c =
    let d = digit_small c.args.base (get_or c.args.digits.now c.loop-byte.byte-index 0) c.in_ok-digit.digit
    c.in_ok-digit.ensures in
    rw c.from.ensures (
      stays_small c.loop-byte.value c.args.base c.in_ok-digit.digit c.loop-byte.byte-index c.loop-byte.invariant.0
          c.requires.high d,
      c.loop-byte.invariant.1 ∙ next_digit c.args.base c.loop-byte.value c.loop-byte.byte-index c.in_ok-digit.digit
          c.args.digits.now (omega arith) c.in_ok-digit.ensures,
    )

pub returns : goal.returns
returns c = sym (c.loop-byte.invariant.1
    ∙ (rw (drop_of_length-le c.args.digits.now {i = c.loop-byte.byte-index} (omega arith))
    (all_read c.args.base c.loop-byte.value)))
