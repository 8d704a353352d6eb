use Rattle.std.proofs.Common.{◌≡◌, ◌+◌, ◌-◌, arith, append_assoc, refl}
use Rattle.std.proofs.lemmas.Fmt.{length-decimal-le}
use Rattle.ibx_text.proofs.Written.{decimal_pair, length_pair}
use Rattle.ibx_text.proofs.digits.put_decimal.Goals as goal

pub loop-left-init : goal.loop-left-init
loop-left-init c =
    let short = length-decimal-le 20 c.args.number (omega arith) (omega (arith, c.ranges.number.fits))
    (omega (arith, c.ranges.number.fits)) in
    (short, omega arith, omega arith, refl)

pub overflow_sub-end : goal.overflow_sub-end
overflow_sub-end c =
    omega (arith, length_pair c.loop-left.left c.loop-left-test.true c.loop-left.auto.left-fits.fits)

pub overflow_sub-end-in-loop-left : goal.overflow_sub-end-in-loop-left
overflow_sub-end-in-loop-left c =
    omega (arith, length_pair c.loop-left.left c.loop-left-test.true c.loop-left.auto.left-fits.fits)

pub loop-left-preserved : goal.loop-left-preserved
loop-left-preserved c =
    let l = c.loop-left in
    let long = length_pair l.left c.loop-left-test.true l.auto.left-fits.fits in
    let e : l.end - 2 + 2 ≡ l.end = omega arith in (
      omega arith,
      omega arith,
      omega arith,
      rw (c.put_pair.ensures, c.decimal_pair.ensures, e)
          (rw (decimal_pair l.left c.loop-left-test.true l.auto.left-fits.fits, append_assoc) at l.invariant.3),
    )
