use Rattle.std.proofs.Common.{◌≤◌, ℕ, List, length, ◌∙◌, sym, subst, arith}
use Rattle.std.proofs.lemmas.Fmt.{IsAscii-decimal}
use Rattle.std.proofs.lemmas.List.{append-nil}
use Rattle.std.specs.Str.{IsAscii}
use Rattle.ibx_text.proofs.Written.{short}
use Rattle.ibx_text.proofs.digits.Digits.decimal.Goals as goal

pub invariant_of-result : goal.invariant_of-result
invariant_of-result c = (
  omega (arith, c.put_decimal-start.ensures.start),
  subst IsAscii (sym (c.put_decimal-start.ensures.written ∙ append-nil _)) (IsAscii-decimal c.args.number
      c.ranges.number.fits),
)

pub returns-clause-short : goal.returns-clause-short
returns-clause-short c h =
    subst (λ (l : List ℕ). length l ≤ 10) (sym (c.put_decimal-start.ensures.written ∙ append-nil _))
    (short c.args.number h)
