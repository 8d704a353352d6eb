use Rattle.std.proofs.Common.{◌∙◌, ◌++◌, [], ℕ, List, ap, sym, subst, arith}
use Rattle.std.specs.Str.{IsAscii}
use Rattle.ibx_text.specs.Digits.{two_digits}
use Rattle.ibx_text.proofs.Written.{two_ascii}
use Rattle.ibx_text.proofs.digits.Digits.two_decimal.Goals as goal

pub invariant_of-result : goal.invariant_of-result
unfolding two_digits
invariant_of-result c = (
  omega arith,
  subst IsAscii (sym (c.put_pair.ensures ∙ ap (λ (l : List ℕ). l ++ []) c.decimal_pair.ensures))
      (two_ascii c.args.number c.requires),
)
