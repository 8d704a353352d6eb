use Rattle.std.proofs.Common.{sym, subst, arith}
use Rattle.std.specs.Str.{IsAscii}
use Rattle.ibx_text.proofs.Written.{hex_ascii, last_digits}
use Rattle.ibx_text.proofs.digits.Digits.hexadecimal.Goals as goal

pub invariant_of-result : goal.invariant_of-result
invariant_of-result c = (
  omega arith,
  subst IsAscii (sym (last_digits c.args.digits c.args.word _ c.requires c.put_word.ensures))
      (hex_ascii c.args.digits c.args.word),
)

pub returns-clause-text : goal.returns-clause-text
returns-clause-text c = last_digits c.args.digits c.args.word _ c.requires c.put_word.ensures
