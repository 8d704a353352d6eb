use Rattle.ibx_asm.specs.Operands.{registers}
use Rattle.ibx_asm.proofs.Texts.{short_register}
use Rattle.ibx_asm.proofs.operand.register_name.Goals as goal

pub returns-clause-value : goal.returns-clause-value
unfolding registers
returns-clause-value c = c.name_at.ensures

pub returns-clause-short : goal.returns-clause-short
returns-clause-short c = rw (returns-clause-value c) (short_register c.args.number)
