use Rattle.ibx_asm.specs.Operands.{registers}
use Rattle.ibx_asm.proofs.operand.register.Goals as goal

pub returns-in-Some : goal.returns-in-Some
unfolding registers
returns-in-Some c = c.in-Some.ensures

pub returns-in-None : goal.returns-in-None
unfolding registers
returns-in-None c = c.in-None.ensures
