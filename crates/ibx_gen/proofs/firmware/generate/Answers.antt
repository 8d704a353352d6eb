-- The code is short enough to be wrapped, and the file is the one around it.
use Rattle.std.proofs.Common.{arith}
use Rattle.ibx_gen.specs.Words.{generated}
use Rattle.ibx_gen.proofs.Bodies.{length-code}
use Rattle.ibx_gen.proofs.firmware.generate.Goals as goal

pub wrap-requires : goal.wrap-requires
wrap-requires c = rw (c.deref.ensures.value, c.in_ok-code.ensures) (omega (arith, length-code c.args.seed))

pub returns-clause-file : goal.returns-clause-file
unfolding generated
returns-clause-file c = rw (c.deref.ensures.value, c.in_ok-code.ensures) at c.wrap.ensures.bytes
