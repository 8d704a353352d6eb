use Rattle.std.proofs.Common.{arith}
use Rattle.ibx_dummy.proofs.Steps.{shifts_odd, shifts_even, reversible_odd}
use Rattle.ibx_dummy.proofs.unit.shifted.Goals as goal

pub returns-then-lfsr-eq1-clause-shifts : goal.returns-then-lfsr-eq1-clause-shifts
returns-then-lfsr-eq1-clause-shifts c = shifts_odd c.args.lfsr (omega arith)

pub returns-then-lfsr-eq1-clause-reversible : goal.returns-then-lfsr-eq1-clause-reversible
returns-then-lfsr-eq1-clause-reversible c = reversible_odd c.args.lfsr (omega arith) (omega arith)

pub returns-else-lfsr-eq1-clause-shifts : goal.returns-else-lfsr-eq1-clause-shifts
returns-else-lfsr-eq1-clause-shifts c = shifts_even c.args.lfsr (omega arith)
