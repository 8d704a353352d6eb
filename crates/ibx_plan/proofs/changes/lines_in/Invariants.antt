use Rattle.std.proofs.Common.{◌-◌}
use Rattle.ibx_plan.proofs.Halving.{Halves}
use Rattle.ibx_plan.proofs.changes.lines_in.Given as goal

abbrev pub invariant-loop-low : goal.invariant-loop-low
invariant-loop-low g l = Halves l.changes l.cycle l.lines l.low l.high l.fn.steps l.steps

abbrev pub decreases-loop-low : goal.decreases-loop-low
decreases-loop-low g l = l.high - l.low
