use Rattle.ibx_plan.proofs.Halving.{begins, goes_up, goes_down, ends}
use Rattle.std.proofs.Common.{refl}
use Rattle.ibx_plan.proofs.changes.lines_in.Goals as goal

pub loop-low-init : goal.loop-low-init
loop-low-init g c = begins c.args.changes.now c.args.cycle c.args.steps.now

pub loop-low-preserved-then-change-cycle : goal.loop-low-preserved-then-change-cycle
loop-low-preserved-then-change-cycle g c =
    rw c.probe-change.ensures.step (goes_up _ _ _ _ _ _ _ _ _ c.probe-change.result c.loop-low.invariant
    c.loop-low-test.true refl c.probe-change.ensures.change c.if-change-cycle.true refl)

pub loop-low-preserved : goal.loop-low-preserved
loop-low-preserved g c =
    rw c.probe-change.ensures.step (goes_down _ _ _ _ _ _ _ _ c.probe-change.result c.requires c.loop-low.invariant
    c.loop-low-test.true refl c.probe-change.ensures.change c.if-change-cycle.false)

pub returns-clause-value : goal.returns-clause-value
returns-clause-value g c = ends _ _ _ _ _ _ _ c.loop-low.invariant c.loop-low-test.false
