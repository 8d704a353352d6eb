use Rattle.ibx_plan.specs.Plan.{empty_plan}
use Rattle.ibx_compare.proofs.TimeComparing.{IsTelling}
use Rattle.ibx_compare.proofs.time_twins.time_twin.Given as goal

abbrev pub invariant-loop-at : goal.invariant-loop-at
invariant-loop-at l =
    IsTelling (record { ram = l.fn.ram; mul = l.fn.mul; plan = empty_plan }) l.cycles l.fn.a l.fn.b l.at l.left_a
    l.left_b l.of_a l.of_b l.a l.b
