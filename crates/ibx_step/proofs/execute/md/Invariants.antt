use Rattle.ibx_isa.specs.Multiply.{md_value}
use Rattle.ibx_muldiv.specs.Unit.{Finishes, left_of}
use Rattle.ibx_step.proofs.execute.md.Given as goal

abbrev pub invariant-loop-unit : goal.invariant-loop-unit
invariant-loop-unit l = Finishes l.unit (left_of l.unit) (md_value l.fn.op l.fn.a l.fn.b)

abbrev pub decreases-loop-unit : goal.decreases-loop-unit
decreases-loop-unit l = left_of l.unit
