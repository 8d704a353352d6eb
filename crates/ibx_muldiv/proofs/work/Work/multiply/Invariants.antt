use Rattle.std.proofs.Common.{◌≡◌}
use Rattle.ibx_muldiv.specs.Steps.{multiplied}
use Rattle.ibx_muldiv.proofs.work.Work.multiply.Given as goal

abbrev pub invariant-loop-bit : goal.invariant-loop-bit
invariant-loop-bit l = l.work ≡ multiplied l._bit l.fn.self
