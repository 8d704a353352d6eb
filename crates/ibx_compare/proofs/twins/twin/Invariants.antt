use Rattle.ibx_compare.proofs.Comparing.{AreAlike}
use Rattle.ibx_compare.proofs.twins.twin.Given as goal

abbrev pub invariant-loop-at : goal.invariant-loop-at
invariant-loop-at l = AreAlike l.cycles l.fn.a l.fn.b l.at l.left_a l.left_b l.a l.b
