use Rattle.ibx_compare.proofs.Turns.{HasRun}
use Rattle.ibx_compare.proofs.flipped.inject.Given as goal

abbrev pub invariant-loop-at : goal.invariant-loop-at
invariant-loop-at l = HasRun l.fn.clean l.flip l.cycles l.at l.clean l.faulty l.verdict
