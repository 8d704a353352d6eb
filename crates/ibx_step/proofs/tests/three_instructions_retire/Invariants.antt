use Rattle.ibx_arch.specs.Laws.{IsAligned}
use Rattle.ibx_step.specs.Machines.{state_of}
use Rattle.ibx_step.proofs.tests.three_instructions_retire.Given as goal

abbrev pub invariant-loop-cycle : goal.invariant-loop-cycle
invariant-loop-cycle g l = IsAligned (state_of l.machine)
