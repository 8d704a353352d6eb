use Rattle.ibx_arch.proofs.Aligned.{begins_aligned, stays_aligned}
use Rattle.ibx_arch.proofs.Written.{writes_memory}
use Rattle.ibx_arch.proofs.laws.laws_of_steps.Goals as goal

pub returns-clause-begins : goal.returns-clause-begins
returns-clause-begins c = begins_aligned

pub returns-clause-aligned : goal.returns-clause-aligned
returns-clause-aligned c = stays_aligned

pub returns-clause-written : goal.returns-clause-written
returns-clause-written c = writes_memory
