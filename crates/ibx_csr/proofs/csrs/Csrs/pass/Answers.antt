use Rattle.ibx_csr.proofs.Laws.{counters-step}
use Rattle.ibx_csr.proofs.csrs.Csrs.pass.Goals as goal

pub returns-then-self-eq0-clause-ticks : goal.returns-then-self-eq0-clause-ticks
returns-then-self-eq0-clause-ticks c = counters-step

pub returns-else-self-eq0-clause-ticks : goal.returns-else-self-eq0-clause-ticks
returns-else-self-eq0-clause-ticks c = counters-step
