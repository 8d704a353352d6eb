use Rattle.std.proofs.Common.{◌%◌, ap}
use Rattle.ibx_csr.specs.Values.{CsrValues, csr_reset}
use Rattle.ibx_step.proofs.machine.Machine.reset.Goals as goal

pub returns-clause-aligned : goal.returns-clause-aligned
unfolding csr_reset
returns-clause-aligned c =
    record { pc = c.entry-pc.ensures.even; mepc = ap (λ (v : CsrValues). v.mepc % 2) c.reset.ensures.values }
