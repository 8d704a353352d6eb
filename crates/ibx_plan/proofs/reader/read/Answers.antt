use Rattle.ibx_plan.proofs.Entries.{plan_holds}
use Rattle.ibx_plan.proofs.Flips.{plan_fits}
use Rattle.ibx_plan.proofs.reader.read.Goals as goal

pub returns-clause-holds : goal.returns-clause-holds
returns-clause-holds c = plan_holds _ _ _ c.read_plan.ensures

pub returns-clause-flip_fits : goal.returns-clause-flip_fits
returns-clause-flip_fits c = plan_fits _ _ _ c.read_plan.ensures
