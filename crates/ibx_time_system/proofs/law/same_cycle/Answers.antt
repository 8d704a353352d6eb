use Rattle.ibx_time_system.proofs.Outputs.{cycle_same}
use Rattle.ibx_time_system.proofs.law.same_cycle.Goals as goal

pub returns : goal.returns
returns c = λ x i. cycle_same x i
