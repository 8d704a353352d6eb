use Rattle.ibx_time_system.proofs.History.{two_core_laws}
use Rattle.ibx_time_system.proofs.law.runs_the_history.Goals as goal

pub returns : goal.returns
returns c = λ s w ok start. two_core_laws s ok w start
