use Rattle.ibx_system.proofs.RealCore.{core_laws}
use Rattle.ibx_system.proofs.laws.cycle_laws.Goals as goal

pub returns : goal.returns
returns c = core_laws
