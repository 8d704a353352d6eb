use Rattle.ibx_system.specs.Core.{core_parts}
use Rattle.ibx_system.proofs.RealCore.{core_laws}
use Rattle.ibx_flips.proofs.Whole.{unseen}
use Rattle.ibx_flips.proofs.law.unseen.Goals as goal

pub returns : goal.returns
returns c = λ w f first. unseen core_parts core_laws w f first
