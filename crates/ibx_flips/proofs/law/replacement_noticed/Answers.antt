use Rattle.ibx_system.specs.Core.{core_parts}
use Rattle.ibx_system.proofs.RealCore.{core_laws}
use Rattle.ibx_flips.proofs.Whole.{replacement_noticed}
use Rattle.ibx_flips.proofs.law.replacement_noticed.Goals as goal

pub returns : goal.returns
returns c = λ w cycle other cycles first. replacement_noticed core_parts core_laws w cycle other cycles first
