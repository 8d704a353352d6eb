use Rattle.ibx_time_units.proofs.Held.{holds_fetches}
use Rattle.ibx_time_units.proofs.laws.core_holds_the_fetches.Goals as goal

pub returns : goal.returns
returns c = λ s w ok start. holds_fetches s ok w start
