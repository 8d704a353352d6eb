use Rattle.ibx_plan.specs.Names.{wires}
use Rattle.ibx_plan.proofs.names.wire_number.Goals as goal

pub returns : goal.returns
unfolding wires
returns c = c.place.ensures.value
