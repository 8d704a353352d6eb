use Rattle.ibx_plan.specs.Names.{outputs}
use Rattle.ibx_plan.proofs.names.output_number.Goals as goal

pub returns : goal.returns
unfolding outputs
returns c = c.place.ensures.value
