use Rattle.ibx_plan.specs.Names.{fields}
use Rattle.ibx_plan.proofs.names.field_number.Goals as goal

pub returns-clause-value : goal.returns-clause-value
unfolding fields
returns-clause-value c = c.place.ensures.value
