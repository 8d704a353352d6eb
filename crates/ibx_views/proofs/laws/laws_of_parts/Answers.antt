use Rattle.ibx_views.proofs.Comparing.{finds_first, compares_in_time}
use Rattle.ibx_views.proofs.Telling.{parts_tell, nothing_tells}
use Rattle.ibx_views.proofs.laws.laws_of_parts.Goals as goal

pub returns-clause-tell : goal.returns-clause-tell
returns-clause-tell c = parts_tell

pub returns-clause-equal : goal.returns-clause-equal
returns-clause-equal c = nothing_tells

pub returns-clause-finds : goal.returns-clause-finds
returns-clause-finds c = finds_first

pub returns-clause-compares : goal.returns-clause-compares
returns-clause-compares c = compares_in_time
