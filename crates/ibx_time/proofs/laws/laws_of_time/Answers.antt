use Rattle.ibx_time.proofs.Cycles.{is_timed, equal_views}
use Rattle.ibx_time.proofs.Halts.{equal_stories}
use Rattle.ibx_time.proofs.laws.laws_of_time.Goals as goal

pub returns-clause-equal_histories : goal.returns-clause-equal_histories
returns-clause-equal_histories c = equal_views

pub returns-clause-equal_stories : goal.returns-clause-equal_stories
returns-clause-equal_stories c = equal_stories

pub returns-clause-timed : goal.returns-clause-timed
returns-clause-timed c = is_timed
