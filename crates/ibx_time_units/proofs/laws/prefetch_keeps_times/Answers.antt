use Rattle.ibx_time_units.proofs.Both.{keeps_times}
use Rattle.ibx_time_units.proofs.Histories.{is_led}
use Rattle.ibx_time_units.proofs.laws.prefetch_keeps_times.Goals as goal

pub returns-clause-history : goal.returns-clause-history
returns-clause-history c = is_led

pub returns-clause-times : goal.returns-clause-times
returns-clause-times c = keeps_times
