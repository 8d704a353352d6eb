use Rattle.ibx_time_units.proofs.Both.{answers_in_time}
use Rattle.ibx_time_units.proofs.laws.word_port_keeps_times.Goals as goal

pub returns : goal.returns
returns c = record { times = answers_in_time }
