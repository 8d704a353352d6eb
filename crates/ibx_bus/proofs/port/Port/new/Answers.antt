use Rattle.ibx_bus.proofs.Order.{answers_in_order}
use Rattle.ibx_bus.proofs.Times.{grants_in_time, answers_in_time}
use Rattle.ibx_bus.proofs.port.Port.new.Goals as goal

pub returns-clause-granted : goal.returns-clause-granted
returns-clause-granted c = grants_in_time c.args.waits.now

pub returns-clause-answered : goal.returns-clause-answered
returns-clause-answered c = answers_in_time c.args.waits.now

pub returns-clause-in_order : goal.returns-clause-in_order
returns-clause-in_order c = answers_in_order c.args.waits.now
