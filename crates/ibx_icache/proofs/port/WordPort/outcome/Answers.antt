use Rattle.ibx_icache.proofs.Driven.{out_fetches, out_stored, out_stores, out_bus}
use Rattle.ibx_icache.proofs.port.WordPort.outcome.Goals as goal

pub returns-clause-fetch : goal.returns-clause-fetch
returns-clause-fetch c = out_fetches c.args.self.now c.args.i.now c.driven.result c.driven.ensures.value

pub returns-clause-stored : goal.returns-clause-stored
returns-clause-stored c = out_stored c.args.self.now c.args.i.now c.driven.result c.driven.ensures.value

pub returns-clause-line : goal.returns-clause-line
returns-clause-line c = out_stores c.args.self.now c.args.i.now c.driven.result c.driven.ensures.value

pub returns-clause-bus : goal.returns-clause-bus
returns-clause-bus c = out_bus c.args.self.now c.args.i.now c.driven.result c.driven.ensures.value
