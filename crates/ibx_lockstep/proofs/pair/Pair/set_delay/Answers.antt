use Rattle.ibx_lockstep.proofs.Pairs.{set_delayed}
use Rattle.ibx_lockstep.proofs.pair.Pair.set_delay.Goals as goal

pub returns : goal.returns
returns g c = rw (c.set_back.ensures, c.set_back-2.ensures, c.cycles.ensures.value)
    (set_delayed c.args.self.now c.args.slot c.args.i c.args.o c.requires)
