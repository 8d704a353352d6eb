use Rattle.ibx_lockstep.proofs.Pairs.{moved}
use Rattle.ibx_lockstep.proofs.pair.Pair.step.Goals as goal

pub returns-clause-moved : goal.returns-clause-moved
returns-clause-moved g c = rw (c.delay_on.ensures, c.advance.ensures, c.follow.ensures, c.finds-found.ensures)
    (moved g.C.CoreStep.gives g.C.CoreStep.agree g.C.CoreStep.leaves c.args.self.now c.args.i.now c.args.o.now)
