use Rattle.ibx_lockstep.specs.Paired.{finds}
use Rattle.ibx_lockstep.proofs.Pairs.{moved}
use Rattle.ibx_lockstep.proofs.pair.Pair.finish.Goals as goal

pub returns-clause-moved : goal.returns-clause-moved
unfolding finds
returns-clause-moved g c = λ main begun gave.
    let ended = c.finish.ensures main (rw c.follow_once-found.ensures.moved begun) gave in
    rw (c.delay_on.ensures, ended, c.follow_once-found.ensures.moved, c.follow_once-found.ensures.found)
    (moved g.C.CoreStep.gives g.C.CoreStep.agree g.C.CoreStep.leaves (record c.args.self.now { main = main })
    c.args.i.now c.args.o.now)
