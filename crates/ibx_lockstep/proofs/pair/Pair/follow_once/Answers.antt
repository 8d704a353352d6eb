use Rattle.std.proofs.Common.{◌≤◌, ◌<◌, sym, arith}
use Rattle.ibx_lockstep.specs.Delays.{cycles_of}
use Rattle.ibx_lockstep.proofs.Pairs.{found_is, not_found}
use Rattle.ibx_lockstep.proofs.pair.Pair.follow_once.Goals as goal

pub returns-then-self-delay-clause-found : goal.returns-then-self-delay-clause-found
returns-then-self-delay-clause-found g c =
    let young : c.args.self.now.age < cycles_of c.args.self.now.delay =
    omega (arith, c.cycles-delay.ensures.value, c.if-self-delay.true) in
    sym (not_found g.C.CoreStep.gives g.C.CoreStep.agree c.args.self.now young)

pub returns-clause-found : goal.returns-clause-found
returns-clause-found g c =
    let full : cycles_of c.args.self.now.delay ≤ c.args.self.now.age =
    omega (arith, c.cycles-delay.ensures.value, c.if-self-delay.false) in
    rw (
      c.same.ensures,
      c.begin.ensures.output,
      c.back_ref-input.ensures,
      c.back_ref.ensures,
      c.cycles-delay.ensures.value,
    )
    (sym (found_is g.C.CoreStep.gives g.C.CoreStep.agree c.args.self.now full))
