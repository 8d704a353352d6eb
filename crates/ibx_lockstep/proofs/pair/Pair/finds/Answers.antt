use Rattle.std.proofs.Common.{◌≤◌, ◌<◌, sym, ◌∙◌, arith}
use Rattle.std.proofs.lemmas.Bool.{lt-leb}
use Rattle.ibx_lockstep.specs.Delays.{cycles_of}
use Rattle.ibx_lockstep.proofs.Pairs.{found_is, not_found}
use Rattle.ibx_lockstep.proofs.pair.Pair.finds.Goals as goal

pub returns-then-self-delay : goal.returns-then-self-delay
returns-then-self-delay g c =
    let full : cycles_of c.args.self.now.delay ≤ c.args.self.now.age =
    omega (arith, c.cycles-delay.ensures.value, c.if-self-delay.true) in
    rw (
      c.same.ensures,
      c.out.ensures,
      c.back_ref-input.ensures,
      c.back_ref-output.ensures,
      c.cycles-delay.ensures.value,
    )
    (sym (found_is g.C.CoreStep.gives g.C.CoreStep.agree c.args.self.now full))

pub returns-else-self-delay : goal.returns-else-self-delay
returns-else-self-delay g c =
    let young : c.args.self.now.age < c.cycles-delay.result = omega (arith, c.if-self-delay.false) in
    let early : c.args.self.now.age < cycles_of c.args.self.now.delay =
    omega (arith, c.cycles-delay.ensures.value, young) in
    lt-leb c.cycles-delay.result c.args.self.now.age young
    ∙ sym (not_found g.C.CoreStep.gives g.C.CoreStep.agree c.args.self.now early)
