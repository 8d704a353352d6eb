use Rattle.std.proofs.Common.{refl}
use Rattle.ibx_lockstep.specs.Delays.{cycles_of}
use Rattle.ibx_lockstep.specs.Rings.{fresh}
use Rattle.ibx_lockstep.proofs.Lockstep.{keeps_main, tells_later}
use Rattle.ibx_lockstep.proofs.Pairs.{pairs-length, seen_new, some_cycles}
use Rattle.ibx_lockstep.proofs.Told.{answers_each, answers_later, answers_none}
use Rattle.ibx_lockstep.proofs.pair.Pair.new.Goals as goal

pub returns-clause-made : goal.returns-clause-made
returns-clause-made g c = rw (c.new.ensures, c.new-2.ensures)
    (seen_new c.args.main c.args.shadow c.args.delay c.args.i c.args.o)

-- what the answers are, by the delayed pairs of the new pair
later : goal.returns-clause-tells
later g c = λ same.
    rw (c.new.ensures, c.new-2.ensures)
    (answers_later g.C.CoreStep.gives g.C.CoreStep.agree g.C.CoreStep.leaves _ refl
    (tells_later (cycles_of c.args.delay) g.C.CoreStep.gives g.C.CoreStep.leaves g.C.CoreStep.agree c.args.main
    c.args.shadow _ (pairs-length 4 (fresh c.args.i) (fresh c.args.o) (cycles_of c.args.delay))
    (some_cycles c.args.delay) same))

pub returns-clause-tells : goal.returns-clause-tells
returns-clause-tells g c = later g c

pub returns-clause-notices : goal.returns-clause-notices
returns-clause-notices g c = λ same.
    answers_each g.C.CoreStep.gives g.C.CoreStep.agree g.C.CoreStep.leaves _ (later g c same)

pub returns-clause-quiet : goal.returns-clause-quiet
returns-clause-quiet g c = λ same.
    answers_none g.C.CoreStep.gives g.C.CoreStep.agree g.C.CoreStep.leaves _ (later g c same)

pub returns-clause-keeps : goal.returns-clause-keeps
returns-clause-keeps g c = keeps_main _ g.C.CoreStep.gives g.C.CoreStep.leaves _
