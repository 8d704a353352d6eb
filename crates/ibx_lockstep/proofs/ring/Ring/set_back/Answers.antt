use Rattle.std.proofs.Common.{arith}
use Rattle.ibx_lockstep.proofs.Rings.{here, others, recent-with_back}
use Rattle.ibx_lockstep.proofs.ring.Ring.set_back.Goals as goal

pub returns-clause-recent : goal.returns-clause-recent
returns-clause-recent g c = rw c.set_back.ensures
    (recent-with_back g.row.D c.args.self.now c.args.k c.args.x c.requires.four c.requires.some c.requires.kept)

pub returns-clause-here : goal.returns-clause-here
returns-clause-here g c =
    rw c.set_back.ensures (here g.row.D c.args.self.now.slots c.args.k c.args.x (omega arith) c.requires.four)

pub returns-clause-others : goal.returns-clause-others
returns-clause-others g c =
    rw c.set_back.ensures (λ j first last apart. others g.row.D c.args.self.now.slots c.args.k j c.args.x
    c.requires.four c.requires.some c.requires.kept first last apart)
