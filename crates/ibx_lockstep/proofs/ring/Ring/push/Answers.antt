use Rattle.ibx_lockstep.proofs.Rings.{newest, older, recent-pushed}
use Rattle.ibx_lockstep.proofs.ring.Ring.push.Goals as goal

pub returns-clause-recent : goal.returns-clause-recent
returns-clause-recent g c =
    rw c.push.ensures (recent-pushed g.row.D c.args.self.now c.args.x c.requires.some c.requires.four)

pub returns-clause-newest : goal.returns-clause-newest
returns-clause-newest g c =
    rw c.push.ensures (newest g.row.D c.args.self.now.slots c.args.x c.requires.some c.requires.four)

pub returns-clause-older : goal.returns-clause-older
returns-clause-older g c =
    rw c.push.ensures (λ k some kept. older g.row.D c.args.self.now.slots c.args.x k c.requires.four some kept)
