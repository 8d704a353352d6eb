use Rattle.ibx_lockstep.proofs.Rings.{get-recent}
use Rattle.ibx_lockstep.proofs.ring.Ring.back.Goals as goal

pub returns-clause-recent : goal.returns-clause-recent
returns-clause-recent g c =
    rw c.back.ensures (get-recent g.row.D c.args.self.now c.args.k c.requires.some c.requires.kept)
