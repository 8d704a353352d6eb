use Rattle.ibx_lockstep.proofs.Rings.{law, recent-fresh}
use Rattle.ibx_lockstep.proofs.ring.Ring.new.Goals as goal

pub returns-clause-recent : goal.returns-clause-recent
returns-clause-recent g c = rw c.new.ensures (recent-fresh g.row.D c.args.first c.requires.some c.requires.four)

pub returns-clause-law : goal.returns-clause-law
returns-clause-law g c = rw c.new.ensures (λ xs k some kept. law g.row.D c.args.first xs k c.requires.four some kept)
