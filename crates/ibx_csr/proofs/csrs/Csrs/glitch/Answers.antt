use Rattle.ibx_csr.proofs.Sound.{glitch-sound}
use Rattle.ibx_csr.proofs.csrs.Csrs.glitch.Goals as goal

pub returns-clause-sound : goal.returns-clause-sound
returns-clause-sound c = rw c.has_glitch.ensures (glitch-sound c.args.self.now)
