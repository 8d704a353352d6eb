use Rattle.std.proofs.Common.{get_or}
use Rattle.ibx_secded.proofs.Flips.{flip-lt}
use Rattle.ibx_bus.proofs.Kept.{replaced, word-fits}
use Rattle.ibx_bus.proofs.memory.Memory.flip.Goals as goal

pub invariant_of-self : goal.invariant_of-self
invariant_of-self c =
    replaced c.self.inside.base c.self.inside.words c.flip.new.self c.args.word _ c.flip.ensures.value
    (flip-lt (get_or c.self.inside.words c.args.word 0) c.args.bit 39 (word-fits c.self.inside.words c.args.word
    c.self.invariant.fits) c.requires.bit)
    c.self.invariant
