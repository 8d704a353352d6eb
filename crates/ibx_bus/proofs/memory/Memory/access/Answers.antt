use Rattle.ibx_bus.proofs.Kept.{replaced, stored-fits, word-fits}
use Rattle.ibx_bus.proofs.memory.Memory.access.Goals as goal

pub invariant_of-self : goal.invariant_of-self
invariant_of-self c =
    replaced c.self.inside.base c.self.inside.words c.store.new.words _ _ c.store.ensures
    (stored-fits _ _ _ (word-fits c.self.inside.words _ c.self.invariant.fits) c.requires.word)
    c.self.invariant
