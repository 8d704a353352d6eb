use Rattle.std.proofs.Common.{◌∙◌}
use Rattle.ibx_memory.specs.Words.{memory_of}
use Rattle.ibx_memory.proofs.Loads.{loads}
use Rattle.ibx_step.proofs.storage.Storage.load.Goals as goal

pub returns : goal.returns
returns c = c.gather.ensures ∙ loads (memory_of c.args.self.now) c.args.addr c.word-first.result c.word-second.result
    c.ranges.addr.fits c.word-first.ensures c.word-second.ensures c.args.op
