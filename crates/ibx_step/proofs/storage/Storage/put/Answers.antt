use Rattle.std.proofs.Common.{◌∙◌, sym}
use Rattle.ibx_memory.proofs.Memories.{put_in, put_out}
use Rattle.ibx_step.proofs.storage.Storage.put.Goals as goal

pub returns-then-has : goal.returns-then-has
returns-then-has c =
    rw (← c.self.view_is)
    (put_in (record { ram = c.self.inside.ram; words = c.self.inside.words.items }) c.args.addr c.args.size
    c.args.value c.word_start-start.result c.args.second
    c.ranges.addr.fits c.requires c.self.invariant c.word_start-start.ensures (sym c.has.ensures ∙ c.if-has.true)
    c.merge.result c.index.result.now c.lanes-enables.result c.index.ensures c.lanes-enables.ensures.lanes
    c.merge.ensures)

pub returns-else-has : goal.returns-else-has
returns-else-has c =
    rw (← c.self.view_is)
    (put_out (record { ram = c.self.inside.ram; words = c.self.inside.words.items }) c.args.addr c.args.size
    c.args.value c.word_start-start.result c.args.second
    c.ranges.addr.fits c.requires c.self.invariant c.word_start-start.ensures (sym c.has.ensures ∙ c.if-has.false))
