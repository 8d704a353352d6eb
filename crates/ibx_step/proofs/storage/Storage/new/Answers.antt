use Rattle.ibx_memory.proofs.Memories.{image_is}
use Rattle.ibx_step.proofs.storage.Storage.new.Goals as goal

pub returns : goal.returns
returns c =
    rw c.ram-ram.ensures.handed_in
    (image_is c.args.image.now c.in_ok-words.words.items
    (record { ram = rw (← c.ram-ram.ensures.handed_in) c.ram-ram.ensures.valid; count = c.in_ok-words.ensures.count })
    c.in_ok-words.ensures.words)
