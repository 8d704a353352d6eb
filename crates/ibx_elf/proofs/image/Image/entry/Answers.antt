use Rattle.std.proofs.Common.{arith}
use Rattle.ibx_elf.specs.Fields.{e_entry}
use Rattle.ibx_elf.proofs.Laws.{entry-even, entry_in_ram, good_entry, readable}
use Rattle.ibx_elf.proofs.image.Image.entry.Goals as goal

pub word_at-requires : goal.word_at-requires
word_at-requires c =
    let long = (readable c.self.inside.file.now c.self.inside.ram c.self.invariant.1).headers.long in
    omega arith

pub returns-clause-even : goal.returns-clause-even
returns-clause-even c =
    rw c.word_at.ensures
    (entry-even c.self.inside.ram (e_entry c.self.inside.file.now)
    (good_entry c.self.inside.file.now c.self.inside.ram c.self.invariant.1))

pub returns-clause-in_ram : goal.returns-clause-in_ram
returns-clause-in_ram c =
    rw (← c.self.view_is, c.word_at.ensures)
    (entry_in_ram c.self.inside.ram (e_entry c.self.inside.file.now)
    (good_entry c.self.inside.file.now c.self.inside.ram c.self.invariant.1))
