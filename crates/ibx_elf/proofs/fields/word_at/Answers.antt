use Rattle.std.proofs.Common.{◌∙◌}
use Rattle.ibx_elf.proofs.Reading.{read-field}
use Rattle.ibx_elf.proofs.fields.word_at.Goals as goal

pub returns : goal.returns
returns c = c.read_u32.ensures ∙ read-field 4 c.args.offset c.args.file.now c.requires
