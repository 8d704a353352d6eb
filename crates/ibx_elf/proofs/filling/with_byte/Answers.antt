use Rattle.ibx_elf.proofs.Puts.{with_byte_is}
use Rattle.ibx_elf.proofs.filling.with_byte.Goals as goal

pub returns : goal.returns
returns c = λ j below.
    rw (c.from_le_bytes.ensures, c.to_le_bytes-bytes.ensures)
    (with_byte_is c.args.word c.args.lane c.args.byte c.requires c.ranges.byte.fits j below)
