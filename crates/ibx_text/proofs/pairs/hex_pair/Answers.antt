use Rattle.std.proofs.Common.{arith}
use Rattle.ibx_text.proofs.Tables.{hex_entry}
use Rattle.ibx_text.proofs.pairs.hex_pair.Goals as goal

pub returns : goal.returns
returns c = hex_entry c.args.byte (omega (arith, c.ranges.byte.fits))
