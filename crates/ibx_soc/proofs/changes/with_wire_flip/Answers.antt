use Rattle.ibx_soc.proofs.Bits.{bit_small}
use Rattle.ibx_soc.proofs.changes.with_wire_flip.Goals as goal

pub flipped-value-requires-else-wire-lt-INPUTS : goal.flipped-value-requires-else-wire-lt-INPUTS
flipped-value-requires-else-wire-lt-INPUTS c = bit_small c.args.wire c.args.bit c.requires.bit
