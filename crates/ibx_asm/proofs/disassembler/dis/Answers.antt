use Rattle.std.proofs.Common.{arith}
use Rattle.ibx_asm.proofs.RoundTrip.{round_trip}
use Rattle.ibx_asm.proofs.disassembler.dis.Goals as goal

pub returns-clause-round_trip : goal.returns-clause-round_trip
returns-clause-round_trip c = rw c.shown.ensures
    (round_trip c.args.word (omega (arith, c.ranges.word.fits)) c.requires)
