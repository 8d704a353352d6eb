use Rattle.ibx_lockstep.specs.Seen.{seen}
use Rattle.ibx_soc.proofs.Bits.{age_bit, wire_inside}
use Rattle.ibx_soc.proofs.Delayed.{with_wire}
use Rattle.ibx_soc.proofs.soc.flip_delay.Goals as goal

pub flipped_age-requires-clause-bit : goal.flipped_age-requires-clause-bit
flipped_age-requires-clause-bit c = age_bit c.args.wire c.args.bit c.requires.bit c.if-wire-eq-AGE.true

pub with_wire_flip-i-requires-clause-wire : goal.with_wire_flip-i-requires-clause-wire
with_wire_flip-i-requires-clause-wire c =
    wire_inside c.args.wire c.args.bit c.requires.bit c.if-wire-eq-AGE.false c.if-wire-eq-TOLD.false

pub returns-else-wire-eq-TOLD-clause-made : goal.returns-else-wire-eq-TOLD-clause-made
returns-else-wire-eq-TOLD-clause-made c = λ place.
    with_wire (seen c.args.pair.now) (seen c.set_delay.new.self) place c.args.slot c.args.wire c.args.bit
    c.with_wire_flip-i.result c.delay-i.result c.if-wire-eq-AGE.false c.if-wire-eq-TOLD.false c.set_delay.ensures
    c.with_wire_flip-i.ensures c.delay-i.ensures
