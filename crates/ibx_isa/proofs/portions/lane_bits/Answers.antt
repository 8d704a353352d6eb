use Rattle.std.proofs.Common.{ap, sym, ◌∙◌, Bool}
use Rattle.ibx_bits.specs.Bytes.{bytes_number}
use Rattle.ibx_isa.specs.Portions.{lane_byte}
use Rattle.ibx_isa.proofs.LaneRows.{lanes_first, lanes_second}
use Rattle.ibx_isa.proofs.portions.lane_bits.Goals as goal

pub returns-then-second : goal.returns-then-second
returns-then-second c =
    lanes_second c.args.value c.args.size c.args.addr c.lowest.result c.lowest.ensures.value c.lowest.ensures.fits
    ∙ ap (λ (b : Bool). bytes_number (lane_byte c.args.addr c.args.size c.args.value b) 4) (sym c.if-second.true)

pub returns-else-second : goal.returns-else-second
returns-else-second c =
    lanes_first c.args.value c.args.size c.args.addr c.lowest.result c.lowest.ensures.value c.lowest.ensures.fits
    ∙ ap (λ (b : Bool). bytes_number (lane_byte c.args.addr c.args.size c.args.value b) 4) (sym c.if-second.false)
