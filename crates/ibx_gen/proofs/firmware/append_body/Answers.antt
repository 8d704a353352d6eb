-- A turn draws once more and appends that draw's word.
use Rattle.std.proofs.Common.{◌∙◌, ap, refl}
use Rattle.ibx_gen.specs.Draws.{next_draw}
use Rattle.ibx_gen.proofs.Bodies.{start, next}
use Rattle.ibx_gen.proofs.firmware.append_body.Goals as goal

pub loop-init : goal.loop-init
loop-init c = start c.args.seed c.args.code.now.items

pub loop-preserved : goal.loop-preserved
loop-preserved c =
    next c.args.seed c.loop.counter c.next_draw-draw.result c.args.code.now.items c.extend_from_slice.new.self.items
    (c.next_draw-draw.ensures ∙ ap next_draw c.loop.invariant.0)
    (rw (c.in_ok-extend_from_slice.ensures.items, c.loop.invariant.1, c.to_le_bytes.ensures, c.body_word.ensures) refl)
