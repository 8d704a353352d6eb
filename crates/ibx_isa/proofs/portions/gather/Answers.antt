use Rattle.std.proofs.Common.{ap, ◌∙◌}
use Rattle.ibx_isa.specs.Portions.{gather_of, loaded, size_of}
use Rattle.ibx_isa.proofs.LaneRows.{gathered}
use Rattle.ibx_isa.proofs.portions.gather.Goals as goal

pub returns : goal.returns
unfolding gather_of
returns c =
    c.extend.ensures
    ∙ ap (loaded c.args.op) (c.lowest.ensures.value
    ∙ rw c.access_size.ensures.value (gathered c.args.first c.args.second c.args.addr (size_of c.args.op)
    c.ranges.first.fits))
