use Rattle.std.specs.Int.Bits.{xor_lt}
use Rattle.ibx_secded.proofs.Laws.{rewritten, syndrome_of-rewrite_of, payload_of-rewrite_of}
use Rattle.ibx_secded.proofs.Code.rewrite.Goals as goal

pub join-requires-clause-stored_fits : goal.join-requires-clause-stored_fits
join-requires-clause-stored_fits g c =
    xor_lt g.row.R _ c.check.result (xor_lt g.row.R c.syndrome.result c.constant.result c.syndrome.ensures.fits
    c.constant.ensures.fits) c.check.ensures.fits

value-is : goal.returns-clause-value
value-is g c =
    rewritten g.row.K g.row.R c.args.old c.syndrome.result c.args.value c.check.result c.constant.result _
    c.syndrome.ensures.value c.check.ensures.value c.constant.ensures.value c.join.ensures.value

pub returns-clause-value : goal.returns-clause-value
returns-clause-value g c = value-is g c

pub returns-clause-same : goal.returns-clause-same
returns-clause-same g c = rw (value-is g c) (syndrome_of-rewrite_of g.row.K g.row.R c.args.old c.args.value
    c.requires.fits)

pub returns-clause-payload : goal.returns-clause-payload
returns-clause-payload g c = rw (value-is g c) (payload_of-rewrite_of g.row.K g.row.R c.args.old c.args.value
    c.requires.fits)
