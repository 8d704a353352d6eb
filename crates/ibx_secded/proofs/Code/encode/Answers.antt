use Rattle.std.specs.Int.Bits.{xor_lt}
use Rattle.ibx_secded.proofs.Laws.{encoded, syndrome_of-encode, payload_of-encode}
use Rattle.ibx_secded.proofs.Code.encode.Goals as goal

pub join-requires-clause-stored_fits : goal.join-requires-clause-stored_fits
join-requires-clause-stored_fits g c = xor_lt g.row.R c.check.result c.constant.result c.check.ensures.fits
    c.constant.ensures.fits

value-is : goal.returns-clause-value
value-is g c = encoded g.row.K g.row.R c.args.value c.check.result c.constant.result _ c.check.ensures.value
    c.constant.ensures.value c.join.ensures.value

pub returns-clause-value : goal.returns-clause-value
returns-clause-value g c = value-is g c

pub returns-clause-sound : goal.returns-clause-sound
returns-clause-sound g c = rw (value-is g c) (syndrome_of-encode g.row.K g.row.R c.args.value c.requires.fits)

pub returns-clause-payload : goal.returns-clause-payload
returns-clause-payload g c = rw (value-is g c) (payload_of-encode g.row.K g.row.R c.args.value c.requires.fits)
