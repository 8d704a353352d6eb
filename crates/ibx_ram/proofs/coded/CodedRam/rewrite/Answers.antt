use Rattle.std.proofs.Common.{◌<◌, ◌^◌, ◌∙◌, arith}
use Rattle.std.specs.Int.Bits.{bit_xor, xor_lt}
use Rattle.ibx_ram.proofs.Planes.{check-fits, narrow-check, payload-fits, rewrite-is}
use Rattle.ibx_ram.proofs.coded.CodedRam.rewrite.Goals as goal

pub check-columns-requires-clause-fits : goal.check-columns-requires-clause-fits
check-columns-requires-clause-fits g c =
    xor_lt g.row.K c.from.result c.args.value
    (payload-fits g.row.K g.row.R c.self.inside.payloads.items c.self.inside.checks.items c.args.self.now
    c.self.invariant c.self.view_is c.args.i c.requires.inside c.from.result c.index.result.now
    (c.from.ensures ∙ c.index.ensures))
    c.requires.fits

pub overflow_cast-stored : goal.overflow_cast-stored
overflow_cast-stored g c =
    let stored : c.from-2.result < 2 ^ g.row.R = check-fits g.row.K g.row.R c.self.inside.payloads.items
    c.self.inside.checks.items c.args.self.now c.self.invariant c.self.view_is c.args.i c.requires.inside
    c.from-2.result c.index-2.result.now (c.from-2.ensures ∙ c.index-2.ensures) in
    omega (
      arith,
      narrow-check g.row.K g.row.R (bit_xor c.from-2.result c.check-columns.result) c.self.invariant.code
          (xor_lt g.row.R c.from-2.result c.check-columns.result stored c.check-columns.ensures.fits),
    )

pub set-requires : goal.set-requires
set-requires g c =
    let stored : c.from-2.result < 2 ^ g.row.R = check-fits g.row.K g.row.R c.self.inside.payloads.items
    c.self.inside.checks.items c.args.self.now c.self.invariant c.self.view_is c.args.i c.requires.inside
    c.from-2.result c.index-2.result.now (c.from-2.ensures ∙ c.index-2.ensures) in (
      omega arith,
      (
        c.requires.inside,
        (
          c.requires.fits,
          xor_lt g.row.R c.from-2.result c.check-columns.result stored
              c.check-columns.ensures.fits,
        ),
      ),
    )

pub returns-clause-value : goal.returns-clause-value
returns-clause-value g c =
    c.set.ensures
    ∙ rewrite-is g.row.K g.row.R c.self.inside.payloads.items c.self.inside.checks.items c.args.self.now
    c.self.invariant c.self.view_is c.args.i c.requires.inside c.from.result c.from-2.result c.index.result.now
    c.index-2.result.now c.args.value c.check-columns.result
    (c.from.ensures ∙ c.index.ensures) (c.from-2.ensures ∙ c.index-2.ensures) c.check-columns.ensures.value
