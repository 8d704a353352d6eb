use Rattle.std.proofs.Common.{arith}
use Rattle.ibx_ram.proofs.Planes.{checks_below, narrow-check}
use Rattle.ibx_ram.proofs.coded.check.Goals as goal

pub overflow_cast-result : goal.overflow_cast-result
overflow_cast-result g c = omega (
  arith,
  narrow-check g.row.K g.row.R _ c.requires.code
      (checks_below g.row.K g.row.R c.args.word c.requires.fits),
)
