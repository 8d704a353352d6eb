use Rattle.std.proofs.Common.{subst, sym}
use Rattle.ibx_base.specs.MemFiles.{Finds}
use Rattle.ibx_base.proofs.Found.{finds}
use Rattle.ibx_base.proofs.mem_files.find.Goals as goal

pub returns : goal.returns
returns c =
    subst (Finds c.args.files.now c.args.name.now) (sym c.position_of.ensures) (finds c.args.files.now c.args.name.now)
