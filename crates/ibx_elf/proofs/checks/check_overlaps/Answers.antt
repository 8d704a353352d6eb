use Rattle.std.proofs.Common.{arith, ◌<◌}
use Rattle.std.proofs.lemmas.Result.{err_from_is_err_and}
use Rattle.ibx_elf.specs.Faults.{first_overlap}
use Rattle.ibx_elf.specs.Fields.{e_phnum}
use Rattle.ibx_elf.proofs.Overlaps.{ascending_apart}
use Rattle.ibx_elf.proofs.Searching.{first_below-found}
use Rattle.ibx_elf.proofs.checks.check_overlaps.Goals as goal

pub returns-in_err-check_overlaps_of : goal.returns-in_err-check_overlaps_of
returns-in_err-check_overlaps_of c =
    let told = err_from_is_err_and c.from_residual.result c.from_residual.ensures.1 in
    let below : c.loop-i.i < e_phnum c.args.file.now = omega arith in
    rw (told.1, told.2)
    (first_below-found (first_overlap c.args.file.now) c.loop-i.i (e_phnum c.args.file.now) _ below c.loop-i.invariant
    c.in_err-check_overlaps_of.ensures)

pub returns-then-are_ascending : goal.returns-then-are_ascending
returns-then-are_ascending c = ascending_apart c.args.file.now (c.are_ascending.ensures.0 c.if-are_ascending.true)
