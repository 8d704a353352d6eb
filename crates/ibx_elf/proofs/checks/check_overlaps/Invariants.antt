use Rattle.std.proofs.Common.{◌≡◌, None}
use Rattle.ibx_elf.specs.Faults.{first_overlap}
use Rattle.ibx_elf.specs.Search.{first_below}
use Rattle.ibx_elf.proofs.checks.check_overlaps.Given as goal

abbrev pub invariant-loop-i : goal.invariant-loop-i
invariant-loop-i l = first_below (first_overlap l.file) l.i ≡ None
