use Rattle.std.proofs.Common.{◌≡◌, None}
use Rattle.ibx_elf.specs.Faults.{overlap_fault}
use Rattle.ibx_elf.specs.Search.{first_below}
use Rattle.ibx_elf.proofs.checks.check_overlaps_of.Given as goal

abbrev pub invariant-loop-j : goal.invariant-loop-j
invariant-loop-j l = first_below (overlap_fault l.file l.i) l.j ≡ None
