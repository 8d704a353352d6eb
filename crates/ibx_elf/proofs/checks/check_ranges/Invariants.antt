use Rattle.std.proofs.Common.{◌≡◌, None}
use Rattle.ibx_elf.specs.Faults.{outside_fault}
use Rattle.ibx_elf.specs.Search.{first_below}
use Rattle.ibx_elf.proofs.checks.check_ranges.Given as goal

abbrev pub invariant-loop-i : goal.invariant-loop-i
invariant-loop-i l = first_below (outside_fault l.file l.ram) l.i ≡ None
