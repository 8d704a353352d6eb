use Rattle.std.proofs.Common.{◌≡◌, None}
use Rattle.ibx_elf.specs.Faults.{segment_fault}
use Rattle.ibx_elf.specs.Search.{first_below}
use Rattle.ibx_elf.proofs.checks.check_segments.Given as goal

abbrev pub invariant-loop-i : goal.invariant-loop-i
invariant-loop-i l = first_below (segment_fault l.file) l.i ≡ None
