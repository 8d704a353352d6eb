use Rattle.ibx_elf.proofs.Overlaps.{Ascends}
use Rattle.ibx_elf.proofs.checks.are_ascending.Given as goal

abbrev pub invariant-loop-i : goal.invariant-loop-i
invariant-loop-i l = Ascends l.file l.i l.end
