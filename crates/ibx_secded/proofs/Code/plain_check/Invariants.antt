use Rattle.std.proofs.Common.{◌≡◌}
use Rattle.ibx_secded.specs.Code.{checks}
use Rattle.ibx_secded.proofs.Code.plain_check.Given as goal

abbrev pub invariant-loop-i : goal.invariant-loop-i
invariant-loop-i g l = l.check ≡ checks g.row.R l.i l.value
