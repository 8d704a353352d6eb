use Rattle.std.proofs.Common.{◌≡◌, ◌*◌, ◌%◌, ◌^◌}
use Rattle.ibx_secded.specs.Code.{checks}
use Rattle.ibx_secded.proofs.tables.check_22.Given as goal

-- the check of the bits below this place
abbrev pub invariant-loop-place : goal.invariant-loop-place
invariant-loop-place l = l.check ≡ checks 6 22 (l.value % 2 ^ (4 * l.place))
