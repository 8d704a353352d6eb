use Rattle.std.proofs.Common.{◌≡◌, ◌+◌, ◌≤◌, ◌++◌, length, drop}
use Rattle.std.specs.Fmt.{decimal}
use Rattle.ibx_text.proofs.digits.put_decimal.Given as goal

abbrev pub invariant-loop-left : goal.invariant-loop-left
invariant-loop-left l =
    (length (decimal l.left) ≤ l.end) × (l.end ≤ 20) × (l.end + length (decimal l.number) ≡ 20 + length
    (decimal l.left))
    × (decimal l.left ++ drop l.end l.bytes ≡ decimal l.number ++ drop 20 l.fn.bytes)

abbrev pub decreases-loop-left : goal.decreases-loop-left
decreases-loop-left l = l.left
