use Rattle.std.proofs.Common.{◌≡◌, ◌+◌, ◌≤◌, length}
use Rattle.std.specs.Str.Lines.{lines}
use Rattle.ibx_plan.specs.Plan.{with_lines}
use Rattle.ibx_plan.proofs.reader.add_lines.Given as goal

abbrev pub invariant-loop-rest : goal.invariant-loop-rest
invariant-loop-rest l = (l.number + length l.rest ≤ length l.text)
    × (with_lines l.bounds 1 l.fn.plan (lines l.text) ≡ with_lines l.bounds (l.number + 1) l.plan (lines l.rest))

abbrev pub decreases-loop-rest : goal.decreases-loop-rest
decreases-loop-rest l = length l.rest
