use Rattle.std.proofs.Common.{◌≡◌, ◌≤◌, ◌+◌}
use Rattle.ibx_compare.specs.Twins.{told}
use Rattle.ibx_compare.proofs.next.next_event.Given as goal

abbrev pub invariant-loop-left : goal.invariant-loop-left
invariant-loop-left l = record {
  same : told l.left l.soc ≡ told l.fn.left l.fn.soc;
  fits : l.soc.place.cycle + l.left ≤ 1000000000;
}

abbrev pub decreases-loop-left : goal.decreases-loop-left
decreases-loop-left l = l.left
