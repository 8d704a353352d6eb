use Rattle.std.proofs.Common.{◌≡◌}
use Rattle.ibx_top.proofs.Seals.{sum_to}
use Rattle.ibx_top.proofs.seal.field_sum.Given as goal

abbrev pub invariant-loop-field : goal.invariant-loop-field
invariant-loop-field l = record { so_far : l.sum ≡ sum_to l.fn.core l.field }
