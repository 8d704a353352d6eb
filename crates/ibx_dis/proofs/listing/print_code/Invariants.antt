use Rattle.std.proofs.Common.{◌≤◌, length}
use Rattle.ibx_dis.specs.Listing.{lines_of}
use Rattle.ibx_dis.proofs.Gains.{SoFar}
use Rattle.ibx_dis.proofs.listing.print_code.Given as goal

abbrev pub invariant-loop-rest : goal.invariant-loop-rest
invariant-loop-rest g l = record {
  so_far : SoFar (g.K.Sink.taken l.fn.out) (g.K.Sink.taken l.out) (lines_of l.rest) (lines_of l.code);
  faults : g.K.Sink.faults l.fn.out ≤ g.K.Sink.faults l.out;
}

abbrev pub decreases-loop-rest : goal.decreases-loop-rest
decreases-loop-rest g l = length l.rest
