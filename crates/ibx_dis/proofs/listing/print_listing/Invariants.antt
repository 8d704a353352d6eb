use Rattle.std.proofs.Common.{◌≤◌, drop}
use Rattle.std.specs.Prelude.{flat_map}
use Rattle.ibx_dis.specs.Listing.{segment_text, listing_of}
use Rattle.ibx_dis.proofs.Gains.{SoFar}
use Rattle.ibx_dis.proofs.listing.print_listing.Given as goal

abbrev pub invariant-loop-i : goal.invariant-loop-i
invariant-loop-i g l = record {
  so_far : SoFar (g.K.Sink.taken l.fn.out) (g.K.Sink.taken l.out) (flat_map segment_text (drop l.i l.image.segments))
      (listing_of l.image);
  faults : g.K.Sink.faults l.fn.out ≤ g.K.Sink.faults l.out;
}
