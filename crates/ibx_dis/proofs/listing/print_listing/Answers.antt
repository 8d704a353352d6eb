use Rattle.std.proofs.Common.{◌+◌, List, drop, sym, subst, arith}
use Rattle.std.specs.Prelude.{flat_map}
use Rattle.ibx_elf.specs.Image.{LoadedBytes}
use Rattle.ibx_dis.specs.Listing.{segment_text, listing_of}
use Rattle.ibx_dis.proofs.Gains.{SoFar, begun, more, cut, on_err}
use Rattle.ibx_dis.proofs.Steps.{one_segment, all_segments}
use Rattle.ibx_dis.proofs.listing.print_listing.Goals as goal

pub loop-i-init : goal.loop-i-init
loop-i-init g c = record {
  so_far = subst (λ left. SoFar (g.K.Sink.taken c.args.out.now) (g.K.Sink.taken c.args.out.now) left
      (listing_of c.args.image.now)) (sym (all_segments c.args.image.now))
      (begun (g.K.Sink.taken c.args.out.now) (listing_of c.args.image.now));
  faults = omega arith;
}

pub returns-in_err-print_segment-clause-prefix : goal.returns-in_err-print_segment-clause-prefix
returns-in_err-print_segment-clause-prefix g c =
    let segments : List LoadedBytes = c.args.image.now.segments in
    let segment : LoadedBytes = record { addr = c.segment-address.result.0; bytes = c.segment-address.result.1.now } in
    let so_far = subst (λ left. SoFar (g.K.Sink.taken c.args.out.now) (g.K.Sink.taken c.loop-i.out) left
    (listing_of c.args.image.now)) (one_segment segments c.loop-i.i segment c.segment-address.ensures)
    c.loop-i.invariant.so_far in
    on_err c.from_residual.result (cut (segment_text segment) (flat_map segment_text (drop (c.loop-i.i + 1) segments))
    so_far
    c.in_err-print_segment.ensures.prefix)

pub loop-i-preserved : goal.loop-i-preserved
loop-i-preserved g c =
    let segments : List LoadedBytes = c.args.image.now.segments in
    let segment : LoadedBytes = record { addr = c.segment-address.result.0; bytes = c.segment-address.result.1.now } in
    let so_far = subst (λ left. SoFar (g.K.Sink.taken c.args.out.now) (g.K.Sink.taken c.loop-i.out) left
    (listing_of c.args.image.now)) (one_segment segments c.loop-i.i segment c.segment-address.ensures)
    c.loop-i.invariant.so_far in
    record {
      so_far = more (segment_text segment) (flat_map segment_text (drop (c.loop-i.i + 1) segments)) so_far
          c.in_ok-print_segment.ensures.whole;
      faults = omega (arith, c.loop-i.invariant.faults, c.in_ok-print_segment.ensures.cause.never_falls);
    }
