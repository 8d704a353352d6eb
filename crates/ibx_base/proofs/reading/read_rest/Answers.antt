use Rattle.std.proofs.Common.{arith, refl}
use Rattle.ibx_base.proofs.Rests.{none_read}
use Rattle.ibx_base.proofs.reading.read_rest.Goals as goal

pub loop-bytes-init : goal.loop-bytes-init
loop-bytes-init g c = record {
  kept = refl;
  read = rw c.new-bytes.ensures.items (none_read (g.F.Files.begun c.args.files.now));
  fits = omega (arith, c.new-bytes.ensures.len);
  faults = omega arith;
  misses = refl;
}
