use Rattle.std.proofs.Common.{◌≡◌, ◌≤◌, ◌-◌, vec_len}
use Rattle.ibx_base.specs.Files.{HasRead}
use Rattle.ibx_base.proofs.reading.read_rest.Given as goal

abbrev pub invariant-loop-bytes : goal.invariant-loop-bytes
invariant-loop-bytes g l = record {
  kept : g.F.Files.contents l.files ≡ g.F.Files.contents l.fn.files;
  read : HasRead (g.F.Files.begun l.fn.files) l.bytes.items (g.F.Files.begun l.files);
  fits : vec_len l.bytes ≤ l.limit;
  faults : g.F.Files.faults l.fn.files ≤ g.F.Files.faults l.files;
  misses : g.F.Files.misses l.files ≡ g.F.Files.misses l.fn.files;
}

abbrev pub decreases-loop-bytes : goal.decreases-loop-bytes
decreases-loop-bytes g l = l.limit - vec_len l.bytes
