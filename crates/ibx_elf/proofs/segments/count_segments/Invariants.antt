use Rattle.std.proofs.Common.{◌≡◌, ◌≤◌, length}
use Rattle.ibx_elf.specs.Image.{segments_below}
use Rattle.ibx_elf.proofs.segments.count_segments.Given as goal

abbrev pub invariant-loop-i : goal.invariant-loop-i
invariant-loop-i l = record {
  count : l.count ≡ length (segments_below l.file l.i);
  few : l.count ≤ l.i;
}
