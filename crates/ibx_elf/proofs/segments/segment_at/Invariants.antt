use Rattle.std.proofs.Common.{◌≡◌, ◌+◌, length}
use Rattle.ibx_elf.specs.Image.{segments_below}
use Rattle.ibx_elf.proofs.segments.segment_at.Given as goal

abbrev pub invariant-loop-i : goal.invariant-loop-i
invariant-loop-i l = l.fn.index ≡ l.left + length (segments_below l.file l.i)
