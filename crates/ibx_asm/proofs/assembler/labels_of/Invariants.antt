use Rattle.std.proofs.Common.{◌≡◌, map, take}
use Rattle.ibx_asm.specs.Denote.{labels_of}
use Rattle.ibx_asm.specs.Held.{meant, stands}
use Rattle.ibx_asm.proofs.assembler.labels_of.Given as goal

abbrev pub invariant-loop-line : goal.invariant-loop-line
invariant-loop-line l = map meant l.labels.items ≡ labels_of (map stands (take l.line-index l.all))
