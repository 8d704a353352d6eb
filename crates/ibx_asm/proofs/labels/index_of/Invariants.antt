use Rattle.std.proofs.Common.{take}
use Rattle.ibx_asm.specs.Held.{IsIndexOf}
use Rattle.ibx_asm.proofs.labels.index_of.Given as goal

abbrev pub invariant-loop-place : goal.invariant-loop-place
invariant-loop-place l = IsIndexOf l.first (take l.place l.labels)
