use Rattle.std.proofs.Common.{◌≡◌, drop}
use Rattle.ibx_asm.specs.Denote.{are_operands}
use Rattle.ibx_asm.specs.Text.{tokens}
use Rattle.ibx_asm.proofs.line.are_operands.Given as goal

abbrev pub invariant-loop-slot : goal.invariant-loop-slot
invariant-loop-slot l = are_operands l.slots (tokens l.text) ≡ are_operands (drop l.slot-index l.slots) (tokens l.rest)
