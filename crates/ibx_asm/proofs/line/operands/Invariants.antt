use Rattle.std.proofs.Common.{◌≡◌, drop, ◌&&◌}
use Rattle.std.specs.List.{fold, zip}
use Rattle.ibx_asm.specs.Denote.{in_range, known, with_operand}
use Rattle.ibx_asm.specs.Text.{tokens}
use Rattle.ibx_asm.proofs.line.operands.Given as goal

abbrev pub invariant-loop-slot : goal.invariant-loop-slot
invariant-loop-slot l = record {
  in_range : in_range l.labels l.address (zip l.slots (tokens l.text)) ≡ (l.in_range && in_range l.labels l.address
      (zip (drop l.slot-index l.slots) (tokens l.rest)));
  known : known l.labels l.address (zip l.slots (tokens l.text)) ≡ (l.known && known l.labels l.address
      (zip (drop l.slot-index l.slots) (tokens l.rest)));
  word : fold (with_operand l.labels l.address) l.fn.word (zip l.slots (tokens l.text)) ≡ fold
      (with_operand l.labels l.address) l.word (zip (drop l.slot-index l.slots) (tokens l.rest));
}
