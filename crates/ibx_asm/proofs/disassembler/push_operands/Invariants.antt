use Rattle.std.proofs.Common.{◌≡◌, ◌≤◌, ◌+◌, ◌++◌, drop}
use Rattle.std.specs.Prelude.{sum_by, flat_map}
use Rattle.arrayvec.specs.ArrayString.{array_string_len}
use Rattle.ibx_asm.specs.Dis.{slot_text, operands_text}
use Rattle.ibx_asm.specs.Held.{room_of}
use Rattle.ibx_asm.proofs.disassembler.push_operands.Given as goal

abbrev pub invariant-loop-slot : goal.invariant-loop-slot
invariant-loop-slot l = record {
  bytes : l.text.bytes ++ flat_map (slot_text l.word) (drop l.slot-index l.slots) ≡ l.fn.text.bytes ++ operands_text
      l.word l.slots;
  room : array_string_len l.text + sum_by room_of (drop l.slot-index l.slots) ≤ 40;
}
