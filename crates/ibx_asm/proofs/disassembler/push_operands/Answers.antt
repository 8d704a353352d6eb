use Rattle.std.proofs.Common.{arith}
use Rattle.ibx_asm.proofs.Texts.{one_room}
use Rattle.ibx_asm.proofs.disassembler.push_operands.Goals as goal

pub push_slot-requires : goal.push_slot-requires
push_slot-requires c = omega (
  arith,
  c.loop-slot.invariant.room,
  one_room c.loop-slot.slot-index c.args.slots.now
      c.loop-slot-test.true,
)
