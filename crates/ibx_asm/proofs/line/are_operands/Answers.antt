use Rattle.std.proofs.Common.{sym, ◌∙◌}
use Rattle.ibx_asm.specs.declared.slot.Slot.TheVariants as slot
use Rattle.ibx_asm.specs.Text.{tokens}
use Rattle.ibx_asm.proofs.Operands.{short_of_tokens}
use Rattle.ibx_asm.proofs.line.are_operands.Goals as goal

pub returns-in_default-2 : goal.returns-in_default-2
returns-in_default-2 c =
    let none = rw c.in_default.is at c.first_token.ensures in
    sym (c.loop-slot.invariant ∙ short_of_tokens c.args.slots.now c.loop-slot.slot-index slot.Comma
    (tokens c.loop-slot.rest.now) c.loop-slot-test.true none)
