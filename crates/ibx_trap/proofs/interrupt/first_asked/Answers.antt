use Rattle.std.proofs.Common.{◌≡◌, true, false, get_or, refl, sym, ◌∙◌, arith, eq-eqb}
use Rattle.std.proofs.lemmas.Bool.{ne_eqb}
use Rattle.ibx_trap.specs.Bits.{bit_of}
use Rattle.ibx_trap.specs.Interrupts.{order}
use Rattle.ibx_trap.proofs.Order.{find-drop, find-end}
use Rattle.ibx_trap.proofs.interrupt.first_asked.Goals as goal

pub loop-number-init : goal.loop-number-init
loop-number-init c = refl

pub returns-then-asked-number-eq1 : goal.returns-then-asked-number-eq1
returns-then-asked-number-eq1 c =
    let step = find-drop (λ n. bit_of c.args.asked n) order c.loop-number.number-index (omega arith) in
    let hit : bit_of c.args.asked (get_or order c.loop-number.number-index 0) ≡ true =
    eq-eqb _ _ c.if-asked-number-eq1.true in
    sym (c.loop-number.invariant ∙ step ∙ rw hit refl)

pub loop-number-preserved : goal.loop-number-preserved
loop-number-preserved c =
    let step = find-drop (λ n. bit_of c.args.asked n) order c.loop-number.number-index (omega arith) in
    let miss : bit_of c.args.asked (get_or order c.loop-number.number-index 0) ≡ false =
    ne_eqb _ _ c.if-asked-number-eq1.false in
    c.loop-number.invariant ∙ step ∙ rw miss refl

pub returns : goal.returns
returns c = sym (c.loop-number.invariant
    ∙ find-end (λ n. bit_of c.args.asked n) order c.loop-number.number-index (omega arith))
