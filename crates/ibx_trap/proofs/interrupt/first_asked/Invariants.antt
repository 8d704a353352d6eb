use Rattle.std.proofs.Common.{◌≡◌, drop}
use Rattle.std.specs.Prelude.{find}
use Rattle.ibx_trap.specs.Bits.{bit_of}
use Rattle.ibx_trap.specs.Interrupts.{order}
use Rattle.ibx_trap.proofs.interrupt.first_asked.Given as goal

-- no number before this one is asked for
abbrev pub invariant-loop-number : goal.invariant-loop-number
invariant-loop-number l = find (λ n. bit_of l.asked n) order ≡ find (λ n. bit_of l.asked n) (drop l.number-index order)
