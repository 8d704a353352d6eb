use Rattle.std.proofs.Common.{List, ℕ, ap, arith}
use Rattle.ibx_bus.specs.Memory.{MemoryState}
use Rattle.ibx_bus.proofs.Kept.{coded, filled}
use Rattle.ibx_bus.proofs.memory.Memory.new.Goals as goal

pub invariant_of-result : goal.invariant_of-result
invariant_of-result c =
    coded c.args.image.now c.loop-i.words c.args.base (filled c.args.image.now c.loop-i.words c.loop-i.i
    c.loop-i.invariant.0 c.loop-i-test.false c.loop-i.invariant.1)
    (λ k. omega (arith, c.type_inv.image k)) c.requires.aligned c.requires.ends c.requires.apart

pub returns : goal.returns
returns c =
    ap (λ (ws : List ℕ). let m : MemoryState = record { base = c.args.base; words = ws } in m)
    (filled c.args.image.now c.loop-i.words c.loop-i.i c.loop-i.invariant.0 c.loop-i-test.false c.loop-i.invariant.1)
