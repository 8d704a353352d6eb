use Rattle.std.proofs.Common.{◌-◌, arith, take, ap, ◌∙◌, List, ℕ, Option, drop, length}
use Rattle.std.proofs.Math.ListN.{length-drop}
use Rattle.ibx_base.specs.Sinks.{with_more}
use Rattle.ibx_base.proofs.Gained.{with_more-take}
use Rattle.ibx_base.proofs.writing.write_all.Goals as goal

pub loop-done-preserved : goal.loop-done-preserved
loop-done-preserved g c = record {
  within = omega (arith, length-drop {A = ℕ}, c.in_ok-done.ensures.within, c.loop-done-test.true);
  taken =
      c.in_ok-done.ensures.bytes
      ∙ ap (λ (t : Option (List ℕ)). with_more t
      (take c.in_ok-done.field-0 (take (length c.args.piece.now - c.loop-done.done)
      (drop c.loop-done.done c.args.piece.now)))) c.loop-done.invariant.taken
      ∙ with_more-take (g.K.Sink.taken c.args.sink.now) c.args.piece.now c.loop-done.done c.in_ok-done.field-0;
  faults = omega (arith, c.loop-done.invariant.faults, c.write.ensures.cause.never_falls);
}
