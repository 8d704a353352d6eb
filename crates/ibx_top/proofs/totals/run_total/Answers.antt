use Rattle.std.proofs.Common.{ℕ, ◌+◌, ◌%◌, ◌^◌, Some, None, sym, ap, ◌∙◌}
use Rattle.ibx_top.proofs.Drives.{showed}
use Rattle.ibx_top.proofs.Sums.{begins, adds, adds_last, idles, ran, spent}
use Rattle.ibx_top.proofs.totals.run_total.Goals.{in-Some+else-halts, in_default}
use Rattle.ibx_top.proofs.totals.run_total.Goals as goal

pub loop-init : goal.loop-init
loop-init c = record { run = begins c.args.cycles c.args.soc.now (ap (λ w. w.place.cycle) c.requires.new.state) }

pub returns-then-halts-clause-halted : goal.returns-then-halts-clause-halted
returns-then-halts-clause-halted c =
    let done = showed c.step-cycle.result c.loop.soc (Some c.in-Some.event) c.step-cycle.ensures.shown c.in-Some.is in
    (adds_last c.in-Some.event c.loop.invariant.run c.loop-test.true done
    (sym c.halts.ensures ∙ c.if-halts.true)).halts

pub returns-then-halts-clause-sum : goal.returns-then-halts-clause-sum
returns-then-halts-clause-sum c =
    let done = showed c.step-cycle.result c.loop.soc (Some c.in-Some.event) c.step-cycle.ensures.shown c.in-Some.is in
    ap (λ (n : ℕ). (c.loop.sum + n) % 2 ^ 32) c.written-sum.ensures
    ∙ (adds_last c.in-Some.event c.loop.invariant.run c.loop-test.true done
    (sym c.halts.ensures ∙ c.if-halts.true)).sums

pub returns-then-halts-clause-events : goal.returns-then-halts-clause-events
returns-then-halts-clause-events c =
    let done = showed c.step-cycle.result c.loop.soc (Some c.in-Some.event) c.step-cycle.ensures.shown c.in-Some.is in
    (adds_last c.in-Some.event c.loop.invariant.run c.loop-test.true done
    (sym c.halts.ensures ∙ c.if-halts.true)).counts

pub returns-then-halts-clause-left : goal.returns-then-halts-clause-left
returns-then-halts-clause-left c =
    let done = showed c.step-cycle.result c.loop.soc (Some c.in-Some.event) c.step-cycle.ensures.shown c.in-Some.is in
    c.step-cycle.ensures.next
    ∙ (adds_last c.in-Some.event c.loop.invariant.run c.loop-test.true done
    (sym c.halts.ensures ∙ c.if-halts.true)).leaves

pub loop-preserved : goal.loop-preserved
loop-preserved c = elim c.match-cycle.branch [
  | in-Some+else-halts w ↦
      let done = showed c.step-cycle.result c.loop.soc (Some w.in-Some.event) c.step-cycle.ensures.shown
      w.in-Some.is in
      record {
        run =
            ran c.step-cycle.ensures.next
            (w.sum-is ∙ ap (λ (n : ℕ). (c.loop.sum + n) % 2 ^ 32) w.written-sum.ensures) w.events-is
            (adds w.in-Some.event c.loop.invariant.run c.loop-test.true done (sym w.halts.ensures ∙ w.if-halts.false));
      }
  | in_default w ↦
      let none = showed c.step-cycle.result c.loop.soc None c.step-cycle.ensures.shown w.in_default.is in
      record {
        run =
            ran c.step-cycle.ensures.next w.sum-is w.events-is
            (idles c.loop.invariant.run c.loop-test.true none);
      }
]

pub returns-clause-halted : goal.returns-clause-halted
returns-clause-halted c = (spent c.loop.invariant.run c.loop-test.false).halts

pub returns-clause-sum : goal.returns-clause-sum
returns-clause-sum c = (spent c.loop.invariant.run c.loop-test.false).sums

pub returns-clause-events : goal.returns-clause-events
returns-clause-events c = (spent c.loop.invariant.run c.loop-test.false).counts

pub returns-clause-left : goal.returns-clause-left
returns-clause-left c = (spent c.loop.invariant.run c.loop-test.false).leaves
