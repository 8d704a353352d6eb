use Rattle.std.proofs.Common.{◌≡◌, ℕ, ◌+◌, ◌≤◌, Some, None, true, false, arith, refl, sym, ap, ◌∙◌, subst}
use Rattle.ibx_trace.specs.Lines.{line_of, end_line_of}
use Rattle.ibx_soc.specs.Cycles.{cycle_of, soc_next}
use Rattle.ibx_top.proofs.Gains.{on_err, last, cut_last, more}
use Rattle.ibx_top.proofs.Drives.{starts, rests, goes_on, halting, no_budget, cut_event, showed, stepped, standing}
use Rattle.ibx_top.proofs.Drives.{moved}
use Rattle.ibx_top.proofs.driving.drive.Goals.{in-Some+in_ok-print_event+else-halts, in_default}
use Rattle.ibx_top.proofs.driving.drive.Goals as goal

pub loop-made-init : goal.loop-made-init
loop-made-init g c = record {
  run = starts c.args.cycles c.args.soc.now (g.K.Sink.taken c.args.out.now)
      (ap (λ w. w.place.cycle) c.requires.new.state);
  faults = omega arith;
}

pub returns-in_err-print_event-clause-prefix : goal.returns-in_err-print_event-clause-prefix
returns-in_err-print_event-clause-prefix g c =
    let done = showed c.step-cycle.result c.loop-made.soc (Some c.in-Some.event) c.step-cycle.ensures.shown
    c.in-Some.is in
    on_err c.from_residual.result (cut_event c.in-Some.event c.loop-made.invariant.run c.loop-made-test.true done
    c.in_err-print_event.ensures.prefix)

pub returns-in_err-print_event-clause-left : goal.returns-in_err-print_event-clause-left
returns-in_err-print_event-clause-left g c = stepped c.loop-made.invariant.run c.step-cycle.ensures.next

pub returns-in_err-print_end-clause-prefix : goal.returns-in_err-print_end-clause-prefix
returns-in_err-print_end-clause-prefix g c =
    let done = showed c.step-cycle.result c.loop-made.soc (Some c.in-Some.event) c.step-cycle.ensures.shown
    c.in-Some.is in
    let ended = halting c.in-Some.event c.loop-made.invariant.run c.loop-made-test.true done
    (sym c.halts.ensures ∙ c.if-halts.true) in
    on_err c.from_residual-in_err-print_end.result
    (cut_last (more (line_of c.in-Some.event) (end_line_of true (c.loop-made.made + 1) (c.loop-made.events + 1))
    ended.text c.in_ok-print_event.ensures.whole) c.in_err-print_end.ensures.prefix)

pub returns-in_err-print_end-clause-left : goal.returns-in_err-print_end-clause-left
returns-in_err-print_end-clause-left g c = stepped c.loop-made.invariant.run c.step-cycle.ensures.next

pub returns-then-halts-clause-whole : goal.returns-then-halts-clause-whole
returns-then-halts-clause-whole g c =
    let done = showed c.step-cycle.result c.loop-made.soc (Some c.in-Some.event) c.step-cycle.ensures.shown
    c.in-Some.is in
    let ended = halting c.in-Some.event c.loop-made.invariant.run c.loop-made-test.true done
    (sym c.halts.ensures ∙ c.if-halts.true) in
    last (more (line_of c.in-Some.event) (end_line_of true (c.loop-made.made + 1) (c.loop-made.events + 1)) ended.text
    c.in_ok-print_event.ensures.whole) c.in_ok-print_end.ensures.whole

pub returns-then-halts-clause-halted : goal.returns-then-halts-clause-halted
returns-then-halts-clause-halted g c =
    let done = showed c.step-cycle.result c.loop-made.soc (Some c.in-Some.event) c.step-cycle.ensures.shown
    c.in-Some.is in
    (halting c.in-Some.event c.loop-made.invariant.run c.loop-made-test.true done
    (sym c.halts.ensures ∙ c.if-halts.true)).halts

pub returns-then-halts-clause-state : goal.returns-then-halts-clause-state
returns-then-halts-clause-state g c =
    let done = showed c.step-cycle.result c.loop-made.soc (Some c.in-Some.event) c.step-cycle.ensures.shown
    c.in-Some.is in
    c.step-cycle.ensures.next ∙ (halting c.in-Some.event c.loop-made.invariant.run c.loop-made-test.true done
    (sym c.halts.ensures ∙ c.if-halts.true)).leaves

pub returns-then-halts-clause-left : goal.returns-then-halts-clause-left
returns-then-halts-clause-left g c = stepped c.loop-made.invariant.run c.step-cycle.ensures.next

pub loop-made-preserved : goal.loop-made-preserved
loop-made-preserved g c = elim c.match-cycle.branch [
  | in-Some+in_ok-print_event+else-halts w ↦
      let done = showed c.step-cycle.result c.loop-made.soc (Some w.in-Some.event) c.step-cycle.ensures.shown
      w.in-Some.is in
      let gone = goes_on w.in-Some.event c.loop-made.invariant.run c.loop-made-test.true done
      (sym w.halts.ensures ∙ w.if-halts.false) w.in_ok-print_event.ensures.whole in
      record {
        run = moved g.K.Sink.taken w.out-is w.events-is c.step-cycle.ensures.next gone;
        faults = subst (λ out. g.K.Sink.faults c.args.out.now ≤ g.K.Sink.faults out) (sym w.out-is)
            (omega (arith, c.loop-made.invariant.faults, w.in_ok-print_event.ensures.cause.never_falls));
      }
  | in_default w ↦
      let none = showed c.step-cycle.result c.loop-made.soc None c.step-cycle.ensures.shown w.in_default.is in
      record {
        run = moved g.K.Sink.taken w.out-is w.events-is c.step-cycle.ensures.next (rests c.loop-made.invariant.run
            c.loop-made-test.true none);
        faults = subst (λ out. g.K.Sink.faults c.args.out.now ≤ g.K.Sink.faults out) (sym w.out-is)
            c.loop-made.invariant.faults;
      }
]

pub returns-in_err-print_end-2-clause-prefix : goal.returns-in_err-print_end-2-clause-prefix
returns-in_err-print_end-2-clause-prefix g c =
    on_err c.from_residual-in_err-print_end-2.result
    (cut_last (no_budget c.loop-made.invariant.run c.loop-made-test.false).text c.in_err-print_end-2.ensures.prefix)

pub returns-clause-whole : goal.returns-clause-whole
returns-clause-whole g c = last (no_budget c.loop-made.invariant.run c.loop-made-test.false).text
    c.in_ok-print_end-2.ensures.whole

pub returns-clause-halted : goal.returns-clause-halted
returns-clause-halted g c = (no_budget c.loop-made.invariant.run c.loop-made-test.false).halts

pub returns-clause-state : goal.returns-clause-state
returns-clause-state g c = (no_budget c.loop-made.invariant.run c.loop-made-test.false).leaves
