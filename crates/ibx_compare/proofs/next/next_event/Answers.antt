use Rattle.std.proofs.Common.{◌≡◌, ◌+◌, ◌-◌, Some, None, true, false, sym, ap, ◌∙◌, arith}
use Rattle.ibx_compare.specs.Twins.{Told, told}
use Rattle.ibx_compare.proofs.Telling.{cycle_next, showed, told_event, told_none, told_rests}
use Rattle.ibx_compare.proofs.next.next_event.Goals as goal

pub returns-then-halts-clause-event : goal.returns-then-halts-clause-event
returns-then-halts-clause-event c =
    let is = showed c.step-cycle.result c.loop-left.soc (Some c.in-Some.event) c.step-cycle.ensures.shown c.in-Some.is
    in
    let all = told_event c.args.left.now c.loop-left.left c.args.soc.now c.loop-left.soc c.in-Some.event true
    c.loop-left.invariant.same c.loop-left-test.true is (sym c.halts.ensures ∙ c.if-halts.true) in
    sym (ap (λ (t : Told). t.event) all)

pub returns-then-halts-clause-left : goal.returns-then-halts-clause-left
returns-then-halts-clause-left c =
    let is = showed c.step-cycle.result c.loop-left.soc (Some c.in-Some.event) c.step-cycle.ensures.shown c.in-Some.is
    in
    let all = told_event c.args.left.now c.loop-left.left c.args.soc.now c.loop-left.soc c.in-Some.event true
    c.loop-left.invariant.same c.loop-left-test.true is (sym c.halts.ensures ∙ c.if-halts.true) in
    sym (ap (λ (t : Told). t.left) all)

pub returns-then-halts-clause-next : goal.returns-then-halts-clause-next
returns-then-halts-clause-next c =
    let is = showed c.step-cycle.result c.loop-left.soc (Some c.in-Some.event) c.step-cycle.ensures.shown c.in-Some.is
    in
    let all = told_event c.args.left.now c.loop-left.left c.args.soc.now c.loop-left.soc c.in-Some.event true
    c.loop-left.invariant.same c.loop-left-test.true is (sym c.halts.ensures ∙ c.if-halts.true) in
    c.step-cycle.ensures.next ∙ sym (ap (λ (t : Told). t.next) all)

pub returns-else-halts-clause-event : goal.returns-else-halts-clause-event
returns-else-halts-clause-event c =
    let is = showed c.step-cycle.result c.loop-left.soc (Some c.in-Some.event) c.step-cycle.ensures.shown c.in-Some.is
    in
    let all = told_event c.args.left.now c.loop-left.left c.args.soc.now c.loop-left.soc c.in-Some.event false
    c.loop-left.invariant.same c.loop-left-test.true is (sym c.halts.ensures ∙ c.if-halts.false) in
    sym (ap (λ (t : Told). t.event) all)

pub returns-else-halts-clause-left : goal.returns-else-halts-clause-left
returns-else-halts-clause-left c =
    let is = showed c.step-cycle.result c.loop-left.soc (Some c.in-Some.event) c.step-cycle.ensures.shown c.in-Some.is
    in
    let all = told_event c.args.left.now c.loop-left.left c.args.soc.now c.loop-left.soc c.in-Some.event false
    c.loop-left.invariant.same c.loop-left-test.true is (sym c.halts.ensures ∙ c.if-halts.false) in
    sym (ap (λ (t : Told). t.left) all)

pub returns-else-halts-clause-next : goal.returns-else-halts-clause-next
returns-else-halts-clause-next c =
    let is = showed c.step-cycle.result c.loop-left.soc (Some c.in-Some.event) c.step-cycle.ensures.shown c.in-Some.is
    in
    let all = told_event c.args.left.now c.loop-left.left c.args.soc.now c.loop-left.soc c.in-Some.event false
    c.loop-left.invariant.same c.loop-left-test.true is (sym c.halts.ensures ∙ c.if-halts.false) in
    c.step-cycle.ensures.next ∙ sym (ap (λ (t : Told). t.next) all)

pub loop-left-preserved : goal.loop-left-preserved
loop-left-preserved c =
    let is = showed c.step-cycle.result c.loop-left.soc None c.step-cycle.ensures.shown c.in_default.is in
    let counts : c.step-cycle.new.self.place.cycle ≡ c.loop-left.soc.place.cycle + 1 =
    ap (λ w. w.place.cycle) c.step-cycle.ensures.next ∙ cycle_next c.loop-left.soc in
    record {
      same = ap (told (c.loop-left.left - 1)) c.step-cycle.ensures.next
          ∙ told_rests c.args.left.now c.loop-left.left c.args.soc.now c.loop-left.soc c.loop-left.invariant.same
          c.loop-left-test.true is;
      fits = omega (arith, counts, c.loop-left.invariant.fits, c.loop-left-test.true);
    }

pub returns-clause-event : goal.returns-clause-event
returns-clause-event c =
    sym (ap (λ (t : Told). t.event)
    (told_none c.args.left.now c.loop-left.left c.args.soc.now c.loop-left.soc c.loop-left.invariant.same
    c.loop-left-test.false))

pub returns-clause-left : goal.returns-clause-left
returns-clause-left c =
    (let none : c.loop-left.left ≡ 0 = omega (arith, c.loop-left-test.false) in none)
    ∙ sym (ap (λ (t : Told). t.left)
    (told_none c.args.left.now c.loop-left.left c.args.soc.now c.loop-left.soc c.loop-left.invariant.same
    c.loop-left-test.false))

pub returns-clause-next : goal.returns-clause-next
returns-clause-next c =
    sym (ap (λ (t : Told). t.next)
    (told_none c.args.left.now c.loop-left.left c.args.soc.now c.loop-left.soc c.loop-left.invariant.same
    c.loop-left-test.false))
