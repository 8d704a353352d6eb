use Rattle.std.proofs.Common.{◌≡◌, ℕ, None, refl, sym, ap, ◌∙◌, arith}
use Rattle.std.specs.Option.{option_map}
use Rattle.ibx_isa.specs.Views.{view_of}
use Rattle.ibx_plan.specs.Plan.{empty_plan}
use Rattle.ibx_system.specs.Core.{core_parts}
use Rattle.ibx_system.specs.Runs.{run}
use Rattle.ibx_views.specs.Observers.{ctl_in}
use Rattle.ibx_compare.specs.Twins.{told, told_cycles}
use Rattle.ibx_compare.proofs.Comparing.{Shows, is_left, is_left_last, new_cycle}
use Rattle.ibx_compare.proofs.TimeComparing.{answer_is, begin, ends_last, index_is, lines_are, plan_twins, settings_are}
use Rattle.ibx_compare.proofs.TimeComparing.{tells_on}
use Rattle.ibx_compare.proofs.time_twins.time_twin.Goals as goal

pub loop-at-init : goal.loop-at-init
loop-at-init c = record {
  alike = begin (record { ram = c.args.ram; mul = c.args.mul; plan = empty_plan }) c.args.cycles c.args.a.now
      c.args.b.now (ctl_in c.new-of_a.result) (ctl_in c.new-of_b.result) (new_cycle c.args.a.now c.requires.a_new)
      (new_cycle c.args.b.now c.requires.b_new) c.new-of_a.ensures.registers c.new-of_b.ensures.registers;
  of_a = settings_are c.args.ram c.args.mul c.new-of_a.result c.new-of_a.ensures.ram c.new-of_a.ensures.mul;
  of_b = settings_are c.args.ram c.args.mul c.new-of_b.result c.new-of_b.ensures.ram c.new-of_b.ensures.mul;
}

pub returns-in-Some-clause-value : goal.returns-in-Some-clause-value
returns-in-Some-clause-value c = λ plan.
    answer_is c.loop-at.invariant c.next_seen-seen_a.result c.next_seen-seen_b.result c.next_seen-seen_a.ensures.seen
    c.next_seen-seen_b.ensures.seen c.in-Some.answer (sym c.ends_with.ensures ∙ c.in-Some.is)
    ∙ plan_twins c.args.ram c.args.mul empty_plan plan c.args.cycles c.args.a.now c.args.b.now

pub returns-in-Some-clause-lines : goal.returns-in-Some-clause-lines
returns-in-Some-clause-lines c =
    lines_are c.loop-at.at c.next_seen-seen_a.result c.next_seen-seen_b.result c.in-Some.answer
    c.next_seen-seen_a.ensures.line c.next_seen-seen_b.ensures.line (sym c.ends_with.ensures ∙ c.in-Some.is)

pub returns-in-Some-clause-a_left : goal.returns-in-Some-clause-a_left
returns-in-Some-clause-a_left c =
    let shows : Shows c.loop-at.left_a c.loop-at.a (option_map view_of (told c.loop-at.left_a c.loop-at.a).event)
    c.next_seen-seen_a.new.left c.next_seen-seen_a.new.soc =
    record {
      shown = refl;
      left = c.next_seen-seen_a.ensures.left;
      next = c.next_seen-seen_a.ensures.next;
    } in
    is_left c.args.cycles c.args.a.now c.loop-at.at (option_map view_of (told c.loop-at.left_a c.loop-at.a).event) shows
    c.loop-at.invariant.alike.of_a
    ∙ ap (λ (i : ℕ). run core_parts c.args.a.now None (told_cycles c.args.cycles i c.args.a.now))
    (sym (index_is c.loop-at.at c.next_seen-seen_a.result c.next_seen-seen_b.result c.in-Some.answer
    (sym c.ends_with.ensures ∙ c.in-Some.is)))

pub returns-in-Some-clause-b_left : goal.returns-in-Some-clause-b_left
returns-in-Some-clause-b_left c =
    let shows : Shows c.loop-at.left_b c.loop-at.b (option_map view_of (told c.loop-at.left_b c.loop-at.b).event)
    c.next_seen-seen_b.new.left c.next_seen-seen_b.new.soc =
    record {
      shown = refl;
      left = c.next_seen-seen_b.ensures.left;
      next = c.next_seen-seen_b.ensures.next;
    } in
    is_left c.args.cycles c.args.b.now c.loop-at.at (option_map view_of (told c.loop-at.left_b c.loop-at.b).event) shows
    c.loop-at.invariant.alike.of_b
    ∙ ap (λ (i : ℕ). run core_parts c.args.b.now None (told_cycles c.args.cycles i c.args.b.now))
    (sym (index_is c.loop-at.at c.next_seen-seen_a.result c.next_seen-seen_b.result c.in-Some.answer
    (sym c.ends_with.ensures ∙ c.in-Some.is)))

pub loop-at-preserved : goal.loop-at-preserved
loop-at-preserved c =
    tells_on c.loop-at.invariant c.next_seen-seen_a.result c.next_seen-seen_b.result c.next_seen-seen_a.ensures.seen
    c.next_seen-seen_b.ensures.seen (sym c.ends_with.ensures ∙ c.in_default.is) c.next_seen-seen_a.new.left
    c.next_seen-seen_b.new.left c.next_seen-seen_a.new.observer c.next_seen-seen_b.new.observer
    c.next_seen-seen_a.new.soc c.next_seen-seen_b.new.soc c.next_seen-seen_a.ensures.left
    c.next_seen-seen_b.ensures.left c.next_seen-seen_a.ensures.next c.next_seen-seen_b.ensures.next
    c.next_seen-seen_a.ensures.registers c.next_seen-seen_b.ensures.registers c.next_seen-seen_a.ensures.settings
    c.next_seen-seen_b.ensures.settings

pub returns-clause-value : goal.returns-clause-value
returns-clause-value c = λ plan.
    let all : c.loop-at.at ≡ c.args.cycles = omega (arith, c.loop-at-test.false, c.loop-at.auto.at-end) in
    ends_last (record { ram = c.args.ram; mul = c.args.mul; plan = empty_plan }) c.args.cycles c.args.a.now c.args.b.now
    c.loop-at.at c.loop-at.left_a c.loop-at.left_b (ctl_in c.loop-at.of_a) (ctl_in c.loop-at.of_b) c.loop-at.a
    c.loop-at.b all c.loop-at.invariant.alike
    ∙ plan_twins c.args.ram c.args.mul empty_plan plan c.args.cycles c.args.a.now c.args.b.now

pub returns-clause-a_left : goal.returns-clause-a_left
returns-clause-a_left c =
    let all : c.loop-at.at ≡ c.args.cycles = omega (arith, c.loop-at-test.false, c.loop-at.auto.at-end) in
    is_left_last c.args.cycles c.args.a.now c.loop-at.at c.loop-at.left_a c.loop-at.a all
    c.loop-at.invariant.alike.of_a

pub returns-clause-b_left : goal.returns-clause-b_left
returns-clause-b_left c =
    let all : c.loop-at.at ≡ c.args.cycles = omega (arith, c.loop-at-test.false, c.loop-at.auto.at-end) in
    is_left_last c.args.cycles c.args.b.now c.loop-at.at c.loop-at.left_b c.loop-at.b all
    c.loop-at.invariant.alike.of_b
