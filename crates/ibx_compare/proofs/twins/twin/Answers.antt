use Rattle.std.proofs.Common.{◌≡◌, ◌≢◌, None, arith, rules, tests}
use Rattle.std.specs.Prelude.{IsSome}
use Rattle.ibx_compare.specs.Twins.{views_of}
use Rattle.ibx_compare.specs.declared.comparison.Twin.TheVariants.{Same, Differ}
use Rattle.ibx_compare.proofs.Comparing.{Shows, begin, differs, ends, ends_last, goes_on, is_first, is_left}
use Rattle.ibx_compare.proofs.Comparing.{is_left_last, new_cycle}
use Rattle.ibx_compare.proofs.twins.twin.Goals as goal

pub loop-at-init : goal.loop-at-init
loop-at-init c = begin c.args.cycles c.args.a.now c.args.b.now (new_cycle c.args.a.now c.requires.a_new)
    (new_cycle c.args.b.now c.requires.b_new)

pub returns-then-ne-clause-value : goal.returns-then-ne-clause-value
returns-then-ne-clause-value c =
    let show_a : Shows c.loop-at.left_a c.loop-at.a c.next_view-of_a.result c.next_view-of_a.new.left
    c.next_view-of_a.new.soc =
    record {
      shown = c.next_view-of_a.ensures.shown;
      left = c.next_view-of_a.ensures.left;
      next =
          c.next_view-of_a.ensures.next;
    } in
    let show_b : Shows c.loop-at.left_b c.loop-at.b c.next_view-of_b.result c.next_view-of_b.new.left
    c.next_view-of_b.new.soc =
    record {
      shown = c.next_view-of_b.ensures.shown;
      left = c.next_view-of_b.ensures.left;
      next =
          c.next_view-of_b.ensures.next;
    } in
    let apart : c.next_view-of_a.result ≢ c.next_view-of_b.result = search (rules, tests) in
    differs c.next_view-of_a.result c.next_view-of_b.result c.loop-at.invariant show_a show_b apart

pub returns-then-ne-clause-first : goal.returns-then-ne-clause-first
returns-then-ne-clause-first c =
    let show_a : Shows c.loop-at.left_a c.loop-at.a c.next_view-of_a.result c.next_view-of_a.new.left
    c.next_view-of_a.new.soc =
    record {
      shown = c.next_view-of_a.ensures.shown;
      left = c.next_view-of_a.ensures.left;
      next =
          c.next_view-of_a.ensures.next;
    } in
    let show_b : Shows c.loop-at.left_b c.loop-at.b c.next_view-of_b.result c.next_view-of_b.new.left
    c.next_view-of_b.new.soc =
    record {
      shown = c.next_view-of_b.ensures.shown;
      left = c.next_view-of_b.ensures.left;
      next =
          c.next_view-of_b.ensures.next;
    } in
    let apart : c.next_view-of_a.result ≢ c.next_view-of_b.result = search (rules, tests) in
    is_first (views_of c.args.cycles c.args.a.now) (views_of c.args.cycles c.args.b.now)
    (Differ c.loop-at.at c.next_view-of_a.result c.next_view-of_b.result) (differs c.next_view-of_a.result
    c.next_view-of_b.result c.loop-at.invariant show_a show_b apart)

pub returns-then-ne-clause-a_left : goal.returns-then-ne-clause-a_left
returns-then-ne-clause-a_left c =
    let show_a : Shows c.loop-at.left_a c.loop-at.a c.next_view-of_a.result c.next_view-of_a.new.left
    c.next_view-of_a.new.soc =
    record {
      shown = c.next_view-of_a.ensures.shown;
      left = c.next_view-of_a.ensures.left;
      next =
          c.next_view-of_a.ensures.next;
    } in
    is_left c.args.cycles c.args.a.now c.loop-at.at c.next_view-of_a.result show_a c.loop-at.invariant.of_a

pub returns-then-ne-clause-b_left : goal.returns-then-ne-clause-b_left
returns-then-ne-clause-b_left c =
    let show_b : Shows c.loop-at.left_b c.loop-at.b c.next_view-of_b.result c.next_view-of_b.new.left
    c.next_view-of_b.new.soc =
    record {
      shown = c.next_view-of_b.ensures.shown;
      left = c.next_view-of_b.ensures.left;
      next =
          c.next_view-of_b.ensures.next;
    } in
    is_left c.args.cycles c.args.b.now c.loop-at.at c.next_view-of_b.result show_b c.loop-at.invariant.of_b

pub returns-then-is_none-clause-value : goal.returns-then-is_none-clause-value
returns-then-is_none-clause-value c =
    let show_a : Shows c.loop-at.left_a c.loop-at.a c.next_view-of_a.result c.next_view-of_a.new.left
    c.next_view-of_a.new.soc =
    record {
      shown = c.next_view-of_a.ensures.shown;
      left = c.next_view-of_a.ensures.left;
      next =
          c.next_view-of_a.ensures.next;
    } in
    let show_b : Shows c.loop-at.left_b c.loop-at.b c.next_view-of_b.result c.next_view-of_b.new.left
    c.next_view-of_b.new.soc =
    record {
      shown = c.next_view-of_b.ensures.shown;
      left = c.next_view-of_b.ensures.left;
      next =
          c.next_view-of_b.ensures.next;
    } in
    let same : c.next_view-of_a.result ≡ c.next_view-of_b.result = search (rules, tests) in
    let none : c.next_view-of_a.result ≡ None = search (rules, tests) in
    ends c.next_view-of_a.result c.next_view-of_b.result c.loop-at.invariant show_a show_b same none

pub returns-then-is_none-clause-first : goal.returns-then-is_none-clause-first
returns-then-is_none-clause-first c =
    let show_a : Shows c.loop-at.left_a c.loop-at.a c.next_view-of_a.result c.next_view-of_a.new.left
    c.next_view-of_a.new.soc =
    record {
      shown = c.next_view-of_a.ensures.shown;
      left = c.next_view-of_a.ensures.left;
      next =
          c.next_view-of_a.ensures.next;
    } in
    let show_b : Shows c.loop-at.left_b c.loop-at.b c.next_view-of_b.result c.next_view-of_b.new.left
    c.next_view-of_b.new.soc =
    record {
      shown = c.next_view-of_b.ensures.shown;
      left = c.next_view-of_b.ensures.left;
      next =
          c.next_view-of_b.ensures.next;
    } in
    let same : c.next_view-of_a.result ≡ c.next_view-of_b.result = search (rules, tests) in
    let none : c.next_view-of_a.result ≡ None = search (rules, tests) in
    is_first (views_of c.args.cycles c.args.a.now) (views_of c.args.cycles c.args.b.now) (Same c.loop-at.at)
    (ends c.next_view-of_a.result c.next_view-of_b.result c.loop-at.invariant show_a show_b same none)

pub returns-then-is_none-clause-a_left : goal.returns-then-is_none-clause-a_left
returns-then-is_none-clause-a_left c =
    let show_a : Shows c.loop-at.left_a c.loop-at.a c.next_view-of_a.result c.next_view-of_a.new.left
    c.next_view-of_a.new.soc =
    record {
      shown = c.next_view-of_a.ensures.shown;
      left = c.next_view-of_a.ensures.left;
      next =
          c.next_view-of_a.ensures.next;
    } in
    is_left c.args.cycles c.args.a.now c.loop-at.at c.next_view-of_a.result show_a c.loop-at.invariant.of_a

pub returns-then-is_none-clause-b_left : goal.returns-then-is_none-clause-b_left
returns-then-is_none-clause-b_left c =
    let show_b : Shows c.loop-at.left_b c.loop-at.b c.next_view-of_b.result c.next_view-of_b.new.left
    c.next_view-of_b.new.soc =
    record {
      shown = c.next_view-of_b.ensures.shown;
      left = c.next_view-of_b.ensures.left;
      next =
          c.next_view-of_b.ensures.next;
    } in
    is_left c.args.cycles c.args.b.now c.loop-at.at c.next_view-of_b.result show_b c.loop-at.invariant.of_b

pub loop-at-preserved : goal.loop-at-preserved
loop-at-preserved c =
    let show_a : Shows c.loop-at.left_a c.loop-at.a c.next_view-of_a.result c.next_view-of_a.new.left
    c.next_view-of_a.new.soc =
    record {
      shown = c.next_view-of_a.ensures.shown;
      left = c.next_view-of_a.ensures.left;
      next =
          c.next_view-of_a.ensures.next;
    } in
    let show_b : Shows c.loop-at.left_b c.loop-at.b c.next_view-of_b.result c.next_view-of_b.new.left
    c.next_view-of_b.new.soc =
    record {
      shown = c.next_view-of_b.ensures.shown;
      left = c.next_view-of_b.ensures.left;
      next =
          c.next_view-of_b.ensures.next;
    } in
    let same : c.next_view-of_a.result ≡ c.next_view-of_b.result = search (rules, tests) in
    let some : IsSome c.next_view-of_a.result = search (rules, tests) in
    goes_on c.next_view-of_a.result c.next_view-of_b.result c.loop-at.invariant show_a show_b same some

pub returns-clause-value : goal.returns-clause-value
returns-clause-value c =
    let all : c.loop-at.at ≡ c.args.cycles = omega (arith, c.loop-at-test.false, c.loop-at.auto.at-end) in
    ends_last c.args.cycles c.args.a.now c.args.b.now c.loop-at.at c.loop-at.left_a c.loop-at.left_b c.loop-at.a
    c.loop-at.b all c.loop-at.invariant

pub returns-clause-first : goal.returns-clause-first
returns-clause-first c =
    let all : c.loop-at.at ≡ c.args.cycles = omega (arith, c.loop-at-test.false, c.loop-at.auto.at-end) in
    is_first (views_of c.args.cycles c.args.a.now) (views_of c.args.cycles c.args.b.now) (Same c.args.cycles)
    (ends_last c.args.cycles c.args.a.now c.args.b.now c.loop-at.at c.loop-at.left_a c.loop-at.left_b c.loop-at.a
    c.loop-at.b all c.loop-at.invariant)

pub returns-clause-a_left : goal.returns-clause-a_left
returns-clause-a_left c =
    let all : c.loop-at.at ≡ c.args.cycles = omega (arith, c.loop-at-test.false, c.loop-at.auto.at-end) in
    is_left_last c.args.cycles c.args.a.now c.loop-at.at c.loop-at.left_a c.loop-at.a all c.loop-at.invariant.of_a

pub returns-clause-b_left : goal.returns-clause-b_left
returns-clause-b_left c =
    let all : c.loop-at.at ≡ c.args.cycles = omega (arith, c.loop-at-test.false, c.loop-at.auto.at-end) in
    is_left_last c.args.cycles c.args.b.now c.loop-at.at c.loop-at.left_b c.loop-at.b all c.loop-at.invariant.of_b
