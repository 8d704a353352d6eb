use Rattle.std.proofs.Common.{◌≡◌, ◌≤◌, ℕ, List, Option, None, length, map, take, ap, sym, ◌∙◌, rules, tests, arith}
use Rattle.std.specs.Iterator.{Yields}
use Rattle.std.proofs.lemmas.Iterator.{YieldsList}
use Rattle.std.proofs.lemmas.Iterator.Consumers.{YieldsList-from_filter, YieldsList-at, YieldsList-so_far}
use Rattle.std.proofs.lemmas.Iterator.Consumers.{YieldsList-end}
use Rattle.std.proofs.lemmas.Iterator.Splits.{YieldsList-from_slice_split}
use Rattle.std.proofs.lemmas.List.{length-map, take_all}
use Rattle.ibx_plan.specs.Text.{is_blank, words}
use Rattle.ibx_plan.proofs.text.Words.of.Goals as goal

-- the two lemmas of a loop, with the loop's part first
so_far : {S A B : Type 0} {steps : S → Option A → S → Type 0} {v : A → B} {s : S} {all : List B} (xs : List A) (t : S)
    → Yields steps s xs t → YieldsList steps v s all → map v xs ≡ take (length xs) all
so_far xs t y e = YieldsList-so_far e xs t y

-- the second one: at the end all has been taken
ended : {S A B : Type 0} {steps : S → Option A → S → Type 0} {v : A → B} {s : S} {all : List B} (xs : List A) (t : S)
    → Yields steps s xs t → (r : Option A) (u : S) → r ≡ None → steps t r u → YieldsList steps v s all → map v xs ≡ all
ended xs t y r u gone step e = (YieldsList-end e xs t y r u gone step).0

pub returns-then-len-eq-MOST : goal.returns-then-len-eq-MOST
unfolding words
returns-then-len-eq-MOST c =
    let e : map (λ x. x.now) c.loop-word.yielded ≡ take (length c.loop-word.yielded) (words c.args.line.now) =
    so_far c.loop-word.yielded _ c.loop-word.yielded_by
    (YieldsList-at c.into_iter-word-iterator.ensures.into_iter_gives
    (YieldsList-from_filter _ _ (YieldsList-at c.filter-word-items.ensures.source
    (YieldsList-from_slice_split _ is_blank c.args.line.now c.split-parts.ensures.rest c.split-parts.ensures.done
    c.split-parts.ensures.closure (λ x b q k. search (rules, tests)))) c.filter-word-items.ensures.closure
    (λ x b q k. search (rules, tests)))) in
    let eight : length c.loop-word.yielded ≡ 8 =
    omega (arith, ap length c.loop-word.invariant.0, length-map c.loop-word.yielded (λ x. x.now)) in
    c.loop-word.invariant.0 ∙ e ∙ ap (λ (n : ℕ). take n (words c.args.line.now)) eight

pub returns : goal.returns
unfolding words
returns c =
    let e : map (λ x. x.now) c.loop-word.yielded ≡ words c.args.line.now =
    ended c.loop-word.yielded _ c.loop-word.yielded_by _ _ c.in-None.is c.next.ensures.steps
    (YieldsList-at c.into_iter-word-iterator.ensures.into_iter_gives
    (YieldsList-from_filter _ _ (YieldsList-at c.filter-word-items.ensures.source
    (YieldsList-from_slice_split _ is_blank c.args.line.now c.split-parts.ensures.rest c.split-parts.ensures.done
    c.split-parts.ensures.closure (λ x b q k. search (rules, tests)))) c.filter-word-items.ensures.closure
    (λ x b q k. search (rules, tests)))) in
    let few : length (words c.args.line.now) ≤ 8 = omega (arith, ap length c.loop-word.invariant.0, ap length e) in
    c.loop-word.invariant.0 ∙ e ∙ sym (take_all 8 (words c.args.line.now) few)
