-- A plan that was read holds the entries of the text's lines.
use Rattle.std.proofs.Common.{◌≡◌, ℕ, ◌+◌, Bool, true, false, cond, nat_lt, List, [], ◌∷◌, ◌++◌, length, Option, Some}
use Rattle.std.proofs.Common.{None, is_none, IfOk, Result, Ok, Err, refl, ap, ◌∙◌, subst, append_assoc}
use Rattle.std.proofs.lemmas.List.{append-nil}
use Rattle.std.specs.List.{filter_map, cons_option}
use Rattle.std.specs.Option.{option_to_list}
use Rattle.std.specs.Result.{result_ok}
use Rattle.std.specs.Str.Lines.{lines}
use Rattle.std.proofs.lemmas.List.Elements.{filter_map-append}
use Rattle.ibx_plan.specs.declared.bounds.Bounds.{Bounds}
use Rattle.ibx_plan.specs.declared.bounds.LineKind.{LineKind}
use Rattle.ibx_plan.specs.declared.bounds.LineKind.TheVariants as kind
use Rattle.ibx_plan.specs.declared.bounds.PlanFault.{PlanFault}
use Rattle.ibx_plan.specs.declared.bounds.PlanFault.TheVariants as fault
use Rattle.ibx_plan.specs.declared.entry.Entry.{Entry}
use Rattle.ibx_plan.specs.declared.entry.Entry.TheVariants as entry
use Rattle.ibx_plan.specs.declared.site.Flip.{Flip}
use Rattle.ibx_plan.specs.Line.{is_skipped, line_entry}
use Rattle.ibx_plan.specs.Plan.{PlanValue, empty_plan, and_then, appended, follows, plan_with_entry, with_said}
use Rattle.ibx_plan.specs.Plan.{with_line, with_lines, with_flip, plan_of, said, entries_of, iwait_of, dwait_of}
use Rattle.ibx_plan.specs.Plan.{change_of, planned_flip, Holds, ReadsPlan}
use Rattle.ibx_plan.specs.Text.{words}
use Rattle.ibx_plan.proofs.Flips.{then_ok, chosen, passed, both, with_flip_ok}

-- an entry of another kind leaves the list of a kind's entries, and one of that kind goes to its end
kept : {X : Type 0} (f : Entry → Option X) (xs : List X) (es : List Entry) (e : Entry) → xs ≡ filter_map f es
    → f e ≡ None → xs ≡ filter_map f (es ++ e ∷ [])
kept f xs es e h gone = rw (filter_map-append f es (e ∷ []), gone, append-nil (filter_map f es)) h

-- an entry of a kind goes to the end of that kind's entries
grown : {X : Type 0} (f : Entry → Option X) (xs : List X) (es : List Entry) (e : Entry) (x : X) → xs ≡ filter_map f es
    → f e ≡ Some x → xs ++ x ∷ [] ≡ filter_map f (es ++ e ∷ [])
grown f xs es e x h come = rw (filter_map-append f es (e ∷ []), come, h)

-- a list that took one more has it at its end
appended_is : {T : Type 0} (xs : List T) (x : T) (line : ℕ) (ys : List T) → appended xs x line ≡ Ok ys
    → xs ++ x ∷ [] ≡ ys
appended_is xs x line ys h = (chosen (nat_lt (length xs) 65536) (xs ++ x ∷ []) (fault.TooMany line) ys h).1

-- the plan that an entry of a list makes
made : {T : Type 0} (xs : List T) (x : T) (line : ℕ) (f : List T → PlanValue) (next : PlanValue)
    → and_then (appended xs x line) (λ more. Ok (f more)) ≡ Ok next → f (xs ++ x ∷ []) ≡ next
made xs x line f next h = let at = then_ok (appended xs x line) (λ more. Ok (f more)) next h in
    let k = at.2 in
    let e : f at.0 ≡ next = cc in rw (appended_is xs x line at.0 at.1) e

-- where there was no flip the list of flips was empty
was_none : (o : Option Flip) (xs : List Flip) → is_none o ≡ true → option_to_list o ≡ xs → [] ≡ xs
was_none None xs gone h = h
was_none (Some f) xs gone h = cc

-- the plan with one more entry holds it, whatever its kind
add_one : (bounds : Bounds) (line : ℕ) (plan next : PlanValue) (es : List Entry) (e : Entry)
    → plan_with_entry bounds line plan e ≡ Ok next → Holds plan es → Holds next (es ++ e ∷ [])
unfolding plan_with_entry
add_one bounds line plan next es (entry.Iwait wait) h has =
    subst (λ (p : PlanValue). Holds p (es ++ entry.Iwait wait ∷ []))
    (made plan.iwaits wait line (λ more. record plan { iwaits = more }) next h)
    (record {
      iwaits = grown iwait_of plan.iwaits es (entry.Iwait wait) wait has.iwaits refl;
      dwaits = kept dwait_of plan.dwaits es (entry.Iwait wait) has.dwaits refl;
      changes = kept change_of plan.changes es (entry.Iwait wait) has.changes refl;
      flips = kept planned_flip (option_to_list plan.flip) es (entry.Iwait wait) has.flips refl;
    })
add_one bounds line plan next es (entry.Dwait wait) h has =
    subst (λ (p : PlanValue). Holds p (es ++ entry.Dwait wait ∷ []))
    (made plan.dwaits wait line (λ more. record plan { dwaits = more }) next h)
    (record {
      iwaits = kept iwait_of plan.iwaits es (entry.Dwait wait) has.iwaits refl;
      dwaits = grown dwait_of plan.dwaits es (entry.Dwait wait) wait has.dwaits refl;
      changes = kept change_of plan.changes es (entry.Dwait wait) has.changes refl;
      flips = kept planned_flip (option_to_list plan.flip) es (entry.Dwait wait) has.flips refl;
    })
add_one bounds line plan next es (entry.Irq change) h has =
    let ok = passed (follows plan.changes change)
    (and_then (appended plan.changes change line) (λ more. Ok (record plan { changes = more })))
    (fault.Line line kind.Order) next h in
    subst (λ (p : PlanValue). Holds p (es ++ entry.Irq change ∷ []))
    (made plan.changes change line (λ more. record plan { changes = more }) next ok)
    (record {
      iwaits = kept iwait_of plan.iwaits es (entry.Irq change) has.iwaits refl;
      dwaits = kept dwait_of plan.dwaits es (entry.Irq change) has.dwaits refl;
      changes = grown change_of plan.changes es (entry.Irq change) change has.changes refl;
      flips = kept planned_flip (option_to_list plan.flip) es (entry.Irq change) has.flips refl;
    })
add_one bounds line plan next es (entry.Flip flip) h has =
    let at = chosen _ (record plan { flip = Some flip }) (fault.Line line kind.Flip) next h in
    let gone = (both (nat_lt 0 bounds.flips) (is_none plan.flip) at.0).1 in
    subst (λ (p : PlanValue). Holds p (es ++ entry.Flip flip ∷ [])) at.1
    (record {
      iwaits = kept iwait_of plan.iwaits es (entry.Flip flip) has.iwaits refl;
      dwaits = kept dwait_of plan.dwaits es (entry.Flip flip) has.dwaits refl;
      changes = kept change_of plan.changes es (entry.Flip flip) has.changes refl;
      flips = grown planned_flip [] es (entry.Flip flip) flip (was_none plan.flip _ gone has.flips) refl;
    })

-- a line that says nothing adds none
none_more : (plan next : PlanValue) (es : List Entry) → plan ≡ next → Holds plan es → Holds next (es ++ [])
none_more plan next es same has = rw (append-nil es) (subst (λ (p : PlanValue). Holds p es) same has)

-- the plan with what one line says holds the entry of that line, if it has one
said_one : (bounds : Bounds) (line : ℕ) (plan next : PlanValue) (es : List Entry) (b : Bool)
    (r : Result Entry LineKind) → cond b (Ok plan) (with_said bounds line plan r) ≡ Ok next → Holds plan es
    → Holds next (es ++ option_to_list (cond b None (result_ok r)))
said_one bounds line plan next es true r h has = let same : plan ≡ next = cc in none_more plan next es same has
said_one bounds line plan next es false (Ok e) h has = add_one bounds line plan next es e h has
said_one bounds line plan next es false (Err k) h has = cc

-- a line that is accepted adds the entry that it says, and one that says nothing adds none
line_one : (bounds : Bounds) (line : ℕ) (plan next : PlanValue) (es : List Entry) (text : List ℕ)
    → with_line bounds line plan text ≡ Ok next → Holds plan es → Holds next (es ++ option_to_list (said bounds text))
unfolding with_line
line_one bounds line plan next es text h has =
    said_one bounds line plan next es (is_skipped (words text)) (line_entry bounds (words text)) h has

-- an entry that there may be, in front of others
in_front : (o : Option Entry) (es : List Entry) → option_to_list o ++ es ≡ cons_option o es
in_front None es = refl
in_front (Some e) es = refl

-- so it is for the rest of the lines, and for a whole text that is read
all_lines : (bounds : Bounds) (line : ℕ) (plan next : PlanValue) (es : List Entry) (text : List (List ℕ))
    → with_lines bounds line plan text ≡ Ok next → Holds plan es → Holds next (es ++ filter_map (said bounds) text)
unfolding with_lines
all_lines bounds line plan next es [] h has = let same : plan ≡ next = cc in none_more plan next es same has
all_lines bounds line plan next es (first ∷ more) h has =
    let at = then_ok (with_line bounds line plan first) (λ p. with_lines bounds (line + 1) p more) next h in
    let rest = all_lines bounds (line + 1) at.0 next (es ++ option_to_list (said bounds first)) more at.2
    (line_one bounds line plan at.0 es first at.1 has) in
    subst (Holds next) (append_assoc es (option_to_list (said bounds first)) (filter_map (said bounds) more)
    ∙ ap (λ (ys : List Entry). es ++ ys) (in_front (said bounds first) (filter_map (said bounds) more))) rest

-- the plan that a whole text writes holds the entries of its lines, and no others
whole : (bounds : Bounds) (text : List ℕ) (plan : PlanValue) → plan_of bounds text ≡ Ok plan
    → Holds plan (entries_of bounds text)
unfolding plan_of
whole bounds text plan h =
    let at = then_ok (with_lines bounds 1 empty_plan (lines text)) (with_flip bounds) plan h in
    subst (λ (p : PlanValue). Holds p (entries_of bounds text)) (with_flip_ok _ at.0 plan at.2)
    (all_lines bounds 1 empty_plan at.0 [] (lines text) at.1
    (record { iwaits = refl; dwaits = refl; changes = refl; flips = refl }))

-- the same of a reading that may have run out of memory
pub plan_holds : (r : Result PlanValue PlanFault) (bounds : Bounds) (text : List ℕ) → ReadsPlan r (plan_of bounds text)
    → IfOk r (λ plan. Holds plan (entries_of bounds text))
plan_holds (Ok plan) bounds text h = whole bounds text plan h
plan_holds (Err e) bounds text h = tt
