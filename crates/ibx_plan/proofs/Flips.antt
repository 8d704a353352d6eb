-- The flip of a plan that was read is one that the run can make.
use Rattle.std.proofs.Common.{◌≡◌, ℕ, ◌+◌, Bool, true, false, cond, ◌&&◌, nat_lt, List, [], ◌∷◌, Option, Some, None}
use Rattle.std.proofs.Common.{IfSome, IfOk, Result, Ok, Err, refl, sym, subst, arith}
use Rattle.std.specs.Str.Lines.{lines}
use Rattle.ibx_plan.specs.declared.bounds.Bounds.{Bounds}
use Rattle.ibx_plan.specs.declared.bounds.LineKind.{LineKind}
use Rattle.ibx_plan.specs.declared.bounds.LineKind.TheVariants as kind
use Rattle.ibx_plan.specs.declared.bounds.PlanFault.{PlanFault}
use Rattle.ibx_plan.specs.declared.bounds.PlanFault.TheVariants as fault
use Rattle.ibx_plan.specs.declared.entry.Entry.{Entry}
use Rattle.ibx_plan.specs.declared.entry.Entry.TheVariants as entry
use Rattle.ibx_plan.specs.declared.row.Row.{Row}
use Rattle.ibx_plan.specs.declared.site.Flip.{Flip}
use Rattle.ibx_plan.specs.Line.{is_skipped, line_entry, row_entry, row_of, entry_fits, in_range, are_numbers}
use Rattle.ibx_plan.specs.Line.{number_places, entry_of, number_at}
use Rattle.ibx_plan.specs.Plan.{PlanValue, empty_plan, and_then, appended, follows, plan_with_entry, with_said}
use Rattle.ibx_plan.specs.Plan.{with_line, with_lines, with_flip, plan_of, FlipFits, ReadsPlan}
use Rattle.ibx_plan.specs.Sites.{site_fits}
use Rattle.ibx_plan.specs.Text.{words}

-- the plan's flip, if it has one, is one that the run can make
abbrev pub HasFit : Bounds → PlanValue → Type 0
HasFit bounds plan = IfSome plan.flip (FlipFits bounds)

-- a chain of steps that ended well: both steps did, the test of the step held and gave its value, or let it pass
pub then_ok : {A B : Type 0} (r : Result A PlanFault) (f : A → Result B PlanFault) (y : B) → and_then r f ≡ Ok y
    → (x : A) × (r ≡ Ok x) × (f x ≡ Ok y)
then_ok (Ok x) f y h = (x, refl, h)
then_ok (Err e) f y h = cc

-- where a test chooses between a value and a fault, and there is no fault, it held and the value is the result
pub chosen : {A E : Type 0} (b : Bool) (x : A) (e : E) (y : A) → cond b (Ok x) (Err e) ≡ Ok y → (b ≡ true) × (x ≡ y)
chosen true x e y h = (refl, cc)
chosen false x e y h = cc

-- where a test guards a step, and there is no fault, the step gave the result
pub passed : {A E : Type 0} (b : Bool) (r : Result A E) (e : E) (y : A) → cond b r (Err e) ≡ Ok y → r ≡ Ok y
passed true r e y h = h
passed false r e y h = cc

-- an entry that is accepted has its numbers in their ranges, and so has the entry of a row
range_fits : (bounds : Bounds) (x e : Entry) → in_range bounds x ≡ Ok e → entry_fits bounds e ≡ true
range_fits bounds x e h =
    let at = chosen (entry_fits bounds x) x kind.Range e h in
    subst (λ (y : Entry). entry_fits bounds y ≡ true) at.1 at.0

-- the entry that a row gives has each of its numbers in range
row_fits : (bounds : Bounds) (ws : List (List ℕ)) (r : Option Row) (e : Entry) → row_entry bounds ws r ≡ Ok e
    → entry_fits bounds e ≡ true
unfolding row_entry
row_fits bounds ws None e h = cc
row_fits bounds ws (Some r) e h = range_fits bounds (entry_of r (number_at ws)) e
    (passed (are_numbers ws (number_places r)) (in_range bounds (entry_of r (number_at ws))) kind.Number e h)

-- a test of both is a test of each, so a flip in range is one that the run can make
pub both : (a b : Bool) → (a && b) ≡ true → (a ≡ true) × (b ≡ true)
both true b h = (refl, h)
both false b h = cc

-- a flip whose numbers are in range is in a cycle of the run, at a bit that there is
flip_fits : (bounds : Bounds) (flip : Flip) → entry_fits bounds (entry.Flip flip) ≡ true → FlipFits bounds flip
unfolding entry_fits
flip_fits bounds flip h =
    let at = both (nat_lt flip.cycle bounds.cycles) (site_fits bounds.ram_words bounds.delay flip.site) h in
    record { cycle = grind (arith, at.0); site = search at.1 }

-- an entry that changes a list leaves the flip
same_flip : {A : Type 0} (bounds : Bounds) (plan next : PlanValue) (r : Result A PlanFault) (f : A → PlanValue)
    → ((x : A) → (f x).flip ≡ plan.flip) → and_then r (λ x. Ok (f x)) ≡ Ok next → HasFit bounds plan
    → HasFit bounds next
same_flip bounds plan next (Ok x) f same h fits =
    let e : f x ≡ next = cc in
    subst (HasFit bounds) e (subst (λ (o : Option Flip). IfSome o (FlipFits bounds)) (sym (same x)) fits)
same_flip bounds plan next (Err x) f same h fits = cc

-- one entry, one line's entry, a line that may be skipped, and the rest of the lines keep the flip one that the run
-- can make
entry_keeps : (bounds : Bounds) (line : ℕ) (plan next : PlanValue) (e : Entry) → entry_fits bounds e ≡ true
    → plan_with_entry bounds line plan e ≡ Ok next → HasFit bounds plan → HasFit bounds next
unfolding plan_with_entry
entry_keeps bounds line plan next (entry.Iwait wait) good h fits =
    same_flip bounds plan next (appended plan.iwaits wait line) (λ more. record plan { iwaits = more }) (λ _. refl) h
    fits
entry_keeps bounds line plan next (entry.Dwait wait) good h fits =
    same_flip bounds plan next (appended plan.dwaits wait line) (λ more. record plan { dwaits = more }) (λ _. refl) h
    fits
entry_keeps bounds line plan next (entry.Irq change) good h fits =
    same_flip bounds plan next (appended plan.changes change line) (λ more. record plan { changes = more }) (λ _. refl)
    (passed (follows plan.changes change) _ _ next h) fits
entry_keeps bounds line plan next (entry.Flip flip) good h fits =
    let at = chosen _ (record plan { flip = Some flip }) (fault.Line line kind.Flip) next h in
    subst (HasFit bounds) at.1 (flip_fits bounds flip good)

-- what a line says is an entry in range, which keeps it so, or a fault, which leaves no plan
said_keeps : (bounds : Bounds) (line : ℕ) (plan next : PlanValue) (r : Result Entry LineKind)
    → ((e : Entry) → r ≡ Ok e → entry_fits bounds e ≡ true) → with_said bounds line plan r ≡ Ok next
    → HasFit bounds plan → HasFit bounds next
said_keeps bounds line plan next (Ok e) good h fits = entry_keeps bounds line plan next e (good e refl) h fits
said_keeps bounds line plan next (Err k) good h fits = cc

-- a line keeps it so where what it says does, and where it says nothing
skip_keeps : (b : Bool) (bounds : Bounds) (plan next : PlanValue) (r : Result PlanValue PlanFault)
    → (r ≡ Ok next → HasFit bounds next) → cond b (Ok plan) r ≡ Ok next → HasFit bounds plan → HasFit bounds next
skip_keeps true bounds plan next r keeps h fits = let e : plan ≡ next = cc in subst (HasFit bounds) e fits
skip_keeps false bounds plan next r keeps h fits = keeps h

-- so each line that is accepted keeps it so, whatever it says
line_keeps : (bounds : Bounds) (line : ℕ) (plan next : PlanValue) (text : List ℕ)
    → with_line bounds line plan text ≡ Ok next → HasFit bounds plan → HasFit bounds next
unfolding with_line
line_keeps bounds line plan next text h fits =
    skip_keeps (is_skipped (words text)) bounds plan next (with_said bounds line plan (line_entry bounds (words text)))
    (λ k. said_keeps bounds line plan next (line_entry bounds (words text))
    (λ e. row_fits bounds (words text) (row_of (words text)) e) k fits) h fits

-- so do any lines, one after the other, of which none is refused
lines_keep : (bounds : Bounds) (line : ℕ) (plan next : PlanValue) (text : List (List ℕ))
    → with_lines bounds line plan text ≡ Ok next → HasFit bounds plan → HasFit bounds next
unfolding with_lines
lines_keep bounds line plan next [] h fits = let e : plan ≡ next = cc in subst (HasFit bounds) e fits
lines_keep bounds line plan next (first ∷ more) h fits =
    let at = then_ok (with_line bounds line plan first) (λ p. with_lines bounds (line + 1) p more) next h in
    lines_keep bounds (line + 1) at.0 next more at.2 (line_keeps bounds line plan at.0 first at.1 fits)

-- the flip that a run is to have is asked for last, and changes nothing
pub with_flip_ok : (b : Bool) (plan next : PlanValue) → cond b (Err fault.NoFlip) (Ok plan) ≡ Ok next → plan ≡ next
with_flip_ok true plan next h = cc
with_flip_ok false plan next h = cc

-- so it is for a whole text that is read, also where memory may have run out
whole_fits : (bounds : Bounds) (text : List ℕ) (plan : PlanValue) → plan_of bounds text ≡ Ok plan → HasFit bounds plan
unfolding plan_of
whole_fits bounds text plan h =
    let at = then_ok (with_lines bounds 1 empty_plan (lines text)) (with_flip bounds) plan h in
    subst (HasFit bounds) (with_flip_ok _ at.0 plan at.2) (lines_keep bounds 1 empty_plan at.0 (lines text) at.1 tt)

-- whatever a reading answers, a plan in it has no flip but one that the run can make
pub plan_fits : (r : Result PlanValue PlanFault) (bounds : Bounds) (text : List ℕ) → ReadsPlan r (plan_of bounds text)
    → IfOk r (HasFit bounds)
plan_fits (Ok plan) bounds text h = whole_fits bounds text plan h
plan_fits (Err e) bounds text h = tt
