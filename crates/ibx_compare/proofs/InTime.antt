-- As far as the views or the time views of two stories are the same, so are their cycles.
use Rattle.std.proofs.Common.{◌≡◌, ℕ, ◌≤◌, List, map, length, sym, ap, ap₂, ◌∙◌, subst, arith}
use Rattle.std.specs.Prelude.{take}
use Rattle.std.proofs.lemmas.List.{length-map, take_all}
use Rattle.ibx_elf.specs.declared.ram.Ram.{Ram}
use Rattle.ibx_isa.specs.declared.event.Event.{Event}
use Rattle.ibx_isa.specs.declared.event.View.{View}
use Rattle.ibx_isa.specs.declared.insn.MulKind.{MulKind}
use Rattle.ibx_isa.specs.Views.{view_of}
use Rattle.ibx_core.specs.declared.state.State.{State}
use Rattle.ibx_plan.specs.Plan.{PlanValue}
use Rattle.ibx_system.specs.System.{Whole}
use Rattle.ibx_time.specs.Settings.{Settings, settings_of}
use Rattle.ibx_time.specs.Cycles.{cycle_of}
use Rattle.ibx_time.specs.History.{story}
use Rattle.ibx_time.proofs.Halts.{equal_stories}
use Rattle.ibx_views.specs.TimeViews.{time_views_of}
use Rattle.ibx_views.specs.Compared.{Answer, SameAsFar, compared, first_apart}
use Rattle.ibx_views.specs.Compared as answer
use Rattle.ibx_views.proofs.Comparing.{compares_in_time}
use Rattle.ibx_compare.specs.declared.comparison.Twin.{Twin}
use Rattle.ibx_compare.specs.declared.comparison.Twin.TheVariants.{Same, Differ}
use Rattle.ibx_compare.specs.declared.time_twins.TwinBy.{TwinBy}
use Rattle.ibx_compare.specs.declared.time_twins.Views.TheVariants.{Full, Time}
use Rattle.ibx_compare.specs.Twins.{IsFirstDifference, first_difference, twin_of}
use Rattle.ibx_compare.specs.TimeTwins.{AgreesInTime, SameTo, time_twin_of, twin_at}
use Rattle.ibx_compare.proofs.Comparing.{is_first}

-- ---- views

-- two lists of events, whose first cycles are equal where their first views are
module _ (xs ys : List Event)
    (first : (k : ℕ) → take k (map view_of xs) ≡ take k (map view_of ys)
    → take k (map cycle_of xs) ≡ take k (map cycle_of ys)) where
  -- there are as many cycles as views
  count : (es : List Event) → length (map cycle_of es) ≡ length (map view_of es)
  count es = length-map es cycle_of ∙ sym (length-map es view_of)

  -- have equal cycles as far as an answer says
  by_answer : (t : Twin) → IsFirstDifference (map view_of xs) (map view_of ys) t
      → SameTo t (map cycle_of xs) (map cycle_of ys)
  by_answer (Same n) is =
      let of_xs : length (map cycle_of xs) ≤ n = omega (arith, count xs, is.1) in
      let alike : length (map view_of xs) ≡ length (map view_of ys) = ap length is.0 in
      let of_ys : length (map cycle_of ys) ≤ n = omega (arith, count ys, alike, is.1) in
      sym (take_all n (map cycle_of xs) of_xs) ∙ first n (ap (take n) is.0) ∙ take_all n (map cycle_of ys) of_ys
  by_answer (Differ at x y) is = first at is.0

-- so the first difference of the views of two stories tells of the cycles
pub full_in_time : (cycles : ℕ) (a b : Whole State) (t : Twin) → t ≡ twin_of cycles a b
    → AgreesInTime Full cycles a b t
full_in_time cycles a b t is r s same fits of_a of_b =
    by_answer (story r cycles) (story s cycles) (equal_stories r s same cycles cycles) t
    (is_first (map view_of (story r cycles)) (map view_of (story s cycles)) t
    (is ∙ ap₂ (λ (xs ys : List Event). first_difference 0 (map view_of xs) (map view_of ys)) of_a of_b))

-- ---- time views

-- what the answer for the time views says of cycles, that of the views at its index says
by_views : (xs ys : List View) (o : Answer) (ms ns : List ℕ) → SameAsFar o ms ns → SameTo (twin_at xs ys o).twin ms ns
by_views xs ys (answer.Same n) ms ns h = h
by_views xs ys (answer.Differ at part) ms ns h = h
by_views xs ys (answer.Ended at) ms ns h = h

-- so the first difference of the time views of two stories tells of the cycles
pub time_in_time : (ram : Ram) (mul : MulKind) (cycles : ℕ) (a b : Whole State) (t : TwinBy)
    → ((plan : PlanValue) → t ≡ time_twin_of (record { ram = ram; mul = mul; plan = plan }) cycles a b)
    → AgreesInTime (Time ram mul) cycles a b t.twin
time_in_time ram mul cycles a b t is r s same fits of_a of_b =
    let views : List Event → List View = map view_of in
    let k : Settings = record { ram = ram; mul = mul; plan = r.plan } in
    let of_r : settings_of r ≡ k =
    ap₂ (λ (p : Ram) (m : MulKind). record { ram = p; mul = m; plan = r.plan }) fits.0 fits.1 in
    let stories : compared r s cycles cycles ≡ first_apart 0 (time_views_of k (story r cycles))
    (time_views_of k (story s cycles)) =
    ap₂ (λ (p q : Settings). first_apart 0 (time_views_of p (story r cycles)) (time_views_of q (story s cycles)))
    of_r (sym same ∙ of_r) in
    let told : t ≡ twin_at (views (story r cycles)) (views (story s cycles)) (compared r s cycles cycles) =
    is r.plan
    ∙ ap₂ (λ (xs ys : List Event). twin_at (views xs) (views ys)
    (first_apart 0 (time_views_of k xs) (time_views_of k ys))) of_a of_b
    ∙ ap (twin_at (views (story r cycles)) (views (story s cycles))) (sym stories) in
    subst (λ (u : TwinBy). SameTo u.twin (map cycle_of (story r cycles)) (map cycle_of (story s cycles))) (sym told)
    (by_views (views (story r cycles)) (views (story s cycles)) (compared r s cycles cycles)
    (map cycle_of (story r cycles)) (map cycle_of (story s cycles)) (compares_in_time r s same cycles cycles))
