-- Two runs with equal settings have equal cycles as far as their views are compared and found equal.
use Rattle.std.proofs.Common.{◌≡◌, ℕ, ◌<◌, ◌≤◌, ◌^◌, List, length, map, refl, sym, ap, ap₂, ◌∙◌, arith}
use Rattle.std.specs.Prelude.{take}
use Rattle.std.proofs.lemmas.List.{length-map, take_all}
use Rattle.ibx_isa.specs.declared.event.Event.{Event}
use Rattle.ibx_isa.specs.Views.{view_of}
use Rattle.ibx_core.specs.declared.state.State.{State}
use Rattle.ibx_system.specs.System.{Whole}
use Rattle.ibx_time.specs.Cycles.{cycle_of}
use Rattle.ibx_time.specs.History.{story, up_to_halt}
use Rattle.ibx_time.specs.Settings.{Setup}
use Rattle.ibx_time.proofs.Halts.{equal_stories}
use Rattle.ibx_compare.specs.declared.comparison.Twin.{Twin}
use Rattle.ibx_compare.specs.declared.comparison.Twin.TheVariants.{Same, Differ}
use Rattle.ibx_compare.specs.Drives.{drive_from}
use Rattle.ibx_compare.specs.Twins.{IsFirstDifference, first_difference, twin_of}
use Rattle.ibx_compare.proofs.Comparing.{is_first}
use Rattle.ibx_time_system.specs.Laws.{IsHistory}
use Rattle.ibx_top.specs.TimedStories.{timed_story}
use Rattle.ibx_top.specs.Twins.{AgreeAsFar, TwinsAgreeInTime, compared}
use Rattle.ibx_top.proofs.TimedStories.{drive_events}

-- the events of a run that is a history are its story's
events_are : (s : Setup) (w : Whole State) (cycles : ℕ) → IsHistory s w →
    (drive_from cycles w).events ≡ (timed_story s cycles).events
unfolding timed_story
events_are s w cycles law = drive_events cycles w ∙ ap up_to_halt (law.events cycles)

-- so the comparison of two such runs is that of their stories
pub compares_stories : (s t : Setup) (a b : Whole State) (cycles : ℕ) → IsHistory s a → IsHistory t b
    → twin_of cycles a b ≡ compared cycles s t
compares_stories s t a b cycles of_a of_b =
    ap₂ (λ (xs ys : List Event). first_difference 0 (map view_of xs) (map view_of ys))
    (events_are s a cycles of_a) (events_are t b cycles of_b)

-- two lists of events, whose first cycles are equal where their first views are
module _ (xs ys : List Event)
    (first : (k : ℕ) → take k (map view_of xs) ≡ take k (map view_of ys)
    → take k (map cycle_of xs) ≡ take k (map cycle_of ys)) where
  -- there are as many cycles as views
  count : (es : List Event) → length (map cycle_of es) ≡ length (map view_of es)
  count es = length-map es cycle_of ∙ sym (length-map es view_of)

  -- have equal cycles as far as an answer says
  by_answer : (answer : Twin) → IsFirstDifference (map view_of xs) (map view_of ys) answer
      → AgreeAsFar answer (map cycle_of xs) (map cycle_of ys)
  by_answer (Same n) is =
      let of_xs : length (map cycle_of xs) ≤ n = omega (arith, count xs, is.1) in
      let alike : length (map view_of xs) ≡ length (map view_of ys) = ap length is.0 in
      let of_ys : length (map cycle_of ys) ≤ n = omega (arith, count ys, alike, is.1) in
      sym (take_all n (map cycle_of xs) of_xs) ∙ first n (ap (take n) is.0) ∙ take_all n (map cycle_of ys) of_ys
  by_answer (Differ at x y) is = first at is.0

-- so the answer of a comparison tells of the cycles too
pub twins_agree_in_time : TwinsAgreeInTime
unfolding timed_story
twins_agree_in_time s t budget same =
    by_answer (story s budget) (story t budget) (equal_stories s t same budget budget) (compared budget s t)
    (is_first (map view_of (story s budget)) (map view_of (story t budget)) (compared budget s t) refl)
