-- Two runs side by side, with what was found in them so far.
use Rattle.std.proofs.Common.{◌≡◌, ℕ, suc, ◌+◌, ◌≤◌, Bool, true, false, not, Option, Some, None, length, inl, inr}
use Rattle.std.proofs.Common.{refl}
use Rattle.std.proofs.Common.{sym, ap, ◌∙◌, subst, arith}
use Rattle.std.specs.Prelude.{◌&&◌, ◌==◌, nat_lt, min}
use Rattle.std.proofs.lemmas.Bool.{cases_lt, le-ltb, lt-ltb}
use Rattle.std.proofs.Math.Nat.{min-eq_left, min-eq_right, zero-min}
use Rattle.ibx_plan.specs.declared.site.Flip.{Flip}
use Rattle.ibx_core.specs.declared.state.State.{State}
use Rattle.ibx_system.specs.Core.{core_parts}
use Rattle.ibx_system.specs.System.{Whole, output_of}
use Rattle.ibx_flips.specs.Flips.{alarms, differs, first_from}
use Rattle.ibx_system.specs.Runs.{before_step, made, run}
use Rattle.ibx_plan.specs.Sites.{site_fits}
use Rattle.ibx_plan.specs.declared.site.Site.{Site}
use Rattle.ibx_system.proofs.Runs.{cycle_run, run_more}
use Rattle.ibx_soc.specs.First.{IsAsNew}
use Rattle.ibx_compare.proofs.Sizes.{delay_run, size_of, size_run}
use Rattle.ibx_soc.specs.declared.cycle.Cycle.{Cycle}
use Rattle.ibx_soc.specs.Cycles.{cycle_of, soc_next}
use Rattle.ibx_compare.specs.declared.flipped.Verdict.{Verdict}
use Rattle.ibx_compare.specs.Verdicts.{agree_wires, alerts_in, then_test, verdict, with_alerts}
use Rattle.ibx_compare.proofs.Searching.{alerts-told, first_from-more, then_test-false}

-- both runs have made n cycles, and the verdict is that of their cycles
pub record HasRun (w : Whole State) (f : Flip) (cycles n : ℕ) (x y : Whole State) (v : Verdict) : Type 0 where
  pub clean : x ≡ run core_parts w None n
  pub faulty : y ≡ run core_parts w (Some f) n
  pub diff : v.first_diff ≡ first_from (min n cycles) (differs core_parts w f) 0
  pub alert : v.first_alert ≡ with_alerts w f (first_from n (alarms core_parts w f) 0)

-- no cycle is made
pub run_start : (w u : Whole State) (f : Flip) (cycles : ℕ) → u ≡ w → HasRun w f cycles 0 w u
    (record { first_diff = None; first_alert = None })
unfolding run first_from
run_start w u f cycles e = record {
  clean = refl;
  faulty = e;
  diff = sym (ap (λ k. first_from k (differs core_parts w f) 0) (zero-min cycles));
  alert = refl;
}

-- whether the run with the flip has an alert, by what its cycle shows
alarm_is : (w : Whole State) (f : Flip) (n : ℕ) → alarms core_parts w f n ≡ not ((alerts_in w f n).0 == 0)
unfolding cycle_of
alarm_is w f n = let x = before_step core_parts w (Some f) n in alerts-told x.told
    (output_of core_parts x).alerts

-- whether the bus differs, by what the cycles show
differs_is : (w : Whole State) (f : Flip) (n : ℕ)
    → differs core_parts w f n ≡ not (agree_wires (cycle_of (run core_parts w None n)).bus
    (cycle_of (before_step core_parts w (Some f) n)).bus)
unfolding cycle_of
differs_is w f n = refl

-- a cycle with its alerts, found in one more test
alerts-then : (w : Whole State) (f : Flip) (m : Option ℕ) (test : Bool) (n : ℕ)
    → with_alerts w f (then_test m test n) ≡ then_test (with_alerts w f m) test (n, alerts_in w f n)
alerts-then w f None true n = refl
alerts-then w f None false n = refl
alerts-then w f (Some m) test n = refl

-- a search from 0 on, among one number more
more_from_start : (n : ℕ) (test : ℕ → Bool) → first_from (suc n) test 0 ≡ then_test (first_from n test 0) (test n) n
more_from_start n test = first_from-more n test 0 ∙ ap (λ k. then_test (first_from n test 0) (test k) k)
    (let e : 0 + n ≡ n = omega arith in e)

-- the bus counts below the budget alone
diff_more : (cycles n : ℕ) (test : ℕ → Bool) → first_from (min (suc n) cycles) test 0 ≡ then_test
    (first_from (min n cycles) test 0) (nat_lt n cycles && test n) n
diff_more cycles n test =
    elim (cases_lt n cycles) [
      | inl lt ↦
          let less : n ≤ cycles = omega arith in
          ap (λ k. first_from k test 0) (min-eq_left lt) ∙ more_from_start n test
          ∙ sym (λ t. then_test (first_from (min-eq_left less t) test 0) (lt-ltb n cycles lt t && test n) n)
      | inr le ↦
          let more : cycles ≤ suc n = omega arith in
          ap (λ k. first_from k test 0) (min-eq_right more)
          ∙ sym (then_test-false (first_from cycles test 0) n)
          ∙ sym (λ t. then_test (first_from (min-eq_right le t) test 0) (le-ltb n cycles le t && test n) n)
    ]

-- one more cycle of both
pub run_on : (w : Whole State) (f : Flip) (cycles n : ℕ) (clean faulty clean_after faulty_after : Whole State)
    (v after : Verdict) (shown flipped : Cycle)
    → HasRun w f cycles n clean faulty v
    → shown ≡ cycle_of clean → clean_after ≡ soc_next clean
    → flipped ≡ cycle_of (made core_parts (Some f) faulty) → faulty_after ≡ soc_next (made core_parts (Some f) faulty)
    → after.first_diff ≡ then_test v.first_diff (nat_lt n cycles && not (agree_wires shown.bus flipped.bus)) n
    → after.first_alert ≡ then_test v.first_alert (not (flipped.alerts.0 == 0)) (n, flipped.alerts)
    → HasRun w f cycles (n + 1) clean_after faulty_after after
run_on w f cycles n clean faulty clean_after faulty_after v after shown flipped h show next show_flipped next_flipped
    diff alert =
    let first : shown ≡ cycle_of (run core_parts w None n) = show ∙ ap cycle_of h.clean in
    let second : flipped ≡ cycle_of (before_step core_parts w (Some f) n) = show_flipped ∙ ap
    (λ (x : Whole State). cycle_of (made core_parts (Some f) x)) h.faulty in
    subst (λ k. HasRun w f cycles k clean_after faulty_after after)
    (let e : suc n ≡ n + 1 = omega arith in e) (record {
      clean = next ∙ ap soc_next h.clean ∙ sym (run_more core_parts None n w);
      faulty = next_flipped ∙ ap (λ (x : Whole State). soc_next (made core_parts (Some f) x)) h.faulty ∙ sym
          (run_more core_parts (Some f) n w);
      diff = diff
          ∙ (λ t. then_test (h.diff t) (nat_lt n cycles && not (agree_wires (first t).bus (second t).bus)) n)
          ∙ ap (λ b. then_test (first_from (min n cycles) (differs core_parts w f) 0) (nat_lt n cycles && b) n)
          (sym (differs_is w f n))
          ∙ sym (diff_more cycles n (differs core_parts w f));
      alert = alert
          ∙ (λ t. then_test (h.alert t) (not ((second t).alerts.0 == 0)) (n, (second t).alerts))
          ∙ ap (λ b. then_test (with_alerts w f (first_from n (alarms core_parts w f) 0)) b (n, alerts_in w f n))
          (sym (alarm_is w f n))
          ∙ sym (alerts-then w f (first_from n (alarms core_parts w f) 0) (alarms core_parts w f n) n)
          ∙ ap (with_alerts w f) (sym (more_from_start n (alarms core_parts w f)));
    })

-- after the delay plus one cycles more than the budget the verdict is the flip's
pub run_ends : (w : Whole State) (f : Flip) (cycles n : ℕ) (clean faulty : Whole State) (v : Verdict)
    → n ≡ cycles + w.delay + 1 → HasRun w f cycles n clean faulty v → v ≡ verdict w f cycles
unfolding verdict
run_ends w f cycles n clean faulty v e h =
    let diff : v.first_diff ≡ first_from cycles (differs core_parts w f) 0 = h.diff ∙ ap
    (λ k. first_from k (differs core_parts w f) 0) (min-eq_right (let le : cycles ≤ n = omega arith in le)) in
    let alert : v.first_alert ≡ with_alerts w f (first_from (cycles + w.delay + 1) (alarms core_parts w f) 0) =
    h.alert ∙ ap (λ k. with_alerts w f (first_from k (alarms core_parts w f) 0)) e in
    λ t. record { first_diff = diff t; first_alert = alert t }

-- ---- what the calls of a cycle ask for

-- a run from a system that is as it was opened counts its cycles from 0
pub cycle_is : (w x : Whole State) (f : Option Flip) (n : ℕ) → IsAsNew w → x ≡ run core_parts w f n → x.place.cycle ≡ n
cycle_is w x f n new e =
    let start : w.place.cycle ≡ 0 = ap (λ (v : Whole State). v.place.cycle) new.state in
    ap (λ (v : Whole State). v.place.cycle) e ∙ cycle_run core_parts f n w ∙ ap (λ k. k + n) start ∙
    (let z : 0 + n ≡ n = omega arith in z)

-- a site that fits a system fits it after a run
pub still_fits : (w x : Whole State) (f : Option Flip) (n : ℕ) (place : Site) → x ≡ run core_parts w f n
    → site_fits (length w.place.memory.words) w.delay place ≡ true
    → site_fits (length x.place.memory.words) x.delay place ≡ true
still_fits w x f n place e h =
    let size : size_of x ≡ size_of w = ap (λ (v : Whole State). size_of v) e ∙ size_run core_parts f n w in
    let delay : x.delay ≡ w.delay = ap (λ (v : Whole State). v.delay) e ∙ delay_run core_parts f n w in
    (λ t. site_fits (size t) (delay t) place) ∙ h
