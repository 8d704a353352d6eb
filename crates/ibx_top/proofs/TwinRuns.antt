-- Two systems that are as they were opened compare as the stories of their images do.
use Rattle.std.proofs.Common.{◌≡◌, ℕ, ◌+◌, ◌%◌, ◌<◌, ◌≤◌, ◌^◌, Bool, true, false, List, Option, arith, refl, ap, ap₂, ◌∙◌}
use Rattle.ibx_elf.specs.Image.{Placed}
use Rattle.ibx_plan.specs.Plan.{PlanValue}
use Rattle.ibx_command.specs.declared.options.Options.{Options}
use Rattle.ibx_time.specs.Runs.{IsPlaced}
use Rattle.ibx_core.specs.declared.state.State.{State}
use Rattle.ibx_system.specs.Core.{core_parts}
use Rattle.ibx_system.specs.Runs.{run}
use Rattle.ibx_system.specs.System.{Whole}
use Rattle.std.specs.Prelude.{None}
use Rattle.ibx_compare.specs.declared.comparison.Twin.{Twin}
use Rattle.ibx_compare.specs.Twins.{index_of, told_cycles, twin_of}
use Rattle.ibx_top.specs.Answers.{Answer, IsOneOf, compared_by, run_codes, setup_of, twin_answer, twinned_by}
use Rattle.ibx_top.specs.Seals.{seal_of}
use Rattle.ibx_base.specs.Sinks.{with_more}
use Rattle.ibx_top.specs.declared.outcome.Finish.TheVariants.{Compared}
use Rattle.ibx_top.specs.declared.outcome.Outcome.TheVariants.{Finished}
use Rattle.ibx_top.specs.Outcomes.{Settles}
use Rattle.ibx_top.specs.Twins.{differs, twin_code, twin_seal, twin_text}
use Rattle.ibx_top.specs.Verdicts.{system_of}
use Rattle.ibx_top.proofs.TimedStories.{opened_is_history}
use Rattle.ibx_top.proofs.TwinTimes.{compares_stories}

-- the sums of two systems that were told up to an index are the seal
pub seals_are : (cycles : ℕ) (a b x y : Whole State) (twin : Twin)
    → x ≡ run core_parts a None (told_cycles cycles (index_of twin) a)
    → y ≡ run core_parts b None (told_cycles cycles (index_of twin) b)
    → ((seal_of x.main + seal_of y.main) % 2 ^ 64) ≡ twin_seal cycles twin a b
unfolding twin_seal
seals_are cycles a b x y twin is are =
    ap₂ (λ (u v : Whole State). (seal_of u.main + seal_of v.main) % 2 ^ 64) is are

-- the answer of two systems' comparison
abbrev pub of_systems : ℕ → Whole State → Whole State → Answer
of_systems cycles x y = twin_answer (twin_of cycles x y) (twin_seal cycles (twin_of cycles x y) x y)

-- is that of their images'
pub systems_compare : (options : Options) (plan : PlanValue) (a b : Placed) (x y : Whole State)
    → x ≡ system_of a options plan → y ≡ system_of b options plan → IsPlaced (setup_of options plan a)
    → IsPlaced (setup_of options plan b)
    → of_systems options.cycles x y ≡ twinned_by options plan a b
systems_compare options plan a b x y is are placed_a placed_b =
    let u : Whole State = system_of a options plan in
    let v : Whole State = system_of b options plan in
    let same : twin_of options.cycles u v ≡ compared_by options plan a b =
    compares_stories (setup_of options plan a) (setup_of options plan b) u v options.cycles
    (opened_is_history options plan a placed_a) (opened_is_history options plan b placed_b) in
    ap₂ (of_systems options.cycles) is are
    ∙ ap (λ (t : Twin). twin_answer t (twin_seal options.cycles t u v)) same

-- a comparison is no refusal
pub compares : (differ : Bool) → IsOneOf run_codes (twin_code differ)
compares true = refl
compares false = refl

-- a comparison that was written is the answer of both systems
pub compared : (cycles : ℕ) (a b x y : Whole State) (twin : Twin) (differ : Bool) (seal : ℕ)
    (before after : Option (List ℕ)) → twin ≡ twin_of cycles a b
    → x ≡ run core_parts a None (told_cycles cycles (index_of twin) a)
    → y ≡ run core_parts b None (told_cycles cycles (index_of twin) b)
    → differ ≡ differs twin → seal ≡ (seal_of x.main + seal_of y.main) % 2 ^ 64
    → after ≡ with_more before (twin_text twin)
    → Settles (of_systems cycles a b) (Finished (Compared differ seal)) before after
compared cycles a b x y twin differ seal before after value is are differ_is seal_is wrote = record {
  code = ap twin_code (differ_is ∙ ap differs value);
  line = refl;
  seal =
      seal_is ∙ seals_are cycles a b x y twin is are ∙ ap (λ (t : Twin). twin_seal cycles t a b) value;
  text = wrote ∙ ap (λ (t : Twin). with_more before (twin_text t)) value;
}
