-- What a run of an opened system came to is the answer to its image.
use Rattle.std.proofs.Common.{◌≡◌, ℕ, ◌+◌, ◌≤◌, ◌<◌, ◌^◌, Bool, List, Option, ◌++◌, refl, sym, ap, subst, ◌∙◌, arith}
use Rattle.std.specs.Prelude.{is_some}
use Rattle.ibx_base.specs.Sinks.{with_more, TookPrefix}
use Rattle.ibx_command.specs.declared.options.Options.{Options}
use Rattle.ibx_compare.specs.Drives.{drive_from}
use Rattle.ibx_compare.specs.declared.comparison.Twin.{Twin}
use Rattle.ibx_compare.specs.declared.flipped.Verdict.{Verdict}
use Rattle.ibx_compare.specs.Twins.{twin_of}
use Rattle.ibx_core.specs.declared.state.State.{State}
use Rattle.ibx_elf.specs.Image.{Placed}
use Rattle.ibx_plan.specs.Plan.{PlanValue, empty_plan}
use Rattle.ibx_soc.specs.First.{IsAsNew}
use Rattle.ibx_system.specs.System.{Whole}
use Rattle.ibx_time.specs.Runs.{IsPlaced}
use Rattle.ibx_time_system.specs.Laws.{IsHistory}
use Rattle.ibx_trace.specs.Lines.{end_line_of}
use Rattle.ibx_top.specs.declared.outcome.Finish.TheVariants.{Ran, Injected, Compared}
use Rattle.ibx_top.specs.declared.outcome.Outcome.TheVariants.{Finished}
use Rattle.ibx_top.specs.Answers.{alert_code, halt_code, injected_by, ran_by, setup_of, summed_by, twinned_by}
use Rattle.ibx_top.specs.Drives.{drive_text}
use Rattle.ibx_top.specs.Generated.{sum_lines}
use Rattle.ibx_top.specs.Outcomes.{Settles}
use Rattle.ibx_top.specs.Seals.{seal_of}
use Rattle.ibx_top.specs.TimedStories.{timed_story}
use Rattle.ibx_top.specs.Verdicts.{system_of, verdict_of, verdict_text}
use Rattle.ibx_top.proofs.Sums.{HasSummed, told_is}
use Rattle.ibx_top.proofs.TimedStories.{opened_is_history, text_is, halted_is}

module _ (options : Options) (plan : PlanValue) (image : Placed) (soc : Whole State)
    (opened : soc ≡ system_of image options plan) (new : soc.place.cycle ≡ 0)
    (placed : IsPlaced (setup_of options plan image)) where
  -- its events are those of the time equations
  law : IsHistory (setup_of options plan image) soc
  law = subst (IsHistory (setup_of options plan image)) (sym opened) (opened_is_history options plan image placed)

  -- the seal of a run is that of the state that it leaves
  sealed : (left : Whole State) (seal : ℕ) → seal ≡ seal_of left.main → left ≡ (drive_from options.cycles soc).left
      → seal ≡ (ran_by options plan image).seal
  sealed left seal is leaves =
      is ∙ ap (λ (w : Whole State). seal_of w.main) leaves
      ∙ ap (λ (w : Whole State). seal_of (drive_from options.cycles w).left.main) opened

  -- a run's text is that of its story
  pub run_text : drive_text (drive_from options.cycles soc) ≡ (ran_by options plan image).text
  run_text = text_is (setup_of options plan image) options.cycles soc law new

  -- a run that wrote it has the answer
  pub ran : (left : Whole State) (halted : Bool) (seal : ℕ) (before after : Option (List ℕ))
      → halted ≡ (drive_from options.cycles soc).halted → left ≡ (drive_from options.cycles soc).left
      → seal ≡ seal_of left.main → after ≡ with_more before (drive_text (drive_from options.cycles soc))
      → Settles (ran_by options plan image) (Finished (Ran halted seal)) before after
  ran left halted seal before after halts leaves is wrote = record {
    code = ap halt_code (halts ∙ halted_is (setup_of options plan image) options.cycles soc law);
    line = refl;
    seal = sealed left seal is leaves;
    text = wrote ∙ ap (with_more before) run_text;
  }

-- the run of a number's program
module _ (number : ℕ) (options : Options) (image : Placed) (soc : Whole State)
    (opened : soc ≡ system_of image options empty_plan) (new : soc.place.cycle ≡ 0)
    (placed : IsPlaced (setup_of options empty_plan image))
    (left : Whole State) (halted : Bool) (sum cycles events : ℕ)
    (summed : HasSummed (drive_from options.cycles soc) halted sum events left)
    (counts : cycles ≡ left.place.cycle) where
  -- the sum of its story is what is printed
  pub sum_is : sum_lines number sum ++ end_line_of halted cycles events ≡ (summed_by number options image).text
  sum_is =
      told_is number (setup_of options empty_plan image) options.cycles soc left
      (law options empty_plan image soc opened new placed)
      new summed counts

  -- a run that wrote it has the answer
  pub sums_up : (seal : ℕ) (before after : Option (List ℕ)) → seal ≡ seal_of left.main
      → after ≡ with_more before (sum_lines number sum ++ end_line_of halted cycles events)
      → Settles (summed_by number options image) (Finished (Ran halted seal)) before after
  sums_up seal before after is wrote = record {
    code =
        ap halt_code (summed.halts ∙ halted_is (setup_of options empty_plan image) options.cycles soc
        (law options empty_plan image soc opened new placed));
    line = refl;
    seal = sealed options empty_plan image soc opened new placed left seal is summed.leaves;
    text = wrote ∙ ap (with_more before) sum_is;
  }

-- a verdict that was written is the answer of an injection
pub injected : (options : Options) (plan : PlanValue) (image : Placed) (verdict : Verdict) (alert : Bool)
    (before after : Option (List ℕ)) → verdict ≡ verdict_of image options plan
    → alert ≡ is_some verdict.first_alert → after ≡ with_more before (verdict_text verdict)
    → Settles (injected_by options plan image) (Finished (Injected alert)) before after
injected options plan image verdict alert before after same is wrote = record {
  code = ap alert_code is ∙ ap (λ (v : Verdict). alert_code (is_some v.first_alert)) same;
  line = refl;
  seal = refl;
  text = wrote ∙ ap (λ (v : Verdict). with_more before (verdict_text v)) same;
}
