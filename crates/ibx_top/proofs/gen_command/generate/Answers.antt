use Rattle.std.proofs.Common.{◌≡◌, ◌<◌, ◌≤◌, ℕ, List, refl, sym, ap, subst, ◌∙◌, arith}
use Rattle.std.specs.Prelude.{All}
use Rattle.std.proofs.lemmas.Result.{err_from_is_err_and}
use Rattle.ibx_base.specs.Sinks.{TookPrefix}
use Rattle.ibx_compare.specs.Drives.{drive_from}
use Rattle.ibx_core.specs.declared.state.State.{State}
use Rattle.ibx_elf.specs.Image.{Placed, image_of}
use Rattle.ibx_elf.specs.Ram.{IsRamRange}
use Rattle.ibx_gen.specs.Image.{default_ram}
use Rattle.ibx_gen.specs.Words.{generated}
use Rattle.ibx_plan.specs.Plan.{empty_plan}
use Rattle.ibx_system.specs.System.{Whole}
use Rattle.ibx_time.specs.Runs.{IsPlaced}
use Rattle.ibx_time_system.proofs.Files.{placed}
use Rattle.ibx_top.specs.Answers.{Answer, generated_by, setup_of, summed_by}
use Rattle.ibx_top.specs.Seals.{seal_of}
use Rattle.ibx_top.specs.TimedStories.{timed_story}
use Rattle.ibx_top.specs.Verdicts.{system_of}
use Rattle.ibx_top.proofs.PlanWords.{empty_plan_words}
use Rattle.ibx_top.proofs.RunAnswers.{sum_is, sums_up}
use Rattle.ibx_top.proofs.Sums.{HasSummed}
use Rattle.ibx_top.proofs.TimedStories.{runs_or_spends}
use Rattle.ibx_top.proofs.gen_command.generate.Goals as goal

-- the memory of a run without options is one
default_ram_range : IsRamRange default_ram
default_ram_range = record {
  base_in_steps = refl;
  size_in_steps = refl;
  smallest = omega arith;
  largest = omega arith;
  ends_below = omega arith;
  off_host_page = λ _. omega arith;
}

pub returns-in_err-print_total-clause-prints : goal.returns-in_err-print_total-clause-prints
returns-in_err-print_total-clause-prints g c =
    let told = err_from_is_err_and c.from_residual-in_err-print_total.result c.from_residual-in_err-print_total.ensures.1 in
    let seed = c.args.asked.seed in
    let options = c.args.asked.options in
    let image : Placed = c.in-Ok.image in
    let soc : Whole State = c.in_ok-soc.soc in
    let bytes = c.deref.ensures.value ∙ c.in_ok-file.ensures.file in
    let same : image ≡ image_of (generated seed) default_ram = c.in-Ok.ensures.image ∙ ap
    (λ (file : List ℕ). image_of file default_ram) (c.deref-2.ensures.value ∙ c.in_ok-file.ensures.file) in
    let setup : IsPlaced (setup_of options empty_plan image) = subst (λ (i : Placed). IsPlaced (setup_of options empty_plan i)) (sym same)
    (placed (generated seed) default_ram options.mul empty_plan default_ram_range c.generate.ensures.well_formed
    (subst (λ (file : List ℕ). All (λ b. b < 256) file) bytes c.are_bytes.ensures) empty_plan_words) in
    let opened : soc ≡ system_of image options empty_plan = c.in_ok-soc.ensures.first ∙ ap (system_of image options)
    c.empty-plan.ensures in
    let new : soc.place.cycle ≡ 0 = ap (λ (w : Whole State). w.place.cycle) c.in_ok-soc.ensures.as_new.state in
    let total = c.run_total-total.result in
    let summed : HasSummed (drive_from options.cycles soc) total.halted total.sum total.events c.run_total-total.new.soc =
    record {
      halts = c.run_total-total.ensures.halted;
      sums = c.run_total-total.ensures.sum;
      counts = c.run_total-total.ensures.events;
      leaves = c.run_total-total.ensures.left;
    } in
    let answer : summed_by seed options image ≡ generated_by seed options = ap (summed_by seed options) same in
    rw (told.1, told.2)
    (record {
      answered = tt;
      write_fault = c.in_err-print_total.ensures.cause.failure;
      cut_short = (
        summed_by seed options image,
        (
          answer,
          record {
            runs = runs_or_spends (timed_story (setup_of options empty_plan image) options.cycles).halted;
            text =
                subst (λ (text : List ℕ). TookPrefix (g.K.Sink.taken c.args.out.now) text
                (g.K.Sink.taken c.print_total.new.out)) (sum_is seed options image soc opened new setup
                c.run_total-total.new.soc total.halted total.sum c.cycle.result total.events summed c.cycle.ensures)
                c.in_err-print_total.ensures.prefix;
          },
        ),
      );
      silent = tt;
    })

pub returns-clause-prints : goal.returns-clause-prints
returns-clause-prints g c =
    let seed = c.args.asked.seed in
    let options = c.args.asked.options in
    let image : Placed = c.in-Ok.image in
    let soc : Whole State = c.in_ok-soc.soc in
    let bytes = c.deref.ensures.value ∙ c.in_ok-file.ensures.file in
    let same : image ≡ image_of (generated seed) default_ram = c.in-Ok.ensures.image ∙ ap
    (λ (file : List ℕ). image_of file default_ram) (c.deref-2.ensures.value ∙ c.in_ok-file.ensures.file) in
    let setup : IsPlaced (setup_of options empty_plan image) = subst (λ (i : Placed). IsPlaced (setup_of options empty_plan i)) (sym same)
    (placed (generated seed) default_ram options.mul empty_plan default_ram_range c.generate.ensures.well_formed
    (subst (λ (file : List ℕ). All (λ b. b < 256) file) bytes c.are_bytes.ensures) empty_plan_words) in
    let opened : soc ≡ system_of image options empty_plan = c.in_ok-soc.ensures.first ∙ ap (system_of image options)
    c.empty-plan.ensures in
    let new : soc.place.cycle ≡ 0 = ap (λ (w : Whole State). w.place.cycle) c.in_ok-soc.ensures.as_new.state in
    let total = c.run_total-total.result in
    let summed : HasSummed (drive_from options.cycles soc) total.halted total.sum total.events c.run_total-total.new.soc =
    record {
      halts = c.run_total-total.ensures.halted;
      sums = c.run_total-total.ensures.sum;
      counts = c.run_total-total.ensures.events;
      leaves = c.run_total-total.ensures.left;
    } in
    let answer : summed_by seed options image ≡ generated_by seed options = ap (summed_by seed options) same in
    record {
      answered = (
        summed_by seed options image,
        (
          answer,
          sums_up seed options image soc opened new setup
              c.run_total-total.new.soc total.halted total.sum c.cycle.result total.events summed c.cycle.ensures
              c.field_sum.result (g.K.Sink.taken c.args.out.now) (g.K.Sink.taken c.print_total.new.out)
              (c.field_sum.ensures ∙ ap seal_of c.main.ensures) c.in_ok-print_total.ensures.whole,
        ),
      );
      write_fault = tt;
      cut_short = tt;
      silent = tt;
    }

pub returns-in_err-print_total-clause-words : goal.returns-in_err-print_total-clause-words
returns-in_err-print_total-clause-words g c =
    let told = err_from_is_err_and c.from_residual-in_err-print_total.result
    c.from_residual-in_err-print_total.ensures.1 in
    rw (told.1, told.2) tt

pub returns-in_err-print_total-clause-read : goal.returns-in_err-print_total-clause-read
returns-in_err-print_total-clause-read g c =
    let told = err_from_is_err_and c.from_residual-in_err-print_total.result
    c.from_residual-in_err-print_total.ensures.1 in
    rw (told.1, told.2) tt
