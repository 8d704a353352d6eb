use Rattle.std.proofs.Common.{◌≡◌, ℕ, ◌+◌, List, [], ◌∷◌, Some, refl, ap, subst, ◌∙◌}
use Rattle.std.proofs.lemmas.Result.{err_from_is_err_and}
use Rattle.ibx_base.specs.Sinks.{TookPrefix}
use Rattle.ibx_elf.specs.Image.{Placed}
use Rattle.ibx_core.specs.declared.state.State.{State}
use Rattle.ibx_system.specs.System.{Whole}
use Rattle.ibx_top.specs.declared.outcome.Outcome.TheVariants.{OutOfMemory}
use Rattle.ibx_top.proofs.Chain.{follows, loads, reads_file, refuses_file, stops_file, stops_plan}
use Rattle.std.specs.Prelude.{is_some}
use Rattle.ibx_compare.specs.declared.flipped.Verdict.{Verdict}
use Rattle.ibx_compare.specs.Verdicts.{IsNoticed}
use Rattle.ibx_lockstep.specs.Delays.{cycles_of}
use Rattle.ibx_top.specs.declared.outcome.Finish.TheVariants.{Injected}
use Rattle.ibx_top.specs.Answers.{Answer, IsBytesAnswer, IsInjectBy, IsInjectedBy, IsPlanAnswer, alert_code, bounds_of, file_limit}
use Rattle.ibx_top.specs.Answers.{injected_by}
use Rattle.ibx_top.specs.Outcomes.{IsTooLong}
use Rattle.ibx_top.specs.declared.outcome.Refusal.TheVariants as why
use Rattle.ibx_top.specs.Verdicts.{verdict_of, verdict_text}
use Rattle.ibx_top.proofs.Outcomes.{fails, finishes, refuses, refuses_unnoticed, stops_unnoticed}
use Rattle.ibx_top.proofs.RunAnswers.{injected}
use Rattle.ibx_top.proofs.Systems.{first_delay, flip_below, flip_fits, injects, verdict_is}
use Rattle.ibx_top.proofs.inject_command.inject.Goals as goal

pub returns-in_err-plan-clause-leaves : goal.returns-in_err-plan-clause-leaves
returns-in_err-plan-clause-leaves g c =
    let told = err_from_is_err_and c.from_residual.result c.from_residual.ensures.1 in
    let asked = c.args.asked in
    rw (told.1, told.2)
    (stops_plan g.F.Files.contents g.F.Files.faults g.F.Files.misses (Some asked.plan.now) (asked.file.now ∷ []) (bounds_of 1 asked.options)
    (IsInjectBy (g.F.Files.contents c.args.files.now) asked.file.now asked.options) c.args.files.now
    g.F.Files.begun g.K.Sink.taken g.K.Sink.faults _ c.args.out.now c.read_plan.ensures.passes c.in_err-plan.ensures.stops)

pub returns-in_err-bytes-clause-leaves : goal.returns-in_err-bytes-clause-leaves
returns-in_err-bytes-clause-leaves g c =
    let told = err_from_is_err_and c.from_residual-in_err-bytes.result c.from_residual-in_err-bytes.ensures.1 in
    let asked = c.args.asked in
    let Rest : Placed → Answer → Type 0 = IsInjectedBy asked.options c.in_ok-plan.plan in
    let planned = follows g.F.Files.contents g.F.Files.faults g.F.Files.misses (Some asked.plan.now) (asked.file.now ∷ [])
    (bounds_of 1 asked.options) (IsInjectBy (g.F.Files.contents c.args.files.now) asked.file.now asked.options)
    c.args.files.now c.in_ok-plan.plan c.read_plan.ensures.passes c.in_ok-plan.ensures.plan in
    rw (told.1, told.2)
    (stops_file g.F.Files.begun g.K.Sink.taken g.K.Sink.faults asked.file.now [] asked.options.ram Rest _ c.args.out.now
    planned c.read_bytes.ensures.passes c.in_err-bytes.ensures.stops)

pub returns-in_err-image-clause-leaves : goal.returns-in_err-image-clause-leaves
returns-in_err-image-clause-leaves g c =
    let told = err_from_is_err_and c.from_residual-in_err-image.result c.from_residual-in_err-image.ensures.1 in
    let asked = c.args.asked in
    let Rest : Placed → Answer → Type 0 = IsInjectedBy asked.options c.in_ok-plan.plan in
    let planned = follows g.F.Files.contents g.F.Files.faults g.F.Files.misses (Some asked.plan.now) (asked.file.now ∷ [])
    (bounds_of 1 asked.options) (IsInjectBy (g.F.Files.contents c.args.files.now) asked.file.now asked.options)
    c.args.files.now c.in_ok-plan.plan c.read_plan.ensures.passes c.in_ok-plan.ensures.plan in
    let read = reads_file asked.file.now [] asked.options.ram Rest c.in_ok-bytes.bytes.items planned
    c.read_bytes.ensures.passes c.in_ok-bytes.ensures.content in
    rw (told.1, told.2)
    (refuses_file g.F.Files.begun g.K.Sink.taken g.K.Sink.faults asked.file.now asked.options.ram Rest c.in_ok-bytes.bytes.items
    c.deref.result.now _ c.args.out.now read c.deref.ensures.value c.in_err-image.ensures.stops)

pub returns-in_err-print_verdict-clause-leaves : goal.returns-in_err-print_verdict-clause-leaves
returns-in_err-print_verdict-clause-leaves g c =
    let told = err_from_is_err_and c.from_residual-in_err-print_verdict.result c.from_residual-in_err-print_verdict.ensures.1 in
    let asked = c.args.asked in
    let Rest : Placed → Answer → Type 0 = IsInjectedBy asked.options c.in_ok-plan.plan in
    let planned = follows g.F.Files.contents g.F.Files.faults g.F.Files.misses (Some asked.plan.now) (asked.file.now ∷ [])
    (bounds_of 1 asked.options) (IsInjectBy (g.F.Files.contents c.args.files.now) asked.file.now asked.options)
    c.args.files.now c.in_ok-plan.plan c.read_plan.ensures.passes c.in_ok-plan.ensures.plan in
    let read = reads_file asked.file.now [] asked.options.ram Rest c.in_ok-bytes.bytes.items planned
    c.read_bytes.ensures.passes c.in_ok-bytes.ensures.content in
    let loaded = loads asked.file.now asked.options.ram Rest c.in_ok-bytes.bytes.items c.deref.result.now c.in_ok-image.image
    read c.deref.ensures.value c.in_ok-bytes.ensures.fits c.in_ok-image.ensures.sound c.in_ok-image.ensures.image in
    let same = verdict_is asked.options c.in_ok-plan.plan c.in_ok-image.image c.in_ok-clean.clean c.flip.result
    c.compare-verdict.result c.in_ok-clean.ensures.first c.flip.ensures c.compare-verdict.ensures.value in
    rw (told.1, told.2)
    (fails g.F.Files.begun g.K.Sink.taken g.K.Sink.faults (injected_by asked.options c.in_ok-plan.plan c.in_ok-image.image)
    c.args.out.now c.print_verdict.new.out loaded refl
    (injects (is_some (verdict_of c.in_ok-image.image asked.options c.in_ok-plan.plan).first_alert))
    (subst (λ (v : Verdict). TookPrefix (g.K.Sink.taken c.args.out.now) (verdict_text v)
    (g.K.Sink.taken c.print_verdict.new.out)) same c.in_err-print_verdict.ensures.prefix)
    c.in_err-print_verdict.ensures.cause.failure)

pub returns-clause-leaves : goal.returns-clause-leaves
returns-clause-leaves g c =
    let asked = c.args.asked in
    let Rest : Placed → Answer → Type 0 = IsInjectedBy asked.options c.in_ok-plan.plan in
    let planned = follows g.F.Files.contents g.F.Files.faults g.F.Files.misses (Some asked.plan.now) (asked.file.now ∷ [])
    (bounds_of 1 asked.options) (IsInjectBy (g.F.Files.contents c.args.files.now) asked.file.now asked.options)
    c.args.files.now c.in_ok-plan.plan c.read_plan.ensures.passes c.in_ok-plan.ensures.plan in
    let read = reads_file asked.file.now [] asked.options.ram Rest c.in_ok-bytes.bytes.items planned
    c.read_bytes.ensures.passes c.in_ok-bytes.ensures.content in
    let loaded = loads asked.file.now asked.options.ram Rest c.in_ok-bytes.bytes.items c.deref.result.now c.in_ok-image.image
    read c.deref.ensures.value c.in_ok-bytes.ensures.fits c.in_ok-image.ensures.sound c.in_ok-image.ensures.image in
    let same = verdict_is asked.options c.in_ok-plan.plan c.in_ok-image.image c.in_ok-clean.clean c.flip.result
    c.compare-verdict.result c.in_ok-clean.ensures.first c.flip.ensures c.compare-verdict.ensures.value in
    finishes g.F.Files.begun g.K.Sink.taken g.K.Sink.faults (injected_by asked.options c.in_ok-plan.plan c.in_ok-image.image)
    (Injected c.is_some.result) c.args.out.now c.print_verdict.new.out loaded refl
    (injected asked.options c.in_ok-plan.plan c.in_ok-image.image c.compare-verdict.result c.is_some.result
    (g.K.Sink.taken c.args.out.now) (g.K.Sink.taken c.print_verdict.new.out) same c.is_some.ensures
    c.in_ok-print_verdict.ensures.whole)

pub returns-in_err-plan-clause-noticed : goal.returns-in_err-plan-clause-noticed
returns-in_err-plan-clause-noticed g c =
    let told = err_from_is_err_and c.from_residual.result c.from_residual.ensures.1 in
    let asked = c.args.asked in
    rw (told.1, told.2)
    (stops_unnoticed g.F.Files.begun g.F.Files.faults (asked.plan.now ∷ [])
    (IsPlanAnswer (g.F.Files.contents c.args.files.now) (Some asked.plan.now) (bounds_of 1 asked.options) (λ _ _. ⊥)) _
    c.args.files.now c.read_plan.new.files
    (cycles_of asked.options.delay) (g.K.Sink.taken c.args.out.now)
    (g.K.Sink.taken c.args.out.now) c.in_err-plan.ensures.stops)

pub returns-in_err-bytes-clause-noticed : goal.returns-in_err-bytes-clause-noticed
returns-in_err-bytes-clause-noticed g c =
    let told = err_from_is_err_and c.from_residual-in_err-bytes.result c.from_residual-in_err-bytes.ensures.1 in
    let asked = c.args.asked in
    rw (told.1, told.2)
    (stops_unnoticed g.F.Files.begun g.F.Files.faults (asked.file.now ∷ [])
    (IsTooLong (g.F.Files.contents c.read_plan.new.files) asked.file.now file_limit why.FileTooLong) _ c.read_plan.new.files c.read_bytes.new.files
    (cycles_of asked.options.delay) (g.K.Sink.taken c.args.out.now)
    (g.K.Sink.taken c.args.out.now) c.in_err-bytes.ensures.stops)

pub returns-in_err-image-clause-noticed : goal.returns-in_err-image-clause-noticed
returns-in_err-image-clause-noticed g c =
    let told = err_from_is_err_and c.from_residual-in_err-image.result c.from_residual-in_err-image.ensures.1 in
    let asked = c.args.asked in
    rw (told.1, told.2)
    (refuses_unnoticed (IsBytesAnswer asked.file.now asked.options.ram (λ _ _. ⊥) c.deref.result.now) _ (cycles_of asked.options.delay) (g.K.Sink.taken c.args.out.now)
    (g.K.Sink.taken c.args.out.now) c.in_err-image.ensures.stops)

pub returns-clause-noticed : goal.returns-clause-noticed
returns-clause-noticed g c = record {
  verdict = c.compare-verdict.result;
  noticed =
      subst (λ (d : ℕ). IsNoticed (d + 1) c.compare-verdict.result)
      (ap (λ (w : Whole State). w.delay) c.in_ok-clean.ensures.first ∙ first_delay c.in_ok-image.image _ c.in_ok-plan.plan)
      c.compare-verdict.ensures.noticed;
  status = ap alert_code c.is_some.ensures;
  text = c.in_ok-print_verdict.ensures.whole;
}

pub returns-in_err-faulty-clause-leaves : goal.returns-in_err-faulty-clause-leaves
returns-in_err-faulty-clause-leaves g c =
    let told = err_from_is_err_and c.from_residual-in_err-faulty.result c.from_residual-in_err-faulty.ensures.1 in
    let asked = c.args.asked in
    let Rest : Placed → Answer → Type 0 = IsInjectedBy asked.options c.in_ok-plan.plan in
    let planned = follows g.F.Files.contents g.F.Files.faults g.F.Files.misses (Some asked.plan.now) (asked.file.now ∷ [])
    (bounds_of 1 asked.options) (IsInjectBy (g.F.Files.contents c.args.files.now) asked.file.now asked.options)
    c.args.files.now c.in_ok-plan.plan c.read_plan.ensures.passes c.in_ok-plan.ensures.plan in
    let read = reads_file asked.file.now [] asked.options.ram Rest c.in_ok-bytes.bytes.items planned
    c.read_bytes.ensures.passes c.in_ok-bytes.ensures.content in
    let loaded = loads asked.file.now asked.options.ram Rest c.in_ok-bytes.bytes.items c.deref.result.now c.in_ok-image.image
    read c.deref.ensures.value c.in_ok-bytes.ensures.fits c.in_ok-image.ensures.sound c.in_ok-image.ensures.image in
    rw (told.1, told.2)
    (refuses g.F.Files.begun g.K.Sink.taken g.K.Sink.faults OutOfMemory c.args.out.now loaded tt)

pub returns-in_err-print_verdict-clause-noticed : goal.returns-in_err-print_verdict-clause-noticed
returns-in_err-print_verdict-clause-noticed g c =
    let told = err_from_is_err_and c.from_residual-in_err-print_verdict.result
    c.from_residual-in_err-print_verdict.ensures.1 in
    rw (told.1, told.2) tt

pub compare-verdict-requires-clause-below : goal.compare-verdict-requires-clause-below
compare-verdict-requires-clause-below g c =
    flip_below c.args.asked.options c.flip.result c.in_ok-plan.plan.flip c.flip.ensures c.in_ok-plan.ensures.flip

pub compare-verdict-requires-clause-fits : goal.compare-verdict-requires-clause-fits
compare-verdict-requires-clause-fits g c =
    flip_fits c.args.asked.options c.in_ok-image.image c.in_ok-plan.plan c.in_ok-clean.clean c.flip.result
    c.in_ok-plan.plan.flip c.flip.ensures c.in_ok-clean.ensures.first
    (ap (λ (i : Placed). i.ram) c.in_ok-image.ensures.image) c.in_ok-plan.ensures.flip
