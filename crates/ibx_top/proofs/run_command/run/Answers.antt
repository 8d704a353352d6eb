use Rattle.std.proofs.Common.{◌≡◌, ℕ, ◌+◌, List, [], ◌∷◌, Some, refl, ap, subst, ◌∙◌}
use Rattle.std.proofs.lemmas.Result.{err_from_is_err_and}
use Rattle.ibx_base.specs.Sinks.{TookPrefix}
use Rattle.ibx_elf.specs.Image.{Placed}
use Rattle.ibx_core.specs.declared.state.State.{State}
use Rattle.ibx_system.specs.System.{Whole}
use Rattle.ibx_top.specs.declared.outcome.Outcome.TheVariants.{OutOfMemory}
use Rattle.ibx_top.proofs.Chain.{follows, loads, reads_file, refuses_file, stops_file, stops_plan}
use Rattle.ibx_top.specs.declared.outcome.Finish.TheVariants.{Ran}
use Rattle.ibx_top.specs.Answers.{Answer, IsRanBy, IsRunBy, bounds_of, ran_by, setup_of}
use Rattle.ibx_top.specs.Seals.{seal_of}
use Rattle.ibx_top.specs.TimedStories.{timed_story}
use Rattle.ibx_top.proofs.Outcomes.{fails, finishes, refuses}
use Rattle.ibx_top.proofs.RunAnswers.{ran, run_text}
use Rattle.ibx_top.proofs.TimedStories.{runs_or_spends}
use Rattle.ibx_top.proofs.run_command.run.Goals as goal

pub returns-in_err-plan : goal.returns-in_err-plan
returns-in_err-plan g c =
    let told = err_from_is_err_and c.from_residual.result c.from_residual.ensures.1 in
    let asked = c.args.asked in
    rw (told.1, told.2)
    (stops_plan g.F.Files.contents g.F.Files.faults g.F.Files.misses _ (asked.file.now ∷ []) (bounds_of 0 asked.options)
    (IsRunBy (g.F.Files.contents c.args.files.now) asked.file.now asked.options) c.args.files.now
    g.F.Files.begun g.K.Sink.taken g.K.Sink.faults _ c.args.out.now c.read_plan.ensures.passes c.in_err-plan.ensures.stops)

pub returns-in_err-bytes : goal.returns-in_err-bytes
returns-in_err-bytes g c =
    let told = err_from_is_err_and c.from_residual-in_err-bytes.result c.from_residual-in_err-bytes.ensures.1 in
    let asked = c.args.asked in
    let Rest : Placed → Answer → Type 0 = IsRanBy asked.options c.in_ok-plan.plan in
    let planned = follows g.F.Files.contents g.F.Files.faults g.F.Files.misses _ (asked.file.now ∷ [])
    (bounds_of 0 asked.options) (IsRunBy (g.F.Files.contents c.args.files.now) asked.file.now asked.options)
    c.args.files.now c.in_ok-plan.plan c.read_plan.ensures.passes c.in_ok-plan.ensures.plan in
    rw (told.1, told.2)
    (stops_file g.F.Files.begun g.K.Sink.taken g.K.Sink.faults asked.file.now [] asked.options.ram Rest _ c.args.out.now
    planned c.read_bytes.ensures.passes c.in_err-bytes.ensures.stops)

pub returns-in_err-image : goal.returns-in_err-image
returns-in_err-image g c =
    let told = err_from_is_err_and c.from_residual-in_err-image.result c.from_residual-in_err-image.ensures.1 in
    let asked = c.args.asked in
    let Rest : Placed → Answer → Type 0 = IsRanBy asked.options c.in_ok-plan.plan in
    let planned = follows g.F.Files.contents g.F.Files.faults g.F.Files.misses _ (asked.file.now ∷ [])
    (bounds_of 0 asked.options) (IsRunBy (g.F.Files.contents c.args.files.now) asked.file.now asked.options)
    c.args.files.now c.in_ok-plan.plan c.read_plan.ensures.passes c.in_ok-plan.ensures.plan in
    let read = reads_file asked.file.now [] asked.options.ram Rest c.in_ok-bytes.bytes.items planned
    c.read_bytes.ensures.passes c.in_ok-bytes.ensures.content in
    rw (told.1, told.2)
    (refuses_file g.F.Files.begun g.K.Sink.taken g.K.Sink.faults asked.file.now asked.options.ram Rest c.in_ok-bytes.bytes.items
    c.deref.result.now _ c.args.out.now read c.deref.ensures.value c.in_err-image.ensures.stops)

pub returns-in_err-halted : goal.returns-in_err-halted
returns-in_err-halted g c =
    let told = err_from_is_err_and c.from_residual-in_err-halted.result c.from_residual-in_err-halted.ensures.1 in
    let asked = c.args.asked in
    let Rest : Placed → Answer → Type 0 = IsRanBy asked.options c.in_ok-plan.plan in
    let planned = follows g.F.Files.contents g.F.Files.faults g.F.Files.misses _ (asked.file.now ∷ [])
    (bounds_of 0 asked.options) (IsRunBy (g.F.Files.contents c.args.files.now) asked.file.now asked.options)
    c.args.files.now c.in_ok-plan.plan c.read_plan.ensures.passes c.in_ok-plan.ensures.plan in
    let read = reads_file asked.file.now [] asked.options.ram Rest c.in_ok-bytes.bytes.items planned
    c.read_bytes.ensures.passes c.in_ok-bytes.ensures.content in
    let loaded = loads asked.file.now asked.options.ram Rest c.in_ok-bytes.bytes.items c.deref.result.now c.in_ok-image.image
    read c.deref.ensures.value c.in_ok-bytes.ensures.fits c.in_ok-image.ensures.sound c.in_ok-image.ensures.image in
    let placed = c.in_ok-image.ensures.placed asked.options.mul c.in_ok-plan.plan c.in_ok-plan.ensures.words in
    let new = ap (λ (w : Whole State). w.place.cycle) c.in_ok-soc.ensures.as_new.state in
    rw (told.1, told.2)
    (fails g.F.Files.begun g.K.Sink.taken g.K.Sink.faults (ran_by asked.options c.in_ok-plan.plan c.in_ok-image.image)
    c.args.out.now c.drive.new.out loaded refl
    (runs_or_spends (timed_story (setup_of asked.options c.in_ok-plan.plan c.in_ok-image.image) asked.options.cycles).halted)
    (subst (λ (text : List ℕ). TookPrefix (g.K.Sink.taken c.args.out.now) text (g.K.Sink.taken c.drive.new.out))
    (run_text asked.options c.in_ok-plan.plan c.in_ok-image.image c.in_ok-soc.soc c.in_ok-soc.ensures.first new
    placed) c.in_err-halted.ensures.prefix) c.in_err-halted.ensures.cause.failure)

pub returns : goal.returns
returns g c =
    let asked = c.args.asked in
    let Rest : Placed → Answer → Type 0 = IsRanBy asked.options c.in_ok-plan.plan in
    let planned = follows g.F.Files.contents g.F.Files.faults g.F.Files.misses _ (asked.file.now ∷ [])
    (bounds_of 0 asked.options) (IsRunBy (g.F.Files.contents c.args.files.now) asked.file.now asked.options)
    c.args.files.now c.in_ok-plan.plan c.read_plan.ensures.passes c.in_ok-plan.ensures.plan in
    let read = reads_file asked.file.now [] asked.options.ram Rest c.in_ok-bytes.bytes.items planned
    c.read_bytes.ensures.passes c.in_ok-bytes.ensures.content in
    let loaded = loads asked.file.now asked.options.ram Rest c.in_ok-bytes.bytes.items c.deref.result.now c.in_ok-image.image
    read c.deref.ensures.value c.in_ok-bytes.ensures.fits c.in_ok-image.ensures.sound c.in_ok-image.ensures.image in
    let placed = c.in_ok-image.ensures.placed asked.options.mul c.in_ok-plan.plan c.in_ok-plan.ensures.words in
    let new = ap (λ (w : Whole State). w.place.cycle) c.in_ok-soc.ensures.as_new.state in
    finishes g.F.Files.begun g.K.Sink.taken g.K.Sink.faults (ran_by asked.options c.in_ok-plan.plan c.in_ok-image.image)
    (Ran c.in_ok-halted.halted c.field_sum.result) c.args.out.now c.drive.new.out loaded refl
    (ran asked.options c.in_ok-plan.plan c.in_ok-image.image c.in_ok-soc.soc c.in_ok-soc.ensures.first new
    placed c.drive.new.soc
    c.in_ok-halted.halted c.field_sum.result (g.K.Sink.taken c.args.out.now) (g.K.Sink.taken c.drive.new.out)
    c.in_ok-halted.ensures.halted c.in_ok-halted.ensures.state (c.field_sum.ensures ∙ ap seal_of c.main.ensures)
    c.in_ok-halted.ensures.whole)
