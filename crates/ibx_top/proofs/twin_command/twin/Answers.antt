use Rattle.std.proofs.Common.{◌≡◌, ℕ, ◌+◌, List, [], ◌∷◌, Some, refl, ap, subst, ◌∙◌}
use Rattle.std.proofs.lemmas.Result.{err_from_is_err_and}
use Rattle.ibx_base.specs.Sinks.{TookPrefix}
use Rattle.ibx_elf.specs.Image.{Placed}
use Rattle.ibx_core.specs.declared.state.State.{State}
use Rattle.ibx_system.specs.System.{Whole}
use Rattle.ibx_top.specs.declared.outcome.Outcome.TheVariants.{OutOfMemory}
use Rattle.ibx_top.proofs.Chain.{follows, loads, reads_file, refuses_file, stops_file, stops_plan}
use Rattle.ibx_compare.specs.declared.comparison.Twin.{Twin}
use Rattle.ibx_compare.specs.Twins.{twin_of}
use Rattle.ibx_top.specs.declared.outcome.Finish.TheVariants.{Compared}
use Rattle.ibx_top.specs.Answers.{Answer, IsPair, IsSecond, IsTwinnedBy, bounds_of}
use Rattle.ibx_top.specs.Twins.{differs, twin_text}
use Rattle.ibx_top.proofs.Outcomes.{fails, finishes, refuses}
use Rattle.ibx_top.proofs.TwinRuns.{compared, compares, systems_compare}
use Rattle.ibx_top.proofs.twin_command.twin.Goals as goal

pub returns-in_err-plan : goal.returns-in_err-plan
returns-in_err-plan g c =
    let told = err_from_is_err_and c.from_residual.result c.from_residual.ensures.1 in
    let asked = c.args.asked in
    rw (told.1, told.2)
    (stops_plan g.F.Files.contents g.F.Files.faults g.F.Files.misses _ (asked.first.now ∷ asked.second.now ∷ []) (bounds_of 0 asked.options)
    (IsPair (g.F.Files.contents c.args.files.now) asked.first.now asked.second.now asked.options) c.args.files.now
    g.F.Files.begun g.K.Sink.taken g.K.Sink.faults _ c.args.out.now c.read_plan.ensures.passes c.in_err-plan.ensures.stops)

pub returns-in_err-bytes : goal.returns-in_err-bytes
returns-in_err-bytes g c =
    let told = err_from_is_err_and c.from_residual-in_err-bytes.result c.from_residual-in_err-bytes.ensures.1 in
    let asked = c.args.asked in
    let Rest : Placed → Answer → Type 0 = IsSecond (g.F.Files.contents c.args.files.now) asked.second.now asked.options c.in_ok-plan.plan in
    let planned = follows g.F.Files.contents g.F.Files.faults g.F.Files.misses _ (asked.first.now ∷ asked.second.now ∷ [])
    (bounds_of 0 asked.options) (IsPair (g.F.Files.contents c.args.files.now) asked.first.now asked.second.now asked.options)
    c.args.files.now c.in_ok-plan.plan c.read_plan.ensures.passes c.in_ok-plan.ensures.plan in
    rw (told.1, told.2)
    (stops_file g.F.Files.begun g.K.Sink.taken g.K.Sink.faults asked.first.now (asked.second.now ∷ []) asked.options.ram Rest _ c.args.out.now
    planned c.read_bytes.ensures.passes c.in_err-bytes.ensures.stops)

pub returns-in_err-a : goal.returns-in_err-a
returns-in_err-a g c =
    let told = err_from_is_err_and c.from_residual-in_err-a.result c.from_residual-in_err-a.ensures.1 in
    let asked = c.args.asked in
    let Rest : Placed → Answer → Type 0 = IsSecond (g.F.Files.contents c.args.files.now) asked.second.now asked.options c.in_ok-plan.plan in
    let planned = follows g.F.Files.contents g.F.Files.faults g.F.Files.misses _ (asked.first.now ∷ asked.second.now ∷ [])
    (bounds_of 0 asked.options) (IsPair (g.F.Files.contents c.args.files.now) asked.first.now asked.second.now asked.options)
    c.args.files.now c.in_ok-plan.plan c.read_plan.ensures.passes c.in_ok-plan.ensures.plan in
    let read = reads_file asked.first.now (asked.second.now ∷ []) asked.options.ram Rest c.in_ok-bytes.bytes.items planned
    c.read_bytes.ensures.passes c.in_ok-bytes.ensures.content in
    rw (told.1, told.2)
    (refuses_file g.F.Files.begun g.K.Sink.taken g.K.Sink.faults asked.first.now asked.options.ram Rest c.in_ok-bytes.bytes.items
    c.deref.result.now _ c.args.out.now read c.deref.ensures.value c.in_err-a.ensures.stops)

pub returns-in_err-others : goal.returns-in_err-others
returns-in_err-others g c =
    let told = err_from_is_err_and c.from_residual-in_err-others.result c.from_residual-in_err-others.ensures.1 in
    let asked = c.args.asked in
    let Rest : Placed → Answer → Type 0 = IsSecond (g.F.Files.contents c.args.files.now) asked.second.now asked.options c.in_ok-plan.plan in
    let planned = follows g.F.Files.contents g.F.Files.faults g.F.Files.misses _ (asked.first.now ∷ asked.second.now ∷ [])
    (bounds_of 0 asked.options) (IsPair (g.F.Files.contents c.args.files.now) asked.first.now asked.second.now asked.options)
    c.args.files.now c.in_ok-plan.plan c.read_plan.ensures.passes c.in_ok-plan.ensures.plan in
    let read = reads_file asked.first.now (asked.second.now ∷ []) asked.options.ram Rest c.in_ok-bytes.bytes.items planned
    c.read_bytes.ensures.passes c.in_ok-bytes.ensures.content in
    let loaded = loads asked.first.now asked.options.ram Rest c.in_ok-bytes.bytes.items c.deref.result.now c.in_ok-a.a
    read c.deref.ensures.value c.in_ok-bytes.ensures.fits c.in_ok-a.ensures.sound c.in_ok-a.ensures.image in
    let With : Placed → Answer → Type 0 = IsTwinnedBy asked.options c.in_ok-plan.plan c.in_ok-a.a in
    rw (told.1, told.2)
    (stops_file g.F.Files.begun g.K.Sink.taken g.K.Sink.faults asked.second.now [] asked.options.ram With _ c.args.out.now
    loaded c.read_bytes-2.ensures.passes c.in_err-others.ensures.stops)

pub returns-in_err-b : goal.returns-in_err-b
returns-in_err-b g c =
    let told = err_from_is_err_and c.from_residual-in_err-b.result c.from_residual-in_err-b.ensures.1 in
    let asked = c.args.asked in
    let Rest : Placed → Answer → Type 0 = IsSecond (g.F.Files.contents c.args.files.now) asked.second.now asked.options c.in_ok-plan.plan in
    let planned = follows g.F.Files.contents g.F.Files.faults g.F.Files.misses _ (asked.first.now ∷ asked.second.now ∷ [])
    (bounds_of 0 asked.options) (IsPair (g.F.Files.contents c.args.files.now) asked.first.now asked.second.now asked.options)
    c.args.files.now c.in_ok-plan.plan c.read_plan.ensures.passes c.in_ok-plan.ensures.plan in
    let read = reads_file asked.first.now (asked.second.now ∷ []) asked.options.ram Rest c.in_ok-bytes.bytes.items planned
    c.read_bytes.ensures.passes c.in_ok-bytes.ensures.content in
    let loaded = loads asked.first.now asked.options.ram Rest c.in_ok-bytes.bytes.items c.deref.result.now c.in_ok-a.a
    read c.deref.ensures.value c.in_ok-bytes.ensures.fits c.in_ok-a.ensures.sound c.in_ok-a.ensures.image in
    let With : Placed → Answer → Type 0 = IsTwinnedBy asked.options c.in_ok-plan.plan c.in_ok-a.a in
    let others = reads_file asked.second.now [] asked.options.ram With c.in_ok-others.others.items loaded
    c.read_bytes-2.ensures.passes c.in_ok-others.ensures.content in
    rw (told.1, told.2)
    (refuses_file g.F.Files.begun g.K.Sink.taken g.K.Sink.faults asked.second.now asked.options.ram With
    c.in_ok-others.others.items c.deref-2.result.now _ c.args.out.now others c.deref-2.ensures.value c.in_err-b.ensures.stops)

pub returns-in_err-print_twin : goal.returns-in_err-print_twin
returns-in_err-print_twin g c =
    let told = err_from_is_err_and c.from_residual-in_err-print_twin.result c.from_residual-in_err-print_twin.ensures.1 in
    let asked = c.args.asked in
    let Rest : Placed → Answer → Type 0 = IsSecond (g.F.Files.contents c.args.files.now) asked.second.now asked.options c.in_ok-plan.plan in
    let planned = follows g.F.Files.contents g.F.Files.faults g.F.Files.misses _ (asked.first.now ∷ asked.second.now ∷ [])
    (bounds_of 0 asked.options) (IsPair (g.F.Files.contents c.args.files.now) asked.first.now asked.second.now asked.options)
    c.args.files.now c.in_ok-plan.plan c.read_plan.ensures.passes c.in_ok-plan.ensures.plan in
    let read = reads_file asked.first.now (asked.second.now ∷ []) asked.options.ram Rest c.in_ok-bytes.bytes.items planned
    c.read_bytes.ensures.passes c.in_ok-bytes.ensures.content in
    let loaded = loads asked.first.now asked.options.ram Rest c.in_ok-bytes.bytes.items c.deref.result.now c.in_ok-a.a
    read c.deref.ensures.value c.in_ok-bytes.ensures.fits c.in_ok-a.ensures.sound c.in_ok-a.ensures.image in
    let With : Placed → Answer → Type 0 = IsTwinnedBy asked.options c.in_ok-plan.plan c.in_ok-a.a in
    let others = reads_file asked.second.now [] asked.options.ram With c.in_ok-others.others.items loaded
    c.read_bytes-2.ensures.passes c.in_ok-others.ensures.content in
    let both = loads asked.second.now asked.options.ram With c.in_ok-others.others.items c.deref-2.result.now
    c.in_ok-b.b others c.deref-2.ensures.value c.in_ok-others.ensures.fits c.in_ok-b.ensures.sound
    c.in_ok-b.ensures.image in
    let value = c.twin-answer.ensures.value in
    let same = systems_compare asked.options c.in_ok-plan.plan c.in_ok-a.a c.in_ok-b.b c.in_ok-first.first
    c.in_ok-second.second c.in_ok-first.ensures.first c.in_ok-second.ensures.first
    (c.in_ok-a.ensures.placed asked.options.mul c.in_ok-plan.plan c.in_ok-plan.ensures.words)
    (c.in_ok-b.ensures.placed asked.options.mul c.in_ok-plan.plan c.in_ok-plan.ensures.words) in
    rw (told.1, told.2)
    (fails g.F.Files.begun g.K.Sink.taken g.K.Sink.faults _ c.args.out.now c.print_twin.new.out both same
    (compares (differs (twin_of asked.options.cycles c.in_ok-first.first c.in_ok-second.second)))
    (subst (λ (t : Twin). TookPrefix (g.K.Sink.taken c.args.out.now) (twin_text t) (g.K.Sink.taken c.print_twin.new.out))
    value c.in_err-print_twin.ensures.prefix) c.in_err-print_twin.ensures.cause.failure)

pub returns : goal.returns
returns g c =
    let asked = c.args.asked in
    let Rest : Placed → Answer → Type 0 = IsSecond (g.F.Files.contents c.args.files.now) asked.second.now asked.options c.in_ok-plan.plan in
    let planned = follows g.F.Files.contents g.F.Files.faults g.F.Files.misses _ (asked.first.now ∷ asked.second.now ∷ [])
    (bounds_of 0 asked.options) (IsPair (g.F.Files.contents c.args.files.now) asked.first.now asked.second.now asked.options)
    c.args.files.now c.in_ok-plan.plan c.read_plan.ensures.passes c.in_ok-plan.ensures.plan in
    let read = reads_file asked.first.now (asked.second.now ∷ []) asked.options.ram Rest c.in_ok-bytes.bytes.items planned
    c.read_bytes.ensures.passes c.in_ok-bytes.ensures.content in
    let loaded = loads asked.first.now asked.options.ram Rest c.in_ok-bytes.bytes.items c.deref.result.now c.in_ok-a.a
    read c.deref.ensures.value c.in_ok-bytes.ensures.fits c.in_ok-a.ensures.sound c.in_ok-a.ensures.image in
    let With : Placed → Answer → Type 0 = IsTwinnedBy asked.options c.in_ok-plan.plan c.in_ok-a.a in
    let others = reads_file asked.second.now [] asked.options.ram With c.in_ok-others.others.items loaded
    c.read_bytes-2.ensures.passes c.in_ok-others.ensures.content in
    let both = loads asked.second.now asked.options.ram With c.in_ok-others.others.items c.deref-2.result.now
    c.in_ok-b.b others c.deref-2.ensures.value c.in_ok-others.ensures.fits c.in_ok-b.ensures.sound
    c.in_ok-b.ensures.image in
    let value = c.twin-answer.ensures.value in
    let same = systems_compare asked.options c.in_ok-plan.plan c.in_ok-a.a c.in_ok-b.b c.in_ok-first.first
    c.in_ok-second.second c.in_ok-first.ensures.first c.in_ok-second.ensures.first
    (c.in_ok-a.ensures.placed asked.options.mul c.in_ok-plan.plan c.in_ok-plan.ensures.words)
    (c.in_ok-b.ensures.placed asked.options.mul c.in_ok-plan.plan c.in_ok-plan.ensures.words) in
    finishes g.F.Files.begun g.K.Sink.taken g.K.Sink.faults _ (Compared c.is_difference.result c.sum_of_both.result) c.args.out.now
    c.print_twin.new.out both same
    (compared asked.options.cycles c.in_ok-first.first c.in_ok-second.second c.twin-answer.new.a c.twin-answer.new.b
    c.twin-answer.result c.is_difference.result c.sum_of_both.result (g.K.Sink.taken c.args.out.now)
    (g.K.Sink.taken c.print_twin.new.out) value c.twin-answer.ensures.a_left c.twin-answer.ensures.b_left
    c.is_difference.ensures c.sum_of_both.ensures c.in_ok-print_twin.ensures.whole)

pub returns-in_err-second : goal.returns-in_err-second
returns-in_err-second g c =
    let told = err_from_is_err_and c.from_residual-in_err-second.result c.from_residual-in_err-second.ensures.1 in
    let asked = c.args.asked in
    let Rest : Placed → Answer → Type 0 = IsSecond (g.F.Files.contents c.args.files.now) asked.second.now asked.options c.in_ok-plan.plan in
    let planned = follows g.F.Files.contents g.F.Files.faults g.F.Files.misses _ (asked.first.now ∷ asked.second.now ∷ [])
    (bounds_of 0 asked.options) (IsPair (g.F.Files.contents c.args.files.now) asked.first.now asked.second.now asked.options)
    c.args.files.now c.in_ok-plan.plan c.read_plan.ensures.passes c.in_ok-plan.ensures.plan in
    let read = reads_file asked.first.now (asked.second.now ∷ []) asked.options.ram Rest c.in_ok-bytes.bytes.items planned
    c.read_bytes.ensures.passes c.in_ok-bytes.ensures.content in
    let loaded = loads asked.first.now asked.options.ram Rest c.in_ok-bytes.bytes.items c.deref.result.now c.in_ok-a.a
    read c.deref.ensures.value c.in_ok-bytes.ensures.fits c.in_ok-a.ensures.sound c.in_ok-a.ensures.image in
    let With : Placed → Answer → Type 0 = IsTwinnedBy asked.options c.in_ok-plan.plan c.in_ok-a.a in
    let others = reads_file asked.second.now [] asked.options.ram With c.in_ok-others.others.items loaded
    c.read_bytes-2.ensures.passes c.in_ok-others.ensures.content in
    let both = loads asked.second.now asked.options.ram With c.in_ok-others.others.items c.deref-2.result.now
    c.in_ok-b.b others c.deref-2.ensures.value c.in_ok-others.ensures.fits c.in_ok-b.ensures.sound
    c.in_ok-b.ensures.image in
    rw (told.1, told.2)
    (refuses g.F.Files.begun g.K.Sink.taken g.K.Sink.faults OutOfMemory c.args.out.now both tt)
