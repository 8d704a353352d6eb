use Rattle.std.proofs.Common.{◌≡◌, ◌≤◌, ℕ, List, [], ◌∷◌, length, refl, ap, sym, subst, ◌∙◌}
use Rattle.std.proofs.lemmas.Result.{err_from_is_err_and}
use Rattle.ibx_base.specs.Sinks.{TookPrefix, with_more}
use Rattle.ibx_wrap.specs.Wrapped.{wrapped}
use Rattle.ibx_top.specs.declared.outcome.Finish.TheVariants.{Written}
use Rattle.ibx_top.specs.declared.outcome.Outcome.TheVariants.{OutOfMemory}
use Rattle.ibx_top.specs.declared.outcome.Refusal.TheVariants as why
use Rattle.ibx_top.specs.Answers.{Answer, IsAssembled, asm_answer, plan_limit, written_answer}
use Rattle.ibx_top.specs.Outcomes.{IsTooLong}
use Rattle.ibx_top.proofs.Assembled.{good_text, long_text}
use Rattle.ibx_top.proofs.Outcomes.{begins, fails, finishes, reads, refuses, stops}
use Rattle.ibx_top.proofs.asm_command.assemble.Goals as goal

pub returns-in_err-text : goal.returns-in_err-text
returns-in_err-text g c =
    let told = err_from_is_err_and c.from_residual.result c.from_residual.ensures.1 in
    let start = begins g.F.Files.contents g.F.Files.faults g.F.Files.misses (c.args.asked.file.now ∷ [])
    (IsAssembled (g.F.Files.contents c.args.files.now) c.args.asked.file.now) c.args.files.now in
    rw (told.1, told.2)
    (stops g.F.Files.begun g.K.Sink.taken g.K.Sink.faults (c.args.asked.file.now ∷ []) []
    (IsTooLong (g.F.Files.contents c.args.files.now) c.args.asked.file.now plan_limit why.TextTooLong) _ c.args.out.now start
    c.read_bytes.ensures.passes
    (λ answer is. let (same, (bytes, (content, more))) = is in (bytes, (content, same ∙ sym (long_text c.args.asked.file.now bytes more))))
    c.in_err-text.ensures.stops)

pub returns-in_err-code : goal.returns-in_err-code
returns-in_err-code g c =
    let told = err_from_is_err_and c.from_residual-in_err-code.result c.from_residual-in_err-code.ensures.1 in
    let start = begins g.F.Files.contents g.F.Files.faults g.F.Files.misses (c.args.asked.file.now ∷ [])
    (IsAssembled (g.F.Files.contents c.args.files.now) c.args.asked.file.now) c.args.files.now in
    let read = reads (c.args.asked.file.now ∷ []) [] (λ answer. answer ≡ asm_answer c.args.asked.file.now c.deref.result.now) start
    c.read_bytes.ensures.passes
    (λ answer is. (c.in_ok-text.text.items, (c.in_ok-text.ensures.content, is ∙ ap (asm_answer c.args.asked.file.now) c.deref.ensures.value))) in
    rw (told.1, told.2)
    (refuses g.F.Files.begun g.K.Sink.taken g.K.Sink.faults _ c.args.out.now read c.in_err-code.ensures.stops)

pub returns-in_err-file : goal.returns-in_err-file
returns-in_err-file g c =
    let told = err_from_is_err_and c.from_residual-in_err-file.result c.from_residual-in_err-file.ensures.1 in
    let start = begins g.F.Files.contents g.F.Files.faults g.F.Files.misses (c.args.asked.file.now ∷ [])
    (IsAssembled (g.F.Files.contents c.args.files.now) c.args.asked.file.now) c.args.files.now in
    let read = reads (c.args.asked.file.now ∷ []) [] (λ answer. answer ≡ asm_answer c.args.asked.file.now c.deref.result.now) start
    c.read_bytes.ensures.passes
    (λ answer is. (c.in_ok-text.text.items, (c.in_ok-text.ensures.content, is ∙ ap (asm_answer c.args.asked.file.now) c.deref.ensures.value))) in
    rw (told.1, told.2)
    (refuses g.F.Files.begun g.K.Sink.taken g.K.Sink.faults OutOfMemory c.args.out.now read tt)

pub returns-in_err-write_all : goal.returns-in_err-write_all
returns-in_err-write_all g c =
    let told = err_from_is_err_and c.from_residual-in_err-write_all.result c.from_residual-in_err-write_all.ensures.1 in
    let start = begins g.F.Files.contents g.F.Files.faults g.F.Files.misses (c.args.asked.file.now ∷ [])
    (IsAssembled (g.F.Files.contents c.args.files.now) c.args.asked.file.now) c.args.files.now in
    let read = reads (c.args.asked.file.now ∷ []) [] (λ answer. answer ≡ asm_answer c.args.asked.file.now c.deref.result.now) start
    c.read_bytes.ensures.passes
    (λ answer is. (c.in_ok-text.text.items, (c.in_ok-text.ensures.content, is ∙ ap (asm_answer c.args.asked.file.now) c.deref.ensures.value))) in
    let fits = subst (λ (t : List ℕ). length t ≤ plan_limit) (sym c.deref.ensures.value) c.in_ok-text.ensures.fits in
    let is = sym (good_text c.args.asked.file.now c.deref.result.now c.in_ok-code.code.items fits c.in_ok-code.ensures.code) in
    let file : c.deref-3.result.now ≡ wrapped c.in_ok-code.code.items = c.deref-3.ensures.value ∙ c.in_ok-file.ensures.bytes
    ∙ ap wrapped c.deref-2.ensures.value in
    let before = g.K.Sink.taken c.args.out.now in
    rw (told.1, told.2)
    (fails g.F.Files.begun g.K.Sink.taken g.K.Sink.faults (written_answer (wrapped c.in_ok-code.code.items)) c.args.out.now
    c.write_all.new.sink read is refl (subst (λ (t : List ℕ). TookPrefix before t (g.K.Sink.taken c.write_all.new.sink)) file
    c.in_err-write_all.ensures.prefix) c.in_err-write_all.ensures.cause.failure)

pub returns : goal.returns
returns g c =
    let start = begins g.F.Files.contents g.F.Files.faults g.F.Files.misses (c.args.asked.file.now ∷ [])
    (IsAssembled (g.F.Files.contents c.args.files.now) c.args.asked.file.now) c.args.files.now in
    let read = reads (c.args.asked.file.now ∷ []) [] (λ answer. answer ≡ asm_answer c.args.asked.file.now c.deref.result.now) start
    c.read_bytes.ensures.passes
    (λ answer is. (c.in_ok-text.text.items, (c.in_ok-text.ensures.content, is ∙ ap (asm_answer c.args.asked.file.now) c.deref.ensures.value))) in
    let fits = subst (λ (t : List ℕ). length t ≤ plan_limit) (sym c.deref.ensures.value) c.in_ok-text.ensures.fits in
    let is = sym (good_text c.args.asked.file.now c.deref.result.now c.in_ok-code.code.items fits c.in_ok-code.ensures.code) in
    let file : c.deref-3.result.now ≡ wrapped c.in_ok-code.code.items = c.deref-3.ensures.value ∙ c.in_ok-file.ensures.bytes
    ∙ ap wrapped c.deref-2.ensures.value in
    let before = g.K.Sink.taken c.args.out.now in
    finishes g.F.Files.begun g.K.Sink.taken g.K.Sink.faults (written_answer (wrapped c.in_ok-code.code.items)) Written c.args.out.now
    c.write_all.new.sink read is
    record { code = refl; line = refl; seal = refl; text = c.in_ok-write_all.ensures.whole ∙ ap (with_more before) file }
