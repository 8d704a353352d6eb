use Rattle.std.proofs.Common.{ℕ, List, ap, ◌∙◌, subst}
use Rattle.std.proofs.lemmas.Result.{on_err_weaker}
use Rattle.ibx_base.specs.Sinks.{with_more, TookPrefix}
use Rattle.ibx_top.proofs.Gains.{cut_second, cut_third, on_err}
use Rattle.ibx_top.proofs.outcome.write_parts.Goals as goal

pub returns-in_err-write_all-2-clause-prefix : goal.returns-in_err-write_all-2-clause-prefix
returns-in_err-write_all-2-clause-prefix g c =
    let taken = g.E.Sink.taken in
    on_err c.from_residual-in_err-write_all-2.result
    (cut_second (taken c.args.err.now) (taken c.write_all.new.sink) (taken c.write_all-2.new.sink) c.args.front.now
    c.args.middle.now c.args.back.now
    (c.in_ok-write_all.ensures.whole ∙ ap (with_more (taken c.args.err.now)) c.as_bytes.ensures.value)
    (subst (λ (piece : List ℕ). TookPrefix (taken c.write_all.new.sink) piece (taken c.write_all-2.new.sink))
    c.as_bytes-2.ensures.value c.in_err-write_all-2.ensures.prefix))

pub returns-clause-prefix : goal.returns-clause-prefix
returns-clause-prefix g c =
    let taken = g.E.Sink.taken in
    on_err_weaker c.write_all-3.result
    (λ took.
    cut_third (taken c.args.err.now) (taken c.write_all.new.sink) (taken c.write_all-2.new.sink)
    (taken c.write_all-3.new.sink) c.args.front.now c.args.middle.now c.args.back.now
    (c.in_ok-write_all.ensures.whole ∙ ap (with_more (taken c.args.err.now)) c.as_bytes.ensures.value)
    (c.in_ok-write_all-2.ensures.whole ∙ ap (with_more (taken c.write_all.new.sink)) c.as_bytes-2.ensures.value)
    (subst (λ (piece : List ℕ). TookPrefix (taken c.write_all-2.new.sink) piece (taken c.write_all-3.new.sink))
    c.as_bytes-3.ensures.value took))
    c.write_all-3.ensures.prefix
