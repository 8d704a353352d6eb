use Rattle.std.proofs.lemmas.Result.{on_err_weaker}
use Rattle.ibx_top.specs.Verdicts.{diff_line, alert_line}
use Rattle.ibx_top.proofs.Gains.{cut_back}
use Rattle.ibx_top.proofs.verdict.print_verdict.Goals as goal

pub returns-clause-prefix : goal.returns-clause-prefix
returns-clause-prefix g c =
    let taken = g.K.Sink.taken in
    on_err_weaker c.print_alert.result
    (λ took.
    cut_back (taken c.args.out.now) (taken c.print_diff.new.out) (taken c.print_alert.new.out)
    (diff_line c.args.verdict.now.first_diff) (alert_line c.args.verdict.now.first_alert)
    c.in_ok-print_diff.ensures.whole took)
    c.print_alert.ensures.prefix
