use Rattle.std.proofs.lemmas.Result.{on_err_weaker}
use Rattle.ibx_trace.specs.Lines.{end_line_of}
use Rattle.ibx_top.specs.Generated.{sum_lines}
use Rattle.ibx_top.proofs.Gains.{cut_back}
use Rattle.ibx_top.proofs.gen_command.print_total.Goals as goal

pub returns-clause-prefix : goal.returns-clause-prefix
returns-clause-prefix g c =
    let taken = g.K.Sink.taken in
    let total = c.args.total.now in
    on_err_weaker c.print_end.result
    (λ took.
    cut_back (taken c.args.out.now) (taken c.print_sum.new.out) (taken c.print_end.new.out)
    (sum_lines c.args.seed total.sum) (end_line_of total.halted c.args.cycles total.events)
    c.in_ok-print_sum.ensures.whole took)
    c.print_end.ensures.prefix
