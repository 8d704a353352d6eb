use Rattle.std.proofs.Common.{codes}
use Rattle.std.proofs.lemmas.Result.{on_err_weaker}
use Rattle.ibx_top.specs.Twins.{differ_line, side_line}
use Rattle.ibx_top.proofs.Gains.{cut_second, cut_third, on_err}
use Rattle.ibx_top.proofs.twin_lines.print_difference.Goals as goal

pub returns-in_err-print_side-clause-prefix : goal.returns-in_err-print_side-clause-prefix
returns-in_err-print_side-clause-prefix g c =
    let taken = g.K.Sink.taken in
    on_err c.from_residual-in_err-print_side.result
    (cut_second (taken c.args.out.now) (taken c.print_index.new.out) (taken c.print_side.new.out)
    (differ_line c.args.at) (side_line (codes "a ") c.args.a) (side_line (codes "b ") c.args.b)
    c.in_ok-print_index.ensures.whole c.in_err-print_side.ensures.prefix)

pub returns-clause-prefix : goal.returns-clause-prefix
returns-clause-prefix g c =
    let taken = g.K.Sink.taken in
    on_err_weaker c.print_side-2.result
    (λ took.
    cut_third (taken c.args.out.now) (taken c.print_index.new.out) (taken c.print_side.new.out)
    (taken c.print_side-2.new.out) (differ_line c.args.at) (side_line (codes "a ") c.args.a)
    (side_line (codes "b ") c.args.b) c.in_ok-print_index.ensures.whole c.in_ok-print_side.ensures.whole took)
    c.print_side-2.ensures.prefix
