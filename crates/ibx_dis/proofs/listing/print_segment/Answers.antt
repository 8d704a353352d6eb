use Rattle.std.proofs.Common.{◌≡◌, ◌++◌, ◌∙◌, codes, subst}
use Rattle.ibx_text.specs.Digits.{hex_digits}
use Rattle.ibx_base.specs.Sinks.{with_more, TookPrefix}
use Rattle.ibx_dis.specs.Listing.{lines_of}
use Rattle.ibx_dis.proofs.Gains.{begun, cut, cut_back, map_err, on_err}
use Rattle.ibx_dis.proofs.listing.print_segment.Goals as goal

pub returns-in_err-print_line-clause-prefix : goal.returns-in_err-print_line-clause-prefix
returns-in_err-print_line-clause-prefix g c =
    let text = codes "# 0x" ++ hex_digits 8 c.args.address in
    let said : c.as_str.result.now ≡ text = c.as_str.ensures.value ∙ c.labelled-text.ensures in
    let before = g.K.Sink.taken c.args.out.now in
    on_err c.from_residual.result (cut (text ++ codes "\n") (lines_of c.args.code.now)
    (begun before ((text ++ codes "\n") ++ lines_of c.args.code.now))
    (subst (λ text. TookPrefix before (text ++ codes "\n") (g.K.Sink.taken c.print_line.new.out)) said
    c.in_err-print_line.ensures.prefix))

pub returns-clause-prefix : goal.returns-clause-prefix
returns-clause-prefix g c =
    let text = codes "# 0x" ++ hex_digits 8 c.args.address in
    let said : c.as_str.result.now ≡ text = c.as_str.ensures.value ∙ c.labelled-text.ensures in
    let before = g.K.Sink.taken c.args.out.now in
    let wrote = subst (λ text. g.K.Sink.taken c.print_line.new.out ≡ with_more before (text ++ codes "\n")) said
    c.in_ok-print_line.ensures.whole in
    map_err c.print_code.result (λ took. cut_back before (g.K.Sink.taken c.print_line.new.out)
    (g.K.Sink.taken c.print_code.new.out)
    (text ++ codes "\n") (lines_of c.args.code.now) wrote took) c.print_code.ensures.prefix
