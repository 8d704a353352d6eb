use Rattle.std.proofs.Common.{sym, ◌∙◌, ◌+◌}
use Rattle.std.proofs.lemmas.List.{take_rest}
use Rattle.ibx_asm.proofs.Lines.{first_of}
use Rattle.ibx_asm.proofs.text.first_line.Goals as goal

pub returns-in-Some-clause-value : goal.returns-in-Some-clause-value
returns-in-Some-clause-value c =
    let e = first_of c.args.text.now c.in-Some.end (sym c.line_end.ensures.place ∙ c.in-Some.is) in
    rw (c.without_return.ensures, take_rest c.args.text.now (c.in-Some.end + 1)) e
