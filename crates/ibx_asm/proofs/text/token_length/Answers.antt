use Rattle.std.proofs.Common.{sym, ◌∙◌}
use Rattle.ibx_asm.proofs.Tokens.{mark_first, run_first}
use Rattle.ibx_asm.proofs.text.token_length.Goals as goal

pub returns-then-is_mark-clause-value : goal.returns-then-is_mark-clause-value
returns-then-is_mark-clause-value c = mark_first c.args.text.now c.requires.some c.requires.begins
    (sym c.is_mark.ensures ∙ c.if-is_mark.true)

pub returns-clause-value : goal.returns-clause-value
returns-clause-value c = run_first c.args.text.now c.unwrap_or.result c.requires.some c.requires.begins
    (sym c.is_mark.ensures ∙ c.if-is_mark.false) (rw (← c.first_not_plain.ensures.place) c.unwrap_or.ensures)
