use Rattle.std.proofs.Common.{◌≡◌, false, Ok, Err, take, ap, sym, ◌∙◌}
use Rattle.ibx_plan.specs.Line.{is_skipped, line_entry}
use Rattle.ibx_plan.specs.Plan.{with_line}
use Rattle.ibx_plan.specs.Text.{words}
use Rattle.ibx_plan.proofs.Cut.{skipped_cut, entry_cut}
use Rattle.ibx_plan.proofs.lists.Plan.add_line.Goals as goal

pub returns-in-Ok : goal.returns-in-Ok
unfolding with_line
returns-in-Ok c =
    let ws = words c.args.text.now in
    let a : is_skipped (take 8 ws) ≡ false =
    ap is_skipped (sym c.of-words.ensures) ∙ sym c.is_skipped.ensures ∙ c.if-is_skipped.false in
    let b : line_entry c.args.bounds.now (take 8 ws) ≡ Ok c.in-Ok.entry =
    ap (line_entry c.args.bounds.now) (sym c.of-words.ensures) ∙ sym c.line_entry.ensures ∙ c.in-Ok.is in
    rw (← skipped_cut ws, ← entry_cut c.args.bounds.now ws, a, b) c.add.ensures

pub returns-in-Err : goal.returns-in-Err
unfolding with_line
returns-in-Err c =
    let ws = words c.args.text.now in
    let a : is_skipped (take 8 ws) ≡ false =
    ap is_skipped (sym c.of-words.ensures) ∙ sym c.is_skipped.ensures ∙ c.if-is_skipped.false in
    let b : line_entry c.args.bounds.now (take 8 ws) ≡ Err c.in-Err.kind =
    ap (line_entry c.args.bounds.now) (sym c.of-words.ensures) ∙ sym c.line_entry.ensures ∙ c.in-Err.is in
    rw (← skipped_cut ws, ← entry_cut c.args.bounds.now ws, a, b)
