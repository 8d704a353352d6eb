use Rattle.std.proofs.Common.{◌≡◌, ◌+◌, ◌∙◌, length, arith}
use Rattle.std.proofs.lemmas.Result.{err_from_is_err_and}
use Rattle.ibx_plan.proofs.OneLine.{one_line, refused, at_end}
use Rattle.ibx_plan.proofs.reader.add_lines.Goals as goal

pub returns-in_err-add_line : goal.returns-in_err-add_line
returns-in_err-add_line c =
    let p = err_from_is_err_and c.from_residual.result c.from_residual.ensures.1 in
    rw (p.1, p.2, c.loop-rest.invariant.1)
    (refused c.in_err-add_line.field-0.0 c.args.bounds.now (c.loop-rest.number + 1) c.loop-rest.plan
    c.loop-rest.rest.now c.first_line.result.0.now c.first_line.result.1.now c.first_line.ensures.value
    c.in_err-add_line.ensures)

pub loop-rest-preserved : goal.loop-rest-preserved
loop-rest-preserved c = (
  omega arith,
  c.loop-rest.invariant.1 ∙ one_line c.args.bounds.now (c.loop-rest.number + 1) c.loop-rest.plan c.add_line.new.self
      c.loop-rest.rest.now c.first_line.result.0.now c.first_line.result.1.now c.first_line.ensures.value
      c.in_ok-add_line.ensures,
)

pub returns : goal.returns
returns c =
    let empty : length c.loop-rest.rest.now ≡ 0 = grind arith in
    c.loop-rest.invariant.1 ∙ at_end c.args.bounds.now (c.loop-rest.number + 1) c.loop-rest.plan c.loop-rest.rest.now
    empty
