use Rattle.std.proofs.Common.{ℕ, sym, ap, ◌∙◌, subst, arith}
use Rattle.ibx_isa.specs.Multiply.{md_value}
use Rattle.ibx_muldiv.specs.declared.unit.MulDiv.{MulDiv}
use Rattle.ibx_muldiv.specs.Operands.{is_division}
use Rattle.ibx_muldiv.specs.Unit.{begun, packed, start_of, left_of, Finishes}
use Rattle.ibx_muldiv.proofs.Cycles.{begun_sized, left_of-start, start_finishes}
use Rattle.ibx_muldiv.proofs.unit.MulDiv.start.Goals as goal

pub pack-requires-clause-left : goal.pack-requires-clause-left
pack-requires-clause-left c =
    let sized = begun_sized c.args.op c.args.a c.args.b c.md_cost-left.result c.args.mul c.ranges.a.fits
    c.ranges.b.fits (omega (arith, c.md_cost-left.ensures.most)) in
    rw c.begin.ensures sized.left

pub pack-requires-clause-pace : goal.pack-requires-clause-pace
pack-requires-clause-pace c =
    let sized = begun_sized c.args.op c.args.a c.args.b c.md_cost-left.result c.args.mul c.ranges.a.fits
    c.ranges.b.fits (omega (arith, c.md_cost-left.ensures.most)) in
    rw c.begin.ensures sized.pace

fields-are : goal.returns-clause-fields
unfolding start_of
fields-are c =
    c.pack.ensures ∙ ap packed (c.begin.ensures
    ∙ ap (λ (n : ℕ). begun (is_division c.args.op) c.args.op c.args.a c.args.b n c.args.mul)
    c.md_cost-left.ensures.value)

pub returns-clause-fields : goal.returns-clause-fields
returns-clause-fields c = fields-are c

pub returns-clause-left : goal.returns-clause-left
returns-clause-left c = rw (fields-are c)
    (left_of-start c.args.op c.args.a c.args.b c.args.fixed c.args.mul c.ranges.a.fits c.ranges.b.fits)

pub returns-clause-promise : goal.returns-clause-promise
returns-clause-promise c =
    subst (λ (m : MulDiv). Finishes m (left_of m) (md_value c.args.op c.args.a c.args.b)) (sym (fields-are c))
    (start_finishes c.args.op c.args.a c.args.b c.args.fixed c.args.mul c.ranges.a.fits c.ranges.b.fits)
