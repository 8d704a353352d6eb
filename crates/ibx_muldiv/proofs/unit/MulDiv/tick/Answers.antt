use Rattle.std.proofs.Common.{sym, ap, ◌∙◌, subst, arith}
use Rattle.ibx_muldiv.specs.declared.unit.MulDiv.{MulDiv}
use Rattle.ibx_muldiv.specs.Steps.{step_of}
use Rattle.ibx_muldiv.specs.Unit.{seen, packed, tick_of, left_of, Finishes}
use Rattle.ibx_muldiv.proofs.Fields.{sized_fields, sized_step}
use Rattle.ibx_muldiv.proofs.Cycles.{left_of-seen, left_of-tick, tick_finishes}
use Rattle.ibx_muldiv.proofs.unit.MulDiv.tick.Goals as goal

pub step-requires : goal.step-requires
step-requires c = rw c.unpack.ensures (omega (arith, c.requires, left_of-seen c.args.self.now))

pub pack-requires-clause-left : goal.pack-requires-clause-left
pack-requires-clause-left c =
    rw (c.step.ensures, c.unpack.ensures) (sized_step (seen c.args.self.now) (sized_fields c.args.self.now)).left

pub pack-requires-clause-pace : goal.pack-requires-clause-pace
pack-requires-clause-pace c =
    rw (c.step.ensures, c.unpack.ensures) (sized_step (seen c.args.self.now) (sized_fields c.args.self.now)).pace

fields-are : goal.returns-clause-fields
unfolding tick_of
fields-are c = c.pack.ensures ∙ ap packed (c.step.ensures ∙ ap step_of c.unpack.ensures)

pub returns-clause-fields : goal.returns-clause-fields
returns-clause-fields c = fields-are c

pub returns-clause-left : goal.returns-clause-left
returns-clause-left c = rw (fields-are c) (left_of-tick c.args.self.now c.requires)

pub returns-clause-promise : goal.returns-clause-promise
returns-clause-promise c =
    λ value f. subst (λ (m : MulDiv). Finishes m (left_of m) value) (sym (fields-are c))
    (tick_finishes c.args.self.now value c.requires f)
