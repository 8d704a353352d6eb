use Rattle.std.proofs.Common.{◌∙◌, sym, arith}
use Rattle.ibx_arch.specs.Step.{present_step}
use Rattle.ibx_step.specs.Machines.{state_of, stepped_to}
use Rattle.ibx_step.proofs.Steps.{steps_none, steps_some, step_waits, step_goes, carried_aligned}
use Rattle.ibx_step.proofs.machine.Machine.step.Goals as goal

pub returns-then-waits-clause-stepped : goal.returns-then-waits-clause-stepped
returns-then-waits-clause-stepped c =
    let s = state_of c.args.self.now in
    steps_none s (present_step s c.args.cycle)
    (step_waits s c.args.cycle c.parcel-first.result c.parcel-second.result c.prepare-prepared.result
    (record {
      first_is = c.parcel-first.ensures;
      second_is = c.parcel-second.ensures;
      is = c.prepare-prepared.ensures.prepared;
    })
    (sym c.waits.ensures ∙ c.if-waits.true))

pub returns-clause-stepped : goal.returns-clause-stepped
returns-clause-stepped c =
    let s = state_of c.args.self.now in
    steps_some s (state_of c.carry_out.new.self) (present_step s c.args.cycle) c.carry_out.result
    (step_goes s c.args.cycle c.parcel-first.result c.parcel-second.result c.prepare-prepared.result
    (stepped_to c.carry_out.result c.carry_out.new.self)
    (record {
      first_is = c.parcel-first.ensures;
      second_is = c.parcel-second.ensures;
      is = c.prepare-prepared.ensures.prepared;
    })
    (sym c.waits.ensures ∙ c.if-waits.false)
    c.carry_out.ensures.stepped)

pub returns-clause-aligned : goal.returns-clause-aligned
returns-clause-aligned c =
    carried_aligned (state_of c.args.self.now) c.args.cycle 0 c.parcel-first.result c.parcel-second.result
    c.prepare-prepared.result (stepped_to c.carry_out.result c.carry_out.new.self)
    c.prepare-prepared.ensures.prepared (omega arith) (omega arith) c.requires.aligned c.carry_out.ensures.stepped
