use Rattle.std.proofs.Common.{◌∙◌, ap, sym, subst, arith}
use Rattle.ibx_arch.specs.Laws.{IsAligned}
use Rattle.ibx_arch.specs.Step.{Stepped, Interrupt, step_with}
use Rattle.ibx_arch.proofs.Aligned.{stays_aligned}
use Rattle.ibx_step.specs.Machines.{state_of, stepped_to, choice_of}
use Rattle.ibx_step.proofs.Steps.{carried_prepared, interrupt_step, carried_aligned}
use Rattle.ibx_step.proofs.machine.Machine.take.Goals as goal

pub returns-in-Interrupt-clause-stepped : goal.returns-in-Interrupt-clause-stepped
returns-in-Interrupt-clause-stepped c =
    c.interrupt.ensures.stepped ∙ interrupt_step (state_of c.args.self.now) c.args.cycle c.args.lines
    c.in-Interrupt.number
    ∙ ap (λ choice. step_with (λ _. c.args.lines) (state_of c.args.self.now) (choice_of choice) c.args.cycle)
    (sym c.in-Interrupt.is)

pub returns-in-Interrupt-clause-aligned : goal.returns-in-Interrupt-clause-aligned
returns-in-Interrupt-clause-aligned c =
    subst (λ (x : Stepped). IsAligned x.next)
    (sym (c.interrupt.ensures.stepped
    ∙ interrupt_step (state_of c.args.self.now) c.args.cycle c.args.lines c.in-Interrupt.number))
    (stays_aligned (λ _. c.args.lines) (state_of c.args.self.now) (Interrupt c.in-Interrupt.number) c.args.cycle tt
    c.requires.aligned)

pub returns-in-Parcels-clause-stepped : goal.returns-in-Parcels-clause-stepped
returns-in-Parcels-clause-stepped c =
    carried_prepared (state_of c.args.self.now) c.args.cycle c.args.lines c.in-Parcels.first c.in-Parcels.second
    c.prepare-prepared.result (stepped_to c.carry_out.result c.carry_out.new.self)
    c.prepare-prepared.ensures.prepared c.carry_out.ensures.stepped
    ∙ ap (λ choice. step_with (λ _. c.args.lines) (state_of c.args.self.now) (choice_of choice) c.args.cycle)
    (sym c.in-Parcels.is)

pub returns-in-Parcels-clause-aligned : goal.returns-in-Parcels-clause-aligned
returns-in-Parcels-clause-aligned c =
    carried_aligned (state_of c.args.self.now) c.args.cycle c.args.lines c.in-Parcels.first c.in-Parcels.second
    c.prepare-prepared.result (stepped_to c.carry_out.result c.carry_out.new.self)
    c.prepare-prepared.ensures.prepared (omega arith) (omega arith) c.requires.aligned c.carry_out.ensures.stepped
