use Rattle.std.proofs.Common.{ap, ◌∙◌}
use Rattle.ibx_isa.specs.declared.trap.TrapRegs.{TrapRegs}
use Rattle.ibx_csr.specs.Fields.{values}
use Rattle.ibx_csr.specs.Values.{with_trap_regs}
use Rattle.ibx_trap.specs.Traps.{enter_of}
use Rattle.ibx_time.specs.Controls.{ctl_of}
use Rattle.ibx_time.proofs.Controls.{ctl_of-enter}
use Rattle.ibx_views.proofs.observer.Observer.enter.Goals as goal

pub returns-clause-registers : goal.returns-clause-registers
returns-clause-registers c =
    ap ctl_of c.set_regs.ensures.values
    ∙ ap (λ (r : TrapRegs). ctl_of (with_trap_regs (values c.args.self.now.csrs) r))
    (c.enter.ensures.regs ∙ ap (λ (r : TrapRegs). enter_of r 0 0 c.args.irq 0) c.regs.ensures)
    ∙ ctl_of-enter (values c.args.self.now.csrs) 0 0 c.args.irq 0
