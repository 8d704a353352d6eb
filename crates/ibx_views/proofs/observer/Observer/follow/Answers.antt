use Rattle.std.proofs.Common.{sym, ap, ◌∙◌}
use Rattle.ibx_isa.specs.declared.trap.TrapRegs.{TrapRegs}
use Rattle.ibx_csr.specs.Fields.{values}
use Rattle.ibx_csr.specs.Values.{with_trap_regs}
use Rattle.ibx_trap.specs.Traps.{leave_of}
use Rattle.ibx_time.specs.Controls.{ctl_of}
use Rattle.ibx_time.proofs.Controls.{ctl_of-leave, ctl_of-write}
use Rattle.ibx_views.specs.TimeViews.{ctl_changed}
use Rattle.ibx_views.specs.Observers.{ctl_in}
use Rattle.ibx_views.proofs.observer.Observer.follow.Goals as goal

pub returns-in-Returned-clause-registers : goal.returns-in-Returned-clause-registers
returns-in-Returned-clause-registers c =
    ap ctl_of c.set_regs.ensures.values
    ∙ ap (λ (r : TrapRegs). ctl_of (with_trap_regs (values c.args.self.now.csrs) r))
    (c.leave.ensures.regs ∙ ap leave_of c.regs.ensures)
    ∙ ctl_of-leave (values c.args.self.now.csrs)
    ∙ ap (ctl_changed (ctl_in c.args.self.now)) (sym c.in-Returned.is)

pub returns-in-Wrote-clause-registers : goal.returns-in-Wrote-clause-registers
returns-in-Wrote-clause-registers c =
    ap ctl_of c.write.ensures.values
    ∙ ctl_of-write (values c.args.self.now.csrs) c.in-Wrote.addr c.in-Wrote.value
    ∙ ap (ctl_changed (ctl_in c.args.self.now)) (sym c.in-Wrote.is)
