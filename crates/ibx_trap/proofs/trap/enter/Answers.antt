use Rattle.std.proofs.Common.{true, false}
use Rattle.ibx_trap.proofs.Kept.{entered-kept, cause-kept, excepted-below}
use Rattle.ibx_trap.proofs.trap.enter.Goals as goal
use Rattle.ibx_trap.proofs.trap.enter.Goals.{then-irq, else-irq}

pub returns-clause-kept : goal.returns-clause-kept
returns-clause-kept c = λ h even small.
    elim c.if-irq.branch [
      | then-irq w ↦ record {
        mstatus = rw c.stacked.ensures (entered-kept _ _ h.mstatus);
        mtvec = h.mtvec;
        mepc = even;
        mcause = rw w.mcause-is (cause-kept true c.args.cause small);
        cpuctrl = rw w.mcause-is h.cpuctrl;
      }
      | else-irq w ↦ record {
        mstatus = rw c.stacked.ensures (entered-kept _ _ h.mstatus);
        mtvec = h.mtvec;
        mepc = even;
        mcause = rw w.mcause-is (cause-kept false c.args.cause small);
        cpuctrl = rw (w.mcause-is, w.with_exception.ensures) (excepted-below _ h.cpuctrl);
      }
    ]
