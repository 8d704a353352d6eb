use Rattle.ibx_trap.specs.Traps.{leave_of}
use Rattle.ibx_trap.proofs.Kept.{leave-kept}
use Rattle.ibx_trap.proofs.trap.leave.Goals as goal

pub returns-clause-kept : goal.returns-clause-kept
unfolding leave_of
returns-clause-kept c = λ h. rw c.unstacked.ensures (leave-kept c.args.r.now h)
