-- A trap and a return keep the registers within their widths.
use Rattle.std.proofs.Common.{ℕ, ◌^◌, ◌<◌, Bool}
use Rattle.ibx_csr.specs.Values.{CsrValues, with_trap_regs, trap_regs}
use Rattle.ibx_csr.specs.Widths.{IsValues}
use Rattle.ibx_csr.proofs.Widths.{regs_keep}
use Rattle.ibx_trap.specs.Traps.{enter_of, leave_of}

-- a trap keeps the widths
pub enter_keeps : (v w : CsrValues) (pc cause tval : ℕ) (irq : Bool) → tval < 2 ^ 32 → IsValues v
    → IsValues (with_trap_regs v (enter_of (trap_regs w) pc cause irq tval))
unfolding enter_of
enter_keeps v w pc cause tval irq h z = regs_keep v (enter_of (trap_regs w) pc cause irq tval) h z

-- MRET keeps the widths, as it leaves mtval as it was
pub leave_keeps : (v w : CsrValues) → w.mtval < 2 ^ 32 → IsValues v
    → IsValues (with_trap_regs v (leave_of (trap_regs w)))
unfolding leave_of
leave_keeps v w h z = regs_keep v (leave_of (trap_regs w)) h z
