-- The control registers follow the architecture: what an event leaves of them depends on them alone.
use Rattle.std.proofs.Common.{◌≡◌, ℕ, Bool, true, false, Option, Some, None, refl}
use Rattle.std.specs.Prelude.{slice_set, if◌then◌else◌}
use Rattle.ibx_csr.specs.declared.name.Csr.{Csr}
use Rattle.ibx_csr.specs.declared.name.Csr.TheVariants.{Mstatus, Mie, Pmpcfg, Pmpaddr, Cpuctrl, Mseccfg}
use Rattle.ibx_csr.specs.Kept.{is_addr_held}
use Rattle.ibx_csr.specs.Bits.{is_control_at}
use Rattle.ibx_csr.specs.Table.{writable}
use Rattle.ibx_csr.specs.Values.{CsrValues, cfg_bytes, csr_reset, csr_tick, csr_write, counters_after, put_at}
use Rattle.ibx_csr.specs.Values.{put_value, trap_regs, with_trap_regs}
use Rattle.ibx_trap.specs.Traps.{enter_of, leave_of}
use Rattle.ibx_time.specs.Controls.{ctl_of, values_of, ctl_entered, ctl_left, ctl_written, ctl_reset}
use Rattle.ibx_time.proofs.Registers.{is_loose, writable_loose}

-- counters move none of them, and what reset, a trap, MRET and a write leave of them is told by them alone
pub ctl_of-counters : (v : CsrValues) (n : ℕ) → ctl_of (counters_after v n) ≡ ctl_of v
unfolding counters_after
ctl_of-counters v n = refl

-- a cycle of the counters moves no register that time depends on
pub ctl_of-tick : (v : CsrValues) (retired : Bool) (wrote : Option ℕ) → ctl_of (csr_tick v retired wrote) ≡ ctl_of v
unfolding csr_tick
ctl_of-tick v retired wrote = refl

-- at reset they have the same values whatever the entry
pub ctl_of-reset : (entry : ℕ) → ctl_of (csr_reset entry) ≡ ctl_reset
unfolding csr_reset
ctl_of-reset entry = refl

-- what entering a handler leaves of them doesn't depend on the program counter, the cause or the value
pub ctl_of-enter : (v : CsrValues) (pc cause : ℕ) (irq : Bool) (tval : ℕ)
    → ctl_of (with_trap_regs v (enter_of (trap_regs v) pc cause irq tval)) ≡ ctl_entered (ctl_of v) irq
unfolding with_trap_regs enter_of
ctl_of-enter v pc cause irq tval = refl

-- MRET leaves of them what it leaves where all other registers are 0
pub ctl_of-leave : (v : CsrValues) → ctl_of (with_trap_regs v (leave_of (trap_regs v))) ≡ ctl_left (ctl_of v)
unfolding with_trap_regs leave_of
ctl_of-leave v = refl

-- a write leaves of them what it leaves where all other registers are 0: for one register, for one that there may be,
-- and at an address
by_register : (v : CsrValues) (c : Csr) (w : ℕ)
    → ctl_of (put_value v c w) ≡ ctl_of (put_value (values_of (ctl_of v)) c w)
unfolding put_value
by_register v (Pmpaddr k) w = by_held (is_addr_held v.mseccfg (cfg_bytes v) k)
  where
    by_held : (b : Bool) → ctl_of (if b then v else record v { pmpaddr = slice_set v.pmpaddr k w })
        ≡ ctl_of (if b then values_of (ctl_of v)
        else record (values_of (ctl_of v)) { pmpaddr = slice_set v.pmpaddr k w })
    by_held true = refl
    by_held false = refl
by_register v _ w = refl

-- the same for the register that there may be; without one nothing is written
by_found : (v : CsrValues) (o : Option Csr) (w : ℕ)
    → ctl_of (put_at v w o) ≡ ctl_of (put_at (values_of (ctl_of v)) w o)
by_found v None w = refl
by_found v (Some c) w = by_register v c w

-- what a write leaves of them is told by them, the address and the value
pub ctl_of-write : (v : CsrValues) (a w : ℕ) → ctl_of (csr_write v a w) ≡ ctl_written (ctl_of v) a w
unfolding csr_write
ctl_of-write v a w = by_found v (writable v.machine a) w

-- ---- a write of another register leaves them

-- one for a register, one for one that there may be, and one for an address
loose_put : (v : CsrValues) (c : Csr) (w : ℕ) → is_loose (Some c) ≡ true → ctl_of (put_value v c w) ≡ ctl_of v
unfolding put_value
loose_put v Mstatus w e = absurd (cc)
loose_put v Mie w e = absurd (cc)
loose_put v (Pmpcfg k) w e = absurd (cc)
loose_put v (Pmpaddr k) w e = absurd (cc)
loose_put v Cpuctrl w e = absurd (cc)
loose_put v Mseccfg w e = absurd (cc)
loose_put v _ w e = refl

-- a write that finds no register, or a loose one, leaves them
loose_found : (v : CsrValues) (o : Option Csr) (w : ℕ) → is_loose o ≡ true → ctl_of (put_at v w o) ≡ ctl_of v
loose_found v None w e = refl
loose_found v (Some c) w e = loose_put v c w e

-- a write at an address of no control register leaves the registers that time depends on
pub ctl_of-other : (v : CsrValues) (a w : ℕ) → is_control_at a ≡ false → ctl_of (csr_write v a w) ≡ ctl_of v
unfolding csr_write
ctl_of-other v a w e = loose_found v (writable v.machine a) w (writable_loose v.machine a e)
