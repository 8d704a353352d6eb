-- What a trap and a return from it do to the registers.
use Rattle.std.specs.Prelude.{◌≡◌, ◌<◌, ◌-◌, bit_and, ℕ, ◌+◌, ◌*◌, ◌%◌, ◌^◌, Bool, true, ◌&&◌, if◌then◌else◌}
use Rattle.ibx_isa.specs.declared.trap.TrapRegs.{TrapRegs}
use Rattle.ibx_isa.specs.ControlBits.{mie_bit, mpie_bit, mpp_bits, mprv_bit, tw_bit, sync_exc_seen, double_fault_seen}
use Rattle.ibx_trap.specs.Bits.{has_some, has_all, cleared, set, set_if}

-- A trap from a mode (Privileged ISA 1.12, 3.1.6.1): MPIE takes MIE, MIE becomes 0, MPP takes the mode.
abbrev pub entered_mstatus : ℕ → Bool → ℕ
entered_mstatus mstatus machine =
    set_if machine (set_if (has_some mstatus mie_bit) (cleared mstatus (mie_bit + mpie_bit + mpp_bits)) mpie_bit)
    mpp_bits

-- an exception marks cpuctrl, twice where an earlier one was not returned from (our own rule)
abbrev pub excepted : ℕ → ℕ
excepted cpuctrl = set_if (has_some cpuctrl sync_exc_seen) (set cpuctrl sync_exc_seen) double_fault_seen

-- The registers after a trap: mepc is the program counter, mcause the number, with bit 31 for an interrupt
-- (3.1.14 to 3.1.16). An interrupt leaves cpuctrl.
unfoldable pub enter_of : TrapRegs → ℕ → ℕ → Bool → ℕ → TrapRegs
enter_of r pc cause irq tval = record {
  machine = true;
  mstatus = entered_mstatus r.mstatus r.machine;
  mtvec = r.mtvec;
  mepc = pc;
  mcause = if irq then cause + 2 ^ 31 else cause;
  mtval = tval;
  cpuctrl = if irq then r.cpuctrl else excepted r.cpuctrl;
}

-- where a trap goes: an exception to the base of mtvec, interrupt n to base + 4n (3.1.7, vectored mode);
-- the base is a multiple of 256
unfoldable pub enter_target : TrapRegs → ℕ → Bool → ℕ
enter_target r cause irq = let base = cleared r.mtvec 0xff in if irq then (base + 4 * cause) % 2 ^ 32 else base

-- MRET to a mode (3.1.6.1 and 3.3.2): MIE takes MPIE, MPIE becomes 1, MPP becomes U, and MPRV becomes 0
-- where the mode is U.
abbrev pub left_mstatus : ℕ → Bool → ℕ
left_mstatus mstatus machine =
    set_if (machine && has_some mstatus mprv_bit)
    (set (set_if (has_some mstatus mpie_bit) (cleared mstatus (mie_bit + mpie_bit + mpp_bits + mprv_bit)) mie_bit)
    mpie_bit) mprv_bit

-- the registers after MRET; the mode is that of MPP, and cpuctrl forgets the exception (our own rule)
unfoldable pub leave_of : TrapRegs → TrapRegs
leave_of r = let machine = has_all r.mstatus mpp_bits in record r {
  machine = machine;
  mstatus = left_mstatus r.mstatus machine;
  cpuctrl = cleared r.cpuctrl sync_exc_seen;
}

-- registers that have no bit that a write doesn't keep: mstatus those of its five fields, mtvec a multiple of 256 and
-- 1, mepc even, mcause bits 31 and 4:0, cpuctrl 8 bits
pub record IsKept (r : TrapRegs) : Type 0 where
  pub mstatus : bit_and r.mstatus (2 ^ 32 - 1 - (mie_bit + mpie_bit + mpp_bits + mprv_bit + tw_bit)) ≡ 0
  pub mtvec : r.mtvec % 256 ≡ 1
  pub mepc : r.mepc % 2 ≡ 0
  pub mcause : r.mcause % 2 ^ 31 < 32
  pub cpuctrl : r.cpuctrl < 2 ^ 8
