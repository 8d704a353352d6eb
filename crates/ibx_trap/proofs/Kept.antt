-- A trap and a return leave no bit that a write doesn't keep.
use Rattle.std.proofs.Common.{◌≡◌, ℕ, ◌+◌, ◌-◌, ◌%◌, ◌^◌, ◌<◌, Bool, true, false, refl, ◌∙◌, arith}
use Rattle.std.specs.Prelude.{bit_and, bit_or, ◌&&◌, if◌then◌else◌}
use Rattle.std.proofs.lemmas.Nat.{and_or_apart, and_assoc, or_lt, and_le_l}
use Rattle.ibx_isa.specs.declared.trap.TrapRegs.{TrapRegs}
use Rattle.ibx_isa.specs.ControlBits.{mie_bit, mpie_bit, mpp_bits, mprv_bit, tw_bit, sync_exc_seen, double_fault_seen}
use Rattle.ibx_trap.specs.Bits.{set_if, cleared, has_some, has_all}
use Rattle.ibx_trap.specs.Traps.{entered_mstatus, left_mstatus, excepted, leave_of, IsKept}

-- the bits of mstatus that a write doesn't keep
abbrev other_bits : ℕ
other_bits = 2 ^ 32 - 1 - (mie_bit + mpie_bit + mpp_bits + mprv_bit + tw_bit)

-- bits that are kept add none
set-kept : (b : Bool) (m bits : ℕ) → bit_and bits other_bits ≡ 0
    → bit_and (set_if b m bits) other_bits ≡ bit_and m other_bits
set-kept true m bits apart = and_or_apart other_bits m bits apart
set-kept false m bits apart = and_or_apart other_bits m 0 refl

-- so it is after a trap's entry and after a return
pub entered-kept : (m : ℕ) (machine : Bool) → bit_and m other_bits ≡ 0
    → bit_and (entered_mstatus m machine) other_bits ≡ 0
entered-kept m machine h =
    set-kept machine (set_if (has_some m mie_bit) (cleared m (mie_bit + mpie_bit + mpp_bits)) mpie_bit) mpp_bits refl
    ∙ set-kept (has_some m mie_bit) (cleared m (mie_bit + mpie_bit + mpp_bits)) mpie_bit refl
    ∙ and_assoc other_bits m (2 ^ 32 - 1 - (mie_bit + mpie_bit + mpp_bits)) ∙ h

-- a return sets MIE, MPIE and MPRV of mstatus at most, which are bits that a write keeps
pub left-kept : (m : ℕ) (machine : Bool) → bit_and m other_bits ≡ 0 → bit_and (left_mstatus m machine) other_bits ≡ 0
left-kept m machine h =
    set-kept (machine && has_some m mprv_bit)
    (bit_or (set_if (has_some m mpie_bit) (cleared m (mie_bit + mpie_bit + mpp_bits + mprv_bit)) mie_bit) mpie_bit)
    mprv_bit refl
    ∙ and_or_apart other_bits (set_if (has_some m mpie_bit) (cleared m (mie_bit + mpie_bit + mpp_bits + mprv_bit))
    mie_bit) mpie_bit refl
    ∙ set-kept (has_some m mpie_bit) (cleared m (mie_bit + mpie_bit + mpp_bits + mprv_bit)) mie_bit refl
    ∙ and_assoc other_bits m (2 ^ 32 - 1 - (mie_bit + mpie_bit + mpp_bits + mprv_bit)) ∙ h

-- a byte stays a byte where bits of a byte are set in it
set-below : (b : Bool) (m bits : ℕ) → m < 2 ^ 8 → bits < 2 ^ 8 → set_if b m bits < 2 ^ 8
set-below true m bits h small = or_lt 8 m bits h small
set-below false m bits h small = or_lt 8 m 0 h (omega arith)

-- both marks of an exception lie within the byte of cpuctrl
pub excepted-below : (m : ℕ) → m < 2 ^ 8 → excepted m < 2 ^ 8
excepted-below m h = set-below (has_some m sync_exc_seen) (bit_or m sync_exc_seen) double_fault_seen
    (or_lt 8 m sync_exc_seen h (omega arith)) (omega arith)

-- the cause keeps to its bits below the interrupt flag
pub cause-kept : (irq : Bool) (cause : ℕ) → cause < 32 → (if irq then cause + 2 ^ 31 else cause) % 2 ^ 31 < 32
cause-kept true cause h = omega arith
cause-kept false cause h = omega arith

-- a byte without some of its bits is one
below-and : (m n : ℕ) → m < 2 ^ 8 → bit_and m n < 2 ^ 8
below-and m n h = let le = and_le_l m n in omega (arith, le)

-- and so does a return
pub leave-kept : (r : TrapRegs) → IsKept r → IsKept (leave_of r)
unfolding leave_of
leave-kept r h = record {
  mstatus = left-kept r.mstatus (has_all r.mstatus mpp_bits) h.mstatus;
  mtvec = h.mtvec;
  mepc = h.mepc;
  mcause = h.mcause;
  cpuctrl = below-and r.cpuctrl (2 ^ 32 - 1 - sync_exc_seen) h.cpuctrl;
}
