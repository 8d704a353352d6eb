-- The bits of the registers: what a write changes, what is fixed, and what stands there at reset.
use Rattle.std.specs.Prelude.{ℕ, ◌+◌, ◌-◌, ◌^◌, Bool, true, false, bit_and, bit_or, Option, Some, None}
use Rattle.ibx_bits.specs.Platform.{interrupt_lines}
use Rattle.ibx_isa.specs.ControlBits.{mie_bit, mpie_bit, mpp_bits, mprv_bit, tw_bit, cy_bit, ir_bit}
use Rattle.ibx_isa.specs.ControlBits.{mml_bit, mmwp_bit, rlb_bit}
use Rattle.ibx_csr.specs.declared.name.Csr.{Csr}
use Rattle.ibx_csr.specs.declared.name.Csr.TheVariants.{Mstatus, Misa, Mie, Mtvec, Mcountinhibit, Mscratch, Mepc}
use Rattle.ibx_csr.specs.declared.name.Csr.TheVariants.{Mcause, Mtval, Mip, Pmpcfg, Pmpaddr, Cpuctrl, Secureseed}
use Rattle.ibx_csr.specs.declared.name.Csr.TheVariants.{Mcycle, Mcycleh, Minstret, Minstreth, Marchid, Mseccfg, Zero}
use Rattle.ibx_csr.specs.declared.bits.CsrBits.{CsrBits}
use Rattle.ibx_csr.specs.Table.{csr_of}

-- a row: the bits that a write changes; a number whose bits among these are the reset, and whose other bits are
-- what the register always reads there; and whether the register controls the core
abbrev pub row : ℕ → ℕ → Bool → CsrBits
row kept value control = record { kept = kept; value = value; control = control }

-- The table (Privileged ISA 1.12, 3.1 and 3.7; cpuctrl, secureseed, mseccfg and the choice of control registers are our
-- own).
-- mie has software 3, timer 7, external 11 and fast 30:16; mtvec a base at a multiple of 256, and the vectored mode;
-- mcause interrupt 31 and the number 4:0. mip reads the interrupt lines. The configuration of the protection unit is
-- kept by its bytes and locks, mstatus by the rule of MPP beside its bits, mseccfg by the rules of its three bits, and
-- secureseed by no register of these.
abbrev pub bits_of : Csr → CsrBits
bits_of Mstatus = row (mie_bit + mpie_bit + mpp_bits + mprv_bit + tw_bit) mpie_bit true
bits_of Misa = row 0 0x40101104 false
bits_of Mie = row interrupt_lines 0 true
bits_of Mtvec = row 0xffffff00 0x00000001 false
bits_of Mcountinhibit = row (cy_bit + ir_bit) 0 false
bits_of Mscratch = row 0xffffffff 0 false
bits_of Mepc = row 0xfffffffe 0 false
bits_of Mcause = row 0x8000001f 0 false
bits_of Mtval = row 0xffffffff 0 false
bits_of Mip = row 0 0 false
bits_of (Pmpcfg k) = row 0x9f9f9f9f 0 true
bits_of (Pmpaddr k) = row 0xffffffff 0 true
bits_of Cpuctrl = row 0x000000ff 0 true
bits_of Secureseed = row 0 0 true
bits_of Mcycle = row 0xffffffff 0 false
bits_of Mcycleh = row 0xffffffff 0 false
bits_of Minstret = row 0xffffffff 0 false
bits_of Minstreth = row 0xffffffff 0 false
bits_of Marchid = row 0 0x00000016 false
bits_of Mseccfg = row (mml_bit + mmwp_bit + rlb_bit) 0 true
bits_of Zero = row 0 0 false

-- a word as a register with these bits holds it: its kept bits, and the fixed ones
abbrev pub legal : CsrBits → ℕ → ℕ
legal r word = bit_or (bit_and word r.kept) (bit_and r.value (2 ^ 32 - 1 - r.kept))

-- a word as this register holds it
abbrev pub legal_of : Csr → ℕ → ℕ
legal_of c word = legal (bits_of c) word

-- what a register holds at reset, and one without kept bits always
abbrev pub at_reset : Csr → ℕ
at_reset c = (bits_of c).value

-- the registers that control the core: what is written to them is told with the event
abbrev pub is_control : Csr → Bool
is_control c = (bits_of c).control

-- the same where there may be no register
abbrev pub is_control_in : Option Csr → Bool
is_control_in (Some c) = is_control c
is_control_in None = false

-- the same of the register at an address
abbrev pub is_control_at : ℕ → Bool
is_control_at a = is_control_in (csr_of a)
