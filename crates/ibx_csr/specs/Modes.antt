-- What the mode and mstatus allow (Privileged ISA 1.12, 3.1.6).
use Rattle.std.specs.Prelude.{Bool, ◌&&◌, ◌||◌, ◌==◌, bit_and}
use Rattle.ibx_isa.specs.ControlBits.{mpp_bits, mprv_bit, tw_bit}
use Rattle.ibx_csr.specs.Values.{CsrValues}

-- loads and stores use the mode before the trap where MPRV says so, in M mode alone; that mode is M where MPP is 3
-- (3.1.6.3)
abbrev pub access_machine : CsrValues → Bool
access_machine v = v.machine && (bit_and v.mstatus mprv_bit == 0 || bit_and v.mstatus mpp_bits == mpp_bits)

-- WFI is illegal in U mode where TW is 1 (3.1.6.5)
abbrev pub may_wait : CsrValues → Bool
may_wait v = v.machine || bit_and v.mstatus tw_bit == 0
