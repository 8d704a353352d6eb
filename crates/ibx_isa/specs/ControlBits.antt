-- The bits of the registers that control the core, as words.
use Rattle.std.specs.Prelude.{ℕ}

-- mstatus (Privileged ISA 1.12, 3.1.6): MIE, interrupts are enabled; MPIE, the same before the trap; MPP, the mode
-- before the trap (3 for M, 0 for U); MPRV, loads and stores use that mode; TW, WFI is illegal in U mode
abbrev pub mie_bit : ℕ
mie_bit = 0x8

-- MPIE, bit 7: a trap saves MIE here, and MRET restores it
abbrev pub mpie_bit : ℕ
mpie_bit = 0x80

-- MPP, bits 12:11: the mode to which MRET returns
abbrev pub mpp_bits : ℕ
mpp_bits = 0x1800

-- MPRV, bit 17: loads and stores are checked as of the mode in MPP
abbrev pub mprv_bit : ℕ
mprv_bit = 0x20000

-- TW, bit 21: WFI in U mode is an illegal instruction
abbrev pub tw_bit : ℕ
tw_bit = 0x200000

-- mcountinhibit (3.1.12): CY, mcycle stands still; IR, minstret does
abbrev pub cy_bit : ℕ
cy_bit = 0x1

-- IR, bit 2: minstret does not count
abbrev pub ir_bit : ℕ
ir_bit = 0x4

-- cpuctrl (our own layout): the cache is on, timing doesn't depend on operands, dummy instructions come, the mask
-- of their distance, an exception was taken since the last return, and another one in its handler
abbrev pub icache_enable : ℕ
icache_enable = 0x1

-- bit 1: the time of an instruction is independent of its operands
abbrev pub data_ind_timing : ℕ
data_ind_timing = 0x2

-- bit 2: dummy instructions are inserted among the real ones
abbrev pub dummy_instr_en : ℕ
dummy_instr_en = 0x4

-- bits 5:3: the mask of the distance between dummy instructions
abbrev pub dummy_instr_mask : ℕ
dummy_instr_mask = 0x38

-- bit 6: set by an exception, and cleared by MRET
abbrev pub sync_exc_seen : ℕ
sync_exc_seen = 0x40

-- bit 7: set by an exception that comes while bit 6 is set; MRET leaves it
abbrev pub double_fault_seen : ℕ
double_fault_seen = 0x80

-- mseccfg (our own profile after Smepmp 1.0): MML, entries say what each mode may do by the table of sixteen rows;
-- MMWP, M mode needs an entry that allows; RLB, locked entries can be written
abbrev pub mml_bit : ℕ
mml_bit = 0x1

-- MMWP, bit 1: where no entry matches M mode is refused too
abbrev pub mmwp_bit : ℕ
mmwp_bit = 0x2

-- RLB, bit 2: the lock of an entry is not looked at
abbrev pub rlb_bit : ℕ
rlb_bit = 0x4
