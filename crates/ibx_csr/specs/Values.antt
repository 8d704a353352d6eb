-- The registers as an instruction sees them, and what reads, writes and time do to them.
use Rattle.std.specs.Prelude.{◌≡◌, ◌≢◌, ℕ, ◌+◌, ◌/◌, ◌%◌, ◌^◌, List, [], ◌∷◌, Option, Some, None, Bool, true, false}
use Rattle.std.specs.Prelude.{not, ◌||◌, bit_and, ◌==◌, if◌then◌else◌, slice_index, slice_set}
use Rattle.ibx_isa.specs.declared.trap.TrapRegs.{TrapRegs}
use Rattle.ibx_csr.specs.declared.name.Csr.{Csr}
use Rattle.ibx_csr.specs.declared.name.Csr.TheVariants.{Mstatus, Mie, Mtvec, Mcountinhibit, Mscratch, Mepc, Mcause}
use Rattle.ibx_csr.specs.declared.name.Csr.TheVariants.{Mtval, Mip, Pmpcfg, Pmpaddr, Cpuctrl, Mcycle, Mcycleh}
use Rattle.ibx_csr.specs.declared.name.Csr.TheVariants.{Minstret, Minstreth, Mseccfg}
use Rattle.ibx_isa.specs.ControlBits.{cy_bit, ir_bit}
use Rattle.ibx_csr.specs.Bits.{legal_of, at_reset}
use Rattle.ibx_csr.specs.Table.{csr_of, readable, writable}
use Rattle.ibx_csr.specs.Kept.{kept_mstatus, stored_mstatus, kept_mtvec, kept_mepc, with_low, with_high, stored_cfg}
use Rattle.ibx_csr.specs.Kept.{bytes_of, is_addr_held, stored_sec}

-- the mode, true for M, the registers, and the counters with 64 bits; four words of configuration and
-- sixteen addresses of the protection unit, and the bits that say how it reads them
pub record CsrValues : Type 0 where
  pub machine : Bool
  pub mstatus : ℕ
  pub mie : ℕ
  pub mtvec : ℕ
  pub mscratch : ℕ
  pub mepc : ℕ
  pub mcause : ℕ
  pub mtval : ℕ
  pub cpuctrl : ℕ
  pub mcountinhibit : ℕ
  pub mcycle : ℕ
  pub minstret : ℕ
  pub pmpcfg : List ℕ
  pub pmpaddr : List ℕ
  pub mseccfg : ℕ

-- at reset the mode is M, and the handlers lie below the entry (our own reset values)
unfoldable pub csr_reset : ℕ → CsrValues
csr_reset entry = let cfg = at_reset (Pmpcfg 0) in let addr = at_reset (Pmpaddr 0) in record {
  machine = true;
  mstatus = at_reset Mstatus;
  mie = at_reset Mie;
  mtvec = legal_of Mtvec entry;
  mscratch = at_reset Mscratch;
  mepc = at_reset Mepc;
  mcause = at_reset Mcause;
  mtval = at_reset Mtval;
  cpuctrl = at_reset Cpuctrl;
  mcountinhibit = at_reset Mcountinhibit;
  mcycle = 0;
  minstret = 0;
  pmpcfg = cfg ∷ cfg ∷ cfg ∷ cfg ∷ [];
  pmpaddr =
      addr ∷ addr ∷ addr ∷ addr ∷ addr ∷ addr ∷ addr ∷ addr ∷ addr ∷ addr ∷ addr ∷ addr ∷ addr ∷ addr ∷ addr ∷ addr
      ∷ [];
  mseccfg = at_reset Mseccfg;
}

-- what a register reads; mip reads the interrupt lines
unfoldable pub value_of : CsrValues → Csr → ℕ → ℕ
value_of v Mstatus lines = v.mstatus
value_of v Mie lines = v.mie
value_of v Mtvec lines = v.mtvec
value_of v Mcountinhibit lines = v.mcountinhibit
value_of v Mscratch lines = v.mscratch
value_of v Mepc lines = v.mepc
value_of v Mcause lines = v.mcause
value_of v Mtval lines = v.mtval
value_of v Mip lines = lines
value_of v (Pmpcfg k) lines = slice_index v.pmpcfg k
value_of v (Pmpaddr k) lines = slice_index v.pmpaddr k
value_of v Cpuctrl lines = v.cpuctrl
value_of v Mcycle lines = v.mcycle % 2 ^ 32
value_of v Mcycleh lines = v.mcycle / 2 ^ 32
value_of v Minstret lines = v.minstret % 2 ^ 32
value_of v Minstreth lines = v.minstret / 2 ^ 32
value_of v Mseccfg lines = v.mseccfg
value_of v c lines = at_reset c

-- what the register reads that there is, if there is one
abbrev pub value_at : CsrValues → ℕ → Option Csr → Option ℕ
value_at v lines (Some c) = Some (value_of v c lines)
value_at v lines None = None

-- a read of an address; none where the table has no register there, or the mode is U
unfoldable pub csr_read : CsrValues → ℕ → ℕ → Option ℕ
csr_read v a lines = value_at v lines (readable v.machine a)

-- the sixteen configuration bytes, that of entry 0 first
abbrev pub cfg_bytes : CsrValues → List ℕ
cfg_bytes v = bytes_of v.pmpcfg

-- MML, MMWP and RLB, as the protection unit sees them
abbrev pub sec_of : CsrValues → ℕ
sec_of v = v.mseccfg % 8

-- what a write to a register leaves: its legal bits, and where it has a rule of its own, what that says;
-- no other register is stored
unfoldable pub put_value : CsrValues → Csr → ℕ → CsrValues
put_value v Mstatus w = record v { mstatus = stored_mstatus w }
put_value v Mie w = record v { mie = legal_of Mie w }
put_value v Mtvec w = record v { mtvec = legal_of Mtvec w }
put_value v Mcountinhibit w = record v { mcountinhibit = legal_of Mcountinhibit w }
put_value v Mscratch w = record v { mscratch = legal_of Mscratch w }
put_value v Mepc w = record v { mepc = legal_of Mepc w }
put_value v Mcause w = record v { mcause = legal_of Mcause w }
put_value v Mtval w = record v { mtval = legal_of Mtval w }
put_value v (Pmpcfg k) w =
    record v { pmpcfg = slice_set v.pmpcfg k (stored_cfg v.mseccfg (slice_index v.pmpcfg k) w) }
put_value v (Pmpaddr k) w =
    if is_addr_held v.mseccfg (cfg_bytes v) k then v else record v { pmpaddr = slice_set v.pmpaddr k w }
put_value v Cpuctrl w = record v { cpuctrl = legal_of Cpuctrl w }
put_value v Mcycle w = record v { mcycle = with_low v.mcycle w }
put_value v Mcycleh w = record v { mcycle = with_high v.mcycle w }
put_value v Minstret w = record v { minstret = with_low v.minstret w }
put_value v Minstreth w = record v { minstret = with_high v.minstret w }
put_value v Mseccfg w = record v { mseccfg = stored_sec v.mseccfg (cfg_bytes v) w }
put_value v _ w = v

-- whether there is a register
abbrev pub is_there : Option Csr → Bool
is_there (Some c) = true
is_there None = false

-- whether an address can be written: not where a read gives nothing, nor where it is read-only
unfoldable pub csr_can_write : CsrValues → ℕ → Bool
csr_can_write v a = is_there (writable v.machine a)

-- a write to the register that there is, if there is one
abbrev pub put_at : CsrValues → ℕ → Option Csr → CsrValues
put_at v w (Some c) = put_value v c w
put_at v w None = v

-- what a write to an address leaves; the same where it can't be written
unfoldable pub csr_write : CsrValues → ℕ → ℕ → CsrValues
csr_write v a w = put_at v w (writable v.machine a)

-- each register that an address doesn't name reads the same
abbrev pub OthersStay : CsrValues → CsrValues → ℕ → Type 0
OthersStay old new a = (c : Csr) (lines : ℕ) → csr_of a ≢ Some c → value_of new c lines ≡ value_of old c lines

-- whether a write is to one of the two halves of a counter
abbrev pub writes_half : ℕ → ℕ → Option ℕ → Bool
writes_half low high (Some a) = a == low || a == high
writes_half low high None = false

-- One cycle of a 64-bit count (Privileged ISA 1.12, 3.1.10 and 3.1.12). It stands still where it is inhibited,
-- or one of its halves is written in that cycle (our own rule).
abbrev pub counted : ℕ → Bool → ℕ
counted count stands = if stands then count else (count + 1) % 2 ^ 64

-- whether mcycle stands still: one of its halves is written, or it is inhibited
abbrev pub mcycle_stands : ℕ → Option ℕ → Bool
mcycle_stands inhibit wrote = writes_half 0xb00 0xb80 wrote || not (bit_and inhibit cy_bit == 0)

-- minstret counts the retired instructions, and not the one that writes it
abbrev pub minstret_stands : ℕ → Bool → Option ℕ → Bool
minstret_stands inhibit retired wrote =
    not retired || writes_half 0xb02 0xb82 wrote || not (bit_and inhibit ir_bit == 0)

-- One cycle, before the write that is made in it: whether an instruction retires, and the address that it
-- writes.
unfoldable pub csr_tick : CsrValues → Bool → Option ℕ → CsrValues
csr_tick v retired wrote = record v {
  mcycle = counted v.mcycle (mcycle_stands v.mcountinhibit wrote);
  minstret = counted v.minstret (minstret_stands v.mcountinhibit retired wrote);
}

-- n cycles without a retirement and a write
unfoldable pub counters_after : CsrValues → ℕ → CsrValues
counters_after v n =
    record v { mcycle = if bit_and v.mcountinhibit cy_bit == 0 then (v.mcycle + n) % 2 ^ 64 else v.mcycle }

-- the registers that a trap reads
abbrev pub trap_regs : CsrValues → TrapRegs
trap_regs v = record {
  machine = v.machine;
  mstatus = v.mstatus;
  mtvec = v.mtvec;
  mepc = v.mepc;
  mcause = v.mcause;
  mtval = v.mtval;
  cpuctrl = v.cpuctrl;
}

-- those registers within the bits that they keep
abbrev pub kept_regs : TrapRegs → TrapRegs
kept_regs r = record {
  machine = r.machine;
  mstatus = kept_mstatus r.mstatus;
  mtvec = kept_mtvec r.mtvec;
  mepc = kept_mepc r.mepc;
  mcause = legal_of Mcause r.mcause;
  mtval = r.mtval;
  cpuctrl = legal_of Cpuctrl r.cpuctrl;
}

-- what a trap leaves
unfoldable pub with_trap_regs : CsrValues → TrapRegs → CsrValues
with_trap_regs v r =
    let k = kept_regs r in
    record v {
      machine = k.machine;
      mstatus = k.mstatus;
      mtvec = k.mtvec;
      mepc = k.mepc;
      mcause = k.mcause;
      mtval = k.mtval;
      cpuctrl = k.cpuctrl;
    }
