-- The registers as the fields of the unit, with the complements of the guarded ones; each call has a meaning
-- on every value of the fields.
use Rattle.std.specs.Prelude.{◌≡◌, ℕ, ◌^◌, List, [], ◌∷◌, Option, Some, None, Bool, true, not, ◌||◌, ◌==◌}
use Rattle.std.specs.Prelude.{if◌then◌else◌, slice_index, ◌+◌, ◌%◌, bit_and}
use Rattle.std.specs.List.{list_any}
use Rattle.ibx_bits.specs.Bytes.{complement}
use Rattle.ibx_isa.specs.declared.trap.TrapRegs.{TrapRegs}
use Rattle.ibx_csr.specs.declared.name.Csr.{Csr}
use Rattle.ibx_csr.specs.declared.name.Csr.TheVariants.{Mstatus, Mie, Mtvec, Mcountinhibit, Mscratch, Mepc, Mcause}
use Rattle.ibx_csr.specs.declared.name.Csr.TheVariants.{Mtval, Pmpcfg, Pmpaddr, Cpuctrl, Mcycle, Mcycleh, Minstret}
use Rattle.ibx_csr.specs.declared.name.Csr.TheVariants.{Minstreth, Mseccfg}
use Rattle.ibx_csr.specs.declared.csrs.Csrs.{Csrs}
use Rattle.ibx_csr.specs.Table.{writable}
use Rattle.ibx_csr.specs.Kept.{stored_mstatus, with_low, with_high, stored_cfg, is_addr_held, stored_sec}
use Rattle.ibx_csr.specs.Values.{CsrValues, counted, mcycle_stands, minstret_stands, cfg_bytes, kept_regs}
use Rattle.ibx_isa.specs.ControlBits.{cy_bit}
use Rattle.ibx_csr.specs.Bits.{legal_of, at_reset}

-- the words of configuration and the addresses of the protection unit
abbrev pub cfgs : Csrs → List ℕ
cfgs s = s.pmpcfg0 ∷ s.pmpcfg1 ∷ s.pmpcfg2 ∷ s.pmpcfg3 ∷ []

-- the words of pmpaddr0 to pmpaddr15, one for each entry of the protection unit
abbrev pub addrs : Csrs → List ℕ
addrs s = s.pmpaddr0 ∷ s.pmpaddr1 ∷ s.pmpaddr2 ∷ s.pmpaddr3 ∷ s.pmpaddr4 ∷ s.pmpaddr5 ∷ s.pmpaddr6 ∷ s.pmpaddr7
    ∷ s.pmpaddr8 ∷ s.pmpaddr9 ∷ s.pmpaddr10 ∷ s.pmpaddr11 ∷ s.pmpaddr12 ∷ s.pmpaddr13 ∷ s.pmpaddr14 ∷ s.pmpaddr15 ∷ []

-- the registers without the complements
unfoldable pub values : Csrs → CsrValues
values s = record {
  machine = s.priv_;
  mstatus = s.mstatus;
  mie = s.mie;
  mtvec = s.mtvec;
  mscratch = s.mscratch;
  mepc = s.mepc;
  mcause = s.mcause;
  mtval = s.mtval;
  cpuctrl = s.cpuctrl;
  mcountinhibit = s.mcountinhibit;
  mcycle = s.mcycle;
  minstret = s.minstret;
  pmpcfg = cfgs s;
  pmpaddr = addrs s;
  mseccfg = s.mseccfg;
}

-- at reset, with the complements
unfoldable pub reset_of : ℕ → Csrs
reset_of entry =
    let mtvec = legal_of Mtvec entry in let cfg = at_reset (Pmpcfg 0) in let addr = at_reset (Pmpaddr 0) in record {
      priv_ = true;
      mstatus = at_reset Mstatus;
      mie = at_reset Mie;
      mtvec = mtvec;
      mscratch = at_reset Mscratch;
      mepc = at_reset Mepc;
      mcause = at_reset Mcause;
      mtval = at_reset Mtval;
      cpuctrl = at_reset Cpuctrl;
      mcountinhibit = at_reset Mcountinhibit;
      mcycle = 0;
      minstret = 0;
      pmpcfg0 = cfg;
      pmpcfg1 = cfg;
      pmpcfg2 = cfg;
      pmpcfg3 = cfg;
      pmpaddr0 = addr;
      pmpaddr1 = addr;
      pmpaddr2 = addr;
      pmpaddr3 = addr;
      pmpaddr4 = addr;
      pmpaddr5 = addr;
      pmpaddr6 = addr;
      pmpaddr7 = addr;
      pmpaddr8 = addr;
      pmpaddr9 = addr;
      pmpaddr10 = addr;
      pmpaddr11 = addr;
      pmpaddr12 = addr;
      pmpaddr13 = addr;
      pmpaddr14 = addr;
      pmpaddr15 = addr;
      mstatus_n = complement (at_reset Mstatus);
      mtvec_n = complement mtvec;
      cpuctrl_n = complement (at_reset Cpuctrl);
      pmpcfg0_n = complement cfg;
      pmpcfg1_n = complement cfg;
      pmpcfg2_n = complement cfg;
      pmpcfg3_n = complement cfg;
      pmpaddr0_n = complement addr;
      pmpaddr1_n = complement addr;
      pmpaddr2_n = complement addr;
      pmpaddr3_n = complement addr;
      pmpaddr4_n = complement addr;
      pmpaddr5_n = complement addr;
      pmpaddr6_n = complement addr;
      pmpaddr7_n = complement addr;
      pmpaddr8_n = complement addr;
      pmpaddr9_n = complement addr;
      pmpaddr10_n = complement addr;
      pmpaddr11_n = complement addr;
      pmpaddr12_n = complement addr;
      pmpaddr13_n = complement addr;
      pmpaddr14_n = complement addr;
      pmpaddr15_n = complement addr;
      mseccfg = at_reset Mseccfg;
      mseccfg_n = complement (at_reset Mseccfg);
    }

-- a word of configuration or an address with its complement; there is none of a higher number
abbrev pub put_cfg : Csrs → ℕ → ℕ → Csrs
put_cfg s k v =
    if k == 0 then record s { pmpcfg0 = v; pmpcfg0_n = complement v } else
    if k == 1 then record s { pmpcfg1 = v; pmpcfg1_n = complement v } else
    if k == 2 then record s { pmpcfg2 = v; pmpcfg2_n = complement v } else
    if k == 3 then record s { pmpcfg3 = v; pmpcfg3_n = complement v } else
    s

-- pmpaddr k with its complement, for k up to 15; the lock is not looked at here
abbrev pub put_addr : Csrs → ℕ → ℕ → Csrs
put_addr s k v =
    if k == 0 then record s { pmpaddr0 = v; pmpaddr0_n = complement v } else
    if k == 1 then record s { pmpaddr1 = v; pmpaddr1_n = complement v } else
    if k == 2 then record s { pmpaddr2 = v; pmpaddr2_n = complement v } else
    if k == 3 then record s { pmpaddr3 = v; pmpaddr3_n = complement v } else
    if k == 4 then record s { pmpaddr4 = v; pmpaddr4_n = complement v } else
    if k == 5 then record s { pmpaddr5 = v; pmpaddr5_n = complement v } else
    if k == 6 then record s { pmpaddr6 = v; pmpaddr6_n = complement v } else
    if k == 7 then record s { pmpaddr7 = v; pmpaddr7_n = complement v } else
    if k == 8 then record s { pmpaddr8 = v; pmpaddr8_n = complement v } else
    if k == 9 then record s { pmpaddr9 = v; pmpaddr9_n = complement v } else
    if k == 10 then record s { pmpaddr10 = v; pmpaddr10_n = complement v } else
    if k == 11 then record s { pmpaddr11 = v; pmpaddr11_n = complement v } else
    if k == 12 then record s { pmpaddr12 = v; pmpaddr12_n = complement v } else
    if k == 13 then record s { pmpaddr13 = v; pmpaddr13_n = complement v } else
    if k == 14 then record s { pmpaddr14 = v; pmpaddr14_n = complement v } else
    if k == 15 then record s { pmpaddr15 = v; pmpaddr15_n = complement v } else
    s

-- a write to a register, with its complement where it is guarded
unfoldable pub put_of : Csrs → Csr → ℕ → Csrs
put_of s Mstatus w = record s { mstatus = stored_mstatus w; mstatus_n = complement (stored_mstatus w) }
put_of s Mie w = record s { mie = legal_of Mie w }
put_of s Mtvec w = record s { mtvec = legal_of Mtvec w; mtvec_n = complement (legal_of Mtvec w) }
put_of s Mcountinhibit w = record s { mcountinhibit = legal_of Mcountinhibit w }
put_of s Mscratch w = record s { mscratch = legal_of Mscratch w }
put_of s Mepc w = record s { mepc = legal_of Mepc w }
put_of s Mcause w = record s { mcause = legal_of Mcause w }
put_of s Mtval w = record s { mtval = legal_of Mtval w }
put_of s (Pmpcfg k) w = put_cfg s k (stored_cfg s.mseccfg (slice_index (cfgs s) k) w)
put_of s (Pmpaddr k) w = if is_addr_held s.mseccfg (cfg_bytes (values s)) k then s else put_addr s k w
put_of s Cpuctrl w = record s { cpuctrl = legal_of Cpuctrl w; cpuctrl_n = complement (legal_of Cpuctrl w) }
put_of s Mcycle w = record s { mcycle = with_low s.mcycle w }
put_of s Mcycleh w = record s { mcycle = with_high s.mcycle w }
put_of s Minstret w = record s { minstret = with_low s.minstret w }
put_of s Minstreth w = record s { minstret = with_high s.minstret w }
put_of s Mseccfg w =
    let sec = stored_sec s.mseccfg (cfg_bytes (values s)) w in record s { mseccfg = sec; mseccfg_n = complement sec }
put_of s _ w = s

-- a write to the register that there is, if there is one
abbrev pub put_at : Csrs → ℕ → Option Csr → Csrs
put_at s w (Some c) = put_of s c w
put_at s w None = s

-- a write to an address
unfoldable pub write_of : Csrs → ℕ → ℕ → Csrs
write_of s a w = put_at s w (writable s.priv_ a)

-- one cycle of the counters
unfoldable pub tick_of : Csrs → Bool → Option ℕ → Csrs
tick_of s retired wrote = record s {
  mcycle = counted s.mcycle (mcycle_stands s.mcountinhibit wrote);
  minstret = counted s.minstret (minstret_stands s.mcountinhibit retired wrote);
}

-- n cycles without a retirement and a write
unfoldable pub passed : Csrs → ℕ → Csrs
passed s n = record s { mcycle = if bit_and s.mcountinhibit cy_bit == 0 then (s.mcycle + n) % 2 ^ 64 else s.mcycle }

-- what a trap leaves
unfoldable pub with_regs : Csrs → TrapRegs → Csrs
with_regs s r = let k = kept_regs r in record s {
  priv_ = k.machine;
  mstatus = k.mstatus;
  mtvec = k.mtvec;
  mepc = k.mepc;
  mcause = k.mcause;
  mtval = k.mtval;
  cpuctrl = k.cpuctrl;
  mstatus_n = complement k.mstatus;
  mtvec_n = complement k.mtvec;
  cpuctrl_n = complement k.cpuctrl;
}

-- each guarded register with its complement: those of traps and mseccfg, the words of configuration, and the addresses
-- of entries 0 to 7 and 8 to 15
abbrev pub guarded_trap : Csrs → List (ℕ × ℕ)
guarded_trap s =
    (s.mstatus, s.mstatus_n) ∷ (s.mtvec, s.mtvec_n) ∷ (s.cpuctrl, s.cpuctrl_n) ∷ (s.mseccfg, s.mseccfg_n) ∷ []

-- pmpcfg0 to pmpcfg3, which hold the configuration of four entries each
abbrev pub guarded_cfg : Csrs → List (ℕ × ℕ)
guarded_cfg s =
    (s.pmpcfg0, s.pmpcfg0_n) ∷ (s.pmpcfg1, s.pmpcfg1_n) ∷ (s.pmpcfg2, s.pmpcfg2_n) ∷ (s.pmpcfg3, s.pmpcfg3_n) ∷ []

-- the addresses of the entries 0 to 7, each with the complement kept beside it
abbrev pub guarded_low : Csrs → List (ℕ × ℕ)
guarded_low s = (s.pmpaddr0, s.pmpaddr0_n) ∷ (s.pmpaddr1, s.pmpaddr1_n) ∷ (s.pmpaddr2, s.pmpaddr2_n)
    ∷ (s.pmpaddr3, s.pmpaddr3_n) ∷ (s.pmpaddr4, s.pmpaddr4_n) ∷ (s.pmpaddr5, s.pmpaddr5_n) ∷ (s.pmpaddr6, s.pmpaddr6_n)
    ∷ (s.pmpaddr7, s.pmpaddr7_n) ∷ []

-- the addresses of the entries 8 to 15, each with the complement kept beside it
abbrev pub guarded_high : Csrs → List (ℕ × ℕ)
guarded_high s = (s.pmpaddr8, s.pmpaddr8_n) ∷ (s.pmpaddr9, s.pmpaddr9_n) ∷ (s.pmpaddr10, s.pmpaddr10_n)
    ∷ (s.pmpaddr11, s.pmpaddr11_n) ∷ (s.pmpaddr12, s.pmpaddr12_n) ∷ (s.pmpaddr13, s.pmpaddr13_n)
    ∷ (s.pmpaddr14, s.pmpaddr14_n) ∷ (s.pmpaddr15, s.pmpaddr15_n) ∷ []

-- the second word of each pair is the complement of the first
abbrev pub AreComplements : List (ℕ × ℕ) → Type 0
AreComplements [] = Unit {0}
AreComplements (p ∷ ps) = (p.1 ≡ complement p.0) × AreComplements ps

-- each complement is one
pub record Complemented (s : Csrs) : Type 0 where
  pub trap : AreComplements (guarded_trap s)
  pub cfg : AreComplements (guarded_cfg s)
  pub low : AreComplements (guarded_low s)
  pub high : AreComplements (guarded_high s)

-- a second word isn't the complement of the first
abbrev pub any_glitch : List (ℕ × ℕ) → Bool
any_glitch ps = list_any (λ p. not (p.1 == complement p.0)) ps

-- whether some complement isn't one
unfoldable pub glitch_of : Csrs → Bool
glitch_of s = any_glitch (guarded_trap s) || any_glitch (guarded_cfg s) || any_glitch (guarded_low s)
    || any_glitch (guarded_high s)
