-- The registers stay within their widths, and what an instruction reads of them is a word.
use Rattle.std.proofs.Common.{◌≡◌, ℕ, ◌+◌, ◌-◌, ◌/◌, ◌%◌, ◌^◌, ◌<◌, ◌==◌, Bool, true, false, List, [], ◌∷◌, length}
use Rattle.std.proofs.Common.{All, Option, Some, None, arith, if◌then◌else◌, slice_index, slice_set, bit_and, inl, inr}
use Rattle.std.specs.Prelude.{IfSome, bit_or, ◌&&◌, ◌||◌}
use Rattle.std.specs.List.{list_any}
use Rattle.std.specs.Int.{w32, from_le_bytes}
use Rattle.std.proofs.lemmas.Nat.{and_le_r, mod_below, or_of_32}
use Rattle.std.proofs.lemmas.Bool.{cases_lt}
use Rattle.std.proofs.lemmas.List.{get_or_past}
use Rattle.std.proofs.lemmas.List.Elements.{All-set, All-get_or}
use Rattle.ibx_isa.specs.declared.trap.TrapRegs.{TrapRegs}
use Rattle.ibx_isa.specs.declared.insn.CsrOp.{CsrOp}
use Rattle.ibx_isa.specs.declared.insn.CsrOp.TheVariants.{Write, Set, Clear}
use Rattle.ibx_isa.specs.CsrWrites.{written}
use Rattle.ibx_csr.specs.declared.name.Csr.{Csr}
use Rattle.ibx_csr.specs.declared.name.Csr.TheVariants.{Mstatus, Mie, Mtvec, Mcountinhibit, Mscratch, Mepc, Mcause}
use Rattle.ibx_csr.specs.declared.name.Csr.TheVariants.{Mtval, Mip, Pmpcfg, Pmpaddr, Cpuctrl, Mcycle, Mcycleh}
use Rattle.ibx_csr.specs.declared.name.Csr.TheVariants.{Minstret, Minstreth, Mseccfg}
use Rattle.ibx_csr.specs.Kept.{kept_mepc, kept_mtvec, stored_mstatus, kept_byte, legal_byte, stored_cfg}
use Rattle.ibx_csr.specs.Kept.{is_addr_held, is_held, is_locked, is_refused, stored_sec}
use Rattle.ibx_bits.specs.Bytes.{word_byte}
use Rattle.ibx_csr.specs.Table.{readable, writable}
use Rattle.ibx_csr.specs.Values.{CsrValues, value_of, value_at, csr_read, csr_write, put_value, put_at, cfg_bytes}
use Rattle.ibx_csr.specs.Values.{counted, csr_tick, counters_after, with_trap_regs}
use Rattle.ibx_csr.specs.Widths.{IsWord, IsValues}
use Rattle.ibx_csr.proofs.Legal.{legal-low, stored-low, kept_mepc-even}

-- ---- words

-- bits that are kept make words, and mepc is even
masked : (a m : ℕ) → m < 2 ^ 32 → bit_and a m < 2 ^ 32
masked a m h = omega (arith, h, and_le_r a m)

-- what mepc keeps of a value is a word
mepc_low : (a : ℕ) → kept_mepc a < 2 ^ 32
mepc_low a = legal-low Mepc a

-- what mepc keeps of a value is even
mepc_even : (a : ℕ) → kept_mepc a % 2 ≡ 0
mepc_even a = kept_mepc-even a

-- what mtvec keeps of a value is a word
pub mtvec_low : (a : ℕ) → kept_mtvec a < 2 ^ 32
mtvec_low a = legal-low Mtvec a

-- what a write stores in mstatus is a word
status_low : (w : ℕ) → stored_mstatus w < 2 ^ 32
status_low w = stored-low w

-- what a write may leave of a byte of configuration is a byte
legal_low : (sec b : ℕ) → legal_byte sec b < 256
legal_low sec b = low_by (bit_and sec 1 == 0 && bit_and b 3 == 2)
  where
    low_by : (c : Bool) → (if c then bit_and b 0x9d else bit_and b 0x9f) < 256
    low_by true = omega (arith, and_le_r b 0x9d)
    low_by false = omega (arith, and_le_r b 0x9f)

-- a byte of configuration stays a byte, held, refused or written
byte_low : (sec old new : ℕ) → old < 256 → kept_byte sec old new < 256
byte_low sec old new h = low_by (is_held sec old || is_refused sec new)
  where
    low_by : (c : Bool) → (if c then old else legal_byte sec new) < 256
    low_by true = h
    low_by false = legal_low sec new

-- four bytes make a word
four_low : (a b c d : ℕ) → a < 256 → b < 256 → c < 256 → d < 256 → from_le_bytes w32 (a ∷ b ∷ c ∷ d ∷ []) < 2 ^ 32
four_low a b c d ha hb hc hd = omega arith

-- a byte of a number is below 256, whatever the number
of_word : (old k : ℕ) → word_byte old k < 256
of_word old k = mod_below (old / 256 ^ k) 256 (omega arith)

-- so what a write stores of four bytes of configuration is a word
cfg_low : (sec old v : ℕ) → stored_cfg sec old v < 2 ^ 32
cfg_low sec old v =
    four_low (kept_byte sec (word_byte old 0) (word_byte v 0)) (kept_byte sec (word_byte old 1) (word_byte v 1))
    (kept_byte sec (word_byte old 2) (word_byte v 2)) (kept_byte sec (word_byte old 3) (word_byte v 3))
    (byte_low sec (word_byte old 0) (word_byte v 0) (of_word old 0))
    (byte_low sec (word_byte old 1) (word_byte v 1) (of_word old 1))
    (byte_low sec (word_byte old 2) (word_byte v 2) (of_word old 2))
    (byte_low sec (word_byte old 3) (word_byte v 3) (of_word old 3))

-- what a write stores in mseccfg is a word
sec_low : (old : ℕ) (bytes : List ℕ) (w : ℕ) → stored_sec old bytes w < 2 ^ 32
sec_low old bytes w =
    or_of_32 (bit_and (bit_or old w) 3) (rlb (bit_and old 4 == 0 && list_any is_locked bytes))
    (omega (arith, and_le_r (bit_or old w) 3)) (rlb_low (bit_and old 4 == 0 && list_any is_locked bytes))
  where
    rlb : Bool → ℕ
    rlb c = if c then 0 else bit_and w 4

    rlb_low : (c : Bool) → rlb c < 2 ^ 32
    rlb_low true = omega arith
    rlb_low false = omega (arith, and_le_r w 4)

-- an element, or 0 past the end
pub index_low : (xs : List ℕ) (k : ℕ) → All (λ w. w < 2 ^ 32) xs → slice_index xs k < 2 ^ 32
index_low xs k z = elim (cases_lt k (length xs)) [
  | inl h ↦ All-get_or (λ w. w < 2 ^ 32) xs k 0 h z
  | inr h ↦ omega (arith, get_or_past xs k 0 h)
]

-- a list of words with a word in it
pub set_low : (xs : List ℕ) (k w : ℕ) → w < 2 ^ 32 → All (λ v. v < 2 ^ 32) xs
    → All (λ v. v < 2 ^ 32) (slice_set xs k w)
set_low xs k w h z = All-set (λ v. v < 2 ^ 32) xs k w h z

-- ---- what is read

-- each register reads a word, also by an address, and what an instruction makes of it is one
pub value_low : (v : CsrValues) (c : Csr) (lines : ℕ) → IsValues v → lines < 2 ^ 32 → value_of v c lines < 2 ^ 32
unfolding value_of
value_low v Mstatus lines z h = z.mstatus
value_low v Mie lines z h = z.mie
value_low v Mtvec lines z h = z.mtvec
value_low v Mcountinhibit lines z h = z.mcountinhibit
value_low v Mscratch lines z h = z.mscratch
value_low v Mepc lines z h = z.mepc
value_low v Mcause lines z h = z.mcause
value_low v Mtval lines z h = z.mtval
value_low v Mip lines z h = h
value_low v (Pmpcfg k) lines z h = index_low v.pmpcfg k z.pmpcfg
value_low v (Pmpaddr k) lines z h = index_low v.pmpaddr k z.pmpaddr
value_low v Cpuctrl lines z h = z.cpuctrl
value_low v Mcycle lines z h = mod_below v.mcycle (2 ^ 32) (omega arith)
value_low v Mcycleh lines z h = omega (arith, z.mcycle)
value_low v Minstret lines z h = mod_below v.minstret (2 ^ 32) (omega arith)
value_low v Minstreth lines z h = omega (arith, z.minstret)
value_low v Mseccfg lines z h = z.mseccfg
value_low v _ lines z h = omega arith

-- what is read of a register, if there is one, is a word
at_low : (v : CsrValues) (lines : ℕ) (o : Option Csr) → IsValues v → lines < 2 ^ 32
    → IfSome (value_at v lines o) IsWord
at_low v lines None z h = tt
at_low v lines (Some c) z h = value_low v c lines z h

-- a read at an address gives a word, if it gives anything
pub read_low : (v : CsrValues) (a lines : ℕ) → IsValues v → lines < 2 ^ 32 → IfSome (csr_read v a lines) IsWord
unfolding csr_read
read_low v a lines z h = at_low v lines (readable v.machine a) z h

-- what a CSR instruction writes, sets or clears is a word
pub written_low : (op : CsrOp) (old source : ℕ) → old < 2 ^ 32 → source < 2 ^ 32 → written op old source < 2 ^ 32
written_low Write old source ho hs = hs
written_low Set old source ho hs = or_of_32 old source ho hs
written_low Clear old source ho hs = masked old (2 ^ 32 - 1 - source) (omega arith)

-- ---- what is kept

-- the widths of all registers, in the order of their fields
widths : (v : CsrValues) → v.mstatus < 2 ^ 32 → v.mie < 2 ^ 32 → v.mtvec < 2 ^ 32 → v.mepc < 2 ^ 32 → v.mepc % 2 ≡ 0
    → v.mscratch < 2 ^ 32 → v.mcause < 2 ^ 32 → v.mtval < 2 ^ 32 → v.mcountinhibit < 2 ^ 32
    → All (λ w. w < 2 ^ 32) v.pmpcfg → All (λ w. w < 2 ^ 32) v.pmpaddr → v.cpuctrl < 2 ^ 32 → v.mcycle < 2 ^ 64
    → v.minstret < 2 ^ 64 → v.mseccfg < 2 ^ 32 → IsValues v
widths v mstatus mie mtvec mepc mepc_even mscratch mcause mtval mcountinhibit pmpcfg pmpaddr cpuctrl mcycle minstret
    mseccfg = record {
      mstatus = mstatus;
      mie = mie;
      mtvec = mtvec;
      mepc = mepc;
      mepc_even = mepc_even;
      mscratch = mscratch;
      mcause = mcause;
      mtval = mtval;
      mcountinhibit = mcountinhibit;
      pmpcfg = pmpcfg;
      pmpaddr = pmpaddr;
      cpuctrl = cpuctrl;
      mcycle = mcycle;
      minstret = minstret;
      mseccfg = mseccfg;
    }

-- a write keeps the widths: of one register, of one that there may be, and at an address
addr_stays : (v : CsrValues) (k w : ℕ) (b : Bool) → w < 2 ^ 32 → IsValues v
    → IsValues (if b then v else record v { pmpaddr = slice_set v.pmpaddr k w })
addr_stays v k w true h z = z
addr_stays v k w false h z =
    widths _ z.mstatus z.mie z.mtvec z.mepc z.mepc_even z.mscratch z.mcause z.mtval z.mcountinhibit z.pmpcfg
    (set_low v.pmpaddr k w h z.pmpaddr) z.cpuctrl z.mcycle z.minstret z.mseccfg

-- a write of a word to any register keeps all widths, and mepc even
put_keeps : (v : CsrValues) (c : Csr) (w : ℕ) → w < 2 ^ 32 → IsValues v → IsValues (put_value v c w)
unfolding put_value
put_keeps v Mstatus w h z =
    widths _ (status_low w) z.mie z.mtvec z.mepc z.mepc_even z.mscratch z.mcause z.mtval z.mcountinhibit z.pmpcfg
    z.pmpaddr z.cpuctrl z.mcycle z.minstret z.mseccfg
put_keeps v Mie w h z =
    widths _ z.mstatus (legal-low Mie w) z.mtvec z.mepc z.mepc_even z.mscratch z.mcause z.mtval z.mcountinhibit
    z.pmpcfg z.pmpaddr z.cpuctrl z.mcycle z.minstret z.mseccfg
put_keeps v Mtvec w h z =
    widths _ z.mstatus z.mie (mtvec_low w) z.mepc z.mepc_even z.mscratch z.mcause z.mtval z.mcountinhibit z.pmpcfg
    z.pmpaddr z.cpuctrl z.mcycle z.minstret z.mseccfg
put_keeps v Mcountinhibit w h z =
    widths _ z.mstatus z.mie z.mtvec z.mepc z.mepc_even z.mscratch z.mcause z.mtval (legal-low Mcountinhibit w)
    z.pmpcfg z.pmpaddr z.cpuctrl z.mcycle z.minstret z.mseccfg
put_keeps v Mscratch w h z =
    widths _ z.mstatus z.mie z.mtvec z.mepc z.mepc_even (legal-low Mscratch w) z.mcause z.mtval z.mcountinhibit
    z.pmpcfg z.pmpaddr z.cpuctrl z.mcycle z.minstret z.mseccfg
put_keeps v Mepc w h z =
    widths _ z.mstatus z.mie z.mtvec (mepc_low w) (mepc_even w) z.mscratch z.mcause z.mtval z.mcountinhibit z.pmpcfg
    z.pmpaddr z.cpuctrl z.mcycle z.minstret z.mseccfg
put_keeps v Mcause w h z =
    widths _ z.mstatus z.mie z.mtvec z.mepc z.mepc_even z.mscratch (legal-low Mcause w) z.mtval z.mcountinhibit
    z.pmpcfg z.pmpaddr z.cpuctrl z.mcycle z.minstret z.mseccfg
put_keeps v Mtval w h z =
    widths _ z.mstatus z.mie z.mtvec z.mepc z.mepc_even z.mscratch z.mcause (legal-low Mtval w) z.mcountinhibit
    z.pmpcfg z.pmpaddr z.cpuctrl z.mcycle z.minstret z.mseccfg
put_keeps v (Pmpcfg k) w h z =
    widths _ z.mstatus z.mie z.mtvec z.mepc z.mepc_even z.mscratch z.mcause z.mtval z.mcountinhibit
    (set_low v.pmpcfg k (stored_cfg v.mseccfg (slice_index v.pmpcfg k) w) (cfg_low v.mseccfg (slice_index v.pmpcfg k) w) z.pmpcfg)
    z.pmpaddr z.cpuctrl z.mcycle z.minstret z.mseccfg
put_keeps v (Pmpaddr k) w h z = addr_stays v k w (is_addr_held v.mseccfg (cfg_bytes v) k) h z
put_keeps v Cpuctrl w h z =
    widths _ z.mstatus z.mie z.mtvec z.mepc z.mepc_even z.mscratch z.mcause z.mtval z.mcountinhibit z.pmpcfg
    z.pmpaddr (legal-low Cpuctrl w) z.mcycle z.minstret z.mseccfg
put_keeps v Mcycle w h z =
    widths _ z.mstatus z.mie z.mtvec z.mepc z.mepc_even z.mscratch z.mcause z.mtval z.mcountinhibit z.pmpcfg
    z.pmpaddr z.cpuctrl (omega (arith, h, z.mcycle)) z.minstret z.mseccfg
put_keeps v Mcycleh w h z =
    widths _ z.mstatus z.mie z.mtvec z.mepc z.mepc_even z.mscratch z.mcause z.mtval z.mcountinhibit z.pmpcfg
    z.pmpaddr z.cpuctrl (omega (arith, h, mod_below v.mcycle (2 ^ 32) (omega arith))) z.minstret z.mseccfg
put_keeps v Minstret w h z =
    widths _ z.mstatus z.mie z.mtvec z.mepc z.mepc_even z.mscratch z.mcause z.mtval z.mcountinhibit z.pmpcfg
    z.pmpaddr z.cpuctrl z.mcycle (omega (arith, h, z.minstret)) z.mseccfg
put_keeps v Minstreth w h z =
    widths _ z.mstatus z.mie z.mtvec z.mepc z.mepc_even z.mscratch z.mcause z.mtval z.mcountinhibit z.pmpcfg
    z.pmpaddr z.cpuctrl z.mcycle (omega (arith, h, mod_below v.minstret (2 ^ 32) (omega arith))) z.mseccfg
put_keeps v Mseccfg w h z =
    widths _ z.mstatus z.mie z.mtvec z.mepc z.mepc_even z.mscratch z.mcause z.mtval z.mcountinhibit z.pmpcfg z.pmpaddr
    z.cpuctrl z.mcycle z.minstret (sec_low v.mseccfg (cfg_bytes v) w)
put_keeps v _ w h z = z

-- so does a write that may find no register
found_keeps : (v : CsrValues) (o : Option Csr) (w : ℕ) → w < 2 ^ 32 → IsValues v → IsValues (put_at v w o)
found_keeps v None w h z = z
found_keeps v (Some c) w h z = put_keeps v c w h z

-- a write at an address keeps the widths, in either mode
pub write_keeps : (v : CsrValues) (a w : ℕ) → w < 2 ^ 32 → IsValues v → IsValues (csr_write v a w)
unfolding csr_write
write_keeps v a w h z = found_keeps v (writable v.machine a) w h z

-- so do a cycle of the counters and many
counted_low : (count : ℕ) (b : Bool) → count < 2 ^ 64 → counted count b < 2 ^ 64
counted_low count true h = h
counted_low count false h = mod_below (count + 1) (2 ^ 64) (omega arith)

-- both counters keep their 64 bits, whether they count or stand
tick_by : (v : CsrValues) (a b : Bool) → IsValues v
    → IsValues (record v { mcycle = counted v.mcycle a; minstret = counted v.minstret b })
tick_by v a b z =
    widths _ z.mstatus z.mie z.mtvec z.mepc z.mepc_even z.mscratch z.mcause z.mtval z.mcountinhibit z.pmpcfg
    z.pmpaddr z.cpuctrl (counted_low v.mcycle a z.mcycle) (counted_low v.minstret b z.minstret) z.mseccfg

-- a cycle keeps the widths, whether an instruction retires or not
pub tick_keeps : (v : CsrValues) (retired : Bool) (wrote : Option ℕ) → IsValues v → IsValues (csr_tick v retired wrote)
unfolding csr_tick
tick_keeps v retired wrote z = tick_by v _ _ z

-- mcycle that moves by many cycles keeps its 64 bits, and so it does where it stands
moved_by : (v : CsrValues) (n : ℕ) (b : Bool) → IsValues v
    → IsValues (record v { mcycle = if b then (v.mcycle + n) % 2 ^ 64 else v.mcycle })
moved_by v n true z =
    widths _ z.mstatus z.mie z.mtvec z.mepc z.mepc_even z.mscratch z.mcause z.mtval z.mcountinhibit z.pmpcfg
    z.pmpaddr z.cpuctrl (mod_below (v.mcycle + n) (2 ^ 64) (omega arith)) z.minstret z.mseccfg
moved_by v n false z =
    widths _ z.mstatus z.mie z.mtvec z.mepc z.mepc_even z.mscratch z.mcause z.mtval z.mcountinhibit z.pmpcfg
    z.pmpaddr z.cpuctrl z.mcycle z.minstret z.mseccfg

-- so any number of cycles keeps the widths
pub counters_keep : (v : CsrValues) (n : ℕ) → IsValues v → IsValues (counters_after v n)
unfolding counters_after
counters_keep v n z = moved_by v n (bit_and v.mcountinhibit 1 == 0) z

-- what a trap or a return leaves
pub regs_keep : (v : CsrValues) (r : TrapRegs) → r.mtval < 2 ^ 32 → IsValues v → IsValues (with_trap_regs v r)
unfolding with_trap_regs
regs_keep v r h z =
    widths _ (legal-low Mstatus r.mstatus) z.mie (mtvec_low r.mtvec) (mepc_low r.mepc) (mepc_even r.mepc) z.mscratch
    (legal-low Mcause r.mcause) h z.mcountinhibit z.pmpcfg z.pmpaddr (legal-low Cpuctrl r.cpuctrl) z.mcycle
    z.minstret z.mseccfg
