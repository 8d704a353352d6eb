-- The fields of the core by number, their widths, and their values at reset. Our own rule.
use Rattle.std.specs.Prelude.{ℕ, ◌<◌, ◌^◌, List, [], ◌∷◌, ◌++◌, Bool, true, false, slice_index}
use Rattle.ibx_core.specs.declared.state.State.{State}
use Rattle.ibx_prefetch.specs.Buffer.{fetch_reset}
use Rattle.ibx_prefetch.specs.Parcels.{IsWithin}
use Rattle.ibx_icache.specs.WordPort.{IsFields, reset_of as words_reset}
use Rattle.ibx_id.specs.Turns.{IsWithinWidths, empty_stage}
use Rattle.ibx_muldiv.specs.Unit.{idle_of as md_idle}
use Rattle.ibx_lsu.specs.Turns.{idle_of as ls_idle}
use Rattle.ibx_dummy.specs.Dummies.{dummies_reset}
use Rattle.ibx_csr.specs.Fields.{reset_of as csrs_reset}

-- a bit as a number
abbrev pub bit : Bool → ℕ
bit true = 1
bit false = 0

-- the fields of each unit, in their order
abbrev pub fetch_fields : State → List ℕ
fetch_fields s =
    bit s.fetch.f_busy ∷ bit s.fetch.f_fresh ∷ bit s.fetch.f_drop ∷ s.fetch.f_addr ∷ s.fetch.buf0 ∷ s.fetch.buf1
    ∷ s.fetch.buf2 ∷ s.fetch.buf_count ∷ s.fetch.head_pc ∷ []

-- the fetch port with its cache, 9 to 16
abbrev pub words_fields : State → List ℕ
words_fields s =
    s.words.c_state ∷ s.words.c_addr ∷ s.words.c_word0 ∷ s.words.c_word1 ∷ bit s.words.c_way ∷ bit s.words.c_alt
    ∷ s.words.c_walk ∷ bit s.words.c_nostore ∷ []

-- the item in the stage, 17 to 23
abbrev pub id_fields : State → List ℕ
id_fields s = bit s.id.valid ∷ s.id.kind ∷ s.id.pc ∷ s.id.word ∷ s.id.fault ∷ s.id.phase ∷ s.id.count ∷ []

-- the unit of multiplication and division, 24 to 26
abbrev pub md_fields : State → List ℕ
md_fields s = s.md.md_a ∷ s.md.md_b ∷ s.md.md_acc ∷ []

-- the load-store unit, 27 and 28
abbrev pub ls_fields : State → List ℕ
ls_fields s = s.ls.ls_state ∷ s.ls.ls_first ∷ []

-- the shift register of the dummies and the count since the last, 29 and 30
abbrev pub dummies_fields : State → List ℕ
dummies_fields s = s.dummies.lfsr ∷ s.dummies.dcount ∷ []

-- the program counter of what enters the stage next, 31
abbrev pub next_pc_fields : State → List ℕ
next_pc_fields s = s.next_pc ∷ []

-- the mode, the CSRs of traps and of control, and the counters, 32 to 43
abbrev pub trap_fields : State → List ℕ
trap_fields s =
    bit s.csrs.priv_ ∷ s.csrs.mstatus ∷ s.csrs.mie ∷ s.csrs.mtvec ∷ s.csrs.mscratch ∷ s.csrs.mepc ∷ s.csrs.mcause
    ∷ s.csrs.mtval ∷ s.csrs.cpuctrl ∷ s.csrs.mcountinhibit ∷ s.csrs.mcycle ∷ s.csrs.minstret ∷ []

-- the configurations of protection, four entries in each, 44 to 47
abbrev pub cfg_fields : State → List ℕ
cfg_fields s = s.csrs.pmpcfg0 ∷ s.csrs.pmpcfg1 ∷ s.csrs.pmpcfg2 ∷ s.csrs.pmpcfg3 ∷ []

-- the addresses of protection, 48 to 63
abbrev pub addr_fields : State → List ℕ
addr_fields s =
    s.csrs.pmpaddr0 ∷ s.csrs.pmpaddr1 ∷ s.csrs.pmpaddr2 ∷ s.csrs.pmpaddr3 ∷ s.csrs.pmpaddr4 ∷ s.csrs.pmpaddr5
    ∷ s.csrs.pmpaddr6 ∷ s.csrs.pmpaddr7 ∷ s.csrs.pmpaddr8 ∷ s.csrs.pmpaddr9 ∷ s.csrs.pmpaddr10 ∷ s.csrs.pmpaddr11
    ∷ s.csrs.pmpaddr12 ∷ s.csrs.pmpaddr13 ∷ s.csrs.pmpaddr14 ∷ s.csrs.pmpaddr15 ∷ []

-- the complements of mstatus, mtvec and cpuctrl, 64 to 66
abbrev pub trap_n_fields : State → List ℕ
trap_n_fields s = s.csrs.mstatus_n ∷ s.csrs.mtvec_n ∷ s.csrs.cpuctrl_n ∷ []

-- the complements of the configurations of protection, 67 to 70
abbrev pub cfg_n_fields : State → List ℕ
cfg_n_fields s = s.csrs.pmpcfg0_n ∷ s.csrs.pmpcfg1_n ∷ s.csrs.pmpcfg2_n ∷ s.csrs.pmpcfg3_n ∷ []

-- the complements of the addresses of protection, 71 to 86
abbrev pub addr_n_fields : State → List ℕ
addr_n_fields s =
    s.csrs.pmpaddr0_n ∷ s.csrs.pmpaddr1_n ∷ s.csrs.pmpaddr2_n ∷ s.csrs.pmpaddr3_n ∷ s.csrs.pmpaddr4_n
    ∷ s.csrs.pmpaddr5_n ∷ s.csrs.pmpaddr6_n ∷ s.csrs.pmpaddr7_n ∷ s.csrs.pmpaddr8_n ∷ s.csrs.pmpaddr9_n
    ∷ s.csrs.pmpaddr10_n ∷ s.csrs.pmpaddr11_n ∷ s.csrs.pmpaddr12_n ∷ s.csrs.pmpaddr13_n ∷ s.csrs.pmpaddr14_n
    ∷ s.csrs.pmpaddr15_n ∷ []

-- how the protection unit reads its entries, and the complement of that, 87 and 88
abbrev pub sec_fields : State → List ℕ
sec_fields s = s.csrs.mseccfg ∷ s.csrs.mseccfg_n ∷ []

-- all fields, by number
unfoldable pub fields : State → List ℕ
fields s =
    fetch_fields s ++ (words_fields s ++ (id_fields s ++ (md_fields s ++ (ls_fields s ++ (dummies_fields s
    ++ (next_pc_fields s ++ (trap_fields s ++ (cfg_fields s ++ (addr_fields s ++ (trap_n_fields s
    ++ (cfg_n_fields s ++ (addr_n_fields s ++ (sec_fields s)))))))))))))

-- the widths in bits, by number
abbrev pub widths : List ℕ
widths =
    1 ∷ 1 ∷ 1 ∷ 32 ∷ 33 ∷ 33 ∷ 33 ∷ 2 ∷ 32 ∷ 4 ∷ 32 ∷ 33 ∷ 33 ∷ 1 ∷ 1 ∷ 9 ∷ 1 ∷ 1 ∷ 2 ∷ 32 ∷ 32 ∷ 2 ∷ 3 ∷ 6 ∷ 64 ∷ 64
    ∷ 64 ∷ 3 ∷ 32 ∷ 32 ∷ 5 ∷ 32 ∷ 1 ∷ 32 ∷ 32 ∷ 32 ∷ 32 ∷ 32 ∷ 32 ∷ 32 ∷ 32 ∷ 32 ∷ 64 ∷ 64 ∷ 32 ∷ 32 ∷ 32 ∷ 32 ∷ 32
    ∷ 32 ∷ 32 ∷ 32 ∷ 32 ∷ 32 ∷ 32 ∷ 32 ∷ 32 ∷ 32 ∷ 32 ∷ 32 ∷ 32 ∷ 32 ∷ 32 ∷ 32 ∷ 32 ∷ 32 ∷ 32 ∷ 32 ∷ 32 ∷ 32 ∷ 32 ∷ 32
    ∷ 32 ∷ 32 ∷ 32 ∷ 32 ∷ 32 ∷ 32 ∷ 32 ∷ 32 ∷ 32 ∷ 32 ∷ 32 ∷ 32 ∷ 32 ∷ 32 ∷ 32 ∷ 32 ∷ 32 ∷ []

-- the width in bits of the field of this number
abbrev pub width_of : ℕ → ℕ
width_of k = slice_index widths k

-- the fields are within their widths
pub record Fits (s : State) : Type 0 where
  pub fetch : IsWithin s.fetch
  pub words : IsFields s.words
  pub id : IsWithinWidths s.id
  pub ls : s.ls.ls_state < 2 ^ 3
  pub dummies : s.dummies.dcount < 2 ^ 5

-- the fields at reset
unfoldable pub reset_of : ℕ → State
reset_of entry = record {
  fetch = fetch_reset entry;
  words = words_reset;
  id = empty_stage;
  md = md_idle;
  ls = ls_idle;
  dummies = dummies_reset;
  next_pc = entry;
  csrs = csrs_reset entry;
}
