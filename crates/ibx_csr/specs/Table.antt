-- The addresses of the control and status registers (RISC-V Privileged ISA 1.12, chapter 2, tables 2.5 and
-- 2.6; cpuctrl, secureseed and mseccfg are our own).
use Rattle.std.specs.Prelude.{ℕ, ◌-◌, ◌/◌, ◌%◌, List, [], ◌∷◌, Option, Some, None, Bool, nat_le, ◌&&◌, ◌==◌}
use Rattle.std.specs.Prelude.{if◌then◌else◌}
use Rattle.ibx_csr.specs.declared.name.Csr.{Csr}
use Rattle.ibx_csr.specs.declared.name.Csr.TheVariants.{Mstatus, Misa, Mie, Mtvec, Mcountinhibit, Mscratch, Mepc}
use Rattle.ibx_csr.specs.declared.name.Csr.TheVariants.{Mcause, Mtval, Mip, Pmpcfg, Pmpaddr, Cpuctrl, Secureseed}
use Rattle.ibx_csr.specs.declared.name.Csr.TheVariants.{Mcycle, Mcycleh, Minstret, Minstreth, Marchid, Mseccfg, Zero}

-- the addresses from first to last, and the register at each, by its distance from first
pub record Row : Type 0 where
  pub first : ℕ
  pub last : ℕ
  pub register : ℕ → Csr

-- a row of one address, and one of several
abbrev pub one : ℕ → Csr → Row
one a c = record { first = a; last = a; register = λ _. c }

-- registers of a family, numbered from the first address on
abbrev pub several : ℕ → ℕ → (ℕ → Csr) → Row
several a b f = record { first = a; last = b; register = f }

-- The table. Rows named Zero are mcounteren, menvcfg and menvcfgh, mstatush, mhpmevent3 to 31, mseccfgh, mhpmcounter3
-- to 31 and their high halves, mvendorid, mimpid, mhartid and mconfigptr.
abbrev pub rows : List Row
rows =
    one 0x300 Mstatus ∷ one 0x301 Misa ∷ one 0x304 Mie ∷ one 0x305 Mtvec ∷ one 0x306 Zero
    ∷ one 0x30a Zero ∷ one 0x31a Zero ∷ one 0x310 Zero ∷ one 0x320 Mcountinhibit
    ∷ several 0x323 0x33f (λ _. Zero) ∷ one 0x340 Mscratch ∷ one 0x341 Mepc ∷ one 0x342 Mcause
    ∷ one 0x343 Mtval ∷ one 0x344 Mip ∷ several 0x3a0 0x3a3 Pmpcfg ∷ several 0x3b0 0x3bf Pmpaddr
    ∷ one 0x747 Mseccfg ∷ one 0x757 Zero ∷ one 0x7c0 Cpuctrl ∷ one 0x7c1 Secureseed ∷ one 0xb00 Mcycle ∷ one 0xb80 Mcycleh
    ∷ one 0xb02 Minstret ∷ one 0xb82 Minstreth ∷ several 0xb03 0xb1f (λ _. Zero)
    ∷ several 0xb83 0xb9f (λ _. Zero) ∷ one 0xf11 Zero ∷ one 0xf12 Marchid
    ∷ several 0xf13 0xf15 (λ _. Zero) ∷ []

-- the register of the first row that has the address
abbrev pub find_row : ℕ → List Row → Option Csr
find_row a [] = None
find_row a (r ∷ rs) = if nat_le r.first a && nat_le a r.last then Some (r.register (a - r.first)) else find_row a rs

-- the register at an address
unfoldable pub csr_of : ℕ → Option Csr
csr_of a = find_row a rows

-- the same from a mode: each register is M's
abbrev pub readable : Bool → ℕ → Option Csr
readable machine a = if machine then csr_of a else None

-- bits 11:10 both 1 mean read-only (Privileged ISA, 2.1)
abbrev pub is_read_only : ℕ → Bool
is_read_only a = a / 0x400 % 4 == 3

-- the register that a mode may write at an address: none at a read-only one
abbrev pub writable : Bool → ℕ → Option Csr
writable machine a = if is_read_only a then None else readable machine a
