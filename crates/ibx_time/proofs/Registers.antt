-- Which register stands at an address that controls the core, and which at another.
use Rattle.std.proofs.Common.{◌≡◌, ℕ, Bool, true, false, Option, Some, None, refl, if◌then◌else◌}
use Rattle.ibx_csr.specs.declared.name.Csr.{Csr}
use Rattle.ibx_csr.specs.declared.name.Csr.TheVariants.{Mstatus, Mie, Mip, Pmpcfg, Pmpaddr, Cpuctrl, Mcycle, Mcycleh}
use Rattle.ibx_csr.specs.declared.name.Csr.TheVariants.{Mseccfg}
use Rattle.ibx_csr.specs.Bits.{is_control_in, is_control_at}
use Rattle.ibx_csr.specs.Table.{csr_of, readable, writable, is_read_only}

-- no counter that moves by itself, and not the interrupt lines
abbrev pub is_steady : Option Csr → Bool
is_steady (Some Mip) = false
is_steady (Some Mcycle) = false
is_steady (Some Mcycleh) = false
is_steady _ = true

-- none of the registers that time depends on
abbrev pub is_loose : Option Csr → Bool
is_loose (Some Mstatus) = false
is_loose (Some Mie) = false
is_loose (Some (Pmpcfg k)) = false
is_loose (Some (Pmpaddr k)) = false
is_loose (Some Cpuctrl) = false
is_loose (Some Mseccfg) = false
is_loose _ = true

-- ---- the two kinds of register

-- a control register is steady, and any other one loose: by the register, and by its address
steady_if : (o : Option Csr) → is_control_in o ≡ true → is_steady o ≡ true
steady_if (Some Mip) e = absurd (cc)
steady_if (Some Mcycle) e = absurd (cc)
steady_if (Some Mcycleh) e = absurd (cc)
steady_if _ e = refl

-- a register that is no control register is none that time depends on
loose_if : (o : Option Csr) → is_control_in o ≡ false → is_loose o ≡ true
loose_if (Some Mstatus) e = absurd (cc)
loose_if (Some Mie) e = absurd (cc)
loose_if (Some (Pmpcfg k)) e = absurd (cc)
loose_if (Some (Pmpaddr k)) e = absurd (cc)
loose_if (Some Cpuctrl) e = absurd (cc)
loose_if (Some Mseccfg) e = absurd (cc)
loose_if _ e = refl

-- at the address of a control register stands neither a half of mcycle nor mip
pub control_steady : (a : ℕ) → is_control_at a ≡ true → is_steady (csr_of a) ≡ true
control_steady a e = steady_if (csr_of a) e

-- at any other address stands none that time depends on
pub other_loose : (a : ℕ) → is_control_at a ≡ false → is_loose (csr_of a) ≡ true
other_loose a e = loose_if (csr_of a) e

-- the same from a mode

-- where it can't be read or written from a mode there is none
readable_by : (p : Option Csr → Bool) (machine : Bool) (o : Option Csr) → p None ≡ true → p o ≡ true
    → p (if machine then o else None) ≡ true
readable_by p true o n e = e
readable_by p false o n e = n

-- the same where a read-only address hides it from a write
writable_by : (p : Option Csr → Bool) (hidden : Bool) (o : Option Csr) → p None ≡ true → p o ≡ true
    → p (if hidden then None else o) ≡ true
writable_by p true o n e = n
writable_by p false o n e = e

-- so no mode reads a half of mcycle or mip at the address of a control register
pub readable_steady : (machine : Bool) (a : ℕ) → is_control_at a ≡ true → is_steady (readable machine a) ≡ true
readable_steady machine a e = readable_by is_steady machine (csr_of a) refl (control_steady a e)

-- at any other address no mode writes a register that time depends on
pub writable_loose : (machine : Bool) (a : ℕ) → is_control_at a ≡ false → is_loose (writable machine a) ≡ true
writable_loose machine a e = writable_by is_loose (is_read_only a) (readable machine a) refl
    (readable_by is_loose machine (csr_of a) refl (other_loose a e))
