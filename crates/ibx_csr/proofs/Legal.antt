-- What a register holds is a word, and what it holds of mepc is even.
use Rattle.std.proofs.Common.{◌≡◌, ℕ, ◌-◌, ◌%◌, ◌^◌, ◌<◌, ◌∙◌, arith, bit_and, ◌==◌, if◌then◌else◌}
use Rattle.std.specs.Int.Bits.{or_zero_r}
use Rattle.std.proofs.lemmas.Nat.{and_le_r, and_mod, or_of_32}
use Rattle.ibx_isa.specs.ControlBits.{mpp_bits}
use Rattle.ibx_csr.specs.declared.name.Csr.{Csr}
use Rattle.ibx_csr.specs.declared.name.Csr.TheVariants.{Mstatus}
use Rattle.ibx_csr.specs.declared.bits.CsrBits.{CsrBits}
use Rattle.ibx_csr.specs.Bits.{bits_of, legal, legal_of}
use Rattle.ibx_csr.specs.Kept.{kept_mepc, stored_mstatus}

-- kept and fixed bits make a word of 32 bits, in a row of the table and in each register
legal-row : (r : CsrBits) (w : ℕ) → r.kept < 2 ^ 32 → legal r w < 2 ^ 32
legal-row r w small =
    or_of_32 (bit_and w r.kept) (bit_and r.value (2 ^ 32 - 1 - r.kept))
    (omega (arith, small, and_le_r w r.kept))
    (omega (arith, and_le_r r.value (2 ^ 32 - 1 - r.kept)))

-- whatever number is written, each register holds a word of 32 bits
pub legal-low : (c : Csr) (w : ℕ) → legal_of c w < 2 ^ 32
legal-low Mstatus w = legal-row (bits_of Mstatus) w (omega arith)
legal-low c w = legal-row (bits_of c) w (omega arith)

-- bit 0 of mepc isn't kept
pub kept_mepc-even : (w : ℕ) → kept_mepc w % 2 ≡ 0
kept_mepc-even w =
    rw (or_zero_r (bit_and w 0xfffffffe)) (and_mod w 0xfffffffe 1 ∙ omega (arith, and_le_r (w % 2 ^ 1) 0))

-- mstatus as it is stored is a word of 32 bits
pub stored-low : (w : ℕ) → stored_mstatus w < 2 ^ 32
stored-low w = legal-low Mstatus (if bit_and w mpp_bits == mpp_bits then w else bit_and w (2 ^ 32 - 1 - mpp_bits))
