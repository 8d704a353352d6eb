-- What the fields of an instruction keep to.
use Rattle.std.specs.Prelude.{◌≡◌, ℕ, ◌%◌, ◌^◌, ◌<◌, ◌⊎◌}
use Rattle.ibx_isa.specs.declared.insn.Insn.{Insn}
use Rattle.ibx_isa.specs.declared.insn.Insn.TheVariants.{Lui, Auipc, Jal, Jalr, Branch, Load, Store, AluImm, Alu}
use Rattle.ibx_isa.specs.declared.insn.Insn.TheVariants.{MulDiv, Csr, Fence, FenceI, Ecall, Ebreak, Mret, Wfi}

-- an access moves a byte, a halfword or a word
abbrev pub IsAccessSize : ℕ → Type 0
IsAccessSize size = (size ≡ 1) ⊎ ((size ≡ 2) ⊎ (size ≡ 4))

-- Registers are x0 to x31, immediates are words of 32 bits, the offsets of jumps and branches are even, and CSR
-- addresses have 12 bits (Unprivileged ISA, 2.1, 2.5 and 9.1).
abbrev pub IsWellFormed : Insn → Type 0
IsWellFormed (Lui rd imm) = (rd < 32) × (imm < 2 ^ 32)
IsWellFormed (Auipc rd imm) = (rd < 32) × (imm < 2 ^ 32)
IsWellFormed (Jal rd imm) = (rd < 32) × (imm < 2 ^ 32) × (imm % 2 ≡ 0)
IsWellFormed (Jalr rd rs1 imm) = (rd < 32) × (rs1 < 32) × (imm < 2 ^ 32)
IsWellFormed (Branch op rs1 rs2 imm) = (rs1 < 32) × (rs2 < 32) × (imm < 2 ^ 32) × (imm % 2 ≡ 0)
IsWellFormed (Load op rd rs1 imm) = (rd < 32) × (rs1 < 32) × (imm < 2 ^ 32)
IsWellFormed (Store size rs1 rs2 imm) = IsAccessSize size × (rs1 < 32) × (rs2 < 32) × (imm < 2 ^ 32)
IsWellFormed (AluImm op rd rs1 imm) = (rd < 32) × (rs1 < 32) × (imm < 2 ^ 32)
IsWellFormed (Alu op rd rs1 rs2) = (rd < 32) × (rs1 < 32) × (rs2 < 32)
IsWellFormed (MulDiv op rd rs1 rs2) = (rd < 32) × (rs1 < 32) × (rs2 < 32)
IsWellFormed (Csr op rd src imm addr) = (rd < 32) × (src < 32) × (addr < 2 ^ 12)
IsWellFormed Fence = Unit {0}
IsWellFormed FenceI = Unit {0}
IsWellFormed Ecall = Unit {0}
IsWellFormed Ebreak = Unit {0}
IsWellFormed Mret = Unit {0}
IsWellFormed Wfi = Unit {0}
