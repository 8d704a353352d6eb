-- The registers that a row reads (Unprivileged ISA, 2.2).
use Rattle.std.specs.Prelude.{ℕ, false}
use Rattle.ibx_isa.specs.declared.insn.Insn.{Insn}
use Rattle.ibx_isa.specs.declared.insn.Insn.TheVariants.{Jalr, Branch, Load, Store, AluImm, Alu, MulDiv, Csr}

-- the registers that an instruction reads as rs1 and rs2, 0 where it reads none
abbrev pub source1 : Insn → ℕ
source1 (Jalr rd rs1 imm) = rs1
source1 (Branch op rs1 rs2 imm) = rs1
source1 (Load op rd rs1 imm) = rs1
source1 (Store size rs1 rs2 imm) = rs1
source1 (AluImm op rd rs1 imm) = rs1
source1 (Alu op rd rs1 rs2) = rs1
source1 (MulDiv op rd rs1 rs2) = rs1
source1 (Csr op rd src false addr) = src
source1 _ = 0

-- rs2, which only branches, stores and operations on two registers have
abbrev pub source2 : Insn → ℕ
source2 (Branch op rs1 rs2 imm) = rs2
source2 (Store size rs1 rs2 imm) = rs2
source2 (Alu op rd rs1 rs2) = rs2
source2 (MulDiv op rd rs1 rs2) = rs2
source2 _ = 0
