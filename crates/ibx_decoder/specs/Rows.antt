-- The 32-bit instructions of RV32IM, Zicsr and Zifencei, MRET and WFI (Unprivileged ISA, 24; Privileged ISA, 3.3).
-- A word fits a row where its bits under the mask are the match.
use Rattle.std.specs.Prelude.{ℕ, ◌+◌, ◌*◌, ◌/◌, ◌^◌, ◌<◌, IsSome, true, false, List, [], ◌∷◌, Option}
use Rattle.ibx_isa.specs.declared.insn.Insn.{Insn}
use Rattle.ibx_isa.specs.declared.insn.Insn.TheVariants.{Lui, Auipc, Jal, Jalr, Branch, Load, Store, AluImm, Alu}
use Rattle.ibx_isa.specs.declared.insn.Insn.TheVariants.{MulDiv, Csr, Fence, FenceI, Ecall, Ebreak, Mret, Wfi}
use Rattle.ibx_isa.specs.declared.insn.BranchOp.TheVariants.{Eq, Ne, Lt, Ge, Ltu, Geu}
use Rattle.ibx_isa.specs.declared.insn.LoadOp.TheVariants.{Lb, Lh, Lw, Lbu, Lhu}
use Rattle.ibx_isa.specs.declared.insn.AluOp.TheVariants.{Add, Sub, Sll, Slt, Sltu, Xor, Srl, Sra, Or, And}
use Rattle.ibx_isa.specs.declared.insn.MdOp.TheVariants.{Mul, Mulh, Mulhsu, Mulhu, Div, Divu, Rem, Remu}
use Rattle.ibx_isa.specs.declared.insn.CsrOp.TheVariants.{Write, Set, Clear}
use Rattle.ibx_bits.specs.Bytes.{bits_at, sign_extended}
use Rattle.ibx_decoder.specs.Table.{Row, first_fit}

-- ---- fields (Unprivileged ISA, 2.2 and 2.3)

-- registers: the destination and the two sources
abbrev pub rd : ℕ → ℕ
rd w = bits_at w 7 5

-- the first source in bits 19:15; CSRRWI, CSRRSI and CSRRCI have their immediate there
abbrev pub rs1 : ℕ → ℕ
rs1 w = bits_at w 15 5

-- the second source in bits 24:20, of the forms R, S and B
abbrev pub rs2 : ℕ → ℕ
rs2 w = bits_at w 20 5

-- the immediates of the forms I, S, B, U and J
abbrev pub imm_i : ℕ → ℕ
imm_i w = sign_extended 12 (w / 2 ^ 20)

-- of stores: imm[11:5] in bits 31:25, imm[4:0] in bits 11:7, where other forms have rd
abbrev pub imm_s : ℕ → ℕ
imm_s w = sign_extended 12 (w / 2 ^ 25 * 2 ^ 5 + bits_at w 7 5)

-- of branches: imm[12|10:5] in bits 31:25, imm[4:1|11] in bits 11:7; bit 0 is 0
abbrev pub imm_b : ℕ → ℕ
imm_b w = sign_extended 13 (w / 2 ^ 31 * 2 ^ 12 + bits_at w 7 1 * 2 ^ 11 + bits_at w 25 6 * 2 ^ 5 + bits_at w 8 4 * 2)

-- of LUI and AUIPC: imm[31:12] in place, and the 12 bits below are 0
abbrev pub imm_u : ℕ → ℕ
imm_u w = w / 2 ^ 12 * 2 ^ 12

-- of JAL: imm[20|10:1|11|19:12] in bits 31:12; bit 0 is 0
abbrev pub imm_j : ℕ → ℕ
imm_j w =
    sign_extended 21 (w / 2 ^ 31 * 2 ^ 20 + bits_at w 12 8 * 2 ^ 12 + bits_at w 20 1 * 2 ^ 11 + bits_at w 21 10 * 2)

-- the amount of a shift by an immediate, and the address of a CSR
abbrev pub shamt : ℕ → ℕ
shamt w = bits_at w 20 5

-- the CSR's address of 12 bits, in bits 31:20
abbrev pub csr : ℕ → ℕ
csr w = w / 2 ^ 20

-- ---- rows

-- a row without exceptions, which gives an instruction by the word
abbrev pub row : ℕ → ℕ → (ℕ → Insn) → Row Insn
row mask matches insn = record { mask = mask; matches = matches; unless = []; gives = insn }

-- the table, with the immediates sign-extended to 32 bits
abbrev pub rows : List (Row Insn)
rows =
    -- LUI, AUIPC, JAL, JALR
    row 0x7f 0x37 (λ w. Lui (rd w) (imm_u w)) ∷
    row 0x7f 0x17 (λ w. Auipc (rd w) (imm_u w)) ∷
    row 0x7f 0x6f (λ w. Jal (rd w) (imm_j w)) ∷
    row 0x707f 0x67 (λ w. Jalr (rd w) (rs1 w) (imm_i w)) ∷
    -- BEQ, BNE, BLT, BGE, BLTU, BGEU
    row 0x707f 0x63 (λ w. Branch Eq (rs1 w) (rs2 w) (imm_b w)) ∷
    row 0x707f 0x1063 (λ w. Branch Ne (rs1 w) (rs2 w) (imm_b w)) ∷
    row 0x707f 0x4063 (λ w. Branch Lt (rs1 w) (rs2 w) (imm_b w)) ∷
    row 0x707f 0x5063 (λ w. Branch Ge (rs1 w) (rs2 w) (imm_b w)) ∷
    row 0x707f 0x6063 (λ w. Branch Ltu (rs1 w) (rs2 w) (imm_b w)) ∷
    row 0x707f 0x7063 (λ w. Branch Geu (rs1 w) (rs2 w) (imm_b w)) ∷
    -- LB, LH, LW, LBU, LHU
    row 0x707f 0x3 (λ w. Load Lb (rd w) (rs1 w) (imm_i w)) ∷
    row 0x707f 0x1003 (λ w. Load Lh (rd w) (rs1 w) (imm_i w)) ∷
    row 0x707f 0x2003 (λ w. Load Lw (rd w) (rs1 w) (imm_i w)) ∷
    row 0x707f 0x4003 (λ w. Load Lbu (rd w) (rs1 w) (imm_i w)) ∷
    row 0x707f 0x5003 (λ w. Load Lhu (rd w) (rs1 w) (imm_i w)) ∷
    -- SB, SH, SW
    row 0x707f 0x23 (λ w. Store 1 (rs1 w) (rs2 w) (imm_s w)) ∷
    row 0x707f 0x1023 (λ w. Store 2 (rs1 w) (rs2 w) (imm_s w)) ∷
    row 0x707f 0x2023 (λ w. Store 4 (rs1 w) (rs2 w) (imm_s w)) ∷
    -- ADDI, SLTI, SLTIU, XORI, ORI, ANDI; SLLI, SRLI, SRAI
    row 0x707f 0x13 (λ w. AluImm Add (rd w) (rs1 w) (imm_i w)) ∷
    row 0x707f 0x2013 (λ w. AluImm Slt (rd w) (rs1 w) (imm_i w)) ∷
    row 0x707f 0x3013 (λ w. AluImm Sltu (rd w) (rs1 w) (imm_i w)) ∷
    row 0x707f 0x4013 (λ w. AluImm Xor (rd w) (rs1 w) (imm_i w)) ∷
    row 0x707f 0x6013 (λ w. AluImm Or (rd w) (rs1 w) (imm_i w)) ∷
    row 0x707f 0x7013 (λ w. AluImm And (rd w) (rs1 w) (imm_i w)) ∷
    row 0xfe00707f 0x1013 (λ w. AluImm Sll (rd w) (rs1 w) (shamt w)) ∷
    row 0xfe00707f 0x5013 (λ w. AluImm Srl (rd w) (rs1 w) (shamt w)) ∷
    row 0xfe00707f 0x40005013 (λ w. AluImm Sra (rd w) (rs1 w) (shamt w)) ∷
    -- ADD, SUB, SLL, SLT, SLTU, XOR, SRL, SRA, OR, AND
    row 0xfe00707f 0x33 (λ w. Alu Add (rd w) (rs1 w) (rs2 w)) ∷
    row 0xfe00707f 0x40000033 (λ w. Alu Sub (rd w) (rs1 w) (rs2 w)) ∷
    row 0xfe00707f 0x1033 (λ w. Alu Sll (rd w) (rs1 w) (rs2 w)) ∷
    row 0xfe00707f 0x2033 (λ w. Alu Slt (rd w) (rs1 w) (rs2 w)) ∷
    row 0xfe00707f 0x3033 (λ w. Alu Sltu (rd w) (rs1 w) (rs2 w)) ∷
    row 0xfe00707f 0x4033 (λ w. Alu Xor (rd w) (rs1 w) (rs2 w)) ∷
    row 0xfe00707f 0x5033 (λ w. Alu Srl (rd w) (rs1 w) (rs2 w)) ∷
    row 0xfe00707f 0x40005033 (λ w. Alu Sra (rd w) (rs1 w) (rs2 w)) ∷
    row 0xfe00707f 0x6033 (λ w. Alu Or (rd w) (rs1 w) (rs2 w)) ∷
    row 0xfe00707f 0x7033 (λ w. Alu And (rd w) (rs1 w) (rs2 w)) ∷
    -- MUL, MULH, MULHSU, MULHU, DIV, DIVU, REM, REMU
    row 0xfe00707f 0x2000033 (λ w. MulDiv Mul (rd w) (rs1 w) (rs2 w)) ∷
    row 0xfe00707f 0x2001033 (λ w. MulDiv Mulh (rd w) (rs1 w) (rs2 w)) ∷
    row 0xfe00707f 0x2002033 (λ w. MulDiv Mulhsu (rd w) (rs1 w) (rs2 w)) ∷
    row 0xfe00707f 0x2003033 (λ w. MulDiv Mulhu (rd w) (rs1 w) (rs2 w)) ∷
    row 0xfe00707f 0x2004033 (λ w. MulDiv Div (rd w) (rs1 w) (rs2 w)) ∷
    row 0xfe00707f 0x2005033 (λ w. MulDiv Divu (rd w) (rs1 w) (rs2 w)) ∷
    row 0xfe00707f 0x2006033 (λ w. MulDiv Rem (rd w) (rs1 w) (rs2 w)) ∷
    row 0xfe00707f 0x2007033 (λ w. MulDiv Remu (rd w) (rs1 w) (rs2 w)) ∷
    -- FENCE and FENCE.I, whose other fields are ignored
    row 0x707f 0xf (λ w. Fence) ∷
    row 0x707f 0x100f (λ w. FenceI) ∷
    -- CSRRW, CSRRS, CSRRC, CSRRWI, CSRRSI, CSRRCI
    row 0x707f 0x1073 (λ w. Csr Write (rd w) (rs1 w) false (csr w)) ∷
    row 0x707f 0x2073 (λ w. Csr Set (rd w) (rs1 w) false (csr w)) ∷
    row 0x707f 0x3073 (λ w. Csr Clear (rd w) (rs1 w) false (csr w)) ∷
    row 0x707f 0x5073 (λ w. Csr Write (rd w) (rs1 w) true (csr w)) ∷
    row 0x707f 0x6073 (λ w. Csr Set (rd w) (rs1 w) true (csr w)) ∷
    row 0x707f 0x7073 (λ w. Csr Clear (rd w) (rs1 w) true (csr w)) ∷
    -- ECALL, EBREAK, MRET, WFI
    row 0xffffffff 0x73 (λ w. Ecall) ∷
    row 0xffffffff 0x100073 (λ w. Ebreak) ∷
    row 0xffffffff 0x30200073 (λ w. Mret) ∷
    row 0xffffffff 0x10500073 (λ w. Wfi) ∷ []

-- the instruction that a word stands for, none where no row fits
unfoldable pub decode_of : ℕ → Option Insn
decode_of w = first_fit w rows

-- a word of 32 bits that a row fits
abbrev pub IsInstruction : ℕ → Type 0
IsInstruction w = (w < 2 ^ 32) × IsSome (decode_of w)
