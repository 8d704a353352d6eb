-- The compressed instructions of RV32C without floating point, and their expansions (Unprivileged ISA, 16).
-- A halfword fits a row where its bits under the mask are the match, and no exception holds.
use Rattle.std.specs.Prelude.{ℕ, ◌+◌, ◌-◌, ◌*◌, ◌/◌, ◌%◌, ◌^◌, Bool, not, List, [], ◌∷◌, Option}
use Rattle.ibx_bits.specs.Bytes.{bits_at}
use Rattle.ibx_decoder.specs.Table.{Row, first_fit}
use Rattle.ibx_isa.specs.Lengths.{is_long}

-- ---- words of the forms I, S, B, U, J and R (2.2 and 2.3); a negative immediate is in two's complement

-- bits 31:20 are imm[11:0]
abbrev pub i_word : ℕ → ℕ → ℕ → ℕ → ℕ → ℕ
i_word imm rs1 funct3 rd opcode = imm * 2 ^ 20 + rs1 * 2 ^ 15 + funct3 * 2 ^ 12 + rd * 2 ^ 7 + opcode

-- bits 31:25 are imm[11:5], and bits 11:7 imm[4:0]
abbrev pub s_word : ℕ → ℕ → ℕ → ℕ → ℕ → ℕ
s_word imm rs2 rs1 funct3 opcode =
    imm / 2 ^ 5 * 2 ^ 25 + rs2 * 2 ^ 20 + rs1 * 2 ^ 15 + funct3 * 2 ^ 12 + imm % 2 ^ 5 * 2 ^ 7 + opcode

-- bits 31:25 are imm[12|10:5], and bits 11:7 imm[4:1|11]
abbrev pub b_word : ℕ → ℕ → ℕ → ℕ → ℕ → ℕ
b_word imm rs2 rs1 funct3 opcode =
    imm / 2 ^ 12 * 2 ^ 31 + imm / 2 ^ 5 % 2 ^ 6 * 2 ^ 25 + rs2 * 2 ^ 20 + rs1 * 2 ^ 15 + funct3 * 2 ^ 12
    + imm / 2 % 2 ^ 4 * 2 ^ 8 + imm / 2 ^ 11 % 2 * 2 ^ 7 + opcode

-- bits 31:12 are imm[31:12]
abbrev pub u_word : ℕ → ℕ → ℕ → ℕ
u_word upper rd opcode = upper * 2 ^ 12 + rd * 2 ^ 7 + opcode

-- bits 31:12 are imm[20|10:1|11|19:12]
abbrev pub j_word : ℕ → ℕ → ℕ → ℕ
j_word imm rd opcode =
    imm / 2 ^ 20 * 2 ^ 31 + imm / 2 % 2 ^ 10 * 2 ^ 21 + imm / 2 ^ 11 % 2 * 2 ^ 20 + imm / 2 ^ 12 % 2 ^ 8 * 2 ^ 12
    + rd * 2 ^ 7 + opcode

-- bits 31:25 are funct7
abbrev pub r_word : ℕ → ℕ → ℕ → ℕ → ℕ → ℕ → ℕ
r_word funct7 rs2 rs1 funct3 rd opcode = i_word (funct7 * 2 ^ 5 + rs2) rs1 funct3 rd opcode

-- ---- the 32-bit instructions of the expansions

-- by major opcode, funct3 and, where there is one, funct7 (24); a shift's amount stands where rs2 does, and the offset
-- of JALR is 0
abbrev pub lui : ℕ → ℕ → ℕ
lui rd upper = u_word upper rd 0x37

-- JAL, a major opcode of its own: a jump by a signed offset of 21 bits, whose bit 0 isn't written
abbrev pub jal : ℕ → ℕ → ℕ
jal rd imm = j_word imm rd 0x6f

-- JALR, funct3 0, with the offset 0: a jump to just what rs1 holds
abbrev pub jalr : ℕ → ℕ → ℕ
jalr rd rs1 = i_word 0 rs1 0 rd 0x67

-- BEQ, funct3 0 of BRANCH: the offset has 13 bits, of which bit 0 isn't written
abbrev pub beq : ℕ → ℕ → ℕ → ℕ
beq rs1 rs2 imm = b_word imm rs2 rs1 0 0x63

-- BNE, funct3 1 of BRANCH, else as BEQ
abbrev pub bne : ℕ → ℕ → ℕ → ℕ
bne rs1 rs2 imm = b_word imm rs2 rs1 1 0x63

-- LW, funct3 2 of LOAD: a word at rs1 plus the immediate into rd
abbrev pub lw : ℕ → ℕ → ℕ → ℕ
lw rd rs1 imm = i_word imm rs1 2 rd 0x03

-- SW, funct3 2 of STORE: the word in rs2 to rs1 plus the immediate; the form S has no rd
abbrev pub sw : ℕ → ℕ → ℕ → ℕ
sw rs2 rs1 imm = s_word imm rs2 rs1 2 0x23

-- the integer computations, with an immediate, by an amount and with a register
abbrev pub addi : ℕ → ℕ → ℕ → ℕ
addi rd rs1 imm = i_word imm rs1 0 rd 0x13

-- ANDI, funct3 7 of OP-IMM
abbrev pub andi : ℕ → ℕ → ℕ → ℕ
andi rd rs1 imm = i_word imm rs1 7 rd 0x13

-- SLLI, funct3 1 of OP-IMM: only an amount below 32 leaves funct7 at 0
abbrev pub slli : ℕ → ℕ → ℕ → ℕ
slli rd rs1 amount = r_word 0 amount rs1 1 rd 0x13

-- SRLI, funct3 5 of OP-IMM with funct7 0: zeros come in at the left
abbrev pub srli : ℕ → ℕ → ℕ → ℕ
srli rd rs1 amount = r_word 0 amount rs1 5 rd 0x13

-- SRAI, SRLI but for bit 30 of the word, which is 1: copies of the sign come in at the left
abbrev pub srai : ℕ → ℕ → ℕ → ℕ
srai rd rs1 amount = r_word 0x20 amount rs1 5 rd 0x13

-- ADD, funct3 0 of OP with funct7 0; C.MV is this with rs1 x0
abbrev pub add : ℕ → ℕ → ℕ → ℕ
add rd rs1 rs2 = r_word 0 rs2 rs1 0 rd 0x33

-- SUB, ADD but for bit 30 of the word, which is 1: rs2 is taken from rs1
abbrev pub sub : ℕ → ℕ → ℕ → ℕ
sub rd rs1 rs2 = r_word 0x20 rs2 rs1 0 rd 0x33

-- XOR, funct3 4 of OP
abbrev pub xor : ℕ → ℕ → ℕ → ℕ
xor rd rs1 rs2 = r_word 0 rs2 rs1 4 rd 0x33

-- OR, funct3 6 of OP
abbrev pub or : ℕ → ℕ → ℕ → ℕ
or rd rs1 rs2 = r_word 0 rs2 rs1 6 rd 0x33

-- AND, funct3 7 of OP
abbrev pub and : ℕ → ℕ → ℕ → ℕ
and rd rs1 rs2 = r_word 0 rs2 rs1 7 rd 0x33

-- a word of its own (2.8)
abbrev pub ebreak : ℕ
ebreak = 0x00100073

-- ---- fields of a halfword (16.2)

-- registers of five bits: bits 11:7, the destination and the first source, and bits 6:2, the second source
abbrev pub wide_rd : ℕ → ℕ
wide_rd h = bits_at h 7 5

-- rs2 of the forms CR and CSS, any of the 32 registers
abbrev pub wide_rs2 : ℕ → ℕ
wide_rs2 h = bits_at h 2 5

-- registers of three bits, x8 to x15: bits 9:7 and bits 4:2
abbrev pub high_reg : ℕ → ℕ
high_reg h = 8 + bits_at h 7 3

-- rd' of the forms CIW and CL, and rs2' of the forms CS and CA
abbrev pub low_reg : ℕ → ℕ
low_reg h = 8 + bits_at h 2 3

-- C.ADDI4SPN's immediate: nzuimm[5:4|9:6|2|3] in bits 12:5
abbrev pub imm_addi4spn : ℕ → ℕ
imm_addi4spn h = bits_at h 7 4 * 2 ^ 6 + bits_at h 11 2 * 2 ^ 4 + bits_at h 5 1 * 2 ^ 3 + bits_at h 6 1 * 2 ^ 2

-- of C.LW and C.SW: uimm[5:3] in bits 12:10, uimm[2|6] in bits 6:5
abbrev pub imm_lw : ℕ → ℕ
imm_lw h = bits_at h 5 1 * 2 ^ 6 + bits_at h 10 3 * 2 ^ 3 + bits_at h 6 1 * 2 ^ 2

-- of C.LWSP: uimm[5] in bit 12, uimm[4:2|7:6] in bits 6:2
abbrev pub imm_lwsp : ℕ → ℕ
imm_lwsp h = bits_at h 2 2 * 2 ^ 6 + bits_at h 12 1 * 2 ^ 5 + bits_at h 4 3 * 2 ^ 2

-- of C.SWSP: uimm[5:2|7:6] in bits 12:7
abbrev pub imm_swsp : ℕ → ℕ
imm_swsp h = bits_at h 7 2 * 2 ^ 6 + bits_at h 9 4 * 2 ^ 2

-- a sign bit, as what it adds to a number of so many bits that is extended to `wide` bits
abbrev pub sign_part : ℕ → ℕ → ℕ → ℕ
sign_part sign bits wide = sign * (2 ^ wide - 2 ^ (bits - 1))

-- six bits, with the sign in bit 12 and the rest in bits 6:2, as 12 bits of an I immediate and as 20 bits of LUI's
abbrev pub imm_six : ℕ → ℕ
imm_six h = sign_part (bits_at h 12 1) 6 12 + bits_at h 2 5

-- of C.LUI: nzimm[17] in bit 12, nzimm[16:12] in bits 6:2, as the bits 31:12 that LUI holds
abbrev pub imm_lui : ℕ → ℕ
imm_lui h = sign_part (bits_at h 12 1) 6 20 + bits_at h 2 5

-- of C.ADDI16SP: nzimm[9] in bit 12, nzimm[4|6|8:7|5] in bits 6:2, as 12 bits
abbrev pub imm_addi16sp : ℕ → ℕ
imm_addi16sp h =
    sign_part (bits_at h 12 1) 10 12 + bits_at h 3 2 * 2 ^ 7 + bits_at h 5 1 * 2 ^ 6 + bits_at h 2 1 * 2 ^ 5
    + bits_at h 6 1 * 2 ^ 4

-- of C.JAL and C.J: imm[11|4|9:8|10|6|7|3:1|5] in bits 12:2, as 21 bits
abbrev pub imm_jump : ℕ → ℕ
imm_jump h =
    sign_part (bits_at h 12 1) 12 21 + bits_at h 8 1 * 2 ^ 10 + bits_at h 9 2 * 2 ^ 8 + bits_at h 6 1 * 2 ^ 7
    + bits_at h 7 1 * 2 ^ 6
    + bits_at h 2 1 * 2 ^ 5 + bits_at h 11 1 * 2 ^ 4 + bits_at h 3 3 * 2

-- of C.BEQZ and C.BNEZ: imm[8|4:3] in bits 12:10, imm[7:6|2:1|5] in bits 6:2, as 13 bits
abbrev pub imm_branch : ℕ → ℕ
imm_branch h =
    sign_part (bits_at h 12 1) 9 13 + bits_at h 5 2 * 2 ^ 6 + bits_at h 2 1 * 2 ^ 5 + bits_at h 10 2 * 2 ^ 3
    + bits_at h 3 2 * 2

-- ---- rows, by the quadrant in bits 1:0 and the number in bits 15:13 (16.8); a hint is a row like any other

-- a row gives a word by the halfword, unless an exception holds
abbrev pub row : ℕ → ℕ → List (ℕ × ℕ) → (ℕ → ℕ) → Row ℕ
row mask matches unless word = record { mask = mask; matches = matches; unless = unless; gives = word }

-- the table, a line for each compressed instruction or group of them
abbrev pub rows : List (Row ℕ)
rows =
    -- C.ADDI4SPN, but for the immediate 0; C.LW, C.SW
    row 0xe003 0x0000 ((0x1fe0, 0) ∷ []) (λ h. addi (low_reg h) 2 (imm_addi4spn h)) ∷
    row 0xe003 0x4000 [] (λ h. lw (low_reg h) (high_reg h) (imm_lw h)) ∷
    row 0xe003 0xc000 [] (λ h. sw (low_reg h) (high_reg h) (imm_lw h)) ∷
    -- C.NOP and C.ADDI, C.JAL, C.LI
    row 0xe003 0x0001 [] (λ h. addi (wide_rd h) (wide_rd h) (imm_six h)) ∷
    row 0xe003 0x2001 [] (λ h. jal 1 (imm_jump h)) ∷
    row 0xe003 0x4001 [] (λ h. addi (wide_rd h) 0 (imm_six h)) ∷
    -- C.ADDI16SP, where rd is x2, and C.LUI, where it isn't; but for the immediate 0
    row 0xef83 0x6101 ((0x107c, 0) ∷ []) (λ h. addi 2 2 (imm_addi16sp h)) ∷
    row 0xe003 0x6001 ((0x0f80, 0x0100) ∷ (0x107c, 0) ∷ []) (λ h. lui (wide_rd h) (imm_lui h)) ∷
    -- C.SRLI and C.SRAI by less than 32, C.ANDI
    row 0xfc03 0x8001 [] (λ h. srli (high_reg h) (high_reg h) (bits_at h 2 5)) ∷
    row 0xfc03 0x8401 [] (λ h. srai (high_reg h) (high_reg h) (bits_at h 2 5)) ∷
    row 0xec03 0x8801 [] (λ h. andi (high_reg h) (high_reg h) (imm_six h)) ∷
    -- C.SUB, C.XOR, C.OR, C.AND
    row 0xfc63 0x8c01 [] (λ h. sub (high_reg h) (high_reg h) (low_reg h)) ∷
    row 0xfc63 0x8c21 [] (λ h. xor (high_reg h) (high_reg h) (low_reg h)) ∷
    row 0xfc63 0x8c41 [] (λ h. or (high_reg h) (high_reg h) (low_reg h)) ∷
    row 0xfc63 0x8c61 [] (λ h. and (high_reg h) (high_reg h) (low_reg h)) ∷
    -- C.J, C.BEQZ, C.BNEZ
    row 0xe003 0xa001 [] (λ h. jal 0 (imm_jump h)) ∷
    row 0xe003 0xc001 [] (λ h. beq (high_reg h) 0 (imm_branch h)) ∷
    row 0xe003 0xe001 [] (λ h. bne (high_reg h) 0 (imm_branch h)) ∷
    -- C.SLLI by less than 32, C.LWSP, but for rd x0
    row 0xf003 0x0002 [] (λ h. slli (wide_rd h) (wide_rd h) (bits_at h 2 5)) ∷
    row 0xe003 0x4002 ((0x0f80, 0) ∷ []) (λ h. lw (wide_rd h) 2 (imm_lwsp h)) ∷
    -- C.JR, but for rs1 x0, and C.MV, but for rs2 x0
    row 0xf07f 0x8002 ((0x0f80, 0) ∷ []) (λ h. jalr 0 (wide_rd h)) ∷
    row 0xf003 0x8002 ((0x007c, 0) ∷ []) (λ h. add (wide_rd h) 0 (wide_rs2 h)) ∷
    -- C.EBREAK; C.JALR, but for rs1 x0; C.ADD, but for rs2 x0
    row 0xffff 0x9002 [] (λ h. ebreak) ∷
    row 0xf07f 0x9002 ((0x0f80, 0) ∷ []) (λ h. jalr 1 (wide_rd h)) ∷
    row 0xf003 0x9002 ((0x007c, 0) ∷ []) (λ h. add (wide_rd h) (wide_rd h) (wide_rs2 h)) ∷
    -- C.SWSP
    row 0xe003 0xc002 [] (λ h. sw (wide_rs2 h) 2 (imm_swsp h)) ∷ []

-- the 32-bit word that a halfword stands for, none where no row fits
unfoldable pub expand_of : ℕ → Option ℕ
expand_of h = first_fit h rows

-- the halfword begins no 32-bit instruction (1.5)
abbrev pub is_short_of : ℕ → Bool
is_short_of h = not (is_long h)
