-- The expansion of a compressed instruction is an instruction.
use Rattle.std.proofs.Common.{◌≡◌, ℕ, ◌+◌, ◌*◌, ◌/◌, ◌%◌, ◌^◌, ◌<◌, Option, None, Some, refl, sym, ap, subst, ◌∙◌}
use Rattle.std.proofs.Common.{arith, inl, inr, lit<}
use Rattle.std.specs.Prelude.{bit_and, IfSome, IsSome, IsTrue, OnSome}
use Rattle.std.proofs.lemmas.Bool.{cases_eq, ne_eqb}
use Rattle.std.specs.Int.Bits.{and_mask}
use Rattle.ibx_isa.specs.declared.insn.Insn.{Insn}
use Rattle.ibx_bits.specs.Bytes.{bits_at}
use Rattle.ibx_decoder.specs.Table.{IsRow}
use Rattle.ibx_decoder.specs.Rows as Words
use Rattle.ibx_decoder.specs.Rows.{decode_of, IsInstruction}
use Rattle.ibx_decoder.specs.Compressed.{add, addi, and, andi, beq, bne, ebreak, jal, jalr, lui, lw, or, slli, srai}
use Rattle.ibx_decoder.specs.Compressed.{srli, sub, sw, xor, i_word, s_word, b_word, wide_rd, wide_rs2, high_reg}
use Rattle.ibx_decoder.specs.Compressed.{low_reg, imm_addi4spn, imm_lw, imm_lwsp, imm_swsp, imm_six, imm_lui}
use Rattle.ibx_decoder.specs.Compressed.{imm_addi16sp, imm_jump, imm_branch, rows, expand_of, is_short_of}
use Rattle.ibx_decoder.proofs.ByNumber.{no_short}
use Rattle.ibx_decoder.proofs.ByFields.{first_field_fit, decode_fields}
use Rattle.ibx_decoder.proofs.OneRow.{◌▸◌, AllGive, given, one_row, all_apart, apart, apart_pair, excepted}

-- at most one row fits a halfword, and its word is the expansion
pub expand_of-row : (h : ℕ) → IsRow h rows (expand_of h)
unfolding expand_of all_apart apart apart_pair excepted
expand_of-row h = one_row h rows refl

-- ---- a word of known fields

-- a word is an instruction where a row fits its opcode, funct3 and funct7: for a word of the forms I and R, S, and B
-- those are the parts that it was put together from
decode_at : (w op f3 f7 : ℕ) → w < 2 ^ 32 → w % 128 ≡ op → w / 4096 % 8 ≡ f3 → w / 33554432 ≡ f7
    → IsSome (first_field_fit op f3 f7 w Words.rows) → IsInstruction w
decode_at w op f3 f7 h a b c found =
    let op_is : bit_and w 127 ≡ op = and_mask w 7 ∙ a in
    let f3_is : bit_and (w / 4096) 7 ≡ f3 = and_mask (w / 4096) 3 ∙ b in
    let is : decode_of w ≡ first_field_fit op f3 f7 w Words.rows =
    decode_fields w h ∙ ap (λ (x : ℕ). first_field_fit x (bit_and (w / 4096) 7) (w / 33554432) w Words.rows) op_is
    ∙ ap (λ (x : ℕ). first_field_fit op x (w / 33554432) w Words.rows) f3_is
    ∙ ap (λ (x : ℕ). first_field_fit op f3 x w Words.rows) c in
    (h, subst (λ (o : Option Insn). IsSome o) (sym is) found)

-- in the forms I and R the upper seven bits of the immediate stand where funct7 does
i_fits : (imm rs1 f3 rd op f7 : ℕ) → imm < 2 ^ 12 → rs1 < 32 → f3 < 8 → rd < 32 → op < 128 → imm / 32 ≡ f7
    → IsSome (first_field_fit op f3 f7 (i_word imm rs1 f3 rd op) Words.rows) → IsInstruction (i_word imm rs1 f3 rd op)
i_fits imm rs1 f3 rd op f7 h1 h2 h3 h4 h5 h6 found =
    decode_at (i_word imm rs1 f3 rd op) op f3 f7 (omega arith) (omega arith) (omega arith) (omega arith) found

-- the form S parts its immediate, and leaves opcode and funct3 where the table looks
s_fits : (imm rs2 rs1 f3 op : ℕ) → imm < 2 ^ 12 → rs2 < 32 → rs1 < 32 → f3 < 8 → op < 128
    → IsSome (first_field_fit op f3 (s_word imm rs2 rs1 f3 op / 33554432) (s_word imm rs2 rs1 f3 op) Words.rows)
    → IsInstruction (s_word imm rs2 rs1 f3 op)
s_fits imm rs2 rs1 f3 op h1 h2 h3 h4 h5 found =
    decode_at (s_word imm rs2 rs1 f3 op) op f3 (s_word imm rs2 rs1 f3 op / 33554432) (omega arith) (omega arith)
    (omega arith) refl found

-- the form B shuffles 12 bits of an offset of 13, and moves neither of the two fields
b_fits : (imm rs2 rs1 f3 op : ℕ) → imm < 2 ^ 13 → rs2 < 32 → rs1 < 32 → f3 < 8 → op < 128
    → IsSome (first_field_fit op f3 (b_word imm rs2 rs1 f3 op / 33554432) (b_word imm rs2 rs1 f3 op) Words.rows)
    → IsInstruction (b_word imm rs2 rs1 f3 op)
b_fits imm rs2 rs1 f3 op h1 h2 h3 h4 h5 found =
    decode_at (b_word imm rs2 rs1 f3 op) op f3 (b_word imm rs2 rs1 f3 op / 33554432) (omega arith) (omega arith)
    (omega arith) refl found

-- ---- each instruction of an expansion

-- registers and immediates in their ranges make an instruction
lui_fits : (rd upper : ℕ) → rd < 32 → upper < 2 ^ 20 → IsInstruction (lui rd upper)
lui_fits rd upper h1 h2 =
    decode_at (lui rd upper) 0x37 (lui rd upper / 4096 % 8) (lui rd upper / 33554432) (omega arith) (omega arith) refl
    refl refl

-- JAL takes any offset of 21 bits
jal_fits : (rd imm : ℕ) → rd < 32 → imm < 2 ^ 21 → IsInstruction (jal rd imm)
jal_fits rd imm h1 h2 =
    decode_at (jal rd imm) 0x6f (jal rd imm / 4096 % 8) (jal rd imm / 33554432) (omega arith) (omega arith) refl refl
    refl

-- JALR, here with the offset 0, goes by any register
jalr_fits : (rd rs1 : ℕ) → rd < 32 → rs1 < 32 → IsInstruction (jalr rd rs1)
jalr_fits rd rs1 h1 h2 = i_fits 0 rs1 0 rd 0x67 0 (lit< tt) h2 (lit< tt) h1 (lit< tt) refl refl

-- EBREAK is one word, which is its own row
ebreak_fits : IsInstruction ebreak
unfolding decode_of
ebreak_fits = (lit< tt, refl)

-- BEQ compares any two registers, with an offset of 13 bits
beq_fits : (rs1 rs2 imm : ℕ) → rs1 < 32 → rs2 < 32 → imm < 2 ^ 13 → IsInstruction (beq rs1 rs2 imm)
beq_fits rs1 rs2 imm h1 h2 h3 = b_fits imm rs2 rs1 0 0x63 h3 h2 h1 (lit< tt) (lit< tt) refl

-- BNE has another funct3 than BEQ, and the same ranges
bne_fits : (rs1 rs2 imm : ℕ) → rs1 < 32 → rs2 < 32 → imm < 2 ^ 13 → IsInstruction (bne rs1 rs2 imm)
bne_fits rs1 rs2 imm h1 h2 h3 = b_fits imm rs2 rs1 1 0x63 h3 h2 h1 (lit< tt) (lit< tt) refl

-- SW takes any base, and an offset of 12 bits
sw_fits : (rs2 rs1 imm : ℕ) → rs2 < 32 → rs1 < 32 → imm < 2 ^ 12 → IsInstruction (sw rs2 rs1 imm)
sw_fits rs2 rs1 imm h1 h2 h3 = s_fits imm rs2 rs1 2 0x23 h3 h1 h2 (lit< tt) (lit< tt) refl

-- LW takes any offset of 12 bits, since a load has no funct7
lw_fits : (rd rs1 imm : ℕ) → rd < 32 → rs1 < 32 → imm < 2 ^ 12 → IsInstruction (lw rd rs1 imm)
lw_fits rd rs1 imm h1 h2 h3 = i_fits imm rs1 2 rd 0x03 (imm / 32) h3 h2 (lit< tt) h1 (lit< tt) refl refl

-- ADDI takes any immediate of 12 bits, and x0 for either register
addi_fits : (rd rs1 imm : ℕ) → rd < 32 → rs1 < 32 → imm < 2 ^ 12 → IsInstruction (addi rd rs1 imm)
addi_fits rd rs1 imm h1 h2 h3 = i_fits imm rs1 0 rd 0x13 (imm / 32) h3 h2 (lit< tt) h1 (lit< tt) refl refl

-- ANDI is ADDI but for its funct3, 7
andi_fits : (rd rs1 imm : ℕ) → rd < 32 → rs1 < 32 → imm < 2 ^ 12 → IsInstruction (andi rd rs1 imm)
andi_fits rd rs1 imm h1 h2 h3 = i_fits imm rs1 7 rd 0x13 (imm / 32) h3 h2 (lit< tt) h1 (lit< tt) refl refl

-- shifts by an amount, and computations with a register
slli_fits : (rd rs1 rs2 : ℕ) → rd < 32 → rs1 < 32 → rs2 < 32 → IsInstruction (slli rd rs1 rs2)
slli_fits rd rs1 rs2 h1 h2 h3 =
    i_fits (0 * 2 ^ 5 + rs2) rs1 1 rd 0x13 0 (omega arith) h2 (lit< tt) h1 (lit< tt) (omega arith) refl

-- SRLI has funct7 0 in front of its amount
srli_fits : (rd rs1 rs2 : ℕ) → rd < 32 → rs1 < 32 → rs2 < 32 → IsInstruction (srli rd rs1 rs2)
srli_fits rd rs1 rs2 h1 h2 h3 =
    i_fits (0 * 2 ^ 5 + rs2) rs1 5 rd 0x13 0 (omega arith) h2 (lit< tt) h1 (lit< tt) (omega arith) refl

-- SRAI has 32 there, and the funct3 of SRLI
srai_fits : (rd rs1 rs2 : ℕ) → rd < 32 → rs1 < 32 → rs2 < 32 → IsInstruction (srai rd rs1 rs2)
srai_fits rd rs1 rs2 h1 h2 h3 =
    i_fits (32 * 2 ^ 5 + rs2) rs1 5 rd 0x13 32 (omega arith) h2 (lit< tt) h1 (lit< tt) (omega arith) refl

-- ADD, for C.ADD and C.MV, has both functions 0
add_fits : (rd rs1 rs2 : ℕ) → rd < 32 → rs1 < 32 → rs2 < 32 → IsInstruction (add rd rs1 rs2)
add_fits rd rs1 rs2 h1 h2 h3 =
    i_fits (0 * 2 ^ 5 + rs2) rs1 0 rd 0x33 0 (omega arith) h2 (lit< tt) h1 (lit< tt) (omega arith) refl

-- SUB is ADD with funct7 32
sub_fits : (rd rs1 rs2 : ℕ) → rd < 32 → rs1 < 32 → rs2 < 32 → IsInstruction (sub rd rs1 rs2)
sub_fits rd rs1 rs2 h1 h2 h3 =
    i_fits (32 * 2 ^ 5 + rs2) rs1 0 rd 0x33 32 (omega arith) h2 (lit< tt) h1 (lit< tt) (omega arith) refl

-- XOR of any registers has a row at funct3 4
xor_fits : (rd rs1 rs2 : ℕ) → rd < 32 → rs1 < 32 → rs2 < 32 → IsInstruction (xor rd rs1 rs2)
xor_fits rd rs1 rs2 h1 h2 h3 =
    i_fits (0 * 2 ^ 5 + rs2) rs1 4 rd 0x33 0 (omega arith) h2 (lit< tt) h1 (lit< tt) (omega arith) refl

-- OR has one at funct3 6
or_fits : (rd rs1 rs2 : ℕ) → rd < 32 → rs1 < 32 → rs2 < 32 → IsInstruction (or rd rs1 rs2)
or_fits rd rs1 rs2 h1 h2 h3 =
    i_fits (0 * 2 ^ 5 + rs2) rs1 6 rd 0x33 0 (omega arith) h2 (lit< tt) h1 (lit< tt) (omega arith) refl

-- AND has one at funct3 7, the last
and_fits : (rd rs1 rs2 : ℕ) → rd < 32 → rs1 < 32 → rs2 < 32 → IsInstruction (and rd rs1 rs2)
and_fits rd rs1 rs2 h1 h2 h3 =
    i_fits (0 * 2 ^ 5 + rs2) rs1 7 rd 0x33 0 (omega arith) h2 (lit< tt) h1 (lit< tt) (omega arith) refl

-- ---- the fields of a halfword are in their ranges

-- registers are below 32, and so are amounts
low_reg-lt : (h : ℕ) → low_reg h < 32
low_reg-lt h = omega arith

-- three bits name x8 to x15, here bits 9:7
high_reg-lt : (h : ℕ) → high_reg h < 32
high_reg-lt h = omega arith

-- five bits name any register, here bits 11:7
wide_rd-lt : (h : ℕ) → wide_rd h < 32
wide_rd-lt h = omega arith

-- bits 6:2 name the second source
wide_rs2-lt : (h : ℕ) → wide_rs2 h < 32
wide_rs2-lt h = omega arith

-- read as an amount, the same five bits shift by less than 32
amount-lt : (h : ℕ) → bits_at h 2 5 < 32
amount-lt h = omega arith

-- immediates have as many bits as their form takes
imm_addi4spn-lt : (h : ℕ) → imm_addi4spn h < 2 ^ 12
imm_addi4spn-lt h = omega arith

-- the offset of C.LW and C.SW, a multiple of 4 below 128, fits the 12 bits of its forms
imm_lw-lt : (h : ℕ) → imm_lw h < 2 ^ 12
imm_lw-lt h = omega arith

-- so does that of C.LWSP, below 256
imm_lwsp-lt : (h : ℕ) → imm_lwsp h < 2 ^ 12
imm_lwsp-lt h = omega arith

-- and that of C.SWSP, which is in other bits of the halfword
imm_swsp-lt : (h : ℕ) → imm_swsp h < 2 ^ 12
imm_swsp-lt h = omega arith

-- six bits with their sign are extended to 12, and no further
imm_six-lt : (h : ℕ) → imm_six h < 2 ^ 12
imm_six-lt h = omega arith

-- the ten bits of C.ADDI16SP are extended to 12 in the same way
imm_addi16sp-lt : (h : ℕ) → imm_addi16sp h < 2 ^ 12
imm_addi16sp-lt h = omega arith

-- for C.LUI six bits are extended to the 20 of the form U
imm_lui-lt : (h : ℕ) → imm_lui h < 2 ^ 20
imm_lui-lt h = omega arith

-- a jump's 12 bits are extended to the 21 of the form J
imm_jump-lt : (h : ℕ) → imm_jump h < 2 ^ 21
imm_jump-lt h = omega arith

-- a branch's nine bits are extended to the 13 of the form B
imm_branch-lt : (h : ℕ) → imm_branch h < 2 ^ 13
imm_branch-lt h = omega arith

-- so each row's word is an instruction, and each expansion
all_fit : (h : ℕ) → AllGive h IsInstruction rows
all_fit h =
    -- C.ADDI4SPN, C.LW, C.SW
    (λ _. addi_fits (low_reg h) 2 (imm_addi4spn h) (low_reg-lt h) (lit< tt) (imm_addi4spn-lt h)) ▸
    (λ _. lw_fits (low_reg h) (high_reg h) (imm_lw h) (low_reg-lt h) (high_reg-lt h) (imm_lw-lt h)) ▸
    (λ _. sw_fits (low_reg h) (high_reg h) (imm_lw h) (low_reg-lt h) (high_reg-lt h) (imm_lw-lt h)) ▸
    -- C.ADDI, C.JAL, C.LI, C.ADDI16SP, C.LUI
    (λ _. addi_fits (wide_rd h) (wide_rd h) (imm_six h) (wide_rd-lt h) (wide_rd-lt h) (imm_six-lt h)) ▸
    (λ _. jal_fits 1 (imm_jump h) (lit< tt) (imm_jump-lt h)) ▸
    (λ _. addi_fits (wide_rd h) 0 (imm_six h) (wide_rd-lt h) (lit< tt) (imm_six-lt h)) ▸
    (λ _. addi_fits 2 2 (imm_addi16sp h) (lit< tt) (lit< tt) (imm_addi16sp-lt h)) ▸
    (λ _. lui_fits (wide_rd h) (imm_lui h) (wide_rd-lt h) (imm_lui-lt h)) ▸
    -- C.SRLI, C.SRAI, C.ANDI, C.SUB, C.XOR, C.OR, C.AND
    (λ _. srli_fits (high_reg h) (high_reg h) (bits_at h 2 5) (high_reg-lt h) (high_reg-lt h) (amount-lt h)) ▸
    (λ _. srai_fits (high_reg h) (high_reg h) (bits_at h 2 5) (high_reg-lt h) (high_reg-lt h) (amount-lt h)) ▸
    (λ _. andi_fits (high_reg h) (high_reg h) (imm_six h) (high_reg-lt h) (high_reg-lt h) (imm_six-lt h)) ▸
    (λ _. sub_fits (high_reg h) (high_reg h) (low_reg h) (high_reg-lt h) (high_reg-lt h) (low_reg-lt h)) ▸
    (λ _. xor_fits (high_reg h) (high_reg h) (low_reg h) (high_reg-lt h) (high_reg-lt h) (low_reg-lt h)) ▸
    (λ _. or_fits (high_reg h) (high_reg h) (low_reg h) (high_reg-lt h) (high_reg-lt h) (low_reg-lt h)) ▸
    (λ _. and_fits (high_reg h) (high_reg h) (low_reg h) (high_reg-lt h) (high_reg-lt h) (low_reg-lt h)) ▸
    -- C.J, C.BEQZ, C.BNEZ
    (λ _. jal_fits 0 (imm_jump h) (lit< tt) (imm_jump-lt h)) ▸
    (λ _. beq_fits (high_reg h) 0 (imm_branch h) (high_reg-lt h) (lit< tt) (imm_branch-lt h)) ▸
    (λ _. bne_fits (high_reg h) 0 (imm_branch h) (high_reg-lt h) (lit< tt) (imm_branch-lt h)) ▸
    -- C.SLLI, C.LWSP, C.JR, C.MV, C.EBREAK, C.JALR, C.ADD, C.SWSP
    (λ _. slli_fits (wide_rd h) (wide_rd h) (bits_at h 2 5) (wide_rd-lt h) (wide_rd-lt h) (amount-lt h)) ▸
    (λ _. lw_fits (wide_rd h) 2 (imm_lwsp h) (wide_rd-lt h) (lit< tt) (imm_lwsp-lt h)) ▸
    (λ _. jalr_fits 0 (wide_rd h) (lit< tt) (wide_rd-lt h)) ▸
    (λ _. add_fits (wide_rd h) 0 (wide_rs2 h) (wide_rd-lt h) (lit< tt) (wide_rs2-lt h)) ▸
    (λ _. ebreak_fits) ▸
    (λ _. jalr_fits 1 (wide_rd h) (lit< tt) (wide_rd-lt h)) ▸
    (λ _. add_fits (wide_rd h) (wide_rd h) (wide_rs2 h) (wide_rd-lt h) (wide_rd-lt h) (wide_rs2-lt h)) ▸
    (λ _. sw_fits (wide_rs2 h) 2 (imm_swsp h) (wide_rs2-lt h) (lit< tt) (imm_swsp-lt h)) ▸ tt

-- no halfword expands to a word that doesn't decode
pub expand_of-fits : (h : ℕ) → IfSome (expand_of h) IsInstruction
unfolding expand_of
expand_of-fits h = given h IsInstruction rows (all_fit h)

-- ---- only a short halfword is expanded

-- what holds anyway holds of an answer
of_any : (o : Option ℕ) (P : Type 0) → P → OnSome o P
of_any None P p = tt
of_any (Some word) P p = p

-- each row's quadrant is another than 3
pub expand_of-short : (h : ℕ) → h < 2 ^ 16 → OnSome (expand_of h) (IsTrue (is_short_of h))
expand_of-short h hh = elim (cases_eq (h % 4) 3) [
  | inl e ↦ rw (no_short h hh e) tt
  | inr e ↦
      let short : IsTrue (is_short_of h) = rw (ne_eqb (h % 4) 3 e) refl in
      of_any (expand_of h) (IsTrue (is_short_of h)) short
]
