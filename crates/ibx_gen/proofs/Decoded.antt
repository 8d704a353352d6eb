-- A body word decodes to the instruction that its draw chooses.
use Rattle.std.proofs.Common.{◌≡◌, ℕ, zero, suc, ◌+◌, ◌*◌, ◌/◌, ◌%◌, ◌^◌, ◌<◌, ◌≤◌, [], ◌∷◌, ◌++◌, refl, ◌∙◌, ap}
use Rattle.std.proofs.Common.{arith}
use Rattle.std.proofs.Common.{Some, eq-or-lt_of_le, inl, inr, add-one, subst}
use Rattle.std.specs.Prelude.{bit_and, slice_get, slice_index}
use Rattle.std.specs.Int.Bits.{and_mask}
use Rattle.std.proofs.lemmas.Bool.Decides.{nat_tests}
use Rattle.std.proofs.lemmas.List.{get_or_append_left, get_or-append-add}
use Rattle.std.proofs.Math.Seq.{get_or-append_seam}
use Rattle.ibx_gen.proofs.Bodies.{length-body}
use Rattle.ibx_bits.specs.Bytes.{bits_at, sign_extended}
use Rattle.ibx_decoder.specs.Rows.{decode_of}
use Rattle.ibx_decoder.proofs.ByFields.{branch_rows, load_rows, lui_rows, op_imm_rows, op_rows, store_rows}
use Rattle.ibx_isa.specs.declared.insn.Insn.TheVariants.{Alu, AluImm, Branch, Load, Lui, MulDiv, Store}
use Rattle.ibx_isa.specs.declared.insn.AluOp.TheVariants.{Sub}
use Rattle.ibx_isa.specs.declared.insn.LoadOp.TheVariants.{Lw}
use Rattle.ibx_isa.specs.declared.insn.BranchOp.TheVariants.{Ne}
use Rattle.ibx_isa.specs.declared.insn.AluOp.TheVariants.{Add}
use Rattle.ibx_gen.specs.Draws.{draw_of}
use Rattle.ibx_gen.specs.Words.{b_type, body, body_word, choices, closing, first_of, i_type, offset_of, opening}
use Rattle.ibx_gen.specs.Words.{operation_of, program, r_type, result_of, second_of, s_type, u_type}
use Rattle.ibx_gen.specs.Instructions.{IsDrawn, alu_op, instructions, md_op}

-- the fields of a word, where they stand
record HasFields (w funct7 rs2 rs1 funct3 rd opcode : ℕ) : Type 0 where
  fits : w < 2 ^ 32
  low : bit_and w 127 ≡ opcode
  middle : bit_and (w / 4096) 7 ≡ funct3
  high : w / 33554432 ≡ funct7
  result : bits_at w 7 5 ≡ rd
  first : bits_at w 15 5 ≡ rs1
  second : bits_at w 20 5 ≡ rs2

-- each within its width
has_fields : (w funct7 rs2 rs1 funct3 rd opcode : ℕ) → w ≡ r_type funct7 rs2 rs1 funct3 rd opcode
    → funct7 < 128 → rs2 < 32 → rs1 < 32 → funct3 < 8 → rd < 32 → opcode < 128 → HasFields w funct7 rs2 rs1 funct3 rd
    opcode
has_fields w funct7 rs2 rs1 funct3 rd opcode is a b c d e f = record {
  fits = omega arith;
  low = and_mask w 7 ∙ omega arith;
  middle = and_mask (w / 4096) 3 ∙ omega arith;
  high = omega arith;
  result = omega arith;
  first = omega arith;
  second = omega arith;
}

-- the operations of two registers, by number
alu : (w rs2 rs1 s rd : ℕ) → s < 8 → HasFields w 0 rs2 rs1 s rd 51 → decode_of w ≡ Some (Alu (alu_op s) rd rs1 rs2)
alu w rs2 rs1 zero rd small h = op_rows w h.fits h.low ∙ rw (h.middle, h.high, h.result, h.first, h.second) refl
alu w rs2 rs1 (suc zero) rd small h = op_rows w h.fits h.low ∙ rw (h.middle, h.high, h.result, h.first, h.second) refl
alu w rs2 rs1 (suc (suc zero)) rd small h = op_rows w h.fits h.low ∙ rw (h.middle, h.high, h.result, h.first, h.second)
    refl
alu w rs2 rs1 (suc (suc (suc zero))) rd small h = op_rows w h.fits h.low ∙ rw (
  h.middle,
  h.high,
  h.result,
  h.first,
  h.second,
) refl
alu w rs2 rs1 (suc (suc (suc (suc zero)))) rd small h = op_rows w h.fits h.low ∙ rw
    (h.middle, h.high, h.result, h.first, h.second) refl
alu w rs2 rs1 (suc (suc (suc (suc (suc zero))))) rd small h = op_rows w h.fits h.low ∙ rw
    (h.middle, h.high, h.result, h.first, h.second) refl
alu w rs2 rs1 (suc (suc (suc (suc (suc (suc zero)))))) rd small h = op_rows w h.fits h.low ∙ rw
    (h.middle, h.high, h.result, h.first, h.second) refl
alu w rs2 rs1 (suc (suc (suc (suc (suc (suc (suc zero))))))) rd small h = op_rows w h.fits h.low ∙ rw
    (h.middle, h.high, h.result, h.first, h.second) refl
alu w rs2 rs1 (suc (suc (suc (suc (suc (suc (suc (suc s)))))))) rd small h = absurd (omega arith)

-- and those of the M extension
md : (w rs2 rs1 s rd : ℕ) → s < 8 → HasFields w 1 rs2 rs1 s rd 51 → decode_of w ≡ Some (MulDiv (md_op s) rd rs1 rs2)
md w rs2 rs1 zero rd small h = op_rows w h.fits h.low ∙ rw (h.middle, h.high, h.result, h.first, h.second) refl
md w rs2 rs1 (suc zero) rd small h = op_rows w h.fits h.low ∙ rw (h.middle, h.high, h.result, h.first, h.second) refl
md w rs2 rs1 (suc (suc zero)) rd small h = op_rows w h.fits h.low ∙ rw (h.middle, h.high, h.result, h.first, h.second)
    refl
md w rs2 rs1 (suc (suc (suc zero))) rd small h = op_rows w h.fits h.low ∙ rw (
  h.middle,
  h.high,
  h.result,
  h.first,
  h.second,
) refl
md w rs2 rs1 (suc (suc (suc (suc zero)))) rd small h = op_rows w h.fits h.low ∙ rw
    (h.middle, h.high, h.result, h.first, h.second) refl
md w rs2 rs1 (suc (suc (suc (suc (suc zero))))) rd small h = op_rows w h.fits h.low ∙ rw
    (h.middle, h.high, h.result, h.first, h.second) refl
md w rs2 rs1 (suc (suc (suc (suc (suc (suc zero)))))) rd small h = op_rows w h.fits h.low ∙ rw
    (h.middle, h.high, h.result, h.first, h.second) refl
md w rs2 rs1 (suc (suc (suc (suc (suc (suc (suc zero))))))) rd small h = op_rows w h.fits h.low ∙ rw
    (h.middle, h.high, h.result, h.first, h.second) refl
md w rs2 rs1 (suc (suc (suc (suc (suc (suc (suc (suc s)))))))) rd small h = absurd (omega arith)

-- an immediate below 2,048 has no sign
no_sign : (n : ℕ) → n < 2048 → sign_extended 12 n ≡ n
no_sign n small = grind (arith, nat_tests)

-- ADDI with any immediate of 12 bits
addi : (imm rs1 rd : ℕ) → imm < 4096 → rs1 < 32 → rd < 32 → decode_of (i_type imm rs1 0 rd 0x13) ≡ Some
    (AluImm Add rd rs1 (sign_extended 12 imm))
addi imm rs1 rd a b c =
    let w = i_type imm rs1 0 rd 0x13 in
    let h = has_fields w (imm / 32) (imm % 32) rs1 0 rd 0x13 (omega arith) (omega arith) (omega arith) b (omega arith)
    c (omega arith) in
    let number : w / 2 ^ 20 ≡ imm = omega arith in
    op_imm_rows w h.fits h.low ∙ rw (h.middle, h.result, h.first, number) refl

-- LUI with any bits 31:12
lui : (upper rd : ℕ) → upper < 2 ^ 20 → rd < 32 → decode_of (u_type upper rd 0x37) ≡ Some (Lui rd (upper * 2 ^ 12))
lui upper rd a b =
    let w = u_type upper rd 0x37 in
    let low : bit_and w 127 ≡ 0x37 = and_mask w 7 ∙ omega arith in
    let number : w / 2 ^ 12 ≡ upper = omega arith in
    let result : bits_at w 7 5 ≡ rd = omega arith in
    lui_rows w (omega arith) low ∙ rw (result, number) refl

-- LW with an offset that has no sign
lw : (imm rs1 rd : ℕ) → imm < 2048 → rs1 < 32 → rd < 32 → decode_of (i_type imm rs1 2 rd 0x03) ≡ Some
    (Load Lw rd rs1 imm)
lw imm rs1 rd a b c =
    let w = i_type imm rs1 2 rd 0x03 in
    let h = has_fields w (imm / 32) (imm % 32) rs1 2 rd 0x03 (omega arith) (omega arith) (omega arith) b (omega arith)
    c (omega arith) in
    let number : w / 2 ^ 20 ≡ imm = omega arith in
    load_rows w h.fits h.low ∙ rw (h.middle, h.result, h.first, number, no_sign imm a) refl

-- SW likewise
sw : (imm rs2 rs1 : ℕ) → imm < 2048 → rs2 < 32 → rs1 < 32 → decode_of (s_type imm rs2 rs1 2 0x23) ≡ Some
    (Store 4 rs1 rs2 imm)
sw imm rs2 rs1 a b c =
    let w = s_type imm rs2 rs1 2 0x23 in
    let h = has_fields w (imm / 32) rs2 rs1 2 (imm % 32) 0x23 (omega arith) (omega arith) b c (omega arith)
    (omega arith) (omega arith) in
    let number : w / 2 ^ 25 * 2 ^ 5 + bits_at w 7 5 ≡ imm = rw (h.high, h.result) (omega arith) in
    store_rows w h.fits h.low ∙ rw (h.middle, h.first, h.second, number, no_sign imm a) refl

-- BNE over one word
bne : (rs2 rs1 : ℕ) → rs2 < 32 → rs1 < 32 → decode_of (b_type 8 rs2 rs1 1 0x63) ≡ Some (Branch Ne rs1 rs2 8)
bne rs2 rs1 a b =
    let w = b_type 8 rs2 rs1 1 0x63 in
    let h =
    has_fields w 0 rs2 rs1 1 8 0x63 (omega arith) (omega arith) a b (omega arith) (omega arith) (omega arith) in
    let number : w / 2 ^ 31 * 2 ^ 12 + bits_at w 7 1 * 2 ^ 11 + bits_at w 25 6 * 2 ^ 5 + bits_at w 8 4 * 2 ≡ 8 = omega
    arith in
    branch_rows w h.fits h.low ∙ rw (h.middle, h.first, h.second, number) refl

-- SUB
sub : (rs2 rs1 rd : ℕ) → rs2 < 32 → rs1 < 32 → rd < 32 → decode_of (r_type 0x20 rs2 rs1 0 rd 0x33) ≡ Some
    (Alu Sub rd rs1 rs2)
sub rs2 rs1 rd a b c =
    let w = r_type 0x20 rs2 rs1 0 rd 0x33 in
    let h = has_fields w 0x20 rs2 rs1 0 rd 0x33 refl (omega arith) a b (omega arith) c (omega arith) in
    op_rows w h.fits h.low ∙ rw (h.middle, h.high, h.result, h.first, h.second) refl

-- each choice of a draw decodes to the instruction in its place
chosen_decodes : (x k : ℕ) → k < 8 → decode_of (slice_index (choices x) k) ≡ slice_get (instructions x) k
chosen_decodes x zero small = addi (bits_at x 20 12) (first_of x) (result_of x) (omega arith) (omega arith)
    (omega arith)
chosen_decodes x (suc zero) small =
    md _ (second_of x) (first_of x) (operation_of x) (result_of x) (omega arith)
    (has_fields _ 1 (second_of x) (first_of x) (operation_of x) (result_of x) 51 refl (omega arith) (omega arith)
    (omega arith) (omega arith) (omega arith) (omega arith))
chosen_decodes x (suc (suc zero)) small =
    alu _ (second_of x) (first_of x) (operation_of x) (result_of x) (omega arith)
    (has_fields _ 0 (second_of x) (first_of x) (operation_of x) (result_of x) 51 refl (omega arith) (omega arith)
    (omega arith) (omega arith) (omega arith) (omega arith))
chosen_decodes x (suc (suc (suc zero))) small = lui (bits_at x 12 20) (result_of x) (omega arith) (omega arith)
chosen_decodes x (suc (suc (suc (suc zero)))) small = lw (offset_of x) 5 (result_of x) (omega arith) (omega arith)
    (omega arith)
chosen_decodes x (suc (suc (suc (suc (suc zero))))) small = sw (offset_of x) (second_of x) 5 (omega arith)
    (omega arith) (omega arith)
chosen_decodes x (suc (suc (suc (suc (suc (suc zero)))))) small = bne (second_of x) (first_of x) (omega arith)
    (omega arith)
chosen_decodes x (suc (suc (suc (suc (suc (suc (suc zero))))))) small = sub (second_of x) (first_of x) (result_of x)
    (omega arith) (omega arith) (omega arith)
chosen_decodes x (suc (suc (suc (suc (suc (suc (suc (suc k)))))))) small = absurd (omega arith)

-- a word of the body
body_at : (seed n i : ℕ) → i < n → slice_index (body seed n) i ≡ body_word (draw_of seed (i + 1))
unfolding body
body_at seed zero i below = absurd (omega arith)
body_at seed (suc n) i below =
    let within : i ≤ n = omega arith in
    elim (eq-or-lt_of_le within) as (λ _. slice_index (body seed (suc n)) i ≡ body_word (draw_of seed (i + 1))) [
      | inl last ↦
          let here = body_word (draw_of seed (suc n)) in
          rw (last, add-one n)
          (subst (λ (k : ℕ). slice_index (body seed n ++ here ∷ []) k ≡ here) (length-body seed n)
          (get_or-append_seam (body seed n) here [] 0))
      | inr before ↦
          get_or_append_left (body seed n) _ 0 i (omega (arith, length-body seed n)) ∙ body_at seed n i before
    ]

-- the opening has two words
program_at : (seed i : ℕ) → i < 4096 → slice_index (program seed) (2 + i) ≡ body_word (draw_of seed (i + 1))
unfolding program
program_at seed i below =
    get_or-append-add opening (body seed 4096 ++ closing) i 0
    ∙ get_or_append_left (body seed 4096) closing 0 i (omega (arith, length-body seed 4096))
    ∙ body_at seed 4096 i below

-- each word of the body is the instruction that its draw chooses
pub is_drawn : (seed : ℕ) → IsDrawn seed
unfolding body_word
is_drawn seed i below =
    let x = draw_of seed (i + 1) in
    ap decode_of (program_at seed i below) ∙ chosen_decodes x (bits_at x 0 3) (omega arith)
