-- The rows of 32-bit instructions by the fields of a word: the opcode in bits 6:0, funct3 in bits 14:12 and funct7 in
-- bits 31:25.
use Rattle.std.proofs.Common.{◌≡◌, ℕ, ◌+◌, ◌*◌, ◌/◌, ◌%◌, ◌^◌, ◌<◌, Bool, true, false, eqb, cond, List, [], ◌∷◌}
use Rattle.std.proofs.Common.{Option, Some, None, refl, sym, ap, ◌∙◌, arith, inl, inr, ◌≢◌}
use Rattle.std.specs.Prelude.{◌&&◌, bit_and}
use Rattle.std.specs.Int.Bits.{and_mask, and_block}
use Rattle.std.proofs.lemmas.Nat.{shr_split}
use Rattle.std.proofs.lemmas.Bool.{eqb-true, eq-eqb, ne_eqb, and_parts, and_from, both_ways, cases_eq}
use Rattle.ibx_isa.specs.declared.insn.Insn.{Insn}
use Rattle.ibx_isa.specs.declared.insn.Insn.TheVariants.{Lui, Auipc, Jal, Jalr, Branch, Load, Store, AluImm, Alu}
use Rattle.ibx_isa.specs.declared.insn.Insn.TheVariants.{MulDiv, Csr, Fence, FenceI, Ecall, Ebreak, Mret, Wfi}
use Rattle.ibx_isa.specs.declared.insn.BranchOp.TheVariants.{Eq, Ne, Lt, Ge, Ltu, Geu}
use Rattle.ibx_isa.specs.declared.insn.LoadOp.TheVariants.{Lb, Lh, Lw, Lbu, Lhu}
use Rattle.ibx_isa.specs.declared.insn.AluOp.TheVariants.{Add, Sub, Sll, Slt, Sltu, Xor, Srl, Sra, Or, And}
use Rattle.ibx_isa.specs.declared.insn.MdOp.TheVariants.{Mul, Mulh, Mulhsu, Mulhu, Div, Divu, Rem, Remu}
use Rattle.ibx_isa.specs.declared.insn.CsrOp.TheVariants.{Write, Set, Clear}
use Rattle.ibx_decoder.specs.Table.{Row, none_holds, first_fit}
use Rattle.ibx_decoder.specs.Rows.{rd, rs1, rs2, shamt, csr, imm_i, imm_s, imm_b, imm_u, imm_j, rows, decode_of}
use Rattle.ibx_decoder.proofs.SameTest.{same_test}

-- ---- what each mask leaves

-- the opcode and funct3; those and funct7; the whole word
mask_f3 : (w : ℕ) → bit_and w 0x707f ≡ w / 4096 % 8 * 4096 + w % 128
mask_f3 w =
    ap (λ (x : ℕ). bit_and x 0x707f) (sym (shr_split w 12))
    ∙ and_block 12 (w / 2 ^ 12) 7 (w % 2 ^ 12) 127 (omega arith) (omega arith)
    ∙ rw (and_mask (w / 2 ^ 12) 3, and_mask (w % 2 ^ 12) 7) (omega arith)

-- with bits 31:25 in the mask, the word keeps its three fields in their places
mask_f7 : (w : ℕ) → w < 2 ^ 32 → bit_and w 0xfe00707f ≡ w / 33554432 * 33554432 + (w / 4096 % 8 * 4096 + w % 128)
mask_f7 w h =
    ap (λ (x : ℕ). bit_and x 0xfe00707f) (sym (shr_split w 25))
    ∙ and_block 25 (w / 2 ^ 25) 127 (w % 2 ^ 25) 0x707f (omega arith) (omega arith)
    ∙ rw (and_mask (w / 2 ^ 25) 7, mask_f3 (w % 2 ^ 25)) (omega arith)

-- a mask of 32 ones leaves a word whole
mask_all : (w : ℕ) → w < 2 ^ 32 → bit_and w 0xffffffff ≡ w
mask_all w h = and_mask w 32 ∙ omega arith

-- ---- a test of a word is the test of its fields

-- one for each of those three masks
test_f3 : (w m : ℕ) → m / 32768 ≡ 0 → m / 128 % 32 ≡ 0
    → eqb (bit_and w 0x707f) m ≡ (eqb (bit_and w 127) (m % 128) && eqb (bit_and (w / 4096) 7) (m / 4096 % 8))
test_f3 w m h0 h1 =
    let op : bit_and w 127 ≡ w % 128 = and_mask w 7 in
    let f3 : bit_and (w / 4096) 7 ≡ w / 4096 % 8 = and_mask (w / 4096) 3 in
    rw (op, f3, mask_f3 w)
    (same_test (eqb (w / 4096 % 8 * 4096 + w % 128) m) (eqb (w % 128) (m % 128) && eqb (w / 4096 % 8) (m / 4096 % 8))
    (λ e. let e' = eqb-true _ _ e in and_from _ _ (eq-eqb (w % 128) (m % 128) (omega (arith, e')))
    (eq-eqb (w / 4096 % 8) (m / 4096 % 8) (omega (arith, e'))))
    (λ e. let p = and_parts (eqb (w % 128) (m % 128)) (eqb (w / 4096 % 8) (m / 4096 % 8)) e in
    eq-eqb _ _ (omega (arith, eqb-true (w % 128) (m % 128) p.0, eqb-true (w / 4096 % 8) (m / 4096 % 8) p.1))))

-- a match of opcode, funct3 and funct7 is three tests, of which the opcode's comes first
test_f7 : (w m : ℕ) → w < 2 ^ 32 → m < 2 ^ 32 → m / 32768 % 1024 ≡ 0 → m / 128 % 32 ≡ 0
    → eqb (bit_and w 0xfe00707f) m ≡ (eqb (bit_and w 127) (m % 128)
    && (eqb (bit_and (w / 4096) 7) (m / 4096 % 8) && eqb (w / 33554432) (m / 33554432)))
test_f7 w m h hm h0 h1 =
    let op : bit_and w 127 ≡ w % 128 = and_mask w 7 in
    let f3 : bit_and (w / 4096) 7 ≡ w / 4096 % 8 = and_mask (w / 4096) 3 in
    rw (op, f3, mask_f7 w h)
    (same_test (eqb (w / 33554432 * 33554432 + (w / 4096 % 8 * 4096 + w % 128)) m)
    (eqb (w % 128) (m % 128) && (eqb (w / 4096 % 8) (m / 4096 % 8) && eqb (w / 33554432) (m / 33554432)))
    (λ e. let e' = eqb-true _ _ e in
    and_from _ _ (eq-eqb (w % 128) (m % 128) (omega (arith, e')))
    (and_from _ _ (eq-eqb (w / 4096 % 8) (m / 4096 % 8) (omega (arith, e')))
    (eq-eqb (w / 33554432) (m / 33554432) (omega (arith, e')))))
    (λ e. let p = and_parts (eqb (w % 128) (m % 128))
    (eqb (w / 4096 % 8) (m / 4096 % 8) && eqb (w / 33554432) (m / 33554432)) e in
    let q = and_parts (eqb (w / 4096 % 8) (m / 4096 % 8)) (eqb (w / 33554432) (m / 33554432)) p.1 in
    eq-eqb _ _ (omega (
      arith,
      eqb-true (w % 128) (m % 128) p.0,
      eqb-true (w / 4096 % 8) (m / 4096 % 8) q.0,
      eqb-true (w / 33554432) (m / 33554432) q.1,
    ))))

-- a row of one word asks for its opcode as well, so that it counts among the opcode's rows
test_all : (w m : ℕ) → w < 2 ^ 32 → eqb (bit_and w 0xffffffff) m ≡ (eqb (bit_and w 127) (m % 128) && eqb w m)
test_all w m h =
    let op : bit_and w 127 ≡ w % 128 = and_mask w 7 in
    rw (op, mask_all w h)
    (same_test (eqb w m) (eqb (w % 128) (m % 128) && eqb w m)
    (λ e. and_from _ _ (eq-eqb (w % 128) (m % 128) (omega (arith, eqb-true w m e))) e)
    (λ e. (and_parts (eqb (w % 128) (m % 128)) (eqb w m) e).1))

-- ---- the whole table

-- a row's test by the opcode, funct3, funct7 and the whole word, as its mask asks
abbrev pub field_test : ℕ → ℕ → ℕ → ℕ → ℕ → ℕ → Bool
field_test op f3 f7 w mask matches =
    cond (eqb mask 0x7f) (eqb op matches)
    (cond (eqb mask 0x707f) (eqb op (matches % 128) && eqb f3 (matches / 4096 % 8))
    (cond (eqb mask 0xfe00707f) (eqb op (matches % 128)
    && (eqb f3 (matches / 4096 % 8) && eqb f7 (matches / 33554432)))
    (eqb op (matches % 128) && eqb w matches)))

-- the first row of a table whose test by the fields holds
abbrev pub first_field_fit : ℕ → ℕ → ℕ → ℕ → List (Row Insn) → Option Insn
first_field_fit op f3 f7 w [] = None
first_field_fit op f3 f7 w (r ∷ rs) =
    cond (field_test op f3 f7 w r.mask r.matches) (Some (r.gives w)) (first_field_fit op f3 f7 w rs)

-- the mask is one of the four, and the match within it
good_mask : ℕ → ℕ → Bool
good_mask mask matches =
    cond (eqb mask 0x7f) true
    (cond (eqb mask 0x707f) (eqb (matches / 32768) 0 && eqb (matches / 128 % 32) 0)
    (cond (eqb mask 0xfe00707f) (eqb (matches / 4294967296) 0
    && (eqb (matches / 32768 % 1024) 0 && eqb (matches / 128 % 32) 0))
    (eqb mask 0xffffffff)))

-- the row has no exceptions
has_none : List (ℕ × ℕ) → Bool
has_none [] = true
has_none (e ∷ es) = false

-- each row of a table has such a mask, and no exceptions
all_good : List (Row Insn) → Bool
unfolding good_mask has_none
all_good [] = true
all_good (r ∷ rs) = (has_none r.unless && good_mask r.mask r.matches) && all_good rs

-- a row's test of the word is its test by the fields
by_mask : (w : ℕ) → w < 2 ^ 32 → (mask m : ℕ) → good_mask mask m ≡ true
    → eqb (bit_and w mask) m ≡ field_test (bit_and w 127) (bit_and (w / 4096) 7) (w / 33554432) w mask m
unfolding good_mask
by_mask w h mask m e =
    elim (cases_eq mask 0x7f) [
      | inl a ↦ rw a refl
      | inr a ↦ elim (cases_eq mask 0x707f) [
        | inl b ↦
            let e' = rw b at e in
            let p = and_parts (eqb (m / 32768) 0) (eqb (m / 128 % 32) 0) e' in
            rw b (test_f3 w m (eqb-true _ _ p.0) (eqb-true _ _ p.1))
        | inr b ↦ elim (cases_eq mask 0xfe00707f) [
          | inl c ↦
              let e' = rw c at e in
              let p = and_parts (eqb (m / 4294967296) 0) (eqb (m / 32768 % 1024) 0 && eqb (m / 128 % 32) 0) e' in
              let q = and_parts (eqb (m / 32768 % 1024) 0) (eqb (m / 128 % 32) 0) p.1 in
              rw c (test_f7 w m h (omega (arith, eqb-true (m / 4294967296) 0 p.0)) (eqb-true _ _ q.0)
              (eqb-true _ _ q.1))
          | inr c ↦
              let e' = rw (ne_eqb mask 0x7f a, ne_eqb mask 0x707f b, ne_eqb mask 0xfe00707f c) at e in
              rw (ne_eqb mask 0x7f a, ne_eqb mask 0x707f b, ne_eqb mask 0xfe00707f c, eqb-true mask 0xffffffff e')
              (test_all w m h)
        ]
      ]
    ]

-- an empty list of exceptions takes nothing away
without : (w : ℕ) (b : Bool) (es : List (ℕ × ℕ)) → has_none es ≡ true → (b && none_holds w es) ≡ b
unfolding has_none
without w true [] e = refl
without w false [] e = refl
without w b (x ∷ es) e = absurd (both_ways false refl e)

-- so the first row that fits is the first by the fields, in a part of a table and in the whole
by_fields : (w : ℕ) → w < 2 ^ 32 → (rs : List (Row Insn)) → all_good rs ≡ true
    → first_fit w rs ≡ first_field_fit (bit_and w 127) (bit_and (w / 4096) 7) (w / 33554432) w rs
unfolding all_good
by_fields w h [] e = refl
by_fields w h (r ∷ rs) e =
    let p = and_parts (has_none r.unless && good_mask r.mask r.matches) (all_good rs) e in
    let q = and_parts (has_none r.unless) (good_mask r.mask r.matches) p.0 in
    rw (
      without w (eqb (bit_and w r.mask) r.matches) r.unless q.0,
      by_mask w h r.mask r.matches q.1,
      by_fields w h rs p.1,
    ) refl

-- the table of instructions may be searched by opcode, funct3 and funct7
pub decode_fields : (w : ℕ) → w < 2 ^ 32
    → decode_of w ≡ first_field_fit (bit_and w 127) (bit_and (w / 4096) 7) (w / 33554432) w rows
unfolding decode_of all_good good_mask has_none
decode_fields w h = by_fields w h rows refl

-- ---- by the lowest seven bits

-- the rows that are left once the opcode is known; under another opcode than these there is none
pub lui_rows : (w : ℕ) → w < 2 ^ 32 → bit_and w 127 ≡ 55 → decode_of w ≡ Some (Lui (rd w) (imm_u w))
lui_rows w h e = decode_fields w h ∙ rw e refl

-- opcode 0x17 alone makes a word AUIPC, whatever else is in it
pub auipc_rows : (w : ℕ) → w < 2 ^ 32 → bit_and w 127 ≡ 23 → decode_of w ≡ Some (Auipc (rd w) (imm_u w))
auipc_rows w h e = decode_fields w h ∙ rw e refl

-- JAL has opcode 0x6f to itself, with the offset in the form J
pub jal_rows : (w : ℕ) → w < 2 ^ 32 → bit_and w 127 ≡ 111 → decode_of w ≡ Some (Jal (rd w) (imm_j w))
jal_rows w h e = decode_fields w h ∙ rw e refl

-- under opcode 0x67 there is JALR with funct3 0, and nothing else
pub jalr_rows : (w : ℕ) → w < 2 ^ 32 → bit_and w 127 ≡ 103 → decode_of w ≡
    cond (eqb (bit_and (w / 4096) 7) 0) (Some (Jalr (rd w) (rs1 w) (imm_i w)))
    (None)
jalr_rows w h e = decode_fields w h ∙ rw e refl

-- six values of funct3 are branches, and 2 and 3 are none
pub branch_rows : (w : ℕ) → w < 2 ^ 32 → bit_and w 127 ≡ 99 → decode_of w ≡
    cond (eqb (bit_and (w / 4096) 7) 0) (Some (Branch Eq (rs1 w) (rs2 w) (imm_b w)))
    (cond (eqb (bit_and (w / 4096) 7) 1) (Some (Branch Ne (rs1 w) (rs2 w) (imm_b w)))
    (cond (eqb (bit_and (w / 4096) 7) 4) (Some (Branch Lt (rs1 w) (rs2 w) (imm_b w)))
    (cond (eqb (bit_and (w / 4096) 7) 5) (Some (Branch Ge (rs1 w) (rs2 w) (imm_b w)))
    (cond (eqb (bit_and (w / 4096) 7) 6) (Some (Branch Ltu (rs1 w) (rs2 w) (imm_b w)))
    (cond (eqb (bit_and (w / 4096) 7) 7) (Some (Branch Geu (rs1 w) (rs2 w) (imm_b w)))
    (None))))))
branch_rows w h e = decode_fields w h ∙ rw e refl

-- five values of funct3 are loads, and 3, 6 and 7 are none
pub load_rows : (w : ℕ) → w < 2 ^ 32 → bit_and w 127 ≡ 3 → decode_of w ≡
    cond (eqb (bit_and (w / 4096) 7) 0) (Some (Load Lb (rd w) (rs1 w) (imm_i w)))
    (cond (eqb (bit_and (w / 4096) 7) 1) (Some (Load Lh (rd w) (rs1 w) (imm_i w)))
    (cond (eqb (bit_and (w / 4096) 7) 2) (Some (Load Lw (rd w) (rs1 w) (imm_i w)))
    (cond (eqb (bit_and (w / 4096) 7) 4) (Some (Load Lbu (rd w) (rs1 w) (imm_i w)))
    (cond (eqb (bit_and (w / 4096) 7) 5) (Some (Load Lhu (rd w) (rs1 w) (imm_i w)))
    (None)))))
load_rows w h e = decode_fields w h ∙ rw e refl

-- funct3 0, 1 and 2 store 1, 2 and 4 bytes
pub store_rows : (w : ℕ) → w < 2 ^ 32 → bit_and w 127 ≡ 35 → decode_of w ≡
    cond (eqb (bit_and (w / 4096) 7) 0) (Some (Store 1 (rs1 w) (rs2 w) (imm_s w)))
    (cond (eqb (bit_and (w / 4096) 7) 1) (Some (Store 2 (rs1 w) (rs2 w) (imm_s w)))
    (cond (eqb (bit_and (w / 4096) 7) 2) (Some (Store 4 (rs1 w) (rs2 w) (imm_s w)))
    (None)))
store_rows w h e = decode_fields w h ∙ rw e refl

-- of the computations with an immediate the shifts alone, funct3 1 and 5, look at funct7
pub op_imm_rows : (w : ℕ) → w < 2 ^ 32 → bit_and w 127 ≡ 19 → decode_of w ≡
    cond (eqb (bit_and (w / 4096) 7) 0) (Some (AluImm Add (rd w) (rs1 w) (imm_i w)))
    (cond (eqb (bit_and (w / 4096) 7) 2) (Some (AluImm Slt (rd w) (rs1 w) (imm_i w)))
    (cond (eqb (bit_and (w / 4096) 7) 3) (Some (AluImm Sltu (rd w) (rs1 w) (imm_i w)))
    (cond (eqb (bit_and (w / 4096) 7) 4) (Some (AluImm Xor (rd w) (rs1 w) (imm_i w)))
    (cond (eqb (bit_and (w / 4096) 7) 6) (Some (AluImm Or (rd w) (rs1 w) (imm_i w)))
    (cond (eqb (bit_and (w / 4096) 7) 7) (Some (AluImm And (rd w) (rs1 w) (imm_i w)))
    (cond (eqb (bit_and (w / 4096) 7) 1 && eqb (w / 33554432) 0) (Some (AluImm Sll (rd w) (rs1 w) (shamt w)))
    (cond (eqb (bit_and (w / 4096) 7) 5 && eqb (w / 33554432) 0) (Some (AluImm Srl (rd w) (rs1 w) (shamt w)))
    (cond (eqb (bit_and (w / 4096) 7) 5 && eqb (w / 33554432) 32) (Some (AluImm Sra (rd w) (rs1 w) (shamt w)))
    (None)))))))))
op_imm_rows w h e = decode_fields w h ∙ rw e refl

-- funct7 is 0, or 32 for SUB and SRA, or 1 for the multiplications and divisions
pub op_rows : (w : ℕ) → w < 2 ^ 32 → bit_and w 127 ≡ 51 → decode_of w ≡
    cond (eqb (bit_and (w / 4096) 7) 0 && eqb (w / 33554432) 0) (Some (Alu Add (rd w) (rs1 w) (rs2 w)))
    (cond (eqb (bit_and (w / 4096) 7) 0 && eqb (w / 33554432) 32) (Some (Alu Sub (rd w) (rs1 w) (rs2 w)))
    (cond (eqb (bit_and (w / 4096) 7) 1 && eqb (w / 33554432) 0) (Some (Alu Sll (rd w) (rs1 w) (rs2 w)))
    (cond (eqb (bit_and (w / 4096) 7) 2 && eqb (w / 33554432) 0) (Some (Alu Slt (rd w) (rs1 w) (rs2 w)))
    (cond (eqb (bit_and (w / 4096) 7) 3 && eqb (w / 33554432) 0) (Some (Alu Sltu (rd w) (rs1 w) (rs2 w)))
    (cond (eqb (bit_and (w / 4096) 7) 4 && eqb (w / 33554432) 0) (Some (Alu Xor (rd w) (rs1 w) (rs2 w)))
    (cond (eqb (bit_and (w / 4096) 7) 5 && eqb (w / 33554432) 0) (Some (Alu Srl (rd w) (rs1 w) (rs2 w)))
    (cond (eqb (bit_and (w / 4096) 7) 5 && eqb (w / 33554432) 32) (Some (Alu Sra (rd w) (rs1 w) (rs2 w)))
    (cond (eqb (bit_and (w / 4096) 7) 6 && eqb (w / 33554432) 0) (Some (Alu Or (rd w) (rs1 w) (rs2 w)))
    (cond (eqb (bit_and (w / 4096) 7) 7 && eqb (w / 33554432) 0) (Some (Alu And (rd w) (rs1 w) (rs2 w)))
    (cond (eqb (bit_and (w / 4096) 7) 0 && eqb (w / 33554432) 1) (Some (MulDiv Mul (rd w) (rs1 w) (rs2 w)))
    (cond (eqb (bit_and (w / 4096) 7) 1 && eqb (w / 33554432) 1) (Some (MulDiv Mulh (rd w) (rs1 w) (rs2 w)))
    (cond (eqb (bit_and (w / 4096) 7) 2 && eqb (w / 33554432) 1) (Some (MulDiv Mulhsu (rd w) (rs1 w) (rs2 w)))
    (cond (eqb (bit_and (w / 4096) 7) 3 && eqb (w / 33554432) 1) (Some (MulDiv Mulhu (rd w) (rs1 w) (rs2 w)))
    (cond (eqb (bit_and (w / 4096) 7) 4 && eqb (w / 33554432) 1) (Some (MulDiv Div (rd w) (rs1 w) (rs2 w)))
    (cond (eqb (bit_and (w / 4096) 7) 5 && eqb (w / 33554432) 1) (Some (MulDiv Divu (rd w) (rs1 w) (rs2 w)))
    (cond (eqb (bit_and (w / 4096) 7) 6 && eqb (w / 33554432) 1) (Some (MulDiv Rem (rd w) (rs1 w) (rs2 w)))
    (cond (eqb (bit_and (w / 4096) 7) 7 && eqb (w / 33554432) 1) (Some (MulDiv Remu (rd w) (rs1 w) (rs2 w)))
    (None))))))))))))))))))
op_rows w h e = decode_fields w h ∙ rw e refl

-- FENCE and FENCE.I are told by funct3, and their other fields are ignored
pub fence_rows : (w : ℕ) → w < 2 ^ 32 → bit_and w 127 ≡ 15 → decode_of w ≡
    cond (eqb (bit_and (w / 4096) 7) 0) (Some (Fence))
    (cond (eqb (bit_and (w / 4096) 7) 1) (Some (FenceI))
    (None))
fence_rows w h e = decode_fields w h ∙ rw e refl

-- a CSR instruction goes by funct3; ECALL, EBREAK, MRET and WFI are one word each
pub system_rows : (w : ℕ) → w < 2 ^ 32 → bit_and w 127 ≡ 115 → decode_of w ≡
    cond (eqb (bit_and (w / 4096) 7) 1) (Some (Csr Write (rd w) (rs1 w) false (csr w)))
    (cond (eqb (bit_and (w / 4096) 7) 2) (Some (Csr Set (rd w) (rs1 w) false (csr w)))
    (cond (eqb (bit_and (w / 4096) 7) 3) (Some (Csr Clear (rd w) (rs1 w) false (csr w)))
    (cond (eqb (bit_and (w / 4096) 7) 5) (Some (Csr Write (rd w) (rs1 w) true (csr w)))
    (cond (eqb (bit_and (w / 4096) 7) 6) (Some (Csr Set (rd w) (rs1 w) true (csr w)))
    (cond (eqb (bit_and (w / 4096) 7) 7) (Some (Csr Clear (rd w) (rs1 w) true (csr w)))
    (cond (eqb w 115) (Some (Ecall))
    (cond (eqb w 1048691) (Some (Ebreak))
    (cond (eqb w 807403635) (Some (Mret))
    (cond (eqb w 273678451) (Some (Wfi))
    (None))))))))))
system_rows w h e = decode_fields w h ∙ rw e refl

-- a word of none of these eleven opcodes is no instruction
pub no_rows : (w : ℕ) → w < 2 ^ 32
    → bit_and w 127 ≢ 55 → bit_and w 127 ≢ 23 → bit_and w 127 ≢ 111 → bit_and w 127 ≢ 103 → bit_and w 127 ≢ 99
    → bit_and w 127 ≢ 3 → bit_and w 127 ≢ 35 → bit_and w 127 ≢ 19 → bit_and w 127 ≢ 51 → bit_and w 127 ≢ 15
    → bit_and w 127 ≢ 115 → decode_of w ≡ None
no_rows w h n55 n23 n111 n103 n99 n3 n35 n19 n51 n15 n115 =
    decode_fields w h ∙ rw (
      ne_eqb (bit_and w 127) 55 n55,
      ne_eqb (bit_and w 127) 23 n23,
      ne_eqb (bit_and w 127) 111 n111,
      ne_eqb (bit_and w 127) 103 n103,
      ne_eqb (bit_and w 127) 99 n99,
      ne_eqb (bit_and w 127) 3 n3,
      ne_eqb (bit_and w 127) 35 n35,
      ne_eqb (bit_and w 127) 19 n19,
      ne_eqb (bit_and w 127) 51 n51,
      ne_eqb (bit_and w 127) 15 n15,
      ne_eqb (bit_and w 127) 115 n115,
    ) refl
