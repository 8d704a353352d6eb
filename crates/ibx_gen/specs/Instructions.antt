-- The instructions that a body has, as a decoder reads them.
use Rattle.std.specs.Prelude.{ℕ, ◌+◌, ◌*◌, ◌^◌, ◌≡◌, ◌<◌, List, [], ◌∷◌, slice_get, slice_index, slice_index_or}
use Rattle.ibx_bits.specs.Bytes.{bits_at, sign_extended}
use Rattle.ibx_decoder.specs.Rows.{decode_of}
use Rattle.ibx_isa.specs.declared.insn.Insn.{Insn}
use Rattle.ibx_isa.specs.declared.insn.Insn.TheVariants.{Alu, AluImm, Branch, Load, Lui, MulDiv, Store}
use Rattle.ibx_isa.specs.declared.insn.BranchOp.TheVariants.{Ne}
use Rattle.ibx_isa.specs.declared.insn.LoadOp.TheVariants.{Lw}
use Rattle.ibx_isa.specs.declared.insn.AluOp.{AluOp}
use Rattle.ibx_isa.specs.declared.insn.AluOp.TheVariants.{Add, And, Or, Sll, Slt, Sltu, Srl, Sub, Xor}
use Rattle.ibx_isa.specs.declared.insn.MdOp.{MdOp}
use Rattle.ibx_isa.specs.declared.insn.MdOp.TheVariants.{Div, Divu, Mul, Mulh, Mulhsu, Mulhu, Rem, Remu}
use Rattle.ibx_gen.specs.Draws.{draw_of}
use Rattle.ibx_gen.specs.Words.{first_of, offset_of, operation_of, program, result_of, second_of}

-- the operations by number
abbrev pub alu_op : ℕ → AluOp
alu_op s = slice_index_or (Add ∷ Sll ∷ Slt ∷ Sltu ∷ Xor ∷ Srl ∷ Or ∷ And ∷ []) s Add

-- those of the M extension in the order of funct3 (Unprivileged ISA, 7)
abbrev pub md_op : ℕ → MdOp
md_op s = slice_index_or (Mul ∷ Mulh ∷ Mulhsu ∷ Mulhu ∷ Div ∷ Divu ∷ Rem ∷ Remu ∷ []) s Mul

-- what a draw chooses among
abbrev pub instructions : ℕ → List Insn
instructions x =
    AluImm Add (result_of x) (first_of x) (sign_extended 12 (bits_at x 20 12))
    ∷ MulDiv (md_op (operation_of x)) (result_of x) (first_of x) (second_of x)
    ∷ Alu (alu_op (operation_of x)) (result_of x) (first_of x) (second_of x)
    ∷ Lui (result_of x) (bits_at x 12 20 * 2 ^ 12)
    ∷ Load Lw (result_of x) 5 (offset_of x)
    ∷ Store 4 5 (second_of x) (offset_of x)
    ∷ Branch Ne (first_of x) (second_of x) 8
    ∷ Alu Sub (result_of x) (first_of x) (second_of x)
    ∷ []

-- word i of the body is the instruction that draw i + 1 chooses by its bits 2:0
abbrev pub IsDrawn : ℕ → Type 0
IsDrawn seed =
    (i : ℕ) → i < 4096
    → decode_of (slice_index (program seed) (2 + i))
    ≡ slice_get (instructions (draw_of seed (i + 1))) (bits_at (draw_of seed (i + 1)) 0 3)
