-- The row of a dummy's word, and its cost.
use Rattle.std.proofs.Common.{◌≡◌, ℕ, zero, suc, ◌+◌, ◌*◌, ◌/◌, ◌%◌, ◌^◌, ◌<◌, ◌≤◌, Bool, true, false, ◌==◌}
use Rattle.std.proofs.Common.{if◌then◌else◌, bit_and, refl, ap, ◌∙◌, arith, Some}
use Rattle.std.proofs.lemmas.Bool.{eq-eqb}
use Rattle.ibx_isa.specs.Cost.{md_cost_of}
use Rattle.ibx_isa.specs.declared.insn.Insn.TheVariants.{Alu, MulDiv}
use Rattle.ibx_isa.specs.declared.insn.AluOp.TheVariants.{Add, And}
use Rattle.ibx_isa.specs.declared.insn.MdOp.TheVariants.{Mul, Div}
use Rattle.ibx_isa.specs.declared.insn.MulKind.{MulKind}
use Rattle.ibx_decoder.specs.Rows.{decode_of, rd, rs1, rs2}
use Rattle.ibx_decoder.proofs.ByFields.{op_rows}
use Rattle.ibx_decoder.proofs.LowBits.{low_bits}
use Rattle.ibx_decoder.specs.Instructions.{instruction_of}
use Rattle.ibx_isa.specs.Lengths.{is_long}
use Rattle.ibx_time.specs.Dummies.{dummy_cost}
use Rattle.ibx_dummy.specs.Dummies.{dummy_funct, dummy_kind, dummy_word}
use Rattle.ibx_time_decode.proofs.SeesRows.{md_few, md_fixed}
use Rattle.ibx_core.specs.Sights.{cost_by}

-- a dummy's word by its function and registers
abbrev word_by : ℕ → ℕ → ℕ → ℕ
word_by f r1 r2 = f + r2 * 2 ^ 20 + r1 * 2 ^ 15 + 0x33

-- the low seven and three bits of a word
seven : (w n : ℕ) → w % 128 ≡ n → bit_and w 127 ≡ n
seven w n e = low_bits w 7 (omega arith) ∙ e

-- the low three bits are the rest by 8, as funct3 is read
three : (w n : ℕ) → w % 8 ≡ n → bit_and w 7 ≡ n
three w n e = low_bits w 3 (omega arith) ∙ e

-- a word of 32 bits is decoded as it is
long_op : (w : ℕ) → w % 4 ≡ 3 → instruction_of w ≡ decode_of w
unfolding instruction_of
long_op w e = rw (eq-eqb (w % 4) 3 e) refl

-- one for each kind of dummy
add_row : (r1 r2 : ℕ) → r1 < 32 → r2 < 32
    → decode_of (word_by 0 r1 r2) ≡ Some
    (Alu Add (rd (word_by 0 r1 r2)) (rs1 (word_by 0 r1 r2)) (rs2 (word_by 0 r1 r2)))
add_row r1 r2 a b =
    let w : ℕ = word_by 0 r1 r2 in
    let f3 : bit_and (w / 4096) 7 ≡ 0 = three (w / 4096) 0 (omega (arith, a, b)) in
    let f7 : w / 33554432 ≡ 0 = omega (arith, a, b) in
    op_rows w (omega (arith, a, b)) (seven w 51 (omega (arith, a, b))) ∙ rw (f3, f7) refl

-- a dummy of kind 1 is a MUL
mul_row : (r1 r2 : ℕ) → r1 < 32 → r2 < 32
    → decode_of (word_by (2 ^ 25) r1 r2)
    ≡ Some (MulDiv Mul (rd (word_by (2 ^ 25) r1 r2)) (rs1 (word_by (2 ^ 25) r1 r2)) (rs2 (word_by (2 ^ 25) r1 r2)))
mul_row r1 r2 a b =
    let w : ℕ = word_by (2 ^ 25) r1 r2 in
    let f3 : bit_and (w / 4096) 7 ≡ 0 = three (w / 4096) 0 (omega (arith, a, b)) in
    let f7 : w / 33554432 ≡ 1 = omega (arith, a, b) in
    op_rows w (omega (arith, a, b)) (seven w 51 (omega (arith, a, b))) ∙ rw (f3, f7) refl

-- a dummy of kind 2 is a DIV
div_row : (r1 r2 : ℕ) → r1 < 32 → r2 < 32
    → decode_of (word_by (2 ^ 25 + 4 * 2 ^ 12) r1 r2)
    ≡ Some (MulDiv Div (rd (word_by (2 ^ 25 + 4 * 2 ^ 12) r1 r2)) (rs1 (word_by (2 ^ 25 + 4 * 2 ^ 12) r1 r2))
    (rs2 (word_by (2 ^ 25 + 4 * 2 ^ 12) r1 r2)))
div_row r1 r2 a b =
    let w : ℕ = word_by (2 ^ 25 + 4 * 2 ^ 12) r1 r2 in
    let f3 : bit_and (w / 4096) 7 ≡ 4 = three (w / 4096) 4 (omega (arith, a, b)) in
    let f7 : w / 33554432 ≡ 1 = omega (arith, a, b) in
    op_rows w (omega (arith, a, b)) (seven w 51 (omega (arith, a, b))) ∙ rw (f3, f7) refl

-- a dummy of kind 3 is an AND
and_row : (r1 r2 : ℕ) → r1 < 32 → r2 < 32
    → decode_of (word_by (7 * 2 ^ 12) r1 r2)
    ≡ Some (Alu And (rd (word_by (7 * 2 ^ 12) r1 r2)) (rs1 (word_by (7 * 2 ^ 12) r1 r2))
    (rs2 (word_by (7 * 2 ^ 12) r1 r2)))
and_row r1 r2 a b =
    let w : ℕ = word_by (7 * 2 ^ 12) r1 r2 in
    let f3 : bit_and (w / 4096) 7 ≡ 7 = three (w / 4096) 7 (omega (arith, a, b)) in
    let f7 : w / 33554432 ≡ 0 = omega (arith, a, b) in
    op_rows w (omega (arith, a, b)) (seven w 51 (omega (arith, a, b))) ∙ rw (f3, f7) refl

-- so each costs what the table of dummies says
cost_in : (k r1 r2 b : ℕ) (mul : MulKind) → k < 4 → r1 < 32 → r2 < 32
    → cost_by (instruction_of (word_by (dummy_funct k) r1 r2)) b true mul ≡ dummy_cost mul k
unfolding dummy_cost cost_by
cost_in zero r1 r2 b mul l p q =
    ap (λ o. cost_by o b true mul) (long_op (word_by 0 r1 r2) (omega arith) ∙ add_row r1 r2 p q)
cost_in (suc zero) r1 r2 b mul l p q =
    ap (λ o. cost_by o b true mul) (long_op (word_by (2 ^ 25) r1 r2) (omega arith) ∙ mul_row r1 r2 p q)
    ∙ md_fixed Mul b 0 mul
cost_in (suc (suc zero)) r1 r2 b mul l p q =
    ap (λ o. cost_by o b true mul) (long_op (word_by (2 ^ 25 + 4 * 2 ^ 12) r1 r2) (omega arith) ∙ div_row r1 r2 p q)
    ∙ md_fixed Div b 0 mul
cost_in (suc (suc (suc zero))) r1 r2 b mul l p q =
    ap (λ o. cost_by o b true mul) (long_op (word_by (7 * 2 ^ 12) r1 r2) (omega arith) ∙ and_row r1 r2 p q)
cost_in (suc (suc (suc (suc k)))) r1 r2 b mul l p q = absurd (omega (arith, l))

-- so whatever the LFSR is, its dummy costs by its kind alone, not by its operand
pub dummy_costs : (lfsr b : ℕ) (mul : MulKind)
    → cost_by (instruction_of (dummy_word lfsr)) b true mul ≡ dummy_cost mul (dummy_kind lfsr)
unfolding dummy_word
dummy_costs lfsr b mul =
    cost_in (dummy_kind lfsr) (lfsr / 2 ^ 5 % 32) (lfsr / 2 ^ 10 % 32) b mul (omega arith) (omega arith) (omega arith)

-- and its word is long
long_in : (k r1 r2 : ℕ) → k < 4 → is_long (word_by (dummy_funct k) r1 r2) ≡ true
long_in zero r1 r2 l = eq-eqb (word_by 0 r1 r2 % 4) 3 (omega arith)
long_in (suc zero) r1 r2 l = eq-eqb (word_by (2 ^ 25) r1 r2 % 4) 3 (omega arith)
long_in (suc (suc zero)) r1 r2 l = eq-eqb (word_by (2 ^ 25 + 4 * 2 ^ 12) r1 r2 % 4) 3 (omega arith)
long_in (suc (suc (suc zero))) r1 r2 l = eq-eqb (word_by (7 * 2 ^ 12) r1 r2 % 4) 3 (omega arith)
long_in (suc (suc (suc (suc k)))) r1 r2 l = absurd (omega (arith, l))

-- so every dummy is a word of 32 bits, whatever the LFSR is
pub dummy_long : (lfsr : ℕ) → is_long (dummy_word lfsr) ≡ true
unfolding dummy_word
dummy_long lfsr = long_in (dummy_kind lfsr) (lfsr / 2 ^ 5 % 32) (lfsr / 2 ^ 10 % 32) (omega arith)

-- a dummy costs 63 at most
few_by : (mul : MulKind) (a b : Bool)
    → (if a then md_cost_of Mul 0 true mul else if b then md_cost_of Div 0 true mul else 0) ≤ 63
few_by mul true b = md_few Mul 0 true mul
few_by mul false true = md_few Div 0 true mul
few_by mul false false = omega arith

-- so a dummy of any kind costs 63 at most, all that the stage can count
pub dummy_few : (mul : MulKind) (k : ℕ) → dummy_cost mul k ≤ 63
unfolding dummy_cost
dummy_few mul k = few_by mul (k == 1) (k == 2)
