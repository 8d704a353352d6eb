-- What holds of a word that fits a row of 32-bit instructions.
use Rattle.std.proofs.Common.{◌≡◌, ℕ, ◌+◌, ◌*◌, ◌/◌, ◌%◌, ◌^◌, ◌<◌, Bool, true, eqb, List, [], ◌∷◌, refl, sym, ap, ◌∙◌}
use Rattle.std.proofs.Common.{arith, inl, inr, ◌-◌, cond, false}
use Rattle.std.specs.Prelude.{◌&&◌, bit_and, IfSome, OnSome, nat_lt}
use Rattle.std.specs.Int.Bits.{and_mask}
use Rattle.std.proofs.lemmas.Nat.{and_assoc}
use Rattle.std.proofs.lemmas.Bool.{eqb-true, and_parts}
use Rattle.ibx_isa.specs.declared.insn.Insn.{Insn}
use Rattle.ibx_isa.specs.WellFormed.{IsWellFormed}
use Rattle.ibx_bits.specs.Bytes.{bits_at, sign_extended}
use Rattle.ibx_decoder.specs.Table.{Row, none_holds, fits, IsRow}
use Rattle.ibx_decoder.specs.Rows.{rd, rs1, rs2, shamt, csr, imm_i, imm_s, imm_b, imm_u, imm_j, rows, decode_of}
use Rattle.ibx_decoder.proofs.OneRow.{AllGive, ◌▸◌, given, one_row, all_apart, apart, apart_pair, excepted}

-- at most one row fits a word, and its instruction is the decoded one
pub decode_of-row : (w : ℕ) → IsRow w rows (decode_of w)
unfolding decode_of all_apart apart apart_pair excepted
decode_of-row w = one_row w rows refl

-- ---- both low bits are set

-- a row's mask and match ask for both low bits, and each row of a table does
has_low_bits : Row Insn → Bool
has_low_bits r = eqb (bit_and r.mask 3) 3 && eqb (bit_and r.matches 3) 3

-- a table asks for them in each of its rows
all_low_bits : List (Row Insn) → Bool
unfolding has_low_bits
all_low_bits [] = true
all_low_bits (r ∷ rs) = has_low_bits r && all_low_bits rs

-- a word that fits such a row has both, for one row, for a list and for the whole table
low_bits_of_row : (w : ℕ) (r : Row Insn) → has_low_bits r ≡ true → fits w r ≡ true → w % 4 ≡ 3
unfolding has_low_bits
low_bits_of_row w r e f =
    let p = and_parts (eqb (bit_and r.mask 3) 3) (eqb (bit_and r.matches 3) 3) e in
    let q = and_parts (eqb (bit_and w r.mask) r.matches) (none_holds w r.unless) f in
    let low : bit_and w 3 ≡ w % 4 = and_mask w 2 in
    sym low ∙ ap (λ (n : ℕ). bit_and w n) (sym (eqb-true (bit_and r.mask 3) 3 p.0)) ∙ sym (and_assoc 3 w r.mask)
    ∙ ap (λ (n : ℕ). bit_and n 3) (eqb-true (bit_and w r.mask) r.matches q.0) ∙ eqb-true (bit_and r.matches 3) 3 p.1

-- whichever row of such a table a word fits, its two low bits are 1
low_bits_of_rows : (w : ℕ) (rs : List (Row Insn)) → all_low_bits rs ≡ true → AllGive w (λ _. w % 4 ≡ 3) rs
unfolding all_low_bits
low_bits_of_rows w [] e = tt
low_bits_of_rows w (r ∷ rs) e =
    let p = and_parts (has_low_bits r) (all_low_bits rs) e in
    (low_bits_of_row w r p.0, low_bits_of_rows w rs p.1)

-- a word decodes only where bits 1:0 are 3, as no compressed instruction's are
pub decode_of-long : (w : ℕ) → OnSome (decode_of w) (w % 4 ≡ 3)
unfolding decode_of all_low_bits has_low_bits
decode_of-long w = given w (λ _. w % 4 ≡ 3) rows (low_bits_of_rows w rows refl)

-- ---- the fields are in their ranges

-- sign-extended immediates are words of 32 bits: those of the forms I and S, of B, and of J
extended-word : (n : ℕ) → n < 2 ^ 12 → sign_extended 12 n < 2 ^ 32
extended-word n h = grind arith

-- a branch's 13 bits stay below 2 ^ 32 with their sign
extended_branch-word : (n : ℕ) → n < 2 ^ 13 → sign_extended 13 n < 2 ^ 32
extended_branch-word n h = grind arith

-- and so do the 21 bits of a jump
extended_jump-word : (n : ℕ) → n < 2 ^ 21 → sign_extended 21 n < 2 ^ 32
extended_jump-word n h = grind arith

-- an even number stays even with its sign bits, so the offsets of branches and jumps are even
extended_even : (n more : ℕ) (b : Bool) → n % 2 ≡ 0 → more % 2 ≡ 0 → cond b n (n + more) % 2 ≡ 0
extended_even n more true e k = e
extended_even n more false e k = omega (arith, e, k)

-- a branch's form has no bit 0 of the offset, so it lands on a parcel
branch_even : (w : ℕ) → imm_b w % 2 ≡ 0
branch_even w =
    let n : ℕ = w / 2 ^ 31 * 2 ^ 12 + bits_at w 7 1 * 2 ^ 11 + bits_at w 25 6 * 2 ^ 5 + bits_at w 8 4 * 2 in
    extended_even n (2 ^ 32 - 2 ^ 13) (nat_lt n (2 ^ 12)) (omega arith) refl

-- nor has a jump's, so that its target is an even number of bytes away
jump_even : (w : ℕ) → imm_j w % 2 ≡ 0
jump_even w =
    let n : ℕ = w / 2 ^ 31 * 2 ^ 20 + bits_at w 12 8 * 2 ^ 12 + bits_at w 20 1 * 2 ^ 11 + bits_at w 21 10 * 2 in
    extended_even n (2 ^ 32 - 2 ^ 21) (nat_lt n (2 ^ 20)) (omega arith) refl

-- so each row's instruction keeps to the ranges of its fields, and each decoded one
well_formed_rows : (w : ℕ) → w < 2 ^ 32 → AllGive w IsWellFormed rows
well_formed_rows w h =
    let d : rd w < 32 = omega arith in
    let a : rs1 w < 32 = omega arith in
    let b : rs2 w < 32 = omega arith in
    let s : shamt w < 2 ^ 32 = omega arith in
    let c : csr w < 2 ^ 12 = omega arith in
    let i : imm_i w < 2 ^ 32 = extended-word (w / 2 ^ 20) (omega arith) in
    let st : imm_s w < 2 ^ 32 = extended-word (w / 2 ^ 25 * 2 ^ 5 + bits_at w 7 5) (omega arith) in
    let br : imm_b w < 2 ^ 32 =
    extended_branch-word (w / 2 ^ 31 * 2 ^ 12 + bits_at w 7 1 * 2 ^ 11 + bits_at w 25 6 * 2 ^ 5 + bits_at w 8 4 * 2)
    (omega arith) in
    let u : imm_u w < 2 ^ 32 = omega arith in
    let j : imm_j w < 2 ^ 32 =
    extended_jump-word (w / 2 ^ 31 * 2 ^ 20 + bits_at w 12 8 * 2 ^ 12 + bits_at w 20 1 * 2 ^ 11 + bits_at w 21 10 * 2)
    (omega arith) in
    let be : imm_b w % 2 ≡ 0 = branch_even w in
    let je : imm_j w % 2 ≡ 0 = jump_even w in
    -- LUI, AUIPC, JAL, JALR, and the branches
    (λ _. (d, u)) ▸ (λ _. (d, u)) ▸ (λ _. (d, j, je)) ▸ (λ _. (d, a, i)) ▸
    (λ _. (a, b, br, be)) ▸ (λ _. (a, b, br, be)) ▸ (λ _. (a, b, br, be)) ▸
    (λ _. (a, b, br, be)) ▸ (λ _. (a, b, br, be)) ▸ (λ _. (a, b, br, be)) ▸
    -- loads and stores
    (λ _. (d, a, i)) ▸ (λ _. (d, a, i)) ▸ (λ _. (d, a, i)) ▸ (λ _. (d, a, i)) ▸ (λ _. (d, a, i)) ▸
    (λ _. (inl refl, a, b, st)) ▸ (λ _. (inr (inl refl), a, b, st)) ▸ (λ _. (inr (inr refl), a, b, st)) ▸
    -- computations with an immediate, and shifts by one
    (λ _. (d, a, i)) ▸ (λ _. (d, a, i)) ▸ (λ _. (d, a, i)) ▸ (λ _. (d, a, i)) ▸ (λ _. (d, a, i)) ▸ (λ _. (d, a, i)) ▸
    (λ _. (d, a, s)) ▸ (λ _. (d, a, s)) ▸ (λ _. (d, a, s)) ▸
    -- computations, multiplications and divisions
    (λ _. (d, a, b)) ▸ (λ _. (d, a, b)) ▸ (λ _. (d, a, b)) ▸ (λ _. (d, a, b)) ▸ (λ _. (d, a, b)) ▸ (λ _. (d, a, b)) ▸
    (λ _. (d, a, b)) ▸ (λ _. (d, a, b)) ▸ (λ _. (d, a, b)) ▸ (λ _. (d, a, b)) ▸ (λ _. (d, a, b)) ▸ (λ _. (d, a, b)) ▸
    (λ _. (d, a, b)) ▸ (λ _. (d, a, b)) ▸ (λ _. (d, a, b)) ▸ (λ _. (d, a, b)) ▸ (λ _. (d, a, b)) ▸ (λ _. (d, a, b)) ▸
    -- FENCE and FENCE.I, the CSR instructions, and those without a field
    (λ _. tt) ▸ (λ _. tt) ▸
    (λ _. (d, a, c)) ▸ (λ _. (d, a, c)) ▸ (λ _. (d, a, c)) ▸ (λ _. (d, a, c)) ▸ (λ _. (d, a, c)) ▸ (λ _. (d, a, c)) ▸
    (λ _. tt) ▸ (λ _. tt) ▸ (λ _. tt) ▸ (λ _. tt) ▸ tt

-- whatever the word, a decoded instruction has registers, CSR and immediate within their bits
pub decode_of-sound : (w : ℕ) → w < 2 ^ 32 → IfSome (decode_of w) IsWellFormed
unfolding decode_of
decode_of-sound w h = given w IsWellFormed rows (well_formed_rows w h)
