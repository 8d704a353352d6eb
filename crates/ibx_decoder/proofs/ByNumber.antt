-- The rows of compressed instructions by the quadrant in bits 1:0, the number in bits 15:13 and the bits between.
use Rattle.std.proofs.Common.{◌≡◌, ℕ, ◌+◌, ◌-◌, ◌*◌, ◌/◌, ◌%◌, ◌^◌, ◌<◌, Bool, true, false, not, eqb, cond, List, []}
use Rattle.std.proofs.Common.{◌∷◌, Option, Some, None, refl, sym, ap, ◌∙◌, arith}
use Rattle.std.specs.Prelude.{◌&&◌, bit_and}
use Rattle.std.specs.Int.Bits.{and_mask, and_block, and_zero_r, and_le_r}
use Rattle.std.proofs.lemmas.Nat.{shr_split}
use Rattle.std.proofs.lemmas.Bool.{eqb-true, eq-eqb, and_parts, and_from}
use Rattle.ibx_bits.specs.Bytes.{bits_at}
use Rattle.ibx_decoder.specs.Table.{Row, none_holds, fits, first_fit}
use Rattle.ibx_decoder.specs.Compressed.{add, addi, and, andi, beq, bne, ebreak, jal, jalr, lui, lw, or, slli, srai}
use Rattle.ibx_decoder.specs.Compressed.{srli, sub, sw, xor, wide_rd, wide_rs2, high_reg, low_reg, imm_addi4spn}
use Rattle.ibx_decoder.specs.Compressed.{imm_lw, imm_lwsp, imm_swsp, imm_six, imm_lui, imm_addi16sp, imm_jump}
use Rattle.ibx_decoder.specs.Compressed.{imm_branch, rows, expand_of}
use Rattle.ibx_decoder.proofs.SameTest.{same_test}

-- bits 12 to 2 under x
middle : (h x : ℕ) → x < 2048 → bit_and h (x * 4) ≡ bit_and (h % 8192 / 4) x * 4
middle h x lt =
    let split : h / 8192 * 2 ^ 11 + h % 8192 / 4 ≡ h / 4 = omega arith in
    let none : x * 4 + 0 ≡ x * 4 = omega arith in
    let low : bit_and (h / 4 * 2 ^ 2 + h % 4) (x * 2 ^ 2 + 0) ≡ bit_and (h / 4) x * 2 ^ 2 + bit_and (h % 4) 0 =
    and_block 2 (h / 4) x (h % 4) 0 (omega arith) (omega arith) in
    let high : bit_and (h / 8192 * 2 ^ 11 + h % 8192 / 4) (0 * 2 ^ 11 + x)
    ≡ bit_and (h / 8192) 0 * 2 ^ 11 + bit_and (h % 8192 / 4) x =
    and_block 11 (h / 8192) 0 (h % 8192 / 4) x (omega arith) lt in
    let cut : bit_and (h / 4) x ≡ bit_and (h % 8192 / 4) x =
    ap (λ (n : ℕ). bit_and n x) (sym split)
    ∙ ap (λ (n : ℕ). bit_and (h / 8192 * 2 ^ 11 + h % 8192 / 4) n) (omega arith) ∙ high
    ∙ omega (arith, and_zero_r (h / 8192)) in
    ap (λ (n : ℕ). bit_and n (x * 4)) (sym (shr_split h 2))
    ∙ ap (λ (n : ℕ). bit_and (h / 2 ^ 2 * 2 ^ 2 + h % 2 ^ 2) n) (sym none) ∙ low
    ∙ omega (arith, and_zero_r (h % 4), cut)

-- a mask with all bits of the quadrant and the number leaves them, and the bits between under x
masked : (h x : ℕ) → h < 2 ^ 16 → x < 2048
    → bit_and h (57344 + x * 4 + 3) ≡ h / 8192 * 8192 + bit_and h (x * 4) + h % 4
masked h x hh lt =
    let whole : 7 * 2 ^ 13 + (x * 2 ^ 2 + 3) ≡ 57344 + x * 4 + 3 = omega arith in
    let high : bit_and (h / 2 ^ 13 * 2 ^ 13 + h % 2 ^ 13) (7 * 2 ^ 13 + (x * 2 ^ 2 + 3))
    ≡ bit_and (h / 2 ^ 13) 7 * 2 ^ 13 + bit_and (h % 2 ^ 13) (x * 2 ^ 2 + 3) =
    and_block 13 (h / 2 ^ 13) 7 (h % 2 ^ 13) (x * 2 ^ 2 + 3) (omega arith) (omega arith) in
    let low : bit_and (h % 2 ^ 13 / 2 ^ 2 * 2 ^ 2 + h % 2 ^ 13 % 2 ^ 2) (x * 2 ^ 2 + 3)
    ≡ bit_and (h % 2 ^ 13 / 2 ^ 2) x * 2 ^ 2 + bit_and (h % 2 ^ 13 % 2 ^ 2) 3 =
    and_block 2 (h % 2 ^ 13 / 2 ^ 2) x (h % 2 ^ 13 % 2 ^ 2) 3 (omega arith) (omega arith) in
    ap (λ (n : ℕ). bit_and n (57344 + x * 4 + 3)) (sym (shr_split h 13))
    ∙ ap (λ (n : ℕ). bit_and (h / 2 ^ 13 * 2 ^ 13 + h % 2 ^ 13) n) (sym whole) ∙ high
    ∙ rw (and_mask (h / 2 ^ 13) 3) (ap (λ (n : ℕ). h / 2 ^ 13 % 2 ^ 3 * 2 ^ 13 + bit_and n (x * 2 ^ 2 + 3))
    (sym (shr_split (h % 2 ^ 13) 2)))
    ∙ ap (λ (n : ℕ). h / 2 ^ 13 % 2 ^ 3 * 2 ^ 13 + n) low
    ∙ rw (and_mask (h % 2 ^ 13 % 2 ^ 2) 2) (omega (arith, middle h x lt))

-- a row's test by the quadrant, the number and the bits between
abbrev pub field_fit : ℕ → ℕ → ℕ → Row ℕ → Bool
field_fit q f h r = eqb q (r.matches % 4)
    && (eqb f (r.matches / 8192) && (eqb (bit_and h (r.mask - 57347)) (r.matches % 8192 / 4 * 4)
    && none_holds h r.unless))

-- the first row whose test by those parts holds
abbrev pub first_field_fit : ℕ → ℕ → ℕ → List (Row ℕ) → Option ℕ
first_field_fit q f h [] = None
first_field_fit q f h (r ∷ rs) = cond (field_fit q f h r) (Some (r.gives h)) (first_field_fit q f h rs)

-- a test under such a mask is the tests of the parts
test_masked : (h x m : ℕ) → h < 2 ^ 16 → x < 2048
    → eqb (bit_and h (57344 + x * 4 + 3)) m
    ≡ (eqb (h % 4) (m % 4) && (eqb (h / 8192) (m / 8192) && eqb (bit_and h (x * 4)) (m % 8192 / 4 * 4)))
test_masked h x m hh lt =
    let is = masked h x hh lt in
    let mid = middle h x lt in
    let below = and_le_r (h % 8192 / 4) x in
    same_test (eqb (bit_and h (57344 + x * 4 + 3)) m)
    (eqb (h % 4) (m % 4) && (eqb (h / 8192) (m / 8192) && eqb (bit_and h (x * 4)) (m % 8192 / 4 * 4)))
    (λ e. let e' = eqb-true _ _ e in
    and_from _ _ (eq-eqb (h % 4) (m % 4) (omega (arith, e', is, mid)))
    (and_from _ _ (eq-eqb (h / 8192) (m / 8192) (omega (arith, e', is, mid, below)))
    (eq-eqb (bit_and h (x * 4)) (m % 8192 / 4 * 4) (omega (arith, e', is, mid, below)))))
    (λ e. let p = and_parts (eqb (h % 4) (m % 4))
    (eqb (h / 8192) (m / 8192) && eqb (bit_and h (x * 4)) (m % 8192 / 4 * 4)) e in
    let q = and_parts (eqb (h / 8192) (m / 8192)) (eqb (bit_and h (x * 4)) (m % 8192 / 4 * 4)) p.1 in
    eq-eqb _ _ (omega (
      arith,
      is,
      eqb-true (h % 4) (m % 4) p.0,
      eqb-true (h / 8192) (m / 8192) q.0,
      eqb-true (bit_and h (x * 4)) (m % 8192 / 4 * 4) q.1,
    )))

-- a mask with the quadrant and the number
good : Row ℕ → Bool
good r = eqb (r.mask % 4) 3 && eqb (r.mask / 8192) 7

-- each row of a table has such a mask
all_good : List (Row ℕ) → Bool
unfolding good
all_good [] = true
all_good (r ∷ rs) = good r && all_good rs

-- the tests of a row in another order of brackets
and_regroup : (a b c d : Bool) → ((a && (b && c)) && d) ≡ (a && (b && (c && d)))
and_regroup true true c d = refl
and_regroup true false c d = refl
and_regroup false b c d = refl

-- a row's test of the halfword is its test by the parts
by_mask : (h : ℕ) → h < 2 ^ 16 → (r : Row ℕ) → good r ≡ true → fits h r ≡ field_fit (h % 4) (h / 8192) h r
unfolding good
by_mask h hh r e =
    let p = and_parts (eqb (r.mask % 4) 3) (eqb (r.mask / 8192) 7) e in
    let quad = eqb-true (r.mask % 4) 3 p.0 in
    let number = eqb-true (r.mask / 8192) 7 p.1 in
    let x : ℕ = (r.mask - 57347) / 4 in
    let whole : 57344 + (r.mask - 57347) / 4 * 4 + 3 ≡ r.mask = omega (arith, quad, number) in
    let mid : (r.mask - 57347) / 4 * 4 ≡ r.mask - 57347 = omega (arith, quad, number) in
    let small : (r.mask - 57347) / 4 < 2048 = omega (arith, quad, number) in
    ap (λ (b : Bool). b && none_holds h r.unless)
    (ap (λ (m : ℕ). eqb (bit_and h m) r.matches) (sym whole) ∙ test_masked h ((r.mask - 57347) / 4) r.matches hh small
    ∙ ap (λ (m : ℕ). eqb (h % 4) (r.matches % 4)
    && (eqb (h / 8192) (r.matches / 8192) && eqb (bit_and h m) (r.matches % 8192 / 4 * 4))) mid)
    ∙ and_regroup (eqb (h % 4) (r.matches % 4)) (eqb (h / 8192) (r.matches / 8192))
    (eqb (bit_and h (r.mask - 57347)) (r.matches % 8192 / 4 * 4)) (none_holds h r.unless)

-- so the first row that fits is the first by the parts, in a part of a table and in the whole
by_fields : (h : ℕ) → h < 2 ^ 16 → (rs : List (Row ℕ)) → all_good rs ≡ true
    → first_fit h rs ≡ first_field_fit (h % 4) (h / 8192) h rs
unfolding all_good
by_fields h hh [] e = refl
by_fields h hh (r ∷ rs) e =
    let p = and_parts (good r) (all_good rs) e in
    ap (λ (b : Bool). cond b (Some (r.gives h)) (first_fit h rs)) (by_mask h hh r p.0)
    ∙ ap (λ (o : Option ℕ). cond (field_fit (h % 4) (h / 8192) h r) (Some (r.gives h)) o) (by_fields h hh rs p.1)

-- the table of halfwords may be searched by quadrant, number and the bits between
expand_fields : (h : ℕ) → h < 2 ^ 16 → expand_of h ≡ first_field_fit (h % 4) (h / 8192) h rows
unfolding expand_of all_good good
expand_fields h hh = by_fields h hh rows refl

-- ---- by the quadrant and the number

-- the rows that are left once the quadrant and the number are known; `none_Q_N` has none in quadrant Q with number N,
-- and in quadrant 3 there is none at all
pub stack_address : (h : ℕ) → h < 2 ^ 16 → h % 4 ≡ 0 → h / 8192 ≡ 0 → expand_of h ≡
    cond (not (eqb (bit_and h 8160) 0) && true) (Some (addi (low_reg h) 2 (imm_addi4spn h)))
    None
stack_address h hh a b = expand_fields h hh ∙ rw (a, b, and_zero_r h) refl

-- number 1 of quadrant 0 is C.FLD's, of floating point
pub none_0_1 : (h : ℕ) → h < 2 ^ 16 → h % 4 ≡ 0 → h / 8192 ≡ 1 → expand_of h ≡ None
none_0_1 h hh a b = expand_fields h hh ∙ rw (a, b) refl

-- C.LW names both of its registers with three bits, x8 to x15
pub load_word : (h : ℕ) → h < 2 ^ 16 → h % 4 ≡ 0 → h / 8192 ≡ 2
    → expand_of h ≡ Some (lw (low_reg h) (high_reg h) (imm_lw h))
load_word h hh a b = expand_fields h hh ∙ rw (a, b, and_zero_r h) refl

-- number 3 of quadrant 0, C.FLW's, stands for nothing without floating point
pub none_0_3 : (h : ℕ) → h < 2 ^ 16 → h % 4 ≡ 0 → h / 8192 ≡ 3 → expand_of h ≡ None
none_0_3 h hh a b = expand_fields h hh ∙ rw (a, b) refl

-- number 4 of quadrant 0 is reserved
pub none_0_4 : (h : ℕ) → h < 2 ^ 16 → h % 4 ≡ 0 → h / 8192 ≡ 4 → expand_of h ≡ None
none_0_4 h hh a b = expand_fields h hh ∙ rw (a, b) refl

-- number 5 of quadrant 0 would store a double, C.FSD
pub none_0_5 : (h : ℕ) → h < 2 ^ 16 → h % 4 ≡ 0 → h / 8192 ≡ 5 → expand_of h ≡ None
none_0_5 h hh a b = expand_fields h hh ∙ rw (a, b) refl

-- C.SW has the fields of C.LW, with the stored register where the loaded one was
pub store_word : (h : ℕ) → h < 2 ^ 16 → h % 4 ≡ 0 → h / 8192 ≡ 6
    → expand_of h ≡ Some (sw (low_reg h) (high_reg h) (imm_lw h))
store_word h hh a b = expand_fields h hh ∙ rw (a, b, and_zero_r h) refl

-- number 7 of quadrant 0 would be C.FSW
pub none_0_7 : (h : ℕ) → h < 2 ^ 16 → h % 4 ≡ 0 → h / 8192 ≡ 7 → expand_of h ≡ None
none_0_7 h hh a b = expand_fields h hh ∙ rw (a, b) refl

-- in quadrant 1 each number has a row
pub add_immediate : (h : ℕ) → h < 2 ^ 16 → h % 4 ≡ 1 → h / 8192 ≡ 0
    → expand_of h ≡ Some (addi (wide_rd h) (wide_rd h) (imm_six h))
add_immediate h hh a b = expand_fields h hh ∙ rw (a, b, and_zero_r h) refl

-- C.JAL leaves its return address in x1
pub jump_and_link : (h : ℕ) → h < 2 ^ 16 → h % 4 ≡ 1 → h / 8192 ≡ 1 → expand_of h ≡ Some (jal 1 (imm_jump h))
jump_and_link h hh a b = expand_fields h hh ∙ rw (a, b, and_zero_r h) refl

-- C.LI is an addition to x0
pub load_immediate : (h : ℕ) → h < 2 ^ 16 → h % 4 ≡ 1 → h / 8192 ≡ 2
    → expand_of h ≡ Some (addi (wide_rd h) 0 (imm_six h))
load_immediate h hh a b = expand_fields h hh ∙ rw (a, b, and_zero_r h) refl

-- C.ADDI16SP where rd is x2 and C.LUI where it isn't, neither with the immediate 0
pub stack_or_upper : (h : ℕ) → h < 2 ^ 16 → h % 4 ≡ 1 → h / 8192 ≡ 3 → expand_of h ≡
    cond (eqb (bit_and h 3968) 256 && (not (eqb (bit_and h 4220) 0) && true)) (Some (addi 2 2 (imm_addi16sp h)))
    (cond (not (eqb (bit_and h 3968) 256) && (not (eqb (bit_and h 4220) 0) && true))
    (Some (lui (wide_rd h) (imm_lui h)))
    None)
stack_or_upper h hh a b = expand_fields h hh ∙ rw (a, b, and_zero_r h) refl

-- bits 12:10 and 6:5 tell seven computations on x8 to x15 apart, and some are none
pub arithmetic : (h : ℕ) → h < 2 ^ 16 → h % 4 ≡ 1 → h / 8192 ≡ 4 → expand_of h ≡
    cond (eqb (bit_and h 7168) 0 && true) (Some (srli (high_reg h) (high_reg h) (bits_at h 2 5)))
    (cond (eqb (bit_and h 7168) 1024 && true) (Some (srai (high_reg h) (high_reg h) (bits_at h 2 5)))
    (cond (eqb (bit_and h 3072) 2048 && true) (Some (andi (high_reg h) (high_reg h) (imm_six h)))
    (cond (eqb (bit_and h 7264) 3072 && true) (Some (sub (high_reg h) (high_reg h) (low_reg h)))
    (cond (eqb (bit_and h 7264) 3104 && true) (Some (xor (high_reg h) (high_reg h) (low_reg h)))
    (cond (eqb (bit_and h 7264) 3136 && true) (Some (or (high_reg h) (high_reg h) (low_reg h)))
    (cond (eqb (bit_and h 7264) 3168 && true) (Some (and (high_reg h) (high_reg h) (low_reg h)))
    None))))))
arithmetic h hh a b = expand_fields h hh ∙ rw (a, b) refl

-- C.J is C.JAL into x0, which keeps no return address
pub jump : (h : ℕ) → h < 2 ^ 16 → h % 4 ≡ 1 → h / 8192 ≡ 5 → expand_of h ≡ Some (jal 0 (imm_jump h))
jump h hh a b = expand_fields h hh ∙ rw (a, b, and_zero_r h) refl

-- C.BEQZ compares one of x8 to x15 with x0
pub branch_if_zero : (h : ℕ) → h < 2 ^ 16 → h % 4 ≡ 1 → h / 8192 ≡ 6
    → expand_of h ≡ Some (beq (high_reg h) 0 (imm_branch h))
branch_if_zero h hh a b = expand_fields h hh ∙ rw (a, b, and_zero_r h) refl

-- C.BNEZ has the fields of C.BEQZ, and the next number
pub branch_if_not_zero : (h : ℕ) → h < 2 ^ 16 → h % 4 ≡ 1 → h / 8192 ≡ 7
    → expand_of h ≡ Some (bne (high_reg h) 0 (imm_branch h))
branch_if_not_zero h hh a b = expand_fields h hh ∙ rw (a, b, and_zero_r h) refl

-- in quadrant 2 the even numbers have rows, and in quadrant 3 there is none
pub shift_left : (h : ℕ) → h < 2 ^ 16 → h % 4 ≡ 2 → h / 8192 ≡ 0 → expand_of h ≡
    cond (eqb (bit_and h 4096) 0 && true) (Some (slli (wide_rd h) (wide_rd h) (bits_at h 2 5)))
    None
shift_left h hh a b = expand_fields h hh ∙ rw (a, b) refl

-- number 1 of quadrant 2 would be C.FLDSP
pub none_2_1 : (h : ℕ) → h < 2 ^ 16 → h % 4 ≡ 2 → h / 8192 ≡ 1 → expand_of h ≡ None
none_2_1 h hh a b = expand_fields h hh ∙ rw (a, b) refl

-- C.LWSP loads from x2 on, into any register but x0
pub load_from_stack : (h : ℕ) → h < 2 ^ 16 → h % 4 ≡ 2 → h / 8192 ≡ 2 → expand_of h ≡
    cond (not (eqb (bit_and h 3968) 0) && true) (Some (lw (wide_rd h) 2 (imm_lwsp h)))
    None
load_from_stack h hh a b = expand_fields h hh ∙ rw (a, b, and_zero_r h) refl

-- number 3 of quadrant 2 would be C.FLWSP
pub none_2_3 : (h : ℕ) → h < 2 ^ 16 → h % 4 ≡ 2 → h / 8192 ≡ 3 → expand_of h ≡ None
none_2_3 h hh a b = expand_fields h hh ∙ rw (a, b) refl

-- C.JR, C.MV, C.EBREAK, C.JALR and C.ADD, by bit 12 and by which register fields are 0
pub register_pair : (h : ℕ) → h < 2 ^ 16 → h % 4 ≡ 2 → h / 8192 ≡ 4 → expand_of h ≡
    cond (eqb (bit_and h 4220) 0 && (not (eqb (bit_and h 3968) 0) && true)) (Some (jalr 0 (wide_rd h)))
    (cond (eqb (bit_and h 4096) 0 && (not (eqb (bit_and h 124) 0) && true)) (Some (add (wide_rd h) 0 (wide_rs2 h)))
    (cond (eqb (bit_and h 8188) 4096 && true) (Some (ebreak))
    (cond (eqb (bit_and h 4220) 4096 && (not (eqb (bit_and h 3968) 0) && true)) (Some (jalr 1 (wide_rd h)))
    (cond (eqb (bit_and h 4096) 4096 && (not (eqb (bit_and h 124) 0) && true))
    (Some (add (wide_rd h) (wide_rd h) (wide_rs2 h)))
    None))))
register_pair h hh a b = expand_fields h hh ∙ rw (a, b) refl

-- number 5 of quadrant 2 would be C.FSDSP
pub none_2_5 : (h : ℕ) → h < 2 ^ 16 → h % 4 ≡ 2 → h / 8192 ≡ 5 → expand_of h ≡ None
none_2_5 h hh a b = expand_fields h hh ∙ rw (a, b) refl

-- C.SWSP stores any register, x2 being its base
pub store_to_stack : (h : ℕ) → h < 2 ^ 16 → h % 4 ≡ 2 → h / 8192 ≡ 6
    → expand_of h ≡ Some (sw (wide_rs2 h) 2 (imm_swsp h))
store_to_stack h hh a b = expand_fields h hh ∙ rw (a, b, and_zero_r h) refl

-- number 7 of quadrant 2 would be C.FSWSP, the last of floating point
pub none_2_7 : (h : ℕ) → h < 2 ^ 16 → h % 4 ≡ 2 → h / 8192 ≡ 7 → expand_of h ≡ None
none_2_7 h hh a b = expand_fields h hh ∙ rw (a, b) refl

-- a halfword with both low bits set begins a word of 32 bits, and stands for no other
pub no_short : (h : ℕ) → h < 2 ^ 16 → h % 4 ≡ 3 → expand_of h ≡ None
no_short h hh a = expand_fields h hh ∙ rw a refl

-- the quadrants' numbers without a row, for automatic proofs
pub ruleset empty_numbers =
    (none_0_1, none_0_3, none_0_4, none_0_5, none_0_7, none_2_1, none_2_3, none_2_5, none_2_7, no_short)
