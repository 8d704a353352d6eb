-- A start and the cycles after it.
use Rattle.std.proofs.Common.{◌≡◌, ◌≢◌, ℕ, suc, ◌+◌, ◌-◌, ◌*◌, ◌/◌, ◌^◌, ◌<◌, Bool, true, false, cond, eqb, refl, sym}
use Rattle.std.proofs.Common.{ap, ◌∙◌, subst, arith, inl, inr, ◌⊎◌}
use Rattle.std.proofs.lemmas.Nat.{mul-lt}
use Rattle.std.proofs.lemmas.Bool.{cases_eq, eq-eqb, ne_eqb}
use Rattle.ibx_isa.specs.declared.insn.MdOp.{MdOp}
use Rattle.ibx_isa.specs.declared.insn.MdOp.TheVariants.{Mul, Mulh, Mulhsu, Mulhu, Div, Divu, Rem, Remu}
use Rattle.ibx_isa.specs.declared.insn.MulKind.{MulKind}
use Rattle.ibx_isa.specs.declared.insn.MulKind.TheVariants.{Single, Fast, Slow}
use Rattle.ibx_isa.specs.Cost.{md_cost_of, division_cost, high_cost, low_cost, significant_bits}
use Rattle.ibx_isa.specs.Multiply.{md_value, signed}
use Rattle.ibx_isa.proofs.Width.{width_of_word}
use Rattle.ibx_muldiv.specs.declared.operands.Operands.{Operands}
use Rattle.ibx_muldiv.specs.declared.unit.MulDiv.{MulDiv}
use Rattle.ibx_muldiv.specs.declared.work.Work.{Work}
use Rattle.ibx_muldiv.specs.Operands.{is_division, operands_of, magnitude}
use Rattle.ibx_muldiv.specs.Steps.{pace_of, begun_product, begun_division, multiplied, step_of}
use Rattle.ibx_muldiv.specs.Unit.{seen, left_of, begun, start_of, tick_of, result_of, ticks, Finishes}
use Rattle.ibx_muldiv.proofs.Fields.{IsSized, seen-packed, seen-tick, steps, answer, result_of-ticks}
use Rattle.ibx_muldiv.proofs.Products.{product_finishes}
use Rattle.ibx_muldiv.proofs.Division.{division_finishes}
use Rattle.ibx_muldiv.proofs.Values.{signed_product, mixed_product, signed_quotient, signed_remainder, magnitude-le}
use Rattle.ibx_muldiv.proofs.Values.{magnitude-zero}

-- ---- sizes

-- both magnitudes are words
pub record AreWords (o : Operands) : Type 0 where
  pub first : o.first < 2 ^ 32
  pub second : o.second < 2 ^ 32

-- the operands of two words are such
pub operand_words : (op : MdOp) (a b : ℕ) → a < 2 ^ 32 → b < 2 ^ 32 → AreWords (operands_of op a b)
unfolding operands_of
operand_words Mul a b fa fb = record { first = fa; second = fb }
operand_words Mulh a b fa fb =
    record { first = omega (arith, magnitude-le a fa); second = omega (arith, magnitude-le b fb) }
operand_words Mulhsu a b fa fb = record { first = omega (arith, magnitude-le a fa); second = fb }
operand_words Mulhu a b fa fb = record { first = fa; second = fb }
operand_words Div a b fa fb =
    record { first = omega (arith, magnitude-le a fa); second = omega (arith, magnitude-le b fb) }
operand_words Divu a b fa fb = record { first = fa; second = fb }
operand_words Rem a b fa fb =
    record { first = omega (arith, magnitude-le a fa); second = omega (arith, magnitude-le b fb) }
operand_words Remu a b fa fb = record { first = fa; second = fb }

-- the bits of the multiplier that a cycle takes are a number of six bits
pace_small : (mul : MulKind) → pace_of mul < 64
pace_small Single = omega arith
pace_small Fast = omega arith
pace_small Slow = omega arith

-- a division of two words that begins has numbers that fit the fields
division_sized : (o : Operands) (cost : ℕ) → AreWords o → cost < 64 → IsSized (begun_division o cost)
unfolding begun_division
division_sized o cost words lt = record { rest = words.second; left = lt; pace = omega arith }

-- so has a product, made at once or in its cycles
product_sized : (o : Operands) (cost : ℕ) (mul : MulKind) → AreWords o → cost < 64 → IsSized (begun_product o cost mul)
unfolding begun_product multiplied
product_sized o cost mul words lt =
    let w : Work = record {
      sum = 0;
      multiplicand = o.first;
      rest = o.second;
      left = cost;
      pace = pace_of mul;
      divides = false;
      high = o.high;
      negate = o.negate;
    } in
    elim (eqb cost 0) as (λ b. IsSized (cond b (multiplied 32 w) w)) [
      | true ↦ record { rest = omega (arith, words.second); left = lt; pace = pace_small mul }
      | false ↦ record { rest = words.second; left = lt; pace = pace_small mul }
    ]

-- whatever operation begins, its numbers fit the fields
pub begun_sized : (op : MdOp) (a b cost : ℕ) (mul : MulKind) → a < 2 ^ 32 → b < 2 ^ 32 → cost < 64
    → IsSized (begun (is_division op) op a b cost mul)
begun_sized op a b cost mul fa fb lt =
    elim (is_division op) as (λ d. IsSized (begun d op a b cost mul)) [
      | true ↦ division_sized (operands_of op a b) cost (operand_words op a b fa fb) lt
      | false ↦ product_sized (operands_of op a b) cost mul (operand_words op a b fa fb) lt
    ]

-- a calculation begins with as many cycles left as it costs
begun-left : (op : MdOp) (a b cost : ℕ) (mul : MulKind) → (begun (is_division op) op a b cost mul).left ≡ cost
unfolding begun_division begun_product multiplied
begun-left op a b cost mul =
    elim (is_division op) as (λ d. (begun d op a b cost mul).left ≡ cost) [
      | true ↦ refl
      | false ↦
          let o : Operands = operands_of op a b in
          let w : Work = record {
            sum = 0;
            multiplicand = o.first;
            rest = o.second;
            left = cost;
            pace = pace_of mul;
            divides = false;
            high = o.high;
            negate = o.negate;
          } in
          elim (eqb cost 0) as (λ b. (cond b (multiplied 32 w) w).left ≡ cost) [ true ↦ refl | false ↦ refl ]
    ]

-- ---- costs

-- the low word of a product takes fewer than 64 cycles
low_small : (mul : MulKind) (b : ℕ) (fixed : Bool) → low_cost mul b fixed < 64
low_small Single b fixed = omega arith
low_small Fast b fixed = omega arith
low_small Slow b true = omega arith
low_small Slow b false = omega arith

-- the high word of a product takes fewer than 64 cycles
high_small : (mul : MulKind) → high_cost mul < 64
high_small Single = omega arith
high_small Fast = omega arith
high_small Slow = omega arith

-- a division takes 1 or 37 cycles, fewer than 64
division_small : (b : ℕ) (fixed : Bool) → division_cost b fixed < 64
division_small b true = omega arith
division_small b false = elim (eqb b 0) as (λ e. cond e 1 37 < 64) [ true ↦ omega arith | false ↦ omega arith ]

-- no operation takes 64 cycles or more, so that the cycles left fit their field
pub cost_small : (op : MdOp) (b : ℕ) (fixed : Bool) (mul : MulKind) → md_cost_of op b fixed mul < 64
unfolding md_cost_of
cost_small Mul b fixed mul = low_small mul b fixed
cost_small Mulh b fixed mul = high_small mul
cost_small Mulhsu b fixed mul = high_small mul
cost_small Mulhu b fixed mul = high_small mul
cost_small Div b fixed mul = division_small b fixed
cost_small Divu b fixed mul = division_small b fixed
cost_small Rem b fixed mul = division_small b fixed
cost_small Remu b fixed mul = division_small b fixed

-- ---- the answer

-- the cycles of a multiplication for the high word are enough for all bits of the multiplier
high_enough : (n : ℕ) (mul : MulKind) → n < 2 ^ 32 → n < 2 ^ (pace_of mul * high_cost mul)
high_enough n Single h = h
high_enough n Fast h = omega arith
high_enough n Slow h = h

-- so are those for the low word, also where they are only as many as the multiplier has significant bits
low_enough : (b : ℕ) (fixed : Bool) (mul : MulKind) → b < 2 ^ 32 → 0 < low_cost mul b fixed
    → b < 2 ^ (pace_of mul * low_cost mul b fixed)
low_enough b fixed Single h some = absurd (omega (arith, some))
low_enough b fixed Fast h some = h
low_enough b true Slow h some = h
low_enough b false Slow h some =
    let once : 1 * significant_bits b ≡ significant_bits b = omega arith in
    subst (λ (x : ℕ). b < 2 ^ x) (sym once) (width_of_word b h).enough

-- a division takes one cycle by 0 alone, and else 37, whether it is told by the word or by its magnitude
division_costs : (b second : ℕ) (fixed : Bool) → eqb b 0 ≡ eqb second 0
    → (division_cost b fixed ≡ 1) × (second ≡ 0) ⊎ (division_cost b fixed ≡ 37)
division_costs b second true e = inr refl
division_costs b second false e =
    elim (cases_eq second 0) [
      | inl none ↦ inl (rw (e, eq-eqb second 0 none) refl, none)
      | inr some ↦ inr (rw (e, ne_eqb second 0 some) refl)
    ]

-- after its cycles each operation has its value
answers : (op : MdOp) (a b : ℕ) (fixed : Bool) (mul : MulKind) → a < 2 ^ 32 → b < 2 ^ 32
    → answer (steps (md_cost_of op b fixed mul) (begun (is_division op) op a b (md_cost_of op b fixed mul) mul))
    ≡ md_value op a b
unfolding md_cost_of operands_of md_value
answers Mul a b fixed mul fa fb =
    product_finishes (operands_of Mul a b) (low_cost mul b fixed) mul fa fb (low_enough b fixed mul fb)
answers Mulh a b fixed mul fa fb =
    let words = operand_words Mulh a b fa fb in
    let small : magnitude a * magnitude b < 2 ^ 64 =
    mul-lt (magnitude a) (magnitude b) (2 ^ 32) (2 ^ 32) words.first words.second in
    product_finishes (operands_of Mulh a b) (high_cost mul) mul words.first words.second
    (λ _. high_enough (magnitude b) mul words.second)
    ∙ ap (λ (x : ℕ). x / 2 ^ 32) (signed_product (signed a) (signed b) small)
answers Mulhsu a b fixed mul fa fb =
    let words = operand_words Mulhsu a b fa fb in
    let small : magnitude a * b < 2 ^ 64 = mul-lt (magnitude a) b (2 ^ 32) (2 ^ 32) words.first words.second in
    product_finishes (operands_of Mulhsu a b) (high_cost mul) mul words.first words.second
    (λ _. high_enough b mul words.second)
    ∙ ap (λ (x : ℕ). x / 2 ^ 32) (mixed_product (signed a) b small)
answers Mulhu a b fixed mul fa fb =
    product_finishes (operands_of Mulhu a b) (high_cost mul) mul fa fb (λ _. high_enough b mul fb)
answers Div a b fixed mul fa fb =
    let words = operand_words Div a b fa fb in
    division_finishes (operands_of Div a b) (division_cost b fixed) words.first words.second
    (division_costs b (magnitude b) fixed (magnitude-zero b fb))
    ∙ signed_quotient a b fa fb
answers Divu a b fixed mul fa fb =
    division_finishes (operands_of Divu a b) (division_cost b fixed) fa fb (division_costs b b fixed refl)
answers Rem a b fixed mul fa fb =
    let words = operand_words Rem a b fa fb in
    division_finishes (operands_of Rem a b) (division_cost b fixed) words.first words.second
    (division_costs b (magnitude b) fixed (magnitude-zero b fb))
    ∙ signed_remainder a b fa fb
answers Remu a b fixed mul fa fb =
    division_finishes (operands_of Remu a b) (division_cost b fixed) fa fb (division_costs b b fixed refl)

-- ---- the fields

-- the fields after a start hold the calculation that begins
seen-start : (op : MdOp) (a b : ℕ) (fixed : Bool) (mul : MulKind) → a < 2 ^ 32 → b < 2 ^ 32
    → seen (start_of op a b fixed mul) ≡ begun (is_division op) op a b (md_cost_of op b fixed mul) mul
unfolding start_of
seen-start op a b fixed mul fa fb =
    seen-packed _ (begun_sized op a b (md_cost_of op b fixed mul) mul fa fb (cost_small op b fixed mul))

-- the cycles left are those of the calculation that the fields hold
pub left_of-seen : (m : MulDiv) → left_of m ≡ (seen m).left
unfolding seen
left_of-seen m = refl

-- after a start as many cycles are left as the operation costs
pub left_of-start : (op : MdOp) (a b : ℕ) (fixed : Bool) (mul : MulKind) → a < 2 ^ 32 → b < 2 ^ 32
    → left_of (start_of op a b fixed mul) ≡ md_cost_of op b fixed mul
left_of-start op a b fixed mul fa fb =
    left_of-seen (start_of op a b fixed mul) ∙ ap (λ (w : Work). w.left) (seen-start op a b fixed mul fa fb)
    ∙ begun-left op a b (md_cost_of op b fixed mul) mul

-- a start finishes with the operation's value when its cycles have passed
pub start_finishes : (op : MdOp) (a b : ℕ) (fixed : Bool) (mul : MulKind) → a < 2 ^ 32 → b < 2 ^ 32
    → Finishes (start_of op a b fixed mul) (left_of (start_of op a b fixed mul)) (md_value op a b)
unfolding Finishes
start_finishes op a b fixed mul fa fb =
    rw (left_of-start op a b fixed mul fa fb) (
    result_of-ticks (md_cost_of op b fixed mul) (start_of op a b fixed mul)
    ∙ ap (λ (w : Work). answer (steps (md_cost_of op b fixed mul) w)) (seen-start op a b fixed mul fa fb)
    ∙ answers op a b fixed mul fa fb
    )

-- a cycle brings the result one cycle nearer
pub left_of-tick : (m : MulDiv) → left_of m ≢ 0 → left_of (tick_of m) + 1 ≡ left_of m
unfolding step_of
left_of-tick m ne =
    let after : left_of (tick_of m) ≡ (seen m).left - 1 =
    left_of-seen (tick_of m) ∙ ap (λ (w : Work). w.left) (seen-tick m) in
    omega (arith, after, left_of-seen m, ne)

-- a cycle leaves the value with which the calculation finishes
pub tick_finishes : (m : MulDiv) (value : ℕ) → left_of m ≢ 0 → Finishes m (left_of m) value
    → Finishes (tick_of m) (left_of (tick_of m)) value
unfolding Finishes ticks
tick_finishes m value ne f =
    let up : left_of m ≡ suc (left_of (tick_of m)) = omega (arith, left_of-tick m ne) in
    subst (λ (n : ℕ). result_of (ticks n m) ≡ value) up f
