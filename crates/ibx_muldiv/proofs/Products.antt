-- Taking the multiplier's bits in any portions leaves the same product.
use Rattle.std.proofs.Common.{◌≡◌, ◌≢◌, ℕ, zero, suc, ◌+◌, ◌-◌, ◌*◌, ◌/◌, ◌%◌, ◌^◌, ◌<◌, refl, sym, ap, ◌∙◌, arith}
use Rattle.std.proofs.Common.{add_comm, Bool, false, cond}
use Rattle.std.proofs.Math.Nat.{mod-add-mod, add-mod-mod, mod-eq_of_lt, mod-one, mod-lt, mul-zero, mul_assoc}
use Rattle.std.proofs.Math.Dec.{eqb-suc-zero}
use Rattle.std.proofs.lemmas.Nat.{pow-add, mod-pow-add, shr-shr, mul-mod_first, mul-lt}
use Rattle.ibx_muldiv.specs.declared.work.Work.{Work}
use Rattle.ibx_isa.specs.declared.insn.MulKind.{MulKind}
use Rattle.ibx_muldiv.specs.declared.operands.Operands.{Operands}
use Rattle.ibx_muldiv.specs.Steps.{multiplied, division_step, step_of, pace_of, begun_product, negated, word_of}
use Rattle.ibx_muldiv.specs.Steps.{answer_of}
use Rattle.ibx_muldiv.proofs.Fields.{steps, answer}

-- sums and products may be cut to 64 bits before or after
scaled_sum : (x y b : ℕ) → (x % 2 ^ 64 + y % 2 ^ 64 * b) % 2 ^ 64 ≡ (x + y * b) % 2 ^ 64
scaled_sum x y b =
    mod-add-mod x (2 ^ 64) (y % 2 ^ 64 * b)
    ∙ sym (add-mod-mod x (y % 2 ^ 64 * b) (2 ^ 64))
    ∙ ap (λ (t : ℕ). (x + t) % 2 ^ 64) (mul-mod_first y b (2 ^ 64))
    ∙ add-mod-mod x (y * b) (2 ^ 64)

-- first i bits of r, and then j
pub taken_sum : (s m r i j : ℕ) → ((s + m * (r % 2 ^ i)) % 2 ^ 64 + m * 2 ^ i % 2 ^ 64 * (r / 2 ^ i % 2 ^ j)) % 2 ^ 64
    ≡ (s + m * (r % 2 ^ (i + j))) % 2 ^ 64
taken_sum s m r i j =
    let whole : r % 2 ^ (i + j) ≡ r / 2 ^ i % 2 ^ j * 2 ^ i + r % 2 ^ i = rw (add_comm i j) (mod-pow-add r j i) in
    let joined : s + m * (r % 2 ^ i) + m * 2 ^ i * (r / 2 ^ i % 2 ^ j)
    ≡ s + m * (r / 2 ^ i % 2 ^ j * 2 ^ i + r % 2 ^ i) = omega arith in
    scaled_sum (s + m * (r % 2 ^ i)) (m * 2 ^ i) (r / 2 ^ i % 2 ^ j)
    ∙ ap (λ (t : ℕ). t % 2 ^ 64) (joined ∙ ap (λ (t : ℕ). s + m * t) (sym whole))

-- moved up by i bits and then by j is moved by both, so that bits may be taken in two portions
moved_twice : (m i j : ℕ) → m * 2 ^ i % 2 ^ 64 * 2 ^ j % 2 ^ 64 ≡ m * 2 ^ (i + j) % 2 ^ 64
moved_twice m i j =
    mul-mod_first (m * 2 ^ i) (2 ^ j) (2 ^ 64)
    ∙ ap (λ (t : ℕ). t % 2 ^ 64) (rw (pow-add 2 i j) (mul_assoc m (2 ^ i) (2 ^ j)))

-- taking i bits and then j is taking i + j at once
pub multiplied-multiplied : (i j : ℕ) (w : Work) → multiplied j (multiplied i w) ≡ multiplied (i + j) w
unfolding multiplied
multiplied-multiplied i j w = λ t. record w {
  sum = taken_sum w.sum w.multiplicand w.rest i j t;
  multiplicand = moved_twice w.multiplicand i j t;
  rest = shr-shr w.rest i j t;
}

-- taking no bits leaves a calculation as it is
pub none_taken : (w : Work) → w.sum < 2 ^ 64 → w.multiplicand < 2 ^ 64 → w ≡ multiplied 0 w
unfolding multiplied
none_taken w s m =
    let nothing : (w.sum + w.multiplicand * (w.rest % 1)) % 2 ^ 64 ≡ w.sum = rw (mod-one w.rest) (omega arith) in
    let still : w.multiplicand * 1 % 2 ^ 64 ≡ w.multiplicand = omega arith in
    let all : w.rest / 1 ≡ w.rest = omega arith in
    sym (λ t. record w { sum = nothing t; multiplicand = still t; rest = all t })

-- taking one bit more after i is taking i + 1
pub one_more : (i : ℕ) (w v u : Work) → u ≡ multiplied 1 v → v ≡ multiplied i w → u ≡ multiplied (i + 1) w
one_more i w v u e f = e ∙ ap (multiplied 1) f ∙ multiplied-multiplied i 1 w

-- the two steps of a loop that takes bits, for automatic proofs
pub ruleset taking = (none_taken, one_more)

-- a bit that is set adds the multiplicand, and one that is clear adds nothing
pub bit_taken : (s m r : ℕ) → r % 2 ≢ 0 → (s + m) % 18446744073709551616 ≡ (s + m * (r % 2)) % 18446744073709551616
bit_taken s m r ne = let one : r % 2 ≡ 1 = omega (arith, ne) in rw one (omega arith)

-- a bit that is clear leaves a sum of 64 bits as it is
pub bit_left : (s m r : ℕ) → s < 2 ^ 64 → r % 2 ≡ 0 → s ≡ (s + m * (r % 2)) % 18446744073709551616
bit_left s m r lt none = rw none (omega arith)

-- the same two, for automatic proofs
pub ruleset bits = (bit_taken, bit_left)

-- a cycle of a multiplication
step_product : (w : Work) → w.divides ≡ false → step_of w ≡ record (multiplied w.pace w) { left = w.left - 1 }
unfolding step_of
step_product w e = ap (λ (b : Bool). record (cond b (division_step w) (multiplied w.pace w)) { left = w.left - 1 }) e

-- n cycles take n times the bits of one
product_steps : (n : ℕ) (w : Work) → w.divides ≡ false → w.sum < 2 ^ 64
    → answer (steps n w) ≡ word_of w.high (negated 64 w.negate
    ((w.sum + w.multiplicand * (w.rest % 2 ^ (w.pace * n))) % 2 ^ 64))
unfolding steps multiplied
product_steps zero w e small =
    let whole : w.sum ≡ (w.sum + w.multiplicand * (w.rest % 2 ^ (w.pace * zero))) % 2 ^ 64 =
    rw (mul-zero w.pace, mod-one w.rest) (omega arith) in
    ap (λ (b : Bool). answer_of b w.high w.negate w.sum w.multiplicand) e
    ∙ ap (λ (x : ℕ). word_of w.high (negated 64 w.negate x)) whole
product_steps (suc n) w e small =
    let more : w.pace + w.pace * n ≡ w.pace * suc n = omega arith in
    let after : Work = record (multiplied w.pace w) { left = w.left - 1 } in
    ap (λ (x : Work). answer (steps n x)) (step_product w e)
    ∙ product_steps n (record (multiplied w.pace w) { left = w.left - 1 }) e
    (mod-lt (w.sum + w.multiplicand * (w.rest % 2 ^ w.pace)) (omega arith))
    ∙ ap (λ (x : ℕ). word_of w.high (negated 64 w.negate x))
    (taken_sum w.sum w.multiplicand w.rest w.pace (w.pace * n)
    ∙ ap (λ (x : ℕ). (w.sum + w.multiplicand * (w.rest % 2 ^ x)) % 2 ^ 64) more)

-- a product before its first cycle
begun_with : Operands → ℕ → MulKind → Work
begun_with o cost mul = record {
  sum = 0;
  multiplicand = o.first;
  rest = o.second;
  left = cost;
  pace = pace_of mul;
  divides = false;
  high = o.high;
  negate = o.negate;
}

-- all bits of the multiplier make the whole product
whole_product : (a b bits : ℕ) → a < 2 ^ 32 → b < 2 ^ 32 → b < 2 ^ bits → (0 + a * (b % 2 ^ bits)) % 2 ^ 64 ≡ a * b
whole_product a b bits fa fb within =
    let small : a * b < 2 ^ 64 = mul-lt a b (2 ^ 32) (2 ^ 32) fa fb in
    rw (mod-eq_of_lt within) (omega arith)

-- a product has its answer after its cycles
pub product_finishes : (o : Operands) (cost : ℕ) (mul : MulKind) → o.first < 2 ^ 32 → o.second < 2 ^ 32
    → (0 < cost → o.second < 2 ^ (pace_of mul * cost))
    → answer (steps cost (begun_product o cost mul)) ≡ word_of o.high (negated 64 o.negate (o.first * o.second))
unfolding begun_product begun_with steps multiplied
product_finishes o zero mul fa fb enough =
    ap (λ (x : ℕ). word_of o.high (negated 64 o.negate x)) (whole_product o.first o.second 32 fa fb fb)
product_finishes o (suc n) mul fa fb enough =
    let begins : begun_product o (suc n) mul ≡ begun_with o (suc n) mul =
    ap (λ (b : Bool). cond b (multiplied 32 (begun_with o (suc n) mul)) (begun_with o (suc n) mul)) (eqb-suc-zero n) in
    ap (λ (x : Work). answer (steps (suc n) x)) begins
    ∙ product_steps (suc n) (begun_with o (suc n) mul) refl (omega arith)
    ∙ ap (λ (x : ℕ). word_of o.high (negated 64 o.negate x))
    (whole_product o.first o.second (pace_of mul * suc n) fa fb (enough (omega arith)))
