-- The steps divide: so far the quotient and the remainder are those of the dividend's bits that were taken.
use Rattle.std.proofs.Common.{◌≡◌, ◌≢◌, ℕ, zero, suc, ◌+◌, ◌-◌, ◌*◌, ◌/◌, ◌%◌, ◌^◌, ◌<◌, ◌≤◌, Bool, true, false, cond}
use Rattle.std.proofs.Common.{eqb, leb, refl, sym, ap, ◌∙◌, subst, arith, inl, inr, ◌⊎◌, add_comm, add-one}
use Rattle.std.proofs.lemmas.Nat.{pow_pos, pow-add, shr_high, mod_low, shr-shr, mod-pow-add, field_of, div-add-mod'}
use Rattle.std.proofs.lemmas.Nat.{mod_below, div-mul-add, mod-mul-add}
use Rattle.std.proofs.Math.Nat.{div-le_self}
use Rattle.std.proofs.lemmas.Bool.{cases_lt, cases_eq, lt-ltb, le-ltb, le-leb, lt-leb, ne_eqb, eq-eqb}
use Rattle.ibx_muldiv.specs.declared.operands.Operands.{Operands}
use Rattle.ibx_muldiv.specs.declared.work.Work.{Work}
use Rattle.ibx_muldiv.specs.Steps.{step_of, multiplied, division_step, divided, begun_division, negated}
use Rattle.ibx_muldiv.proofs.Fields.{steps, answer}

-- the bits of the dividend one by one: the top part with one bit more, that bit, and those below it
next_bit : (a n : ℕ) → a / 2 ^ n ≡ a / 2 ^ (n + 1) * 2 + a / 2 ^ n % 2
next_bit a n = sym (div-add-mod' (a / 2 ^ n) 2) ∙ ap (λ (x : ℕ). x * 2 + a / 2 ^ n % 2) (shr-shr a n 1)

-- the word of h above the k bits of q
module _ (h q m k : ℕ) (whole : k + m ≡ 31) (small : q < 2 ^ k) where
  -- from bit 31 on it has the bits of h from m on: what is shifted in
  high_bit : (h * 2 ^ k + q) / 2 ^ 31 ≡ h / 2 ^ m
  high_bit =
      subst (λ (x : ℕ). (h * 2 ^ k + q) / 2 ^ x ≡ h / 2 ^ m) whole
      (sym (shr-shr (h * 2 ^ k + q) k m) ∙ ap (λ (x : ℕ). x / 2 ^ m) (shr_high h k q small))

  -- below bit 31 it has the m lowest bits of h above q: what is left
  low_part : (h * 2 ^ k + q) % 2 ^ 31 ≡ h % 2 ^ m * 2 ^ k + q
  low_part =
      let turned : m + k ≡ 31 = omega arith in
      subst (λ (x : ℕ). (h * 2 ^ k + q) % 2 ^ x ≡ h % 2 ^ m * 2 ^ k + q) turned
      (mod-pow-add (h * 2 ^ k + q) m k ∙ rw (shr_high h k q small, mod_low h k q small) refl)

-- the highest of the n + 1 bits that are left is bit n of the dividend
top_bit : (a n : ℕ) → a % 2 ^ (1 + n) / 2 ^ n ≡ a / 2 ^ n % 2
top_bit a n = field_of a 1 n

-- without that bit, the n bits below it are left
rest_bits : (a n : ℕ) → a % 2 ^ (1 + n) % 2 ^ n ≡ a % 2 ^ n
rest_bits a n = ap (λ (x : ℕ). x % 2 ^ n) (mod-pow-add a 1 n)
    ∙ mod_low (a / 2 ^ n % 2 ^ 1) n (a % 2 ^ n) (mod_below a (2 ^ n) (pow_pos n))

-- a cycle that takes a bit
step_taken : (w : Work) → w.divides ≡ true → 5 < w.left → step_of w ≡ record (divided w) { left = w.left - 1 }
unfolding step_of division_step
step_taken w d lt =
    ap (λ (b : Bool). record (cond b (division_step w) (multiplied w.pace w)) { left = w.left - 1 }) d
    ∙ ap (λ (b : Bool). record (cond b (divided w) w) { left = w.left - 1 }) (lt-ltb 5 w.left lt)

-- what is left of a cycle that only counts, as each of the last 5
counted : Work → Work
counted w = record w { left = w.left - 1 }

-- each of the last 5 cycles of a division only counts
step_waits : (w : Work) → w.divides ≡ true → w.left ≤ 5 → step_of w ≡ counted w
unfolding step_of division_step counted
step_waits w d le =
    ap (λ (b : Bool). record (cond b (division_step w) (multiplied w.pace w)) { left = w.left - 1 }) d
    ∙ ap (λ (b : Bool). record (cond b (divided w) w) { left = w.left - 1 }) (le-ltb 5 w.left le)

-- What a division holds when n bits of the dividend are left and k are taken: the quotient and the remainder of those
-- that are taken. By 0 the divisor fits each time, so that the quotient is all ones.
record At (a b n k : ℕ) (high negate : Bool) (w : Work) : Type 0 where
  divides : w.divides ≡ true
  divisor : w.rest ≡ b
  left : w.left ≡ n + 5
  wanted : w.high ≡ high
  negated : w.negate ≡ negate
  quotient : ℕ
  low : w.multiplicand ≡ a % 2 ^ n * 2 ^ k + quotient
  taken : a / 2 ^ n ≡ quotient * b + w.sum
  small : quotient < 2 ^ k
  below : 0 < b → w.sum < b
  ones : b ≡ 0 → quotient + 1 ≡ 2 ^ k

-- a step that takes a bit brings the division one bit further
step_at : (a b n k : ℕ) (high negate : Bool) (w : Work) → a < 2 ^ 32 → k + n ≡ 31
    → At a b (n + 1) k high negate w → At a b n (k + 1) high negate (step_of w)
unfolding divided
step_at a b n k high negate w ab whole at =
    let some : 5 < w.left = omega (arith, at.left) in
    let top : w.multiplicand / 2 ^ 31 ≡ a / 2 ^ n % 2 =
    ap (λ (x : ℕ). x / 2 ^ 31) at.low
    ∙ high_bit (a % 2 ^ (n + 1)) at.quotient n k whole at.small ∙ rw (add_comm n 1) (top_bit a n) in
    let lower : w.multiplicand % 2 ^ 31 ≡ a % 2 ^ n * 2 ^ k + at.quotient =
    ap (λ (x : ℕ). x % 2 ^ 31) at.low ∙ low_part (a % 2 ^ (n + 1)) at.quotient n k whole at.small
    ∙ ap (λ (x : ℕ). x * 2 ^ k + at.quotient) (rw (add_comm n 1) (rest_bits a n)) in
    let bit : a / 2 ^ n % 2 < 2 = omega arith in
    let within : w.sum < 2 ^ 32 = omega (arith, at.taken, div-le_self a (2 ^ (n + 1)), ab) in
    let partial : w.sum % 2 ^ 63 * 2 + w.multiplicand / 2 ^ 31 % 2 ≡ w.sum * 2 + a / 2 ^ n % 2 =
    omega (arith, within, top, bit) in
    let double : 2 ^ (k + 1) ≡ 2 ^ k * 2 = pow-add 2 k 1 in
    let joined : a / 2 ^ n ≡ a / 2 ^ (n + 1) * 2 + a / 2 ^ n % 2 = next_bit a n in
    rw (step_taken w at.divides some) (elim (cases_lt (w.sum * 2 + a / 2 ^ n % 2) b) [
      | inl lt ↦
          let test : leb w.rest (w.sum % 2 ^ 63 * 2 + w.multiplicand / 2 ^ 31 % 2) ≡ false =
          lt-leb _ _ (omega (arith, at.divisor, partial, lt)) in
          rw test (record {
            divides = at.divides;
            divisor = at.divisor;
            left = omega (arith, at.left);
            wanted = at.wanted;
            negated = at.negated;
            quotient = at.quotient * 2;
            low = rw (lower, double) (omega arith);
            taken = omega (arith, partial, joined, at.taken);
            small = omega (arith, double, at.small);
            below = λ _. omega (arith, partial, lt);
            ones = λ none. absurd (omega (arith, none, lt));
          })
      | inr le ↦
          let test : leb w.rest (w.sum % 2 ^ 63 * 2 + w.multiplicand / 2 ^ 31 % 2) ≡ true =
          le-leb _ _ (omega (arith, at.divisor, partial, le)) in
          rw test (record {
            divides = at.divides;
            divisor = at.divisor;
            left = omega (arith, at.left);
            wanted = at.wanted;
            negated = at.negated;
            quotient = at.quotient * 2 + 1;
            low = rw (lower, double) (omega arith);
            taken = omega (arith, partial, joined, at.taken, at.divisor, le);
            small = omega (arith, double, at.small);
            below = λ pos. omega (arith, partial, at.divisor, le, bit, at.below pos);
            ones = λ none. omega (arith, double, at.ones none);
          })
    ])

-- all the bits
all_taken : (a b : ℕ) (high negate : Bool) → a < 2 ^ 32 → (n k : ℕ) → k + n ≡ 32 → (w : Work)
    → At a b n k high negate w → At a b 0 32 high negate (steps n w)
unfolding steps
all_taken a b high negate ab zero k whole w at =
    let all : k ≡ 32 = omega (arith, whole) in
    subst (λ (x : ℕ). At a b 0 x high negate w) all at
all_taken a b high negate ab (suc n) k whole w at =
    all_taken a b high negate ab n (k + 1) (omega (arith, whole)) (step_of w)
    (step_at a b n k high negate w ab (omega (arith, whole))
    (subst (λ (x : ℕ). At a b x k high negate w) (sym (add-one n)) at))

-- the last cycles leave the answer
still : (n : ℕ) (w : Work) → w.divides ≡ true → w.left ≡ n → n ≤ 5 → answer (steps n w) ≡ answer w
unfolding steps counted
still zero w d l le = refl
still (suc n) w d l le =
    ap (λ (x : Work). answer (steps n x)) (step_waits w d (omega (arith, l, le)))
    ∙ still n (counted w) d (omega (arith, l)) (omega (arith, le))

-- all cycles are those that take bits and the last 5
all_cycles : (w : Work) → steps 37 w ≡ steps 5 (steps 32 w)
unfolding steps
all_cycles w = refl

-- the remainder or the quotient; by 0 the dividend or all ones
abbrev pub part_of : Bool → ℕ → ℕ → ℕ
part_of true a b = cond (eqb b 0) a (a % b)
part_of false a b = cond (eqb b 0) (2 ^ 32 - 1) (a / b)

-- with all bits taken the two numbers are the remainder and the quotient: by 0, and by another number
words_by_zero : (high : Bool) (a r l q b : ℕ) → a < 2 ^ 32 → b ≡ 0 → a / 1 ≡ q * b + r → q + 1 ≡ 2 ^ 32
    → l ≡ a % 1 * 2 ^ 32 + q → cond high r l % 2 ^ 32 ≡ part_of high a b
words_by_zero high a r l q b ab none taken ones low =
    let test : eqb b 0 ≡ true = eq-eqb b 0 none in
    let all : a / 1 ≡ q * 0 + r = subst (λ (x : ℕ). a / 1 ≡ q * x + r) none taken in
    elim high as (λ h. cond h r l % 2 ^ 32 ≡ part_of h a b) [
      | true ↦ rw test (omega (arith, all, ab))
      | false ↦ rw test (omega (arith, ones, low))
    ]

-- by a number other than 0 they are the true remainder and quotient, which both fit a word
words_by_some : (high : Bool) (a r l q b : ℕ) → b ≢ 0 → b < 2 ^ 32 → a / 1 ≡ q * b + r → r < b → q < 2 ^ 32
    → l ≡ a % 1 * 2 ^ 32 + q → cond high r l % 2 ^ 32 ≡ part_of high a b
words_by_some high a r l q b some bb taken below small low =
    let test : eqb b 0 ≡ false = ne_eqb b 0 some in
    let whole : a ≡ q * b + r = omega (arith, taken) in
    let quot : a / b ≡ q = ap (λ (x : ℕ). x / b) whole ∙ div-mul-add q b r below in
    let rest : a % b ≡ r = ap (λ (x : ℕ). x % b) whole ∙ mod-mul-add q b r below in
    elim high as (λ h. cond h r l % 2 ^ 32 ≡ part_of h a b) [
      | true ↦ rw test (omega (arith, rest, below, bb))
      | false ↦ rw test (omega (arith, quot, small, low))
    ]

-- so that the answer is the word that is wanted
answer_at : (a b : ℕ) (high negate : Bool) (w : Work) → a < 2 ^ 32 → b < 2 ^ 32 → At a b 0 32 high negate w
    → answer w ≡ negated 32 negate (part_of high a b)
answer_at a b high negate w ab bb at =
    rw (at.divides, at.wanted, at.negated) (ap (negated 32 negate) (elim (cases_eq b 0) [
      | inl none ↦
          words_by_zero high a w.sum w.multiplicand at.quotient b ab none at.taken (at.ones none) at.low
      | inr some ↦
          words_by_some high a w.sum w.multiplicand at.quotient b some bb at.taken (at.below (omega (arith, some)))
          at.small at.low
    ]))

-- a division of 37 cycles has its answer after them
whole_division : (o : Operands) → o.first < 2 ^ 32 → o.second < 2 ^ 32
    → answer (steps 37 (begun_division o 37)) ≡ negated 32 o.negate (part_of o.high o.first o.second)
unfolding begun_division
whole_division o fa fb =
    let begins : At o.first o.second 32 0 o.high o.negate (begun_division o 37) = record {
      divides = refl;
      divisor = refl;
      left = refl;
      wanted = refl;
      negated = refl;
      quotient = 0;
      low = omega (arith, fa);
      taken = omega (arith, fa);
      small = omega arith;
      below = λ pos. pos;
      ones = λ _. refl;
    } in
    let ends = all_taken o.first o.second o.high o.negate fa 32 0 refl (begun_division o 37) begins in
    ap answer (all_cycles (begun_division o 37))
    ∙ still 5 (steps 32 (begun_division o 37)) ends.divides ends.left (omega arith)
    ∙ answer_at o.first o.second o.high o.negate (steps 32 (begun_division o 37)) fa fb ends

-- and so has one by 0 of one cycle
division_at_once : (o : Operands) → o.first < 2 ^ 32 → o.second ≡ 0
    → answer (steps 1 (begun_division o 1)) ≡ negated 32 o.negate (part_of o.high o.first o.second)
unfolding begun_division
division_at_once o fa none =
    let test : eqb o.second 0 ≡ true = eq-eqb o.second 0 none in
    still 1 (begun_division o 1) refl refl (omega arith)
    ∙ ap (negated 32 o.negate)
    (elim o.high as (λ h. cond h o.first (2 ^ 32 - 1) % 2 ^ 32 ≡ part_of h o.first o.second) [
      | true ↦ rw test (omega (arith, fa))
      | false ↦ rw test refl
    ])

-- a division by any number has its answer after its cycles
pub division_finishes : (o : Operands) (cost : ℕ) → o.first < 2 ^ 32 → o.second < 2 ^ 32
    → (cost ≡ 1) × (o.second ≡ 0) ⊎ (cost ≡ 37)
    → answer (steps cost (begun_division o cost)) ≡ negated 32 o.negate (part_of o.high o.first o.second)
division_finishes o cost fa fb costs =
    elim costs [
      | inl once ↦
          subst (λ (n : ℕ). answer (steps n (begun_division o n))
          ≡ negated 32 o.negate (part_of o.high o.first o.second)) (sym once.0) (division_at_once o fa once.1)
      | inr full ↦
          subst (λ (n : ℕ). answer (steps n (begun_division o n))
          ≡ negated 32 o.negate (part_of o.high o.first o.second)) (sym full) (whole_division o fa fb)
    ]
