-- The three fields hold a calculation without a loss.
use Rattle.std.proofs.Common.{◌≡◌, ℕ, zero, suc, ◌+◌, ◌-◌, ◌*◌, ◌/◌, ◌%◌, ◌^◌, ◌<◌, ◌≤◌, Bool, true, false, cond, eqb}
use Rattle.std.proofs.Common.{refl, ap, ◌∙◌, arith}
use Rattle.std.specs.Prelude.{nat_lt, nat_le}
use Rattle.std.proofs.lemmas.Nat.{shr_le}
use Rattle.std.specs.Int.{from_bool}
use Rattle.ibx_muldiv.specs.declared.work.Work.{Work}
use Rattle.ibx_muldiv.specs.declared.unit.MulDiv.{MulDiv}
use Rattle.ibx_muldiv.specs.Steps.{multiplied, divided, division_step, step_of, answer_of}
use Rattle.ibx_muldiv.specs.Unit.{seen, packed, tick_of, ticks, result_of}

-- a flag takes one bit, and is read back from it
pub flag_small : (b : Bool) → from_bool b ≤ 1
flag_small true = omega arith
flag_small false = omega arith

-- a flag that is kept as a bit is read back as it was
flag-eqb : (b : Bool) → eqb (from_bool b) 1 ≡ b
flag-eqb true = refl
flag-eqb false = refl

-- what is kept of the numbers
pub record IsSized (w : Work) : Type 0 where
  pub rest : w.rest < 2 ^ 32
  pub left : w.left < 64
  pub pace : w.pace < 64

module _ (r l p d h n : ℕ) (hr : r < 2 ^ 32) (hl : l < 64) (hp : p < 64) (hd : d ≤ 1) (hh : h ≤ 1) (hn : n ≤ 1) where
  -- the field of a word that is put together, and each part that is read of it
  word : ℕ
  word = r + l * 4294967296 + p * 274877906944 + d * 17592186044416 + h * 35184372088832 + n * 70368744177664

  -- bits 31:0 give back the multiplier's rest or the divisor
  rest_of : word % 4294967296 ≡ r
  unfolding word
  rest_of = omega arith

  -- bits 37:32 give back the cycles left
  left_part : word / 4294967296 % 64 ≡ l
  unfolding word
  left_part = omega arith

  -- bits 43:38 give back the bits that a cycle takes
  pace_part : word / 274877906944 % 64 ≡ p
  unfolding word
  pace_part = omega arith

  -- bit 44 gives back whether it is a division
  divides_part : word / 17592186044416 % 2 ≡ d
  unfolding word
  divides_part = omega arith

  -- bit 45 gives back whether the high word is wanted
  high_part : word / 35184372088832 % 2 ≡ h
  unfolding word
  high_part = omega arith

  -- bit 46 gives back whether the answer is negated
  negate_part : word / 70368744177664 % 2 ≡ n
  unfolding word
  negate_part = omega arith

-- fields that hold a calculation give it back
pub seen-packed : (w : Work) → IsSized w → seen (packed w) ≡ w
unfolding seen packed word
seen-packed w s =
    let d = flag_small w.divides in
    let h = flag_small w.high in
    let n = flag_small w.negate in
    λ t. record w {
      rest = rest_of w.rest w.left w.pace (from_bool w.divides) (from_bool w.high) (from_bool w.negate) s.rest s.left
          s.pace d h n t;
      left = left_part w.rest w.left w.pace (from_bool w.divides) (from_bool w.high) (from_bool w.negate) s.rest s.left
          s.pace d h n t;
      pace = pace_part w.rest w.left w.pace (from_bool w.divides) (from_bool w.high) (from_bool w.negate) s.rest s.left
          s.pace d h n t;
      divides = (ap (λ (x : ℕ). eqb x 1)
          (divides_part w.rest w.left w.pace (from_bool w.divides) (from_bool w.high) (from_bool w.negate) s.rest
          s.left
          s.pace d h n) ∙ flag-eqb w.divides) t;
      high = (ap (λ (x : ℕ). eqb x 1) (high_part w.rest w.left w.pace (from_bool w.divides) (from_bool w.high)
          (from_bool w.negate) s.rest s.left s.pace d h n) ∙ flag-eqb w.high) t;
      negate = (ap (λ (x : ℕ). eqb x 1)
          (negate_part w.rest w.left w.pace (from_bool w.divides) (from_bool w.high) (from_bool w.negate) s.rest s.left
          s.pace d h n) ∙ flag-eqb w.negate) t;
    }

-- what the fields hold has the widths, and keeps them in each cycle
pub sized_fields : (m : MulDiv) → IsSized (seen m)
unfolding seen
sized_fields m = record { rest = omega arith; left = omega arith; pace = omega arith }

-- a cycle keeps the widths, as none of the three numbers grows in it
pub sized_step : (w : Work) → IsSized w → IsSized (step_of w)
unfolding step_of division_step multiplied divided
sized_step w s =
    let below : w.rest / 2 ^ w.pace ≤ w.rest = shr_le w.rest w.pace in
    elim (w.divides)
    as (λ b. IsSized (record (cond b (division_step w) (multiplied w.pace w)) { left = w.left - 1 })) [
      | true ↦ elim (nat_lt 5 w.left)
          as (λ b. IsSized (record (cond b (divided w) w) { left = w.left - 1 })) [
            | true ↦
                let partial = w.sum % 2 ^ 63 * 2 + w.multiplicand / 2 ^ 31 % 2 in
                let low = w.multiplicand % 2 ^ 31 * 2 in
                elim (nat_le w.rest (w.sum % 2 ^ 63 * 2 + w.multiplicand / 2 ^ 31 % 2))
                as (λ b. IsSized (record (cond b
                (record w { sum = partial - w.rest; multiplicand = low + 1 })
                (record w { sum = partial; multiplicand = low })) { left = w.left - 1 })) [
                  | true ↦ record { rest = s.rest; left = omega (arith, s.left); pace = s.pace }
                  | false ↦ record { rest = s.rest; left = omega (arith, s.left); pace = s.pace }
                ]
            | false ↦ record { rest = s.rest; left = omega (arith, s.left); pace = s.pace }
          ]
      | false ↦ record { rest = omega (arith, s.rest, below); left = omega (arith, s.left); pace = s.pace }
    ]

-- a cycle of the fields is a step of the calculation that they hold
pub seen-tick : (m : MulDiv) → seen (tick_of m) ≡ step_of (seen m)
unfolding tick_of
seen-tick m = seen-packed (step_of (seen m)) (sized_step (seen m) (sized_fields m))

-- the calculation after n cycles
unfoldable pub steps : ℕ → Work → Work
steps zero w = w
steps (suc n) w = steps n (step_of w)

-- n cycles of the fields are n steps
pub seen-ticks : (n : ℕ) (m : MulDiv) → seen (ticks n m) ≡ steps n (seen m)
unfolding ticks steps
seen-ticks zero m = refl
seen-ticks (suc n) m = seen-ticks n (tick_of m) ∙ ap (steps n) (seen-tick m)

-- the word that a calculation holds as its answer
abbrev pub answer : Work → ℕ
answer w = answer_of w.divides w.high w.negate w.sum w.multiplicand

-- the result after n cycles is the answer after n steps
pub result_of-ticks : (n : ℕ) (m : MulDiv) → result_of (ticks n m) ≡ answer (steps n (seen m))
unfolding result_of
result_of-ticks n m = ap answer (seen-ticks n m)
