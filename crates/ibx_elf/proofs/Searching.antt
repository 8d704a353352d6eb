-- A search goes on where there is no answer yet, and ends at the first.
use Rattle.std.proofs.Common.{◌≡◌, ℕ, zero, suc, ◌+◌, ◌<◌, ◌≤◌, Option, Some, None, refl, arith, add-one, add-zero}
use Rattle.std.proofs.Common.{add-suc, ◌-◌, eq-or-lt_of_le, inl, inr}
use Rattle.std.specs.Option.{option_or}
use Rattle.ibx_elf.specs.Search.{first_below}

-- below 0 there is none
pub first_below-zero : {A : Type 0} (f : ℕ → Option A) → first_below f 0 ≡ None
unfolding first_below
first_below-zero f = refl

-- no answer below n and none at n is none below n + 1
pub first_below-next : {A : Type 0} (f : ℕ → Option A) (n : ℕ) → first_below f n ≡ None → f n ≡ None
    → first_below f (n + 1) ≡ None
unfolding first_below
first_below-next f n before here = rw (add-one n, before) here

-- an answer once found stays the first
pub first_below-past : {A : Type 0} (f : ℕ → Option A) (n d : ℕ) (x : A) → first_below f n ≡ Some x
    → first_below f (n + d) ≡ Some x
unfolding first_below
first_below-past f n zero x found = rw (add-zero n) found
first_below-past f n (suc d) x found = rw (add-suc n d, first_below-past f n d x found) refl

-- the first answer at i is the first below any greater n
pub first_below-found : {A : Type 0} (f : ℕ → Option A) (i n : ℕ) (x : A) → i < n → first_below f i ≡ None
    → f i ≡ Some x → first_below f n ≡ Some x
unfolding first_below
first_below-found f i n x less before here =
    let found : first_below f (suc i) ≡ Some x = rw before here in
    let split : n ≡ suc i + (n - suc i) = omega arith in
    rw split (first_below-past f (suc i) (n - suc i) x found)

-- no answers, no first
pub first_below-none : {A : Type 0} (f : ℕ → Option A) (n : ℕ) → ((k : ℕ) → k < n → f k ≡ None)
    → first_below f n ≡ None
unfolding first_below
first_below-none f zero none = refl
first_below-none f (suc n) none =
    rw (first_below-none f n (λ k less. none k (omega arith))) (none n (omega arith))

-- where neither answers, neither does
pub option_or-none : {A : Type 0} (a b : Option A) → option_or a b ≡ None → (a ≡ None) × (b ≡ None)
option_or-none None b none = (refl, none)
option_or-none (Some x) b none = absurd (cc)

-- no first, no answers
pub first_below-empty : {A : Type 0} (f : ℕ → Option A) (n k : ℕ) → first_below f n ≡ None → k < n → f k ≡ None
unfolding first_below
first_below-empty f zero k none less = absurd (omega arith)
first_below-empty f (suc n) k none less =
    let both = option_or-none (first_below f n) (f n) none in
    let within : k ≤ n = omega arith in
    elim (eq-or-lt_of_le within) as (λ _. f k ≡ None) [
      | inl same ↦ rw same both.1
      | inr below ↦ first_below-empty f n k both.0 below
    ]

-- the two steps of a search, for automatic proofs
pub ruleset steps = (first_below-zero, first_below-next)
