-- A sum over fields, one field at a time.
use Rattle.std.proofs.Common.{◌≡◌, ℕ, ◌+◌, ◌<◌, ◌%◌, ◌^◌, List, length, take, refl, sym, ap, ◌∙◌, arith}
use Rattle.std.specs.Prelude.{slice_index}
use Rattle.std.specs.List.{sum}
use Rattle.std.proofs.lemmas.List.Sums.{sum_by_more}
use Rattle.ibx_core.specs.declared.state.State.{State}
use Rattle.ibx_core.specs.Fields.{fields}
use Rattle.ibx_top.specs.Seals.{seal_of}

-- the sum of the first fields, modulo 2^64
abbrev pub sum_to : State → ℕ → ℕ
sum_to s n = sum (take n (fields s)) % 2 ^ 64

-- before the first field the sum is 0
pub no_fields : (s : State) → 0 ≡ sum_to s 0
no_fields s = refl

-- one field more
pub field_more : (s : State) (n : ℕ) → n < 89 → (sum_to s n + slice_index (fields s) n) % 2 ^ 64 ≡ sum_to s (n + 1)
unfolding fields
field_more s n within =
    let more : sum (take (n + 1) (fields s)) ≡ sum (take n (fields s)) + slice_index (fields s) n = sum_by_more
    (λ x. x) (fields s) n 0 within in
    let split : (sum (take n (fields s)) % 2 ^ 64 + slice_index (fields s) n) % 2 ^ 64 ≡
    (sum (take n (fields s)) + slice_index (fields s) n) % 2 ^ 64 = omega arith in
    split ∙ ap (λ (x : ℕ). x % 2 ^ 64) (sym more)

-- all fields
pub all_fields : (s : State) → sum_to s 89 ≡ seal_of s
unfolding fields seal_of
all_fields s = refl
