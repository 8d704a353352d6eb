-- The search through a list, one step at a time.
use Rattle.std.proofs.Common.{◌≡◌, ℕ, ◌+◌, ◌<◌, ◌≤◌, Bool, cond, List, length, get_or, drop, refl, add-one, drop-cons}
use Rattle.std.specs.Prelude.{Some, None, find}
use Rattle.std.proofs.lemmas.List.{drop_all}

-- from the i-th element on
pub find-drop : (test : ℕ → Bool) (xs : List ℕ) (i : ℕ) → i < length xs
    → find test (drop i xs) ≡ cond (test (get_or xs i 0)) (Some (get_or xs i 0)) (find test (drop (i + 1) xs))
find-drop test xs i lt = rw (drop-cons xs i 0 lt, add-one i) refl

-- past the end nothing is found
pub find-end : (test : ℕ → Bool) (xs : List ℕ) (i : ℕ) → length xs ≤ i → find test (drop i xs) ≡ None
find-end test xs i le = rw (drop_all i xs le) refl
