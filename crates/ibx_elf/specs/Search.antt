-- The first answer among several.
use Rattle.std.specs.Prelude.{ℕ, zero, suc, Bool, List, [], ◌∷◌, Option, Some, None, if◌then◌else◌}
use Rattle.std.specs.Option.{option_or}

-- the first answer among f 0, f 1, .. f (n - 1)
unfoldable pub first_below : {A : Type 0} → (ℕ → Option A) → ℕ → Option A
first_below f zero = None
first_below f (suc n) = option_or (first_below f n) (f n)

-- the first answer of a list
abbrev pub first_of : {A : Type 0} → List (Option A) → Option A
first_of [] = None
first_of (answer ∷ rest) = option_or answer (first_of rest)

-- the answer x where the test holds
abbrev pub only_if : {A : Type 0} → Bool → A → Option A
only_if test x = if test then Some x else None
