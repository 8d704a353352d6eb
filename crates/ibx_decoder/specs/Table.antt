-- Tables of instructions: rows that a word fits or not.
use Rattle.std.specs.Prelude.{◌≡◌, ℕ, Bool, true, not, ◌&&◌, ◌==◌, bit_and, List, [], ◌∷◌, filter, Option, Some, None}
use Rattle.std.specs.Prelude.{if◌then◌else◌}

-- A row's mask and match; the exceptions, as masks and matches; and what the row gives for a word.
pub record Row (A : Type 0) : Type 0 where
  pub mask : ℕ
  pub matches : ℕ
  pub unless : List (ℕ × ℕ)
  pub gives : ℕ → A

-- no exception's bits under its mask are its match
abbrev pub none_holds : ℕ → List (ℕ × ℕ) → Bool
none_holds w [] = true
none_holds w (e ∷ es) = not (bit_and w e.0 == e.1) && none_holds w es

-- a word fits a row where its bits under the mask are the match, and no exception holds
abbrev pub fits : {A : Type 0} → ℕ → Row A → Bool
fits w r = bit_and w r.mask == r.matches && none_holds w r.unless

-- what the first row that fits gives
abbrev pub first_fit : {A : Type 0} → ℕ → List (Row A) → Option A
first_fit w [] = None
first_fit w (r ∷ rs) = if fits w r then Some (r.gives w) else first_fit w rs

-- no row fits, or exactly one does and gives the value
abbrev pub IsRow : {A : Type 0} → ℕ → List (Row A) → Option A → Type 0
IsRow w rs None = filter (fits w) rs ≡ []
IsRow {A} w rs (Some value) = (r : Row A) × ((filter (fits w) rs ≡ r ∷ []) × (value ≡ r.gives w))
