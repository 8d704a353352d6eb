-- What a sink means, where it tells it: the bytes that it took so far.
use Rattle.std.specs.Prelude.{◌≡◌, ℕ, ◌≤◌, List, ◌++◌, length, take, Option}
use Rattle.std.specs.Option.{option_map}

-- the bytes taken, with these after them
abbrev pub with_more : Option (List ℕ) → List ℕ → Option (List ℕ)
with_more taken piece = option_map (λ (bytes : List ℕ). bytes ++ piece) taken

-- a prefix of the piece was taken
abbrev pub TookPrefix : Option (List ℕ) → List ℕ → Option (List ℕ) → Type 0
TookPrefix before piece after = (n : ℕ) × ((n ≤ length piece) × (after ≡ with_more before (take n piece)))
