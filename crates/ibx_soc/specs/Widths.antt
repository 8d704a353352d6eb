-- The widths of the wires of a delayed pair in bits, by number: 16 of the input and 20 of the output. Our own rule.
use Rattle.std.specs.Prelude.{ℕ, List, [], ◌∷◌, slice_index}

-- the widths, in the order of the wires
abbrev pub wire_widths : List ℕ
wire_widths =
    1 ∷ 1 ∷ 39 ∷ 1 ∷ 1 ∷ 39 ∷ 1 ∷ 1 ∷ 39 ∷ 39 ∷ 28 ∷ 28 ∷ 39 ∷ 39 ∷ 32 ∷ 2 ∷
    1 ∷ 32 ∷ 1 ∷ 1 ∷ 4 ∷ 32 ∷ 39 ∷ 5 ∷ 5 ∷ 1 ∷ 5 ∷ 39 ∷ 32 ∷ 2 ∷ 8 ∷ 28 ∷ 2 ∷ 39 ∷ 39 ∷ 3 ∷
    3 ∷ 1 ∷ []

-- the width of a wire, 0 past the last two, which are the age of the delayed pairs and what the cycle before found
abbrev pub wire_width : ℕ → ℕ
wire_width wire = slice_index wire_widths wire
