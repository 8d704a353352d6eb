-- A line as tokens: our own rules, after the usual RISC-V assembly. A text's lines are std's `lines`.
use Rattle.std.specs.Prelude.{ℕ, Bool, not, ◌==◌, ◌||◌, List, [], ◌∷◌, if◌then◌else◌}
use Rattle.std.specs.List.{before_first, onto_first}

-- a space or a tab
abbrev pub is_blank : ℕ → Bool
is_blank byte = (byte == 32) || (byte == 9)

-- a comma, a parenthesis or a colon
abbrev pub is_mark : ℕ → Bool
is_mark byte = (byte == 44) || (byte == 40) || (byte == 41) || (byte == 58)

-- a byte of a word
abbrev pub is_plain : ℕ → Bool
is_plain byte = not (is_blank byte || is_mark byte)

-- a line without its comment, which begins at the first `#`
abbrev pub without_comment : List ℕ → List ℕ
without_comment line = before_first (λ byte. byte == 35) line

-- a plain byte before a rest that has these tokens: it begins the rest's first token where that is a word which follows
-- at once
abbrev pub joined : ℕ → List ℕ → List (List ℕ) → List (List ℕ)
joined byte [] more = (byte ∷ []) ∷ more
joined byte (next ∷ rest) more = if is_plain next then onto_first byte more else (byte ∷ []) ∷ more

-- the tokens of a line: each mark is one, and each run of plain bytes is one
unfoldable pub tokens : List ℕ → List (List ℕ)
tokens [] = []
tokens (byte ∷ rest) = if is_blank byte
    then tokens rest
    else (if is_mark byte then (byte ∷ []) ∷ tokens rest else joined byte rest (tokens rest))
