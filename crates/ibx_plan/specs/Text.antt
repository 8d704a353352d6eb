-- A line as words: our own rules. A text's lines are std's `lines`, and a word's number is `number_of` of ibx_text.
use Rattle.std.specs.Prelude.{ℕ, Bool, ◌==◌, ◌||◌, nat_lt, List, [], length, take, filter, unwrap_or, slice_get}
use Rattle.std.specs.List.{slice_split}

-- a space or a tab
abbrev pub is_blank : ℕ → Bool
is_blank byte = (byte == 32) || (byte == 9)

-- the words of a line: its parts between spaces and tabs, without the empty ones
unfoldable pub words : List ℕ → List (List ℕ)
words line = filter (λ part. nat_lt 0 (length part)) (slice_split is_blank line)

-- the first eight words of a line, one more than the longest row has
abbrev pub first_words : List ℕ → List (List ℕ)
first_words line = take 8 (words line)

-- the word at an index, empty where there is none
abbrev pub word : List (List ℕ) → ℕ → List ℕ
word ws index = unwrap_or (slice_get ws index) []
