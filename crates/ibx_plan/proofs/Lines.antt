-- The first line of a text, and the lines after it.
use Rattle.std.proofs.Common.{◌≡◌, ℕ, ◌+◌, ◌<◌, ◌≤◌, Bool, true, false, cond, not, nat_eq, nat_lt, List, [], ◌∷◌}
use Rattle.std.proofs.Common.{length, take, drop, Some, None, refl, subst, arith}
use Rattle.std.specs.List.{slice_split, onto_first, position, position_or_len, before_first, after_first}
use Rattle.std.specs.Str.Lines.{lines, lines_of_parts, strip_carriage_return}
use Rattle.std.proofs.lemmas.List.Splits.{slice_split_first, length-slice_split}

-- the line feed
abbrev pub is_feed : ℕ → Bool
is_feed byte = nat_eq byte 10

-- a first part is the first line, where there are parts behind it
parts_cons : (x : List ℕ) (parts : List (List ℕ)) → 0 < length parts
    → lines_of_parts (x ∷ parts) ≡ strip_carriage_return x ∷ lines_of_parts parts
parts_cons x [] h = absurd (omega arith)
parts_cons x (y ∷ more) h = refl

-- one more byte in front of a text without a line feed
whole_step : (b : Bool) (x : ℕ) (xs : List ℕ)
    → (length xs ≤ position_or_len is_feed xs → slice_split is_feed xs ≡ xs ∷ [])
    → length (x ∷ xs) ≤ cond (not b) (1 + position_or_len is_feed xs) 0
    → cond b ([] ∷ slice_split is_feed xs) (onto_first x (slice_split is_feed xs)) ≡ (x ∷ xs) ∷ []
whole_step true x xs again h = absurd (omega arith)
whole_step false x xs again h = rw (again (omega arith))

-- a text without a line feed is one part
whole : (text : List ℕ) → length text ≤ position_or_len is_feed text → slice_split is_feed text ≡ text ∷ []
whole [] h = refl
whole (x ∷ xs) h = whole_step (is_feed x) x xs (whole xs) h

-- a text with a line feed is its first line, and the lines of what comes after the feed
first_at : (text : List ℕ) → position_or_len is_feed text < length text
    → lines text ≡ strip_carriage_return (before_first is_feed text) ∷ lines (after_first is_feed text)
first_at text below = rw (slice_split_first is_feed text 0 below)
    (parts_cons (before_first is_feed text) (slice_split is_feed (after_first is_feed text))
    (omega (arith, length-slice_split is_feed (after_first is_feed text))))

-- where a search ends: at the index that it found, below the length, or nowhere below it
found_at : (n m end : ℕ) → cond (nat_lt n m) (Some n) None ≡ Some end → n ≡ end
found_at n m end h = grind arith

-- the index that a search found is below the length
found_below : (n m end : ℕ) → cond (nat_lt n m) (Some n) None ≡ Some end → n < m
found_below n m end h = grind arith

-- a search that found nothing went on up to the length
not_found : (n m : ℕ) → cond (nat_lt n m) (Some n) None ≡ None → m ≤ n
not_found n m h = grind arith

-- the first line by the position of its feed, without a carriage return before the feed
pub first_of : (text : List ℕ) (end : ℕ) → position is_feed text ≡ Some end
    → lines text ≡ strip_carriage_return (take end text) ∷ lines (drop (end + 1) text)
first_of text end h = subst (λ (e : ℕ). lines text ≡ strip_carriage_return (take e text) ∷ lines (drop (e + 1) text))
    (found_at _ _ end h) (first_at text (found_below _ _ end h))

-- a last line without a feed is as it stands
one_part : (text : List ℕ) → 0 < length text → lines_of_parts (text ∷ []) ≡ text ∷ []
one_part text h = grind arith

-- a text that isn't empty and has no line feed is one line, as it stands
pub only_line : (text : List ℕ) → 0 < length text → position is_feed text ≡ None → lines text ≡ text ∷ lines []
only_line text some h = rw (whole text (not_found _ _ h)) (one_part text some)
