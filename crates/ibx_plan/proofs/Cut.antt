-- A line says what its first eight words say, since no row has more than seven.
use Rattle.std.proofs.Common.{◌≡◌, ℕ, ◌<◌, Bool, true, false, cond, ◌==◌, nat_eq, nat_lt, min, suc, zero}
use Rattle.std.proofs.Common.{if◌then◌else◌, List, [], ◌∷◌, length, take, Option, Some, None, IfSome, unwrap_or, refl}
use Rattle.std.proofs.Common.{sym, subst, ap, arith}
use Rattle.std.specs.List.{slice_get, list_all, find}
use Rattle.std.specs.Option.{option_map, option_and_then}
use Rattle.std.specs.Str.{bytes_eq}
use Rattle.std.proofs.lemmas.List.{length-take}
use Rattle.ibx_plan.specs.declared.bounds.Bounds.{Bounds}
use Rattle.ibx_plan.specs.declared.row.Kind.{Kind}
use Rattle.ibx_plan.specs.declared.row.Kind.TheVariants as kind
use Rattle.ibx_plan.specs.declared.row.Row.{Row}
use Rattle.ibx_plan.specs.declared.row.Row.TheVariants as row
use Rattle.ibx_plan.specs.declared.row.Target.{Target}
use Rattle.ibx_plan.specs.declared.row.Target.TheVariants as target
use Rattle.ibx_plan.specs.Line.{is_skipped, flip_rows, flip_row, named, target_of, row_of, site_places, number_places}
use Rattle.ibx_plan.specs.Line.{are_numbers, number_at, site_of, entry_of, row_entry, line_entry}
use Rattle.ibx_plan.specs.Text.{word}
use Rattle.ibx_plan.proofs.Flips.{both}

-- an element below n is there in the first n
got : {X : Type 0} (n i : ℕ) (xs : List X) → i < n → slice_get (take n xs) i ≡ slice_get xs i
got zero i xs h = absurd (omega arith)
got (suc n) i [] h = refl
got (suc n) zero (x ∷ xs) h = refl
got (suc n) (suc i) (x ∷ xs) h = got n i xs (omega arith)

-- the words at these places are the same
word_cut : (ws : List (List ℕ)) (i : ℕ) → i < 8 → word (take 8 ws) i ≡ word ws i
word_cut ws i h = ap (λ (o : Option (List ℕ)). unwrap_or o []) (got 8 i ws h)

-- whether there are m words, fewer than eight, is told by the first eight
same_count : (n m : ℕ) → m < 8 → nat_eq (min 8 n) m ≡ nat_eq n m
same_count n m h = grind arith

-- so a test for a number of words below eight may be made on the first eight
count_cut : (ws : List (List ℕ)) (m : ℕ) → m < 8 → (length (take 8 ws) == m) ≡ (length ws == m)
count_cut ws m h = rw (length-take 8 ws) (same_count (length ws) m h)

-- what is asked of the first words alone: whether the line is skipped, and what a flip's line names
pub skipped_cut : (ws : List (List ℕ)) → is_skipped (take 8 ws) ≡ is_skipped ws
skipped_cut ws = rw (count_cut ws 0 (omega arith), word_cut ws 0 (omega arith))

-- a name in a flip's line stands at index 3 or 4, and so among the first eight words
named_cut : (k : Kind) (ws : List (List ℕ)) → named k (take 8 ws) ≡ named k ws
unfolding named
named_cut kind.Main ws = rw (word_cut ws 3 (omega arith))
named_cut kind.Shadow ws = rw (word_cut ws 3 (omega arith))
named_cut kind.Delay ws = rw (word_cut ws 4 (omega arith))
named_cut kind.Reg ws = refl
named_cut kind.Tag ws = refl
named_cut kind.Line ws = refl
named_cut kind.Output ws = rw (word_cut ws 3 (omega arith))
named_cut kind.Answer ws = refl
named_cut kind.Mem ws = refl

-- what is found has what every row has
found_at : {X : Type 0} (x : X) (o : Option X) (P : X → Type 0) (b : Bool) → P x → IfSome o P
    → IfSome (cond b (Some x) o) P
found_at x o P true h k = h
found_at x o P false h k = k

-- what is found among rows of which all pass a test passes it
found : {X : Type 0} (p test : X → Bool) (rows : List X) → list_all test rows ≡ true
    → IfSome (find p rows) (λ x. test x ≡ true)
found p test [] h = tt
found p test (x ∷ rows) h = found_at x (find p rows) (λ x. test x ≡ true) (p x)
    (both (test x) (list_all test rows) h).0 (found p test rows (both (test x) (list_all test rows) h).1)

-- a flip's line has fewer than eight words: by its row, and by its name
short_of : (o : Option (List ℕ × Kind × ℕ)) → IfSome o (λ r. nat_lt r.2 8 ≡ true)
    → IfSome (option_map {U = Kind × ℕ} (λ r. (r.1, r.2)) o) (λ r. nat_lt r.1 8 ≡ true)
short_of None h = tt
short_of (Some r) h = h

-- each kind of flip has a line of fewer than eight words
short : (name : List ℕ) → IfSome (flip_row name) (λ r. nat_lt r.1 8 ≡ true)
unfolding flip_rows
short name = short_of (find (λ r. bytes_eq name r.0) flip_rows)
    (found (λ r. bytes_eq name r.0) (λ r. nat_lt r.2 8) flip_rows refl)

-- so the site that it names, and its row, are told by the first eight words
kind_cut : (r : Option (Kind × ℕ)) (ws : List (List ℕ)) → IfSome r (λ r. nat_lt r.1 8 ≡ true)
    → option_and_then (λ r. if length (take 8 ws) == r.1 then named r.0 (take 8 ws) else None) r
    ≡ option_and_then (λ r. if length ws == r.1 then named r.0 ws else None) r
kind_cut None ws h = refl
kind_cut (Some r) ws h = rw (count_cut ws r.1 (grind (arith, h)), named_cut r.0 ws)

-- the first eight words tell which site a flip names, since its kind is the third of them
target_cut : (ws : List (List ℕ)) → target_of (take 8 ws) ≡ target_of ws
unfolding target_of
target_cut ws = subst (λ (name : List ℕ). option_and_then
    (λ r. if length (take 8 ws) == r.1 then named r.0 (take 8 ws) else None) (flip_row name) ≡ target_of ws)
    (sym (word_cut ws 2 (omega arith))) (kind_cut (flip_row (word ws 2)) ws (short (word ws 2)))

-- a line fits the same row, or none, without the words behind its eighth
row_cut : (ws : List (List ℕ)) → row_of (take 8 ws) ≡ row_of ws
unfolding row_of
row_cut ws = rw (word_cut ws 0 (omega arith), target_cut ws, count_cut ws 3 (omega arith))

-- the numbers at these places are the same
number_cut : (ws : List (List ℕ)) (i : ℕ) → i < 8 → number_at (take 8 ws) i ≡ number_at ws i
number_cut ws i h = rw (word_cut ws i h)

-- the same of a list of places below 8, and all places of numbers are
numbers_cut : (ws : List (List ℕ)) (is : List ℕ) → list_all (λ i. nat_lt i 8) is ≡ true
    → are_numbers (take 8 ws) is ≡ are_numbers ws is
numbers_cut ws [] h = refl
numbers_cut ws (i ∷ is) h = rw (
  word_cut ws i (grind (arith, (both (nat_lt i 8) (list_all (λ i. nat_lt i 8) is) h).0)),
  numbers_cut ws is (both (nat_lt i 8) (list_all (λ i. nat_lt i 8) is) h).1,
)

-- a flip's site has all its numbers at indices below 8
site_low : (place : Target) → list_all (λ i. nat_lt i 8) (site_places place) ≡ true
unfolding site_places
site_low (target.Main field) = refl
site_low (target.Shadow field) = refl
site_low (target.Delay wire) = refl
site_low target.Reg = refl
site_low target.Tag = refl
site_low target.Line = refl
site_low (target.Output wire) = refl
site_low target.Answer = refl
site_low target.Mem = refl

-- each row has all its numbers at indices below 8
low : (r : Row) → list_all (λ i. nat_lt i 8) (number_places r) ≡ true
unfolding number_places
low row.Iwait = refl
low row.Dwait = refl
low row.Irq = refl
low (row.Flip place) = site_low place

-- so the site, the entry of a row, and the entry of the line are told by the first eight words
site_cut : (place : Target) (ws : List (List ℕ)) → site_of place (number_at (take 8 ws)) ≡ site_of place (number_at ws)
unfolding site_of
site_cut (target.Main field) ws = rw (number_cut ws 4 (omega arith))
site_cut (target.Shadow field) ws = rw (number_cut ws 4 (omega arith))
site_cut (target.Delay wire) ws = rw (number_cut ws 3 (omega arith), number_cut ws 5 (omega arith))
site_cut target.Reg ws = rw (number_cut ws 3 (omega arith), number_cut ws 4 (omega arith))
site_cut target.Tag ws =
    rw (number_cut ws 3 (omega arith), number_cut ws 4 (omega arith), number_cut ws 5 (omega arith))
site_cut target.Line ws = rw (
  number_cut ws 3 (omega arith),
  number_cut ws 4 (omega arith),
  number_cut ws 5 (omega arith),
  number_cut ws 6 (omega arith),
)
site_cut (target.Output wire) ws = rw (number_cut ws 4 (omega arith))
site_cut target.Answer ws = rw (number_cut ws 3 (omega arith), number_cut ws 4 (omega arith))
site_cut target.Mem ws = rw (number_cut ws 3 (omega arith), number_cut ws 4 (omega arith))

-- the entry of a row takes no number from behind the eighth word
entry_of_cut : (r : Row) (ws : List (List ℕ)) → entry_of r (number_at (take 8 ws)) ≡ entry_of r (number_at ws)
unfolding entry_of
entry_of_cut row.Iwait ws = rw (number_cut ws 1 (omega arith), number_cut ws 2 (omega arith))
entry_of_cut row.Dwait ws = rw (number_cut ws 1 (omega arith), number_cut ws 2 (omega arith))
entry_of_cut row.Irq ws = rw (number_cut ws 1 (omega arith), number_cut ws 2 (omega arith))
entry_of_cut (row.Flip place) ws = rw (number_cut ws 1 (omega arith), site_cut place ws)

-- a row has the same entry, or the same fault, without the words behind the eighth
row_entry_cut : (bounds : Bounds) (ws : List (List ℕ)) (r : Option Row)
    → row_entry bounds (take 8 ws) r ≡ row_entry bounds ws r
unfolding row_entry
row_entry_cut bounds ws None = refl
row_entry_cut bounds ws (Some r) = rw (numbers_cut ws (number_places r) (low r), entry_of_cut r ws)

-- so eight words of a line are enough to read for its entry or its first fault
pub entry_cut : (bounds : Bounds) (ws : List (List ℕ)) → line_entry bounds (take 8 ws) ≡ line_entry bounds ws
entry_cut bounds ws = rw (row_cut ws) (row_entry_cut bounds ws (row_of ws))
