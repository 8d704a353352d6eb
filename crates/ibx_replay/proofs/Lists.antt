-- The places and the words as lists: a set of an entry is one line more, or one word more.
use Rattle.std.proofs.Common.{◌≡◌, ℕ, ◌<◌, ◌==◌, Bool, true, false, List, length, get_or, set, Option, Some, None}
use Rattle.std.proofs.Common.{sym, ◌∙◌, ap, arith, inl, inr, get_or-set_same, get_or-set_other, if◌then◌else◌}
use Rattle.std.proofs.lemmas.Bool.{eq-eqb, ne_eqb, cases_eq}
use Rattle.ibx_time.specs.Requests.{slot_of}
use Rattle.ibx_replay.specs.Fetches.{Word, Line, no_word, lines_with, words_with}

-- the place of a line is one of 512
pub slot_low : (line : ℕ) (way : Bool) → slot_of line way < 512
slot_low line false = omega arith
slot_low line true = omega arith

-- what the places hold, and the words
abbrev pub lines_in_list : List (Option Line) → ℕ → Option Line
lines_in_list xs n = get_or xs n None

-- the words of a list by their places, and no word past its end
abbrev pub words_in_list : List Word → ℕ → Word
words_in_list xs i = get_or xs i no_word

-- after a set of one entry, at each index
set_at_each : {A : Type 0} → (xs : List A) (i n : ℕ) (v d : A) → i < length xs
    → get_or (set xs i v) n d ≡ (if i == n then v else get_or xs n d)
set_at_each xs i n v d low = elim (cases_eq i n) [
  | inl e ↦ rw (eq-eqb i n e) (ap (λ m. get_or (set xs i v) m d) (sym e) ∙ get_or-set_same xs i v d low)
  | inr ne ↦ rw (ne_eqb i n ne) (get_or-set_other xs i n v d (λ f. ne (sym f)))
]

-- so a line goes to its place,
pub set_line : (xs : List (Option Line)) (x : Line) (n : ℕ) → length xs ≡ 512
    → lines_in_list (set xs (slot_of x.line x.way) (Some x)) n ≡ lines_with (Some x) (lines_in_list xs) n
set_line xs x n e =
    set_at_each xs (slot_of x.line x.way) n (Some x) None (omega (arith, e, slot_low x.line x.way))

-- and a word behind those that are held
pub set_word : (xs : List Word) (count : ℕ) (w : Word) (i : ℕ) → count < length xs
    → words_in_list (set xs count w) i ≡ words_with (words_in_list xs) count w i
set_word xs count w i low =
    set_at_each xs count i w no_word low ∙ ap (λ b. if b then w else get_or xs i no_word) (same count i)
  where
    same : (a b : ℕ) → (a == b) ≡ (b == a)
    same a b = elim (cases_eq a b) [
      | inl e ↦ eq-eqb a b e ∙ sym (eq-eqb b a (sym e))
      | inr ne ↦ ne_eqb a b ne ∙ sym (ne_eqb b a (λ f. ne (sym f)))
    ]
