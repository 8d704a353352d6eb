-- The first token of a line, and the tokens after it.
use Rattle.std.proofs.Common.{◌≡◌, ℕ, ◌+◌, ◌<◌, ◌≤◌, suc, Bool, true, false, cond, not, nat_lt, ◌||◌, List, [], ◌∷◌}
use Rattle.std.proofs.Common.{length, take, drop, get_or, slice_index, unwrap_or, Some, None, refl, sym, ◌∙◌, ap, inl}
use Rattle.std.proofs.Common.{inr, arith}
use Rattle.std.specs.List.{position, position_or_len, before_first, onto_first}
use Rattle.std.proofs.lemmas.Bool.{cases_Bool, not-true}
use Rattle.std.proofs.Math.ListN.{drop_of_length-le}
use Rattle.std.proofs.lemmas.List.{take_all, get_or-drop}
use Rattle.std.proofs.lemmas.List.Sums.{prefix_len-le-length, passes_at_first}
use Rattle.ibx_asm.specs.Text.{is_blank, is_mark, is_plain, tokens}

-- where a search ends
pub found_at : (n m end : ℕ) → cond (nat_lt n m) (Some n) None ≡ Some end → n ≡ end
found_at n m end h = grind arith

-- and that it ends within the list
found_below : (n m end : ℕ) → cond (nat_lt n m) (Some n) None ≡ Some end → n < m
found_below n m end h = grind arith

-- a search that ends past the list
pub not_found : (n m : ℕ) → cond (nat_lt n m) (Some n) None ≡ None → m ≤ n
not_found n m h = grind arith

-- where a test finds a place, what stands before it; else the whole list
pub before_found : (p : ℕ → Bool) (xs : List ℕ) (end : ℕ) → position p xs ≡ Some end → take end xs ≡ before_first p xs
before_found p xs end h = ap (λ (n : ℕ). take n xs) (sym (found_at (position_or_len p xs) (length xs) end h))

-- where it finds none
pub before_none : (p : ℕ → Bool) (xs : List ℕ) → position p xs ≡ None → xs ≡ before_first p xs
before_none p xs h = sym (take_all (position_or_len p xs) xs (not_found (position_or_len p xs) (length xs) h))

-- a line has the tokens of what follows its blanks
pub after_blanks : (text : List ℕ) → tokens text ≡ tokens (drop (position_or_len (λ byte. not (is_blank byte)) text)
    text)
unfolding tokens
after_blanks [] = refl
after_blanks (x ∷ xs) = elim (cases_Bool (is_blank x)) [
  | inl f ↦
      let n : ℕ = position_or_len (λ byte. not (is_blank byte)) xs in
      let more : 1 + n ≡ suc n = omega arith in
      rw (f, more) (after_blanks xs)
  | inr f ↦ rw (f, f) refl
]

-- a plain byte is neither a blank nor a mark
plain_parts : (b m : Bool) → not (b || m) ≡ true → (b ≡ false) × (m ≡ false)
plain_parts true m h = cc
plain_parts false true h = cc
plain_parts false false h = (refl, refl)

-- a run of plain bytes is one token
pub run : (x : ℕ) (xs : List ℕ) → is_plain x ≡ true
    → tokens (x ∷ xs) ≡ (x ∷ take (position_or_len (λ byte. not (is_plain byte)) xs) xs) ∷ tokens
    (drop (position_or_len (λ byte. not (is_plain byte)) xs) xs)
unfolding tokens
run x [] h = let p = plain_parts (is_blank x) (is_mark x) h in rw (p.0, p.1) refl
run x (y ∷ ys) h =
    let p = plain_parts (is_blank x) (is_mark x) h in
    elim (cases_Bool (is_plain y)) [
      | inl f ↦
          let n : ℕ = position_or_len (λ byte. not (is_plain byte)) ys in
          let more : 1 + n ≡ suc n = omega arith in
          let again = run y ys f in
          rw (p.0, p.1, f, more) (ap (onto_first x) again)
      | inr f ↦ rw (p.0, p.1, f) refl
    ]

-- a mark is one token
pub mark : (x : ℕ) (xs : List ℕ) → is_blank x ≡ false → is_mark x ≡ true → tokens (x ∷ xs) ≡ (x ∷ []) ∷ tokens xs
unfolding tokens
mark x xs f h = rw (f, h) refl

-- where a search ends
ended : (n m : ℕ) → n ≤ m → unwrap_or (cond (nat_lt n m) (Some n) None) m ≡ n
ended n m h = grind (arith, h)

-- the end of a run, or of the text
run_end : (p : ℕ → Bool) (xs : List ℕ) → unwrap_or (position p xs) (length xs) ≡ position_or_len p xs
run_end p xs =
    let within : position_or_len p xs ≤ length xs = prefix_len-le-length (λ x. not (p x)) xs in
    ended (position_or_len p xs) (length xs) within

-- a mark that begins a line is its first token
pub mark_first : (text : List ℕ) → 0 < length text → is_blank (slice_index text 0) ≡ false → is_mark
    (slice_index text 0) ≡ true
    → tokens text ≡ take 1 text ∷ tokens (drop 1 text)
mark_first [] some f h = absurd (omega arith)
mark_first (x ∷ xs) some f h = mark x xs f h

-- a run of plain bytes that begins a line is its first token
pub run_first : (text : List ℕ) (n : ℕ) → 0 < length text → is_blank (slice_index text 0) ≡ false → is_mark
    (slice_index text 0) ≡ false
    → n ≡ unwrap_or (position (λ byte. not (is_plain byte)) text) (length text) → tokens text ≡ take n text ∷ tokens
    (drop n text)
run_first [] n some f g e = absurd (omega arith)
run_first (x ∷ xs) n some f g e =
    let plain : is_plain x ≡ true = rw (f, g) refl in
    let k : ℕ = position_or_len (λ byte. not (is_plain byte)) xs in
    let here : position_or_len (λ byte. not (is_plain byte)) (x ∷ xs) ≡ suc k = rw plain (omega arith) in
    rw (e ∙ run_end (λ byte. not (is_plain byte)) (x ∷ xs) ∙ here) (run x xs plain)

-- a line of blanks has no token
pub only_blanks : (text : List ℕ) → position (λ byte. not (is_blank byte)) text ≡ None → tokens text ≡ []
unfolding tokens
only_blanks text h =
    let past : length text ≤ position_or_len (λ byte. not (is_blank byte)) text = not_found
    (position_or_len (λ byte. not (is_blank byte)) text) (length text) h in
    after_blanks text ∙ ap tokens (drop_of_length-le text past)

-- the first byte that isn't a blank
pub first_begins : (text : List ℕ) (start : ℕ) → position (λ byte. not (is_blank byte)) text ≡ Some start → is_blank
    (slice_index (drop start text) 0) ≡ false
first_begins text start h =
    let n : ℕ = position_or_len (λ byte. not (is_blank byte)) text in
    let at : n ≡ start = found_at n (length text) start h in
    let here : not (is_blank (get_or text n 0)) ≡ true = passes_at_first (λ byte. not (is_blank byte)) text 0
    (found_below n (length text) start h) in
    let same : get_or (drop start text) 0 0 ≡ get_or text n 0 = get_or-drop start text 0 0 ∙ ap
    (λ (i : ℕ). get_or text i 0) (omega (arith, at)) in
    not-true (is_blank (get_or (drop start text) 0 0)) (ap (λ (byte : ℕ). not (is_blank byte)) same ∙ here)

-- a line has the tokens of what follows its blanks
pub from_first : (text : List ℕ) (start : ℕ) → position (λ byte. not (is_blank byte)) text ≡ Some start → tokens text ≡
    tokens (drop start text)
from_first text start h = rw (← found_at (position_or_len (λ byte. not (is_blank byte)) text) (length text) start h)
    (after_blanks text)
