-- What is found in a list, and in the list of what its elements stand for.
use Rattle.std.proofs.Common.{◌≡◌, ℕ, ◌≤◌, Bool, true, nat_le, List, [], ◌∷◌, ◌++◌, length, take, get_or, ◌+◌, ◌<◌, if◌then◌else◌, map, Option, Some, None, IfSome, refl}
use Rattle.std.proofs.Common.{ap, add-one, not, length-append, length-take}
use Rattle.std.proofs.Common.{◌∙◌, inl, inr, arith}
use Rattle.std.specs.List.{find, list_all, position, position_or_len, slice_get}
use Rattle.std.specs.Option.{option_map, option_or, option_and_then}
use Rattle.std.proofs.lemmas.List.Folds.{find_at, position_or_len_push}
use Rattle.std.proofs.lemmas.Option.{slice_get_past}
use Rattle.std.proofs.lemmas.List.Sums.{prefix_len-le-length}
use Rattle.std.proofs.Math.Seq.{take-suc}
use Rattle.std.specs.Str.{bytes_eq}
use Rattle.std.proofs.lemmas.Bool.{cases_Bool, and_parts}
use Rattle.ibx_asm.specs.declared.rows.Encoding.{Encoding}
use Rattle.ibx_asm.specs.declared.rows.Row.{Row}
use Rattle.ibx_asm.specs.Held.{row_meant}
use Rattle.ibx_asm.specs.Mnemonics.{rows, encoding_of}

-- what is found stands for what is found among what the elements stand for
pub find_mapped : {X Y : Type 0} (h : X → Y) (p : Y → Bool) (xs : List X) → option_map h (find (λ x. p (h x)) xs) ≡
    find p (map h xs)
find_mapped h p [] = refl
find_mapped h p (x ∷ xs) = elim (cases_Bool (p (h x))) [
  | inl f ↦ rw f refl
  | inr f ↦ rw f (find_mapped h p xs)
]

-- the element at the first place that passes is the first that passes
pub at_first : {X : Type 0} (p : X → Bool) (xs : List X) (place : Option ℕ) → place ≡ position p xs → option_and_then
    (slice_get xs) place ≡ find p xs
at_first p xs place h = grind (arith, find_at p xs, slice_get_past xs (position_or_len p xs))

-- the first place that passes, with one more element
pub one_more : {X : Type 0} (p : X → Bool) (xs : List X) (i : ℕ) (d : X) → i < length xs → position p
    (take (i + 1) xs) ≡ option_or (position p (take i xs)) (if p (get_or xs i d) then Some i else None)
one_more p xs i d below =
    let one : take (i + 1) xs ≡ take i xs ++ get_or xs i d ∷ [] = rw (add-one i) (take-suc xs i d below) in
    rw one (grind (arith, position_or_len_push p (take i xs) (get_or xs i d), length-take, length-append, prefix_len-le-length (λ x. not (p x)) (take i xs)))

-- what is found passes each test that all elements pass
pub found_passes : {X : Type 0} (p test : X → Bool) (xs : List X) → list_all test xs ≡ true → IfSome (find p xs)
    (λ x. test x ≡ true)
found_passes p test [] h = tt
found_passes p test (x ∷ xs) h =
    let both = and_parts (test x) (list_all test xs) h in
    elim (cases_Bool (p x)) [
      | inl f ↦ rw f both.0
      | inr f ↦ rw f (found_passes p test xs both.1)
    ]

-- the encoding of a short row is short
second : (o : Option (List ℕ × Encoding)) → IfSome o (λ row. nat_le row.1.size 4 ≡ true) → IfSome
    (option_map (λ row. row.1) o) (λ e. e.size ≤ 4)
second None h = tt
second (Some row) h = grind (arith, h)

-- no instruction or directive is longer than 4 bytes
pub is_short : (name : List ℕ) → IfSome (encoding_of name) (λ e. e.size ≤ 4)
unfolding encoding_of
is_short name = second (find (λ row. bytes_eq row.0 name) rows) (found_passes (λ row. bytes_eq row.0 name)
    (λ row. nat_le row.1.size 4) rows refl)

-- what a table of rows finds stands for what is found among what its rows stand for
pub named : (table : List Row) (name : List ℕ) (o : Option Row) → o ≡ find (λ row. bytes_eq row.0.now name) table
    → option_map {U = Encoding} (λ row. row.1) (option_map row_meant o) ≡ option_map (λ row. row.1)
    (find (λ row. bytes_eq row.0 name) (map row_meant table))
named table name o found = ap (λ o. option_map {U = Encoding} (λ row. row.1) (option_map row_meant o)) found ∙ ap
    (option_map (λ row. row.1)) (find_mapped row_meant (λ row. bytes_eq row.0 name) table)
