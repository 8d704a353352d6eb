-- A search for a name.
use Rattle.std.proofs.Common.{◌≡◌, ℕ, ◌≤◌, true, List, Some, None, length, refl, ap, ◌∙◌, subst, inl, inr, arith}
use Rattle.std.specs.List.{slice_get, position, position_or_len}
use Rattle.std.specs.Option.{option_map}
use Rattle.std.proofs.lemmas.Bool.{cases_lt, lt-ltb, le-ltb}
use Rattle.std.proofs.lemmas.List.Folds.{find_at}
use Rattle.std.proofs.lemmas.List.Quantifiers.{position-Some}
use Rattle.std.proofs.lemmas.Option.{slice_get_past, slice_get_cases}
use Rattle.std.proofs.lemmas.Slice.Eq.{bytes_eq-Decides}
use Rattle.ibx_base.specs.MemFiles.{Entry, is_named, content_of, Finds}

module _ (entries : List Entry) (name : List ℕ) where
  -- a search that runs to the list's end finds no content for the name
  missing : length entries ≤ position_or_len (is_named name) entries → Finds entries name None
  unfolding content_of
  missing past = ap (option_map (λ (e : Entry). e.bytes))
      (find_at (is_named name) entries ∙ slice_get_past entries (position_or_len (is_named name) entries) past)

  -- where the entry at which the search stops has the name, it is found there with its bytes
  located : (e : Entry) → slice_get entries (position_or_len (is_named name) entries) ≡ Some e → is_named name e ≡ true
      → Finds entries name (Some (position_or_len (is_named name) entries))
  unfolding content_of
  located e at is =
      let same : e.name ≡ name = (bytes_eq-Decides e.name name).0 is in (
        e.bytes,
        (
          at ∙ ap (λ (n : List ℕ). Some (record { name = n; bytes = e.bytes })) same,
          ap (option_map (λ (e : Entry). e.bytes)) (find_at (is_named name) entries ∙ at),
        ),
      )

  -- so what it finds is the first entry of the name, or none
  pub finds : Finds entries name (position (is_named name) entries)
  finds =
      elim (cases_lt (position_or_len (is_named name) entries) (length entries)) [
        | inl within ↦ elim (slice_get_cases entries (position_or_len (is_named name) entries)).1 [
          | inl (e, inside, at, here) ↦
              let some : position (is_named name) entries ≡ Some (position_or_len (is_named name) entries) =
              rw (lt-ltb (position_or_len (is_named name) entries) (length entries) within) refl in
              let is : is_named name e ≡ true =
              subst (λ (x : Entry). is_named name x ≡ true) here
              (position-Some (is_named name) entries (position_or_len (is_named name) entries) e some).1 in
              rw (lt-ltb (position_or_len (is_named name) entries) (length entries) within) (located e at is)
          | inr (past, none) ↦ absurd (omega arith)
        ]
        | inr past ↦ rw (le-ltb (position_or_len (is_named name) entries) (length entries) past) (missing past)
      ]
