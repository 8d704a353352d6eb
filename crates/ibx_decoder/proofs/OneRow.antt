-- At most one row of a table fits a word.
use Rattle.std.proofs.Common.{◌≡◌, ℕ, Bool, true, false, not, eqb, List, [], ◌∷◌, Option, Some, None, refl, sym, ap}
use Rattle.std.proofs.Common.{◌∙◌, inl, inr, subst}
use Rattle.std.specs.Prelude.{◌&&◌, ◌||◌, bit_and, filter, IfSome}
use Rattle.std.specs.Int.Bits.{and_comm}
use Rattle.std.proofs.lemmas.Nat.{and_assoc}
use Rattle.std.proofs.lemmas.Bool.{eqb-true, eq-eqb, not-true, and_parts, both_ways, cases_Bool, or_cases, and_right}
use Rattle.ibx_decoder.specs.Table.{Row, none_holds, fits, first_fit, IsRow}

infixr 20 ◌▸◌
-- the mask and the match bring about one of the exceptions
unfoldable pub excepted : ℕ → ℕ → List (ℕ × ℕ) → Bool
excepted mask matches [] = false
excepted mask matches (e ∷ es) =
    (eqb (bit_and mask e.0) e.0 && eqb (bit_and matches e.0) e.1) || excepted mask matches es

-- no word fits both rows
unfoldable pub apart_pair : {A : Type 0} → Row A → Row A → Bool
unfolding excepted
apart_pair r s =
    not (eqb (bit_and r.matches s.mask) (bit_and s.matches r.mask))
    || (excepted r.mask r.matches s.unless || excepted s.mask s.matches r.unless)

-- no word fits a row and one of a list, and no two rows of a list
unfoldable pub apart : {A : Type 0} → Row A → List (Row A) → Bool
unfolding apart_pair
apart r [] = true
apart r (s ∷ rs) = apart_pair r s && apart r rs

-- no two rows of a list
unfoldable pub all_apart : {A : Type 0} → List (Row A) → Bool
unfolding apart
all_apart [] = true
all_apart (r ∷ rs) = apart r rs && all_apart rs

-- masks may be applied in either order
and_swap : (w a b : ℕ) → bit_and (bit_and w a) b ≡ bit_and (bit_and w b) a
and_swap w a b = and_assoc b w a ∙ ap (λ (x : ℕ). bit_and w x) (and_comm a b) ∙ sym (and_assoc a w b)

-- two rows that fit agree on their common mask
agree : (w a m b n : ℕ) → bit_and w a ≡ m → bit_and w b ≡ n → bit_and m b ≡ bit_and n a
agree w a m b n e f = ap (λ (x : ℕ). bit_and x b) (sym e) ∙ and_swap w a b ∙ ap (λ (x : ℕ). bit_and x a) f

-- where the row fits, its exception holds
excepted-none_holds : (w mask matches : ℕ) (es : List (ℕ × ℕ)) → bit_and w mask ≡ matches
    → excepted mask matches es ≡ true → none_holds w es ≡ false
unfolding excepted
excepted-none_holds w mask matches [] fit e = absurd (both_ways false refl e)
excepted-none_holds w mask matches (x ∷ es) fit e =
    elim (or_cases (eqb (bit_and mask x.0) x.0 && eqb (bit_and matches x.0) x.1) (excepted mask matches es) e) [
      | inl here ↦
          let p = and_parts (eqb (bit_and mask x.0) x.0) (eqb (bit_and matches x.0) x.1) here in
          let within : bit_and mask x.0 ≡ x.0 = eqb-true (bit_and mask x.0) x.0 p.0 in
          let same : bit_and matches x.0 ≡ x.1 = eqb-true (bit_and matches x.0) x.1 p.1 in
          let holds : bit_and w x.0 ≡ x.1 =
          ap (λ (n : ℕ). bit_and w n) (sym within) ∙ sym (and_assoc x.0 w mask) ∙ ap (λ (n : ℕ). bit_and n x.0) fit
          ∙ same in
          rw (eq-eqb (bit_and w x.0) x.1 holds) refl
      | inr later ↦
          and_right (not (eqb (bit_and w x.0) x.1)) (none_holds w es) (excepted-none_holds w mask matches es fit later)
    ]

-- rows that are apart don't both fit, so that none in a list fits beside a row apart from it
not_both : {A : Type 0} (w : ℕ) (r s : Row A) → fits w r ≡ true → fits w s ≡ true → apart_pair r s ≡ true → ⊥
unfolding apart_pair
not_both w r s f g e =
    let p = and_parts (eqb (bit_and w r.mask) r.matches) (none_holds w r.unless) f in
    let q = and_parts (eqb (bit_and w s.mask) s.matches) (none_holds w s.unless) g in
    let a = eqb-true (bit_and w r.mask) r.matches p.0 in
    let b = eqb-true (bit_and w s.mask) s.matches q.0 in
    let differ : Bool = not (eqb (bit_and r.matches s.mask) (bit_and s.matches r.mask)) in
    let exempt : Bool = excepted r.mask r.matches s.unless || excepted s.mask s.matches r.unless in
    elim (or_cases differ exempt e) [
      | inl d ↦
          both_ways (eqb (bit_and r.matches s.mask) (bit_and s.matches r.mask))
          (not-true (eqb (bit_and r.matches s.mask) (bit_and s.matches r.mask)) d)
          (eq-eqb (bit_and r.matches s.mask) (bit_and s.matches r.mask)
          (agree w r.mask r.matches s.mask s.matches a b))
      | inr d ↦ elim (or_cases (excepted r.mask r.matches s.unless) (excepted s.mask s.matches r.unless) d) [
        | inl x ↦ both_ways (none_holds w s.unless) (excepted-none_holds w r.mask r.matches s.unless a x) q.1
        | inr x ↦ both_ways (none_holds w r.unless) (excepted-none_holds w s.mask s.matches r.unless b x) p.1
      ]
    ]

-- where a row fits, none of the rows that it is apart from does
no_other : {A : Type 0} (w : ℕ) (r : Row A) (rs : List (Row A)) → apart r rs ≡ true → fits w r ≡ true
    → filter (fits w) rs ≡ []
unfolding apart
no_other w r [] e f = refl
no_other w r (s ∷ rs) e f =
    let p = and_parts (apart_pair r s) (apart r rs) e in
    elim (cases_Bool (fits w s)) [
      | inl g ↦ absurd (not_both w r s f g p.0)
      | inr g ↦ rw g (no_other w r rs p.1 f)
    ]

-- a row that doesn't fit may be put in front
skip : {A : Type 0} (w : ℕ) (r : Row A) (rs : List (Row A)) (o : Option A) → fits w r ≡ false → IsRow w rs o
    → IsRow w (r ∷ rs) o
skip w r rs None f h = rw f h
skip w r rs (Some x) f h =
    let same : filter (fits w) (r ∷ rs) ≡ filter (fits w) rs = rw f refl in
    (h.0, (same ∙ h.1.0, h.1.1))

-- in a list of rows that are apart the first that fits is the only one
pub one_row : {A : Type 0} (w : ℕ) (rs : List (Row A)) → all_apart rs ≡ true → IsRow w rs (first_fit w rs)
unfolding all_apart
one_row w [] e = refl
one_row {A} w (r ∷ rs) e =
    let p = and_parts (apart r rs) (all_apart rs) e in
    elim (cases_Bool (fits w r)) [
      | inl f ↦
          let alone : filter (fits w) (r ∷ rs) ≡ r ∷ [] =
          rw f (ap (λ (xs : List (Row A)). r ∷ xs) (no_other w r rs p.0 f)) in
          let first : first_fit w (r ∷ rs) ≡ Some (r.gives w) = rw f refl in
          subst (λ (o : Option A). IsRow w (r ∷ rs) o) (sym first) (r, (alone, refl))
      | inr f ↦
          let first : first_fit w (r ∷ rs) ≡ first_fit w rs = rw f refl in
          subst (λ (o : Option A). IsRow w (r ∷ rs) o) (sym first) (skip w r rs (first_fit w rs) f (one_row w rs p.1))
    ]

-- each row that fits gives a value with the property
abbrev pub AllGive : {A : Type 0} → ℕ → (A → Type 0) → List (Row A) → Type 0
AllGive w P [] = Unit {0}
AllGive w P (r ∷ rs) = (fits w r ≡ true → P (r.gives w)) × AllGive w P rs

-- what one row gives, in front of what the rows after it give
pub ◌▸◌ : {A B : Type 0} → A → B → A × B
a ▸ b = (a, b)

-- the first row that fits gives a value with the property
pub given : {A : Type 0} (w : ℕ) (P : A → Type 0) (rs : List (Row A)) → AllGive w P rs → IfSome (first_fit w rs) P
given w P [] h = tt
given w P (r ∷ rs) h = elim (cases_Bool (fits w r)) [
  | inl f ↦ rw f (h.0 f)
  | inr f ↦ rw f (given w P rs h.1)
]
