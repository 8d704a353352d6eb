-- Two memories that differ in one bad word.
use Rattle.std.proofs.Common.{◌≡◌, ℕ, ◌<◌, Bool, true, false, not, List, length, refl, ap, subst, sym, ◌∙◌}
use Rattle.std.proofs.Common.{length-set, get_or-set_same, get_or-set_other}
use Rattle.std.specs.Prelude.{◌&&◌, ◌==◌, slice_index, slice_set, if◌then◌else◌}
use Rattle.std.proofs.lemmas.Bool.{eqb-true, eqb-false}
use Rattle.std.proofs.lemmas.List.{set-set, set_comm}
use Rattle.ibx_system.specs.System.{put_if}

module _ (bad : ℕ → Bool) where
  -- word k of ys is a bad one in place of that of xs, or all are the same
  abbrev pub ListApart : ℕ → Bool → List ℕ → List ℕ → Type 0
  ListApart k false xs ys = ys ≡ xs
  ListApart k true xs ys = (word : ℕ) × (k < length xs) × (bad word ≡ true) × (ys ≡ slice_set xs k word)

  -- two words are the same, or where they are marked the second is a bad one
  abbrev pub WordApart : Bool → ℕ → ℕ → Type 0
  WordApart false a b = b ≡ a
  WordApart true a b = bad b ≡ true

  -- both have as many words
  pub length_apart : (k : ℕ) (m : Bool) (xs ys : List ℕ) → ListApart k m xs ys → length ys ≡ length xs
  length_apart k false xs ys e = ap length e
  length_apart k true xs ys d = ap length d.3 ∙ length-set xs k d.0

  -- ---- a whole word is put

  -- by whether the word that is put is word k
  set_by : (hit : Bool) (k i new : ℕ) (xs ys : List ℕ) → (i == k) ≡ hit → ListApart k true xs ys
      → ListApart k (not hit) (slice_set xs i new) (slice_set ys i new)
  set_by true k i new xs ys h d =
      ap (λ (ws : List ℕ). slice_set ws i new) d.3
      ∙ subst (λ n. slice_set (slice_set xs n d.0) i new ≡ slice_set xs i new) (eqb-true i k h)
      (set-set xs i d.0 new)
  set_by false k i new xs ys h d = (
    d.0,
    subst (λ n. k < n) (sym (length-set xs i new)) d.1,
    d.2,
    ap (λ (ws : List ℕ). slice_set ws i new) d.3 ∙ set_comm xs k i d.0 new (λ e. eqb-false i k h (sym e)),
  )

  -- a word is put in both: on word k it ends the mark
  pub put_apart : (written m : Bool) (k i new : ℕ) (xs ys : List ℕ) → ListApart k m xs ys
      → ListApart k (m && not (written && (i == k))) (put_if written xs i new) (put_if written ys i new)
  put_apart written false k i new xs ys e = ap (λ (ws : List ℕ). put_if written ws i new) e
  put_apart false true k i new xs ys d = d
  put_apart true true k i new xs ys d = set_by (i == k) k i new xs ys refl d

  -- ---- a word is read

  -- by whether the word that is read is word k
  read_by : (hit : Bool) (k i : ℕ) (xs ys : List ℕ) → (i == k) ≡ hit → ListApart k true xs ys
      → WordApart hit (slice_index xs i) (slice_index ys i)
  read_by true k i xs ys h d =
      ap (λ (ws : List ℕ). bad (slice_index ws i)) d.3
      ∙ subst (λ n. bad (slice_index (slice_set xs k d.0) n) ≡ true) (sym (eqb-true i k h))
      (ap bad (get_or-set_same xs k d.0 0 d.1) ∙ d.2)
  read_by false k i xs ys h d = ap (λ (ws : List ℕ). slice_index ws i) d.3
      ∙ get_or-set_other xs k i d.0 0 (eqb-false i k h)

  -- one place is read in both
  pub read_apart : (m : Bool) (k i : ℕ) (xs ys : List ℕ) → ListApart k m xs ys
      → WordApart (m && (i == k)) (slice_index xs i) (slice_index ys i)
  read_apart false k i xs ys e = ap (λ (ws : List ℕ). slice_index ws i) e
  read_apart true k i xs ys d = read_by (i == k) k i xs ys refl d

  -- ---- bytes of a word are put

  module _ (merged : ℕ → ℕ → ℕ → ℕ) (keeps : (enables old new : ℕ) → bad (merged enables old new) ≡ bad old) where
    -- the word after a store, whole or merged
    new_word : Bool → ℕ → ℕ → ℕ → ℕ
    new_word whole enables old new = if whole then new else merged enables old new

    -- by whether the stored word is word k
    store_by : (hit whole : Bool) (k i enables new : ℕ) (xs ys : List ℕ) → (i == k) ≡ hit → ListApart k true xs ys
        → ListApart k (not (hit && whole)) (slice_set xs i (new_word whole enables (slice_index xs i) new))
        (slice_set ys i (new_word whole enables (slice_index ys i) new))
    unfolding new_word
    store_by true true k i enables new xs ys h d = set_by true k i new xs ys h d
    store_by true false k i enables new xs ys h d =
        let same = eqb-true i k h in
        let old = merged enables (slice_index xs i) new in
        let now = merged enables (slice_index ys i) new in (
          now,
          subst (λ n. k < n) (sym (length-set xs i old)) d.1,
          keeps enables (slice_index ys i) new ∙ read_by true k i xs ys h d,
          ap (λ (ws : List ℕ). slice_set ws i now) d.3
              ∙ subst (λ n. slice_set (slice_set xs k d.0) n now ≡ slice_set (slice_set xs n old) k now) (sym same)
              (set-set xs k d.0 now ∙ sym (set-set xs k old now)),
        )
    store_by false whole k i enables new xs ys h d =
        let old = new_word whole enables (slice_index xs i) new in (
          d.0,
          subst (λ n. k < n) (sym (length-set xs i old)) d.1,
          d.2,
          ap (λ x. slice_set ys i (new_word whole enables x new)) (read_by false k i xs ys h d)
              ∙ ap (λ (ws : List ℕ). slice_set ws i old) d.3 ∙ set_comm xs k i d.0 old (λ e. eqb-false i k h (sym e)),
        )

    -- the words after a store, if there is one
    abbrev pub stores_if : Bool → List ℕ → ℕ → ℕ → ℕ → List ℕ
    stores_if stores words i enables new =
        if stores then slice_set words i
        (if enables == 15 then new else merged enables (slice_index words i) new) else words

    -- a store to both: a whole one to word k ends the mark, and a merged one leaves it
    pub store_apart : (stores m : Bool) (k i enables new : ℕ) (xs ys : List ℕ) → ListApart k m xs ys
        → ListApart k (m && not (stores && ((i == k) && (enables == 15)))) (stores_if stores xs i enables new)
        (stores_if stores ys i enables new)
    unfolding new_word
    store_apart stores false k i enables new xs ys e = ap (λ (ws : List ℕ). stores_if stores ws i enables new) e
    store_apart false true k i enables new xs ys d = d
    store_apart true true k i enables new xs ys d = store_by (i == k) (enables == 15) k i enables new xs ys refl d
