-- A ring gives back what was pushed.
use Rattle.std.proofs.Common.{◌≡◌, ℕ, zero, suc, ◌+◌, ◌-◌, ◌%◌, ◌<◌, ◌≤◌, List, [], ◌∷◌, take, replicate, slice_get}
use Rattle.std.proofs.Common.{slice_index_or, slice_set, Some, inl, inr, refl, ap, subst, sym, ◌∙◌, arith}
use Rattle.std.proofs.lemmas.Bool.{cases_order}
use Rattle.ibx_lockstep.specs.declared.ring.Ring.{Ring}
use Rattle.ibx_lockstep.specs.declared.slots.Slots.{Slots}
use Rattle.ibx_lockstep.specs.Rings.{after_push, after_pushes, back_of, filled, fresh, pushed, put, recent, slot}
use Rattle.ibx_lockstep.specs.Rings.{value_back, values_back, with_back, with_value_back}

-- the slot of the newest value after a push is the one that was written, and each other value keeps its own
newest_place : (d p : ℕ) → 1 ≤ d → d ≤ 4 → ((p % d + 1) % d + d - 1) % d ≡ p % d
newest_place zero p some four = omega arith
newest_place (suc zero) p some four = omega arith
newest_place (suc (suc zero)) p some four = omega arith
newest_place (suc (suc (suc zero))) p some four = omega arith
newest_place (suc (suc (suc (suc zero)))) p some four = omega arith
newest_place (suc (suc (suc (suc (suc d))))) p some four = omega arith

-- a push makes a kept value one older and leaves it in its slot
later_place : (d p k : ℕ) → d ≤ 4 → 1 ≤ k → k < d → ((p % d + 1) % d + d - suc k) % d ≡ (p + d - k) % d
later_place zero p k four some kept = omega arith
later_place (suc zero) p k four some kept = omega arith
later_place (suc (suc zero)) p k four some kept = omega arith
later_place (suc (suc (suc zero))) p k four some kept = omega arith
later_place (suc (suc (suc (suc zero)))) p k four some kept = omega arith
later_place (suc (suc (suc (suc (suc d))))) p k four some kept = omega arith

-- values of different ages stand in different slots, and none that is kept in the slot that a push writes
apart_place : (d p j k : ℕ) → d ≤ 4 → 1 ≤ j → j < k → k ≤ d → (p + d - k) % d ≡ (p + d - j) % d → ⊥
apart_place zero p j k four some less kept e = omega arith
apart_place (suc zero) p j k four some less kept e = omega arith
apart_place (suc (suc zero)) p j k four some less kept e = omega arith
apart_place (suc (suc (suc zero))) p j k four some less kept e = omega arith
apart_place (suc (suc (suc (suc zero)))) p j k four some less kept e = omega arith
apart_place (suc (suc (suc (suc (suc d))))) p j k four some less kept e = omega arith

-- two ages have two slots, whichever of them is the greater
places_apart : (d p j k : ℕ) → d ≤ 4 → 1 ≤ j → j ≤ d → 1 ≤ k → k ≤ d → (j ≡ k → ⊥) → (p + d - k) % d ≡ (p + d - j) % d
    → ⊥
places_apart d p j k four first last some kept apart e =
    elim (cases_order j k) [
      | inl same ↦ apart same
      | inr other ↦ elim other [
        | inl less ↦ apart_place d p j k four first less kept e
        | inr more ↦ apart_place d p k j four some more last (sym e)
      ]
    ]

-- the slot that a push writes holds none of the d - 1 newest values
older_place : (d p k : ℕ) → d ≤ 4 → 1 ≤ k → k < d → p % d ≡ (p + d - k) % d → ⊥
older_place zero p k four some kept e = omega arith
older_place (suc zero) p k four some kept e = omega arith
older_place (suc (suc zero)) p k four some kept e = omega arith
older_place (suc (suc (suc zero))) p k four some kept e = omega arith
older_place (suc (suc (suc (suc zero)))) p k four some kept e = omega arith
older_place (suc (suc (suc (suc (suc d))))) p k four some kept e = omega arith

-- a slot is one of the four
in_four : (d n : ℕ) → 1 ≤ d → d ≤ 4 → n % d < 4
in_four zero n some four = omega arith
in_four (suc zero) n some four = omega arith
in_four (suc (suc zero)) n some four = omega arith
in_four (suc (suc (suc zero))) n some four = omega arith
in_four (suc (suc (suc (suc zero)))) n some four = omega arith
in_four (suc (suc (suc (suc (suc d))))) n some four = omega arith

module _ {T : Type 0} where
  -- a value that is put into a slot leaves the place of the next push
  place-put : (r : Slots T) (n : ℕ) (x : T) → n < 4 → (put r n x).place ≡ r.place
  unfolding put
  place-put r zero x p = refl
  place-put r (suc zero) x p = refl
  place-put r (suc (suc zero)) x p = refl
  place-put r (suc (suc (suc zero))) x p = refl
  place-put r (suc (suc (suc (suc n)))) x p = absurd (omega arith)

  -- a value that is put into one of the four slots is read back from it
  slot-put_same : (r : Slots T) (n : ℕ) (x : T) → n < 4 → slot (put r n x) n ≡ x
  unfolding put slot
  slot-put_same r zero x p = refl
  slot-put_same r (suc zero) x p = refl
  slot-put_same r (suc (suc zero)) x p = refl
  slot-put_same r (suc (suc (suc zero))) x p = refl
  slot-put_same r (suc (suc (suc (suc n)))) x p = absurd (omega arith)

  -- each other slot keeps the value that it had
  slot-put_other : (r : Slots T) (n m : ℕ) (x : T) → n < 4 → m < 4 → (n ≡ m → ⊥) → slot (put r n x) m ≡ slot r m
  unfolding put slot
  slot-put_other r zero zero x p q apart = absurd (apart refl)
  slot-put_other r zero (suc zero) x p q apart = refl
  slot-put_other r zero (suc (suc zero)) x p q apart = refl
  slot-put_other r zero (suc (suc (suc zero))) x p q apart = refl
  slot-put_other r zero (suc (suc (suc (suc m)))) x p q apart = absurd (omega arith)
  slot-put_other r (suc zero) zero x p q apart = refl
  slot-put_other r (suc zero) (suc zero) x p q apart = absurd (apart refl)
  slot-put_other r (suc zero) (suc (suc zero)) x p q apart = refl
  slot-put_other r (suc zero) (suc (suc (suc zero))) x p q apart = refl
  slot-put_other r (suc zero) (suc (suc (suc (suc m)))) x p q apart = absurd (omega arith)
  slot-put_other r (suc (suc zero)) zero x p q apart = refl
  slot-put_other r (suc (suc zero)) (suc zero) x p q apart = refl
  slot-put_other r (suc (suc zero)) (suc (suc zero)) x p q apart = absurd (apart refl)
  slot-put_other r (suc (suc zero)) (suc (suc (suc zero))) x p q apart = refl
  slot-put_other r (suc (suc zero)) (suc (suc (suc (suc m)))) x p q apart = absurd (omega arith)
  slot-put_other r (suc (suc (suc zero))) zero x p q apart = refl
  slot-put_other r (suc (suc (suc zero))) (suc zero) x p q apart = refl
  slot-put_other r (suc (suc (suc zero))) (suc (suc zero)) x p q apart = refl
  slot-put_other r (suc (suc (suc zero))) (suc (suc (suc zero))) x p q apart = absurd (apart refl)
  slot-put_other r (suc (suc (suc zero))) (suc (suc (suc (suc m)))) x p q apart = absurd (omega arith)
  slot-put_other r (suc (suc (suc (suc n)))) m x p q apart = absurd (omega arith)

  -- slots that are filled with a value have it in each of the four
  slot-filled : (n : ℕ) (x : T) → n < 4 → slot (filled x) n ≡ x
  unfolding slot
  slot-filled zero x p = refl
  slot-filled (suc zero) x p = refl
  slot-filled (suc (suc zero)) x p = refl
  slot-filled (suc (suc (suc zero))) x p = refl
  slot-filled (suc (suc (suc (suc n)))) x p = absurd (omega arith)

-- the values, one by one
module _ {T : Type 0} (d : ℕ) where
  -- each value of a ring that was filled with one, the newest after a push, and those before it
  pub value-filled : (x : T) (k : ℕ) → 1 ≤ d → d ≤ 4 → value_back d (filled x) k ≡ x
  unfolding value_back
  value-filled x k some four = slot-filled ((0 + d - k) % d) x (in_four d (0 + d - k) some four)

  -- the newest value after a push is the one that was pushed
  pub newest : (s : Slots T) (x : T) → 1 ≤ d → d ≤ 4 → value_back d (after_push d s x) 1 ≡ x
  unfolding value_back after_push slot
  newest s x some four = ap (slot (put s (s.place % d) x)) (newest_place d s.place some four)
      ∙ slot-put_same s (s.place % d) x (in_four d s.place some four)

  -- each value that a push keeps is then one push older
  later : (s : Slots T) (x : T) (k : ℕ) → d ≤ 4 → 1 ≤ k → k < d
      → value_back d (after_push d s x) (suc k) ≡ value_back d s k
  unfolding value_back after_push slot
  later s x k four some kept =
      let one : 1 ≤ d = omega arith in
      ap (slot (put s (s.place % d) x)) (later_place d s.place k four some kept)
      ∙ slot-put_other s (s.place % d) ((s.place + d - k) % d) x (in_four d s.place one four)
      (in_four d (s.place + d - k) one four) (older_place d s.place k four some kept)

  -- after a push the k-th value back is the one that was k - 1 back before it
  pub older : (s : Slots T) (x : T) (k : ℕ) → d ≤ 4 → 1 < k → k ≤ d
      → value_back d (after_push d s x) k ≡ value_back d s (k - 1)
  older s x zero four some kept = absurd (omega arith)
  older s x (suc k) four some kept =
      let one : k ≡ suc k - 1 = omega arith in
      later s x k four (omega arith) (omega arith) ∙ ap (value_back d s) one

  -- a value that is set back stands at its place, and the others stay
  pub here : (s : Slots T) (k : ℕ) (x : T) → 1 ≤ d → d ≤ 4 → value_back d (with_value_back d s k x) k ≡ x
  unfolding value_back with_value_back
  here s k x some four =
      let inside : (s.place + d - k) % d < 4 = in_four d (s.place + d - k) some four in
      ap (λ p. slot (put s ((s.place + d - k) % d) x) ((p + d - k) % d)) (place-put s ((s.place + d - k) % d) x inside)
      ∙ slot-put_same s ((s.place + d - k) % d) x inside

  -- setting a value back leaves each value that stands in another slot
  elsewhere : (s : Slots T) (k j : ℕ) (x : T) → d ≤ 4 → 1 ≤ d → ((s.place + d - k) % d ≡ (s.place + d - j) % d → ⊥)
      → value_back d (with_value_back d s k x) j ≡ value_back d s j
  unfolding value_back with_value_back
  elsewhere s k j x four some apart =
      let inside : (s.place + d - k) % d < 4 = in_four d (s.place + d - k) some four in
      ap (λ p. slot (put s ((s.place + d - k) % d) x) ((p + d - j) % d)) (place-put s ((s.place + d - k) % d) x inside)
      ∙ slot-put_other s ((s.place + d - k) % d) ((s.place + d - j) % d) x inside
      (in_four d (s.place + d - j) some four) apart

  -- so it leaves each value of another age, as ages up to d have slots of their own
  pub others : (s : Slots T) (k j : ℕ) (x : T) → d ≤ 4 → 1 ≤ k → k ≤ d → 1 ≤ j → j ≤ d → (j ≡ k → ⊥)
      → value_back d (with_value_back d s k x) j ≡ value_back d s j
  others s k j x four some kept first last apart =
      elsewhere s k j x four (omega arith) (places_apart d s.place j k four first last some kept apart)

-- the lists of values
module _ {T : Type 0} (d : ℕ) where
  -- the same for lists of the values, newest first: filled, read, cut, pushed, and set back
  values-filled : (k n : ℕ) (x : T) → 1 ≤ d → d ≤ 4 → values_back d (filled x) k n ≡ replicate n x
  values-filled k zero x some four = refl
  values-filled k (suc n) x some four =
      ap (λ y. y ∷ values_back d (filled x) (suc k) n) (value-filled d x k some four)
      ∙ ap (λ ys. x ∷ ys) (values-filled (suc k) n x some four)

  -- entry i of the values from the j-th push on is that of push j + i, counted back from now
  get-values : (s : Slots T) (j n i : ℕ) → i < n → slice_get (values_back d s j n) i ≡ Some (value_back d s (j + i))
  get-values s j zero i less = absurd (omega arith)
  get-values s j (suc n) zero less = let e : j ≡ j + 0 = omega arith in ap (λ k. Some (value_back d s k)) e
  get-values s j (suc n) (suc i) less =
      let e : suc j + i ≡ j + suc i = omega arith in
      get-values s (suc j) n i (omega arith) ∙ ap (λ k. Some (value_back d s k)) e

  -- the first n of more values are the n values from the same push on
  take-values : (s : Slots T) (k n m : ℕ) → n ≤ m → take n (values_back d s k m) ≡ values_back d s k n
  take-values s k zero zero le = refl
  take-values s k zero (suc m) le = refl
  take-values s k (suc n) zero le = absurd (omega arith)
  take-values s k (suc n) (suc m) le = ap (λ ys. value_back d s k ∷ ys) (take-values s (suc k) n m (omega arith))

  -- the values that a push keeps stand one push further back, in the same order
  values-pushed : (s : Slots T) (x : T) (k n : ℕ) → d ≤ 4 → 1 ≤ k → k + n ≤ d
      → values_back d (after_push d s x) (suc k) n ≡ values_back d s k n
  values-pushed s x k zero four some kept = refl
  values-pushed s x k (suc n) four some kept =
      ap (λ y. y ∷ values_back d (after_push d s x) (suc (suc k)) n) (later d s x k four some (omega arith))
      ∙ ap (λ ys. value_back d s k ∷ ys) (values-pushed s x (suc k) n four (omega arith) (omega arith))

  -- after a push the d values are the pushed one and those before it, without the oldest
  values-pushed_all : (s : Slots T) (x : T) (n : ℕ) → 1 ≤ n → d ≤ 4 → n ≡ d
      → values_back d (after_push d s x) 1 n ≡ take n (x ∷ values_back d s 1 n)
  values-pushed_all s x zero some four e = absurd (omega arith)
  values-pushed_all s x (suc n) some four e =
      ap (λ y. y ∷ values_back d (after_push d s x) 2 n) (newest d s x (omega arith) four)
      ∙ ap (λ ys. x ∷ ys) (values-pushed s x 1 n four (omega arith) (omega arith)
      ∙ sym (take-values s 1 n (suc n) (omega arith)))

  -- setting a value back leaves all values that are older than it
  values-behind : (s : Slots T) (k : ℕ) (x : T) (j n : ℕ) → d ≤ 4 → 1 ≤ k → k < j → j + n ≤ suc d
      → values_back d (with_value_back d s k x) j n ≡ values_back d s j n
  values-behind s k x j zero four some less kept = refl
  values-behind s k x j (suc n) four some less kept =
      ap (λ y. y ∷ values_back d (with_value_back d s k x) (suc j) n)
      (others d s k j x four some (omega arith) (omega arith) (omega arith) (λ same. omega arith))
      ∙ ap (λ ys. value_back d s j ∷ ys) (values-behind s k x (suc j) n four some (omega arith) (omega arith))

  -- setting a value back changes its own entry of a list of values, and no other
  values-with_back : (s : Slots T) (k : ℕ) (x : T) (j n i : ℕ) → d ≤ 4 → 1 ≤ j → j + i ≡ k → k < j + n → j + n ≤ suc d
      → values_back d (with_value_back d s k x) j n ≡ slice_set (values_back d s j n) i x
  values-with_back s k x j zero i four some e less kept = absurd (omega arith)
  values-with_back s k x j (suc n) zero four some e less kept =
      let same : k ≡ j = omega arith in
      subst (λ t. values_back d (with_value_back d s k x) t (suc n) ≡ x ∷ values_back d s (suc t) n) same
      (ap (λ y. y ∷ values_back d (with_value_back d s k x) (suc k) n) (here d s k x (omega arith) four)
      ∙ ap (λ ys. x ∷ ys) (values-behind s k x (suc k) n four (omega arith) (omega arith) (omega arith)))
  values-with_back s k x j (suc n) (suc i) four some e less kept =
      ap (λ y. y ∷ values_back d (with_value_back d s k x) (suc j) n)
      (others d s k j x four (omega arith) (omega arith) some (omega arith) (λ same. omega arith))
      ∙ ap (λ ys. value_back d s j ∷ ys)
      (values-with_back s k x (suc j) n i four (omega arith) (omega arith) (omega arith) (omega arith))

-- the ring
module _ {T : Type 0} (d : ℕ) where
  -- what a ring has: at first one value, after a push that one in front, and after a change the value changed
  pub recent-fresh : (x : T) → 1 ≤ d → d ≤ 4 → recent {d = d} (fresh x) ≡ replicate d x
  unfolding recent
  recent-fresh x some four = values-filled d 1 d x some four

  -- a push puts its value in front of the last d, and the oldest drops out
  pub recent-pushed : (r : Ring T d) (x : T) → 1 ≤ d → d ≤ 4 → recent (pushed r x) ≡ take d (x ∷ recent r)
  unfolding recent
  recent-pushed r x some four = values-pushed_all d r.slots x d some four refl

  -- setting the value of the k-th push back changes entry k - 1 of the last d
  pub recent-with_back : (r : Ring T d) (k : ℕ) (x : T) → d ≤ 4 → 1 ≤ k → k ≤ d
      → recent (with_back r k x) ≡ slice_set (recent r) (k - 1) x
  unfolding recent
  recent-with_back r k x four some kept =
      values-with_back d r.slots k x 1 d (k - 1) four (omega arith) (omega arith) (omega arith) (omega arith)

  -- entry k - 1 of the last d values is that of the k-th push before now
  pub get-recent : (r : Ring T d) (k : ℕ) → 1 ≤ k → k ≤ d → slice_get (recent r) (k - 1) ≡ Some (back_of r k)
  unfolding recent
  get-recent r k some kept =
      let e : 1 + (k - 1) ≡ k = omega arith in
      get-values d r.slots 1 d (k - 1) (omega arith) ∙ ap (λ j. Some (value_back d r.slots j)) e

  -- the value of the k-th push before now
  pub law : (first : T) (xs : List T) (k : ℕ) → d ≤ 4 → 1 ≤ k → k ≤ d
      → back_of {d = d} (after_pushes (fresh first) xs) k ≡ slice_index_or xs (k - 1) first
  unfolding after_pushes
  law first [] k four some kept = value-filled d first k (omega arith) four
  law first (x ∷ xs) zero four some kept = absurd (omega arith)
  law first (x ∷ xs) (suc zero) four some kept =
      newest d (after_pushes {d = d} (fresh first) xs).slots x (omega arith) four
  law first (x ∷ xs) (suc (suc k)) four some kept =
      let one : suc k - 1 ≡ k = omega arith in
      let two : suc (suc k) - 1 ≡ suc k = omega arith in
      later d (after_pushes {d = d} (fresh first) xs).slots x (suc k) four (omega arith) (omega arith)
      ∙ law first xs (suc k) four (omega arith) (omega arith)
      ∙ ap (λ n. slice_index_or xs n first) one
      ∙ sym (ap (λ n. slice_index_or (x ∷ xs) n first) two)
