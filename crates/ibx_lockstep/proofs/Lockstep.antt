-- A difference is told d cycles later, and no other.
use Rattle.std.proofs.Common.{◌≡◌, ℕ, zero, suc, ◌+◌, ◌-◌, ◌≤◌, ◌<◌, min, Bool, true, false, not, ◌&&◌, List, [], ◌∷◌}
use Rattle.std.proofs.Common.{◌++◌, length, map, take, replicate, Option, Some, None, refl, ap, subst, sym, ◌∙◌}
use Rattle.std.proofs.Common.{append_assoc, length-append, arith}
use Rattle.std.specs.Prelude.{nat_le, if◌then◌else◌}
use Rattle.std.specs.List.{list_any}
use Rattle.std.proofs.lemmas.List.{append-nil}
use Rattle.std.proofs.lemmas.Bool.{le-leb, lt-leb, not-false, or_parts, or_from}
use Rattle.ibx_lockstep.specs.Lockstep.{Lockstep, after_turn, differences, findings, inputs, IsSilent, KeepsMain}
use Rattle.ibx_lockstep.specs.Lockstep.{outputs, outputs_alone, SameFirst, stepped_after}
use Rattle.ibx_lockstep.specs.Lockstep.{TellsLater, unchanged}

-- a list of inputs, and of outputs, with one more at its end
firsts : {I O : Type 0} (l : List (I × O)) (i : I) (o : O) (is : List I)
    → map (λ (x : I × O). x.0) (l ++ (i, o) ∷ []) ++ is ≡ map (λ (x : I × O). x.0) l ++ i ∷ is
firsts [] i o is = refl
firsts (x ∷ l) i o is = ap (λ ys. x.0 ∷ ys) (firsts l i o is)

-- the newest output stands behind the ones that main gave before it
seconds : {I O : Type 0} (l : List (I × O)) (i : I) (o : O) (os : List O)
    → map (λ (x : I × O). x.1) (l ++ (i, o) ∷ []) ++ os ≡ map (λ (x : I × O). x.1) l ++ o ∷ os
seconds [] i o os = refl
seconds (x ∷ l) i o os = ap (λ ys. x.1 ∷ ys) (seconds l i o os)

module _ {S I O : Type 0} (d : ℕ) (gives : S → I → O) (leaves : S → I → S) (agree : O → O → Bool) where
  abbrev at_age : S → S → List (I × O) → ℕ → Lockstep S I O
  at_age m s l a = record { main = m; shadow = s; delayed = l; age = a }

  -- a cycle at full age, and one before it
  full_step : (m s : S) (x : I × O) (xs : List (I × O)) (i : I) (o : O)
      → stepped_after d leaves (at_age m s (x ∷ xs) d) i o ≡ at_age (leaves m i) (leaves s x.0) (xs ++ (i, o) ∷ []) d
  full_step m s x xs i o =
      let e : min (d + 1) d ≡ d = omega arith in
      ap (λ b. at_age (leaves m i) (if b then leaves s x.0 else s) (xs ++ (i, o) ∷ []) (min (d + 1) d))
      (le-leb d d (omega arith))
      ∙ ap (at_age (leaves m i) (leaves s x.0) (xs ++ (i, o) ∷ [])) e

  -- below full age a cycle moves main alone, and the age rises by one
  early_step : (m s : S) (x : I × O) (xs : List (I × O)) (a : ℕ) (i : I) (o : O) → a < d
      → stepped_after d leaves (at_age m s (x ∷ xs) a) i o ≡ at_age (leaves m i) s (xs ++ (i, o) ∷ []) (a + 1)
  early_step m s x xs a i o less =
      let e : min (a + 1) d ≡ a + 1 = omega arith in
      ap (λ b. at_age (leaves m i) (if b then leaves s x.0 else s) (xs ++ (i, o) ∷ []) (min (a + 1) d))
      (lt-leb d a less)
      ∙ ap (at_age (leaves m i) s (xs ++ (i, o) ∷ [])) e

  -- the findings, where main has put out the outputs of l before
  abbrev expected : S → List (I × O) → Lockstep S I O → List (Option S × I) → List Bool
  expected s l p ts =
      differences agree (outputs_alone gives leaves s (map (λ (x : I × O). x.0) l ++ inputs ts))
      (map (λ (x : I × O). x.1) l ++ outputs d gives leaves p ts)

  abbrev expected_next : S → List (I × O) → I → O → Lockstep S I O → List (Option S × I) → List Bool
  expected_next s l i o p ts =
      differences agree (outputs_alone gives leaves s (map (λ (x : I × O). x.0) l ++ i ∷ inputs ts))
      (map (λ (x : I × O). x.1) l ++ o ∷ outputs d gives leaves p ts)

  -- what a cycle leaves: main and shadow one step on, and the input and output at the end of the list
  next_is : (s : S) (l : List (I × O)) (i : I) (o : O) (p : Lockstep S I O) (ts : List (Option S × I))
      → expected s (l ++ (i, o) ∷ []) p ts ≡ expected_next s l i o p ts
  next_is s l i o p ts =
      ap (λ is. differences agree (outputs_alone gives leaves s is)
      (map (λ (x : I × O). x.1) (l ++ (i, o) ∷ []) ++ outputs d gives leaves p ts)) (firsts l i o (inputs ts))
      ∙ ap (λ os. differences agree (outputs_alone gives leaves s (map (λ (x : I × O). x.0) l ++ i ∷ inputs ts)) os)
      (seconds l i o (outputs d gives leaves p ts))

  -- at full age a cycle tells the difference of the oldest output, and the cycles after it those of the next ones
  full_turn : (m s : S) (x : I × O) (xs : List (I × O)) (i : I) (ts : List (Option S × I))
      → (let p = at_age (leaves m i) (leaves s x.0) (xs ++ (i, gives m i) ∷ []) d in
      findings d gives leaves agree p ts ≡ take (length ts) (expected (leaves s x.0) (xs ++ (i, gives m i) ∷ []) p ts))
      → findings d gives leaves agree (at_age m s (x ∷ xs) d) ((None, i) ∷ ts)
      ≡ take (suc (length ts)) (expected s (x ∷ xs) (at_age m s (x ∷ xs) d) ((None, i) ∷ ts))
  full_turn m s x xs i ts rest =
      let o = gives m i in
      let p = at_age (leaves m i) (leaves s x.0) (xs ++ (i, o) ∷ []) d in
      let tells = not (agree (gives s x.0) x.1) in
      subst (λ (q : Lockstep S I O). (nat_le d d && tells) ∷ findings d gives leaves agree q ts
      ≡ tells ∷ take (length ts) (expected_next (leaves s x.0) xs i o q ts))
      (sym (full_step m s x xs i o))
      (ap (λ b. (b && tells) ∷ findings d gives leaves agree p ts) (le-leb d d (omega arith))
      ∙ ap (λ bs. tells ∷ bs) (rest ∙ ap (take (length ts)) (next_is (leaves s x.0) xs i o p ts)))

  -- a run at full age tells main's differences from the core that isn't replaced, the oldest delayed output first
  settled : (m s : S) (l : List (I × O)) (ts : List (Option S × I)) → 1 ≤ length l
      → findings d gives leaves agree (at_age m s l d) ts ≡ take (length ts) (expected s l (at_age m s l d) ts)
  settled m s [] ts some = absurd (omega arith)
  settled m s (x ∷ xs) [] some = refl
  settled m s (x ∷ xs) ((None, i) ∷ ts) some =
      full_turn m s x xs i ts (settled (leaves m i) (leaves s x.0) (xs ++ (i, gives m i) ∷ []) ts
      (omega (arith, length-append xs ((i, gives m i) ∷ []))))
  settled m s (x ∷ xs) ((Some y, i) ∷ ts) some =
      full_turn y s x xs i ts (settled (leaves y i) (leaves s x.0) (xs ++ (i, gives y i) ∷ []) ts
      (omega (arith, length-append xs ((i, gives y i) ∷ []))))

  -- before full age nothing is told, and main alone steps
  early_turn : (m s : S) (j : I × O) (js l : List (I × O)) (a : ℕ) (i : I) (ts : List (Option S × I)) → a < d
      → (let p = at_age (leaves m i) s (js ++ (l ++ (i, gives m i) ∷ [])) (a + 1) in
      findings d gives leaves agree p ts
      ≡ take (length ts) (replicate (length js) false ++ expected s (l ++ (i, gives m i) ∷ []) p ts))
      → findings d gives leaves agree (at_age m s (j ∷ (js ++ l)) a) ((None, i) ∷ ts)
      ≡ take (suc (length ts)) (replicate (suc (length js)) false
      ++ expected s l (at_age m s (j ∷ (js ++ l)) a) ((None, i) ∷ ts))
  early_turn m s j js l a i ts less rest =
      let o = gives m i in
      let p = at_age (leaves m i) s (js ++ (l ++ (i, o) ∷ [])) (a + 1) in
      let tells = not (agree (gives s j.0) j.1) in
      subst (λ (q : Lockstep S I O). (nat_le d a && tells) ∷ findings d gives leaves agree q ts
      ≡ false ∷ take (length ts) (replicate (length js) false ++ expected_next s l i o q ts))
      (sym (early_step m s j (js ++ l) a i o less
      ∙ ap (λ ys. at_age (leaves m i) s ys (a + 1)) (append_assoc js l ((i, o) ∷ []))))
      (ap (λ b. (b && tells) ∷ findings d gives leaves agree p ts) (lt-leb d a less)
      ∙ ap (λ bs. false ∷ bs) (rest ∙ ap (λ zs. take (length ts) (replicate (length js) false ++ zs))
      (next_is s l i o p ts)))

  -- a run is silent for as many cycles as its age lacks of d, and then tells each difference
  filling : (m s : S) (js l : List (I × O)) (a : ℕ) (ts : List (Option S × I)) → a + length js ≡ d
      → 1 ≤ length js + length l
      → findings d gives leaves agree (at_age m s (js ++ l) a) ts
      ≡ take (length ts) (replicate (length js) false ++ expected s l (at_age m s (js ++ l) a) ts)
  filling m s [] l a ts e some =
      let now : d ≡ a = omega arith in
      subst (λ n. findings d gives leaves agree (at_age m s l n) ts
      ≡ take (length ts) (expected s l (at_age m s l n) ts)) now (settled m s l ts (omega arith))
  filling m s (j ∷ js) l a [] e some = refl
  filling m s (j ∷ js) l a ((None, i) ∷ ts) e some =
      early_turn m s j js l a i ts (omega arith)
      (filling (leaves m i) s js (l ++ (i, gives m i) ∷ []) (a + 1) ts (omega arith)
      (omega (arith, length-append l ((i, gives m i) ∷ []))))
  filling m s (j ∷ js) l a ((Some y, i) ∷ ts) e some =
      early_turn y s j js l a i ts (omega arith)
      (filling (leaves y i) s js (l ++ (i, gives y i) ∷ []) (a + 1) ts (omega arith)
      (omega (arith, length-append l ((i, gives y i) ∷ []))))

  -- from the start on
  from_start : (s : S) (l : List (I × O)) → length l ≡ d → 1 ≤ d → TellsLater d gives leaves agree (at_age s s l 0)
  from_start s l e some ts =
      subst (λ n. findings d gives leaves agree (at_age s s l 0) ts
      ≡ take (length ts) (replicate n false ++ expected s [] (at_age s s l 0) ts)) e
      (subst (λ ys. findings d gives leaves agree (at_age s s ys 0) ts
      ≡ take (length ts) (replicate (length l) false ++ expected s [] (at_age s s ys 0) ts)) (append-nil l)
      (filling s s l [] 0 ts (omega arith) (omega arith)))

  -- so it is from any start of equal cores
  pub tells_later : (s r : S) (l : List (I × O)) → length l ≡ d → 1 ≤ d → s ≡ r
      → TellsLater d gives leaves agree (at_age s r l 0)
  tells_later s r l e some same =
      subst (λ (x : S). TellsLater d gives leaves agree (at_age s x l 0)) same (from_start s l e some)

-- what findings that are silent say
pub skipped : (d n : ℕ) (bs : List Bool) → IsSilent (take n (replicate d false ++ bs)) → IsSilent (take (n - d) bs)
skipped zero n bs h = let e : n ≡ n - 0 = omega arith in subst (λ k. IsSilent (take k bs)) e h
skipped (suc d) zero bs h = let e : 0 ≡ 0 - suc d = omega arith in subst (λ k. IsSilent (take k bs)) e h
skipped (suc d) (suc n) bs h =
    let e : n - d ≡ suc n - suc d = omega arith in subst (λ k. IsSilent (take k bs)) e (skipped d n bs h)

-- and back: silent findings stay silent behind d silent ones
pub padded : (d n : ℕ) (bs : List Bool) → ((k : ℕ) → IsSilent (take k bs)) → IsSilent (take n (replicate d false ++ bs))
padded zero n bs h = h n
padded (suc d) zero bs h = refl
padded (suc d) (suc n) bs h = padded d n bs h

module _ {O : Type 0} (agree : O → O → Bool) where
  -- silent findings mean equal outputs, and equal outputs silent findings
  pub same_first : (n : ℕ) (xs ys : List O) → n ≤ length xs → n ≤ length ys
      → IsSilent (take n (differences agree xs ys)) → SameFirst agree n xs ys
  same_first zero xs ys p q h = tt
  same_first (suc n) [] ys p q h = omega arith
  same_first (suc n) (x ∷ xs) [] p q h = omega arith
  same_first (suc n) (x ∷ xs) (y ∷ ys) p q h =
      let both = or_parts (not (agree x y)) (list_any (λ told. told) (take n (differences agree xs ys))) h in
      (not-false (agree x y) both.0, same_first n xs ys (omega arith) (omega arith) both.1)

  -- where each output agrees with itself, a list of outputs has no difference from itself
  pub never_differs : ((o : O) → agree o o ≡ true) → (xs : List O) (n : ℕ) → IsSilent (take n (differences agree xs xs))
  never_differs self [] zero = refl
  never_differs self [] (suc n) = refl
  never_differs self (x ∷ xs) zero = refl
  never_differs self (x ∷ xs) (suc n) =
      or_from (not (agree x x)) (list_any (λ told. told) (take n (differences agree xs xs))) (ap not (self x))
      (never_differs self xs n)

-- a run without changes has the inputs that it was handed
pub inputs-unchanged : (A : Type 0) {I : Type 0} (is : List I) → inputs {A = A} (unchanged is) ≡ is
inputs-unchanged A [] = refl
inputs-unchanged A (i ∷ is) = ap (λ js. i ∷ js) (inputs-unchanged A is)

module _ {S I O : Type 0} (d : ℕ) (gives : S → I → O) (leaves : S → I → S) where
  -- there are as many outputs as cycles
  pub length-alone : (s : S) (ts : List (Option S × I)) → length (outputs_alone gives leaves s (inputs ts)) ≡ length ts
  length-alone s [] = refl
  length-alone s (t ∷ ts) = ap suc (length-alone (leaves s t.1) ts)

  -- the pair has one output of main's a cycle too, whatever is put in main's place
  pub length-outputs : (p : Lockstep S I O) (ts : List (Option S × I))
      → length (outputs d gives leaves p ts) ≡ length ts
  length-outputs p [] = refl
  length-outputs p (t ∷ ts) = ap suc (length-outputs (after_turn d gives leaves p t) ts)

  -- an unchanged run has the outputs of main alone
  pub outputs-unchanged : (p : Lockstep S I O) (is : List I)
      → outputs d gives leaves p (unchanged is) ≡ outputs_alone gives leaves p.main is
  outputs-unchanged p [] = refl
  outputs-unchanged p (i ∷ is) =
      ap (λ os. gives p.main i ∷ os) (outputs-unchanged (after_turn d gives leaves p (None, i)) is)

  -- whatever happens to the shadow, the delayed pairs and the age, main's outputs are those of main alone
  pub keeps_main : (p : Lockstep S I O) → KeepsMain d gives leaves p
  keeps_main p [] = refl
  keeps_main p ((None, i) ∷ ts) =
      ap (λ os. gives p.main i ∷ os) (keeps_main (stepped_after d leaves p i (gives p.main i)) ts)
  keeps_main p ((Some x, i) ∷ ts) =
      ap (λ os. gives p.main i ∷ os) (keeps_main
      (stepped_after d leaves (record p { shadow = x.0; delayed = x.1; age = x.2 }) i (gives p.main i)) ts)
