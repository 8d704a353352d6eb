-- The least number that passes a test, and the bound.
use Rattle.std.proofs.Common.{◌≡◌, ℕ, zero, suc, ◌+◌, ◌≤◌, ◌<◌, Bool, true, false, Option, Some, None, inl, inr, refl}
use Rattle.std.proofs.Common.{ap, subst, sym, ◌∙◌, arith}
use Rattle.std.proofs.lemmas.Bool.{cases_eq, cases_Bool}
use Rattle.ibx_flips.specs.Flips.{first_from, Bounded}

-- the first number that passes, among n from t on
pub record Found (n : ℕ) (test : ℕ → Bool) (t d : ℕ) : Type 0 where
  pub passes : test d ≡ true
  pub late : t ≤ d
  pub inside : d < t + n
  pub least : (b : ℕ) → t ≤ b → b < d → test b ≡ false

-- a search that ends with a number
pub found : (n : ℕ) (test : ℕ → Bool) (t d : ℕ) → first_from n test t ≡ Some d → Found n test t d
unfolding first_from
found zero test t d e = cc
found (suc n) test t d e =
    elim (cases_Bool (test t)) [
      | inl hit ↦
          let at : Some t ≡ Some d = sym (rw hit refl) ∙ e in
          let same : t ≡ d = cc in
          record {
            passes = subst (λ (x : ℕ). test x ≡ true) same hit;
            late = omega arith;
            inside =
                omega arith;
            least = λ b low high. absurd (omega arith);
          }
      | inr miss ↦
          let rest : first_from n test (t + 1) ≡ Some d = sym (rw miss refl) ∙ e in
          let r = found n test (t + 1) d rest in
          record {
            passes = r.passes;
            late = omega (arith, r.late);
            inside = omega (arith, r.inside);
            least = λ b low high.
                elim (cases_eq t b) [
                  | inl same ↦ ap test (sym same) ∙ miss
                  | inr other ↦ r.least b (omega arith) high
                ];
          }
    ]

-- a search that ends with none: no number passes
pub none_found : (n : ℕ) (test : ℕ → Bool) (t : ℕ) → first_from n test t ≡ None → (b : ℕ) → t ≤ b → b < t + n
    → test b ≡ false
unfolding first_from
none_found zero test t e b low high = absurd (omega arith)
none_found (suc n) test t e b low high =
    elim (cases_Bool (test t)) [
      | inl hit ↦ let at : Some t ≡ None = sym (rw hit refl) ∙ e in cc
      | inr miss ↦
          let rest : first_from n test (t + 1) ≡ None = sym (rw miss refl) ∙ e in
          elim (cases_eq t b) [
            | inl same ↦ ap test (sym same)
                ∙ miss
            | inr other ↦ none_found n test (t + 1) rest b (omega arith) (omega arith)
          ]
    ]

-- a number that passes is not before the first one
reached : (n : ℕ) (test : ℕ → Bool) (t a : ℕ) → t ≤ a → a < t + n → test a ≡ true
    → (b : ℕ) × (first_from n test t ≡ Some b) × (b ≤ a)
unfolding first_from
reached zero test t a low high e = absurd (omega arith)
reached (suc n) test t a low high e =
    elim (cases_Bool (test t)) [
      | inl hit ↦ (t, rw hit refl, low)
      | inr miss ↦ elim (cases_eq t a) [
        | inl same ↦ let got : test t ≡ true = ap test same ∙ e in cc
        | inr other ↦
            let r = reached n test (t + 1) a (omega arith) (omega arith) e in
            (r.0, rw miss r.1, r.2)
      ]
    ]

-- the bound, by the first alert
bounded_at : (most d : ℕ) (alert : Option ℕ) → (b : ℕ) × (alert ≡ Some b) × (b ≤ d + most)
    → Bounded most (Some d) alert
bounded_at most d None r = let e = r.1 in cc
bounded_at most d (Some a) r = let e = r.1 in let same : a ≡ r.0 = cc in omega (arith, r.2)

-- each difference has an alert at most so many cycles later
abbrev pub Answered : ℕ → (ℕ → Bool) → (ℕ → Bool) → Type 0
Answered most differs alarms = (d : ℕ) → differs d ≡ true → (a : ℕ) × (a ≤ d + most) × (alarms a ≡ true)

-- the bound, by the first difference
bounded_by : (most cycles window : ℕ) → cycles + most ≤ window → (differs alarms : ℕ → Bool)
    → Answered most differs alarms → (diff : Option ℕ) → first_from cycles differs 0 ≡ diff
    → Bounded most diff (first_from window alarms 0)
bounded_by most cycles window long differs alarms h None e = tt
bounded_by most cycles window long differs alarms h (Some d) e =
    let f = found cycles differs 0 d e in
    let x = h d f.passes in
    let r = reached window alarms 0 x.0 (omega arith) (omega (arith, f.inside, x.1)) x.2 in
    bounded_at most d (first_from window alarms 0) (r.0, r.1, omega (arith, r.2, x.1))

-- where each difference has its alert, the first alert is in time
pub bounded : (most cycles window : ℕ) → cycles + most ≤ window → (differs alarms : ℕ → Bool)
    → Answered most differs alarms → Bounded most (first_from cycles differs 0) (first_from window alarms 0)
bounded most cycles window long differs alarms h =
    bounded_by most cycles window long differs alarms h (first_from cycles differs 0) refl
