-- Runs before and after the flip; from a relation that a step keeps, or else an alert soon, to the bound.
use Rattle.std.proofs.Common.{Option, ◌≡◌, ◌≢◌, ◌⊎◌, ℕ, zero, suc, ◌+◌, ◌-◌, ◌≤◌, ◌<◌, Bool, true, false, not, Some}
use Rattle.std.proofs.Common.{None, inl, inr, refl, ap, subst, sym, ◌∙◌, arith}
use Rattle.std.specs.Prelude.{◌==◌, if◌then◌else◌}
use Rattle.std.proofs.lemmas.Bool.{cases_lt, ne_eqb, eq-eqb, not-true, not_from_true}
use Rattle.ibx_system.specs.Core.{Parts}
use Rattle.ibx_system.specs.System.{Whole, Place, next, settle, output_of, same_bus, alarm}
use Rattle.ibx_plan.specs.declared.site.Site.{Site}
use Rattle.ibx_plan.specs.declared.site.Site.TheVariants as site
use Rattle.ibx_plan.specs.declared.site.Flip.{Flip}
use Rattle.ibx_system.specs.Flips.{delay_flip, flip, place_flip}
use Rattle.ibx_flips.specs.Flips.{Bounded, Noticed, parted}
use Rattle.ibx_system.specs.Runs.{made, run, before_step}
use Rattle.ibx_flips.specs.Flips.{differs, alarms, first_from}
use Rattle.ibx_system.proofs.Compare.{same_bus-refl}
use Rattle.ibx_system.proofs.Runs.{ahead, behind, cleanly}
use Rattle.ibx_flips.proofs.Searches.{Answered, bounded}

module _ {S : Type 0} (p : Parts S) where
  -- ---- a relation between two runs

  -- an alert in this cycle or one of so many next ones
  abbrev pub Soon : ℕ → Whole S → Type 0
  Soon most v = (a : ℕ) × (a ≤ most) × (alarm p (run p v None a) ≡ true)

  -- the bus is the same in this cycle, and the relation holds after it
  pub record Goes (R : Whole S → Whole S → Type 0) (w v : Whole S) : Type 0 where
    -- in this cycle the bus can't tell the two systems apart
    pub bus : same_bus (output_of p w) (output_of p v) ≡ true
    -- a step of each leads to related systems again
    pub after : R (next p w) (next p v)

  -- a step keeps the relation with the bus the same, or an alert comes soon
  abbrev pub Keeps : ℕ → (Whole S → Whole S → Type 0) → Type 0
  Keeps most R = (w v : Whole S) → R w v → Goes R w v ⊎ Soon most v

  -- under such a relation a difference of the bus has an alert at most so many cycles later
  pub reach : (most : ℕ) (R : Whole S → Whole S → Type 0) → Keeps most R → (n : ℕ) (w v : Whole S) → R w v
      → not (same_bus (output_of p (run p w None n)) (output_of p (run p v None n))) ≡ true
      → (a : ℕ) × (a ≤ n + most) × (alarm p (run p v None a) ≡ true)
  unfolding run
  reach most R keeps zero w v r e =
      elim (keeps w v r) [
        | inl g ↦ let same = g.bus in let other = not-true (same_bus (output_of p w) (output_of p v)) e in cc
        | inr s ↦ (s.0, omega (arith, s.1), s.2)
      ]
  reach most R keeps (suc n) w v r e =
      elim (keeps w v r) [
        | inl g ↦ let x = reach most R keeps n (next p w) (next p v) g.after e in (suc x.0, omega (arith, x.1), x.2)
        | inr s ↦ (s.0, omega (arith, s.1), s.2)
      ]

  -- before the flip nothing differs
  pub same_ahead : (f : Flip) (n : ℕ) (w : Whole S) → w.place.cycle ≡ 0 → n < f.cycle → differs p w f n ≡ false
  same_ahead f n w e lt =
      subst (λ (v : Whole S). not (same_bus (output_of p (run p w None n)) (output_of p v)) ≡ false)
      (sym (ahead p f n f.cycle w (omega arith) lt))
      (not_from_true (same_bus (output_of p (run p w None n)) (output_of p (run p w None n)))
      (same_bus-refl (output_of p (run p w None n))))

  -- from the flip on, by the two runs that begin there
  pub differs_behind : (f : Flip) (n : ℕ) (w : Whole S) → w.place.cycle ≡ 0
      → differs p w f (f.cycle + n)
      ≡ not (same_bus (output_of p (run p (run p w None f.cycle) None n))
      (output_of p (run p (flip p f.site (run p w None f.cycle)) None n)))
  differs_behind f n w e =
      let clean = cleanly p f.cycle n w in
      let faulty = behind p f f.cycle n w (omega arith) in
      λ t. not (same_bus (output_of p (clean t)) (output_of p (faulty t)))

  -- so are the alerts
  pub alarms_behind : (f : Flip) (n : ℕ) (w : Whole S) → w.place.cycle ≡ 0
      → alarms p w f (f.cycle + n) ≡ alarm p (run p (flip p f.site (run p w None f.cycle)) None n)
  alarms_behind f n w e = ap (alarm p) (behind p f f.cycle n w (omega arith))

  -- each difference has its alert, where such a relation holds at the flip
  answered : (most : ℕ) (f : Flip) (w : Whole S) → w.place.cycle ≡ 0 → (R : Whole S → Whole S → Type 0)
      → Keeps most R → R (run p w None f.cycle) (flip p f.site (run p w None f.cycle))
      → Answered most (differs p w f) (alarms p w f)
  answered most f w e R keeps r d h =
      elim (cases_lt d f.cycle) [
        | inl early ↦ let no_difference = same_ahead f d w e early in cc
        | inr late ↦
            let n = d - f.cycle in
            let is : f.cycle + n ≡ d = omega arith in
            let there = subst (λ k. differs p w f k ≡ true) (sym is) h in
            let x = reach most R keeps n (run p w None f.cycle) (flip p f.site (run p w None f.cycle)) r
            (sym (differs_behind f n w e) ∙ there) in
            (f.cycle + x.0, omega (arith, x.1), alarms_behind f x.0 w e ∙ x.2)
      ]

  -- two runs without a flip, under such a relation
  pub noticed_from : (most : ℕ) (R : Whole S → Whole S → Type 0) → Keeps most R → (w v : Whole S) → R w v
      → (cycles window : ℕ) → cycles + most ≤ window
      → Bounded most (first_from cycles (parted p w v) 0) (first_from window (λ n. alarm p (run p v None n)) 0)
  noticed_from most R keeps w v r cycles window long =
      bounded most cycles window long (parted p w v) (λ n. alarm p (run p v None n))
      (λ d h. reach most R keeps d w v r h)

  -- where each difference has its alert in time, the flip is noticed
  pub noticed_where : (f : Flip) (w : Whole S) → Answered (w.delay + 1) (differs p w f) (alarms p w f)
      → (cycles : ℕ) → Noticed p w f cycles
  noticed_where f w h cycles =
      bounded (w.delay + 1) cycles (cycles + w.delay + 1) (omega arith) (differs p w f) (alarms p w f) h

  -- and so it is under such a relation
  pub noticed_by : (f : Flip) (w : Whole S) → w.place.cycle ≡ 0 → (R : Whole S → Whole S → Type 0)
      → Keeps (w.delay + 1) R → R (run p w None f.cycle) (flip p f.site (run p w None f.cycle))
      → (cycles : ℕ) → Noticed p w f cycles
  noticed_by f w e R keeps r cycles = noticed_where f w (answered (w.delay + 1) f w e R keeps r) cycles
