-- Runs before and after the flip, and what they keep.
use Rattle.std.proofs.Common.{Option, ◌≡◌, ◌≢◌, ◌⊎◌, ℕ, zero, suc, ◌+◌, ◌-◌, ◌≤◌, ◌<◌, Bool, true, false, not, Some}
use Rattle.std.proofs.Common.{None, inl, inr, refl, ap, subst, sym, ◌∙◌, arith}
use Rattle.std.specs.Prelude.{◌==◌, if◌then◌else◌}
use Rattle.std.proofs.lemmas.Bool.{cases_lt, ne_eqb, eq-eqb, not-true, not_from_true}
use Rattle.ibx_system.specs.Core.{Parts}
use Rattle.ibx_system.specs.System.{Whole, Place, next, settle, output_of, same_bus, alarm}
use Rattle.ibx_plan.specs.declared.site.Site.{Site}
use Rattle.ibx_plan.specs.declared.site.Site.TheVariants as site
use Rattle.ibx_plan.specs.declared.site.Flip.{Flip}
use Rattle.ibx_system.specs.Flips.{delay_flip, flip, place_flip}
use Rattle.ibx_system.specs.Runs.{made, run, before_step}
use Rattle.ibx_system.proofs.Compare.{same_bus-refl}

module _ {S : Type 0} (p : Parts S) where
  -- a step counts one cycle, and a flip counts none
  cycle_after : (w : Whole S) → (next p w).place.cycle ≡ w.place.cycle + 1
  unfolding next settle
  cycle_after w = refl

  -- so does a flip of an answer, by its port
  answer_cycle : (b : Bool) (e f g : Place) → f.cycle ≡ e.cycle → g.cycle ≡ e.cycle
      → (if b then f else g).cycle ≡ e.cycle
  answer_cycle true e f g x y = x
  answer_cycle false e f g x y = y

  -- and one of a delayed wire, of the age or of the kept finding
  delay_cycle : (age told : Bool) (slot wire bit : ℕ) (w : Whole S)
      → (delay_flip p age told slot wire bit w).place.cycle ≡ w.place.cycle
  delay_cycle true told slot wire bit w = refl
  delay_cycle false true slot wire bit w = refl
  delay_cycle false false slot wire bit w = refl

  -- and so each flip
  pub cycle_flipped : (x : Site) (w : Whole S) → (flip p x w).place.cycle ≡ w.place.cycle
  unfolding flip place_flip
  cycle_flipped (site.Main field bit) w = refl
  cycle_flipped (site.Shadow field bit) w = refl
  cycle_flipped (site.Delay slot wire bit) w = delay_cycle (wire == 36) (wire == 37) slot wire bit w
  cycle_flipped (site.Reg n bit) w = refl
  cycle_flipped (site.Tag set way bit) w = refl
  cycle_flipped (site.Line set way half bit) w = refl
  cycle_flipped (site.Output wire bit) w = refl
  cycle_flipped (site.Answer port bit) w = answer_cycle (port == 0) w.place _ _ refl refl
  cycle_flipped (site.Mem word bit) w = refl

  -- a flip is made in its own cycle alone
  unmade : (f : Flip) (w : Whole S) → w.place.cycle ≢ f.cycle → made p (Some f) w ≡ w
  unmade f w ne = rw (ne_eqb w.place.cycle f.cycle ne) refl

  -- in its cycle it is made
  now_made : (f : Flip) (w : Whole S) → w.place.cycle ≡ f.cycle → made p (Some f) w ≡ flip p f.site w
  now_made f w e = rw (eq-eqb w.place.cycle f.cycle e) refl

  -- after its cycle the flip isn't made again
  past : (f : Flip) (n : ℕ) (w : Whole S) → f.cycle < w.place.cycle → before_step p w (Some f) n ≡ run p w None n
  unfolding run
  past f zero w late = unmade f w (λ e. omega arith)
  past f (suc n) w late =
      ap (λ (v : Whole S). before_step p (next p v) (Some f) n) (unmade f w (λ e. omega arith))
      ∙ past f n (next p w) (omega (arith, cycle_after w))

  -- from the cycle of the flip on, the run is that of the flipped system
  flipped_now : (f : Flip) (n : ℕ) (w : Whole S) → w.place.cycle ≡ f.cycle
      → before_step p w (Some f) n ≡ run p (flip p f.site w) None n
  unfolding run
  flipped_now f zero w e = now_made f w e
  flipped_now f (suc n) w e =
      ap (λ (v : Whole S). before_step p (next p v) (Some f) n) (now_made f w e)
      ∙ past f n (next p (flip p f.site w)) (omega (arith, cycle_after (flip p f.site w), cycle_flipped f.site w))

  -- the run with the flip, c steps before it and from it on
  pub ahead : (f : Flip) (n c : ℕ) (w : Whole S) → w.place.cycle + c ≡ f.cycle → n < c
      → before_step p w (Some f) n ≡ run p w None n
  unfolding run
  ahead f zero c w e lt = unmade f w (λ h. omega arith)
  ahead f (suc n) c w e lt =
      ap (λ (v : Whole S). before_step p (next p v) (Some f) n) (unmade f w (λ h. omega arith))
      ∙ ahead f n (c - 1) (next p w) (omega (arith, cycle_after w)) (omega arith)

  -- from the flip on
  pub behind : (f : Flip) (c n : ℕ) (w : Whole S) → w.place.cycle + c ≡ f.cycle
      → before_step p w (Some f) (c + n) ≡ run p (flip p f.site (run p w None c)) None n
  unfolding run
  behind f zero n w e =
      subst (λ k. before_step p w (Some f) k ≡ run p (flip p f.site w) None n) (let k : n ≡ zero + n = omega arith in
      k) (flipped_now f n w (omega arith))
  behind f (suc c) n w e =
      subst (λ k. before_step p w (Some f) k ≡ run p (flip p f.site (run p (next p w) None c)) None n)
      (let k : suc (c + n) ≡ suc c + n = omega arith in k)
      (ap (λ (v : Whole S). before_step p (next p v) (Some f) (c + n)) (unmade f w (λ h. omega arith))
      ∙ behind f c n (next p w) (omega (arith, cycle_after w)))

  -- a run without a flip, in two parts
  pub cleanly : (c n : ℕ) (w : Whole S) → run p w None (c + n) ≡ run p (run p w None c) None n
  unfolding run
  cleanly zero n w = subst (λ k. run p w None k ≡ run p w None n) (let k : n ≡ zero + n = omega arith in k) refl
  cleanly (suc c) n w =
      subst (λ k. run p w None k ≡ run p (run p (next p w) None c) None n) (let k : suc (c + n) ≡ suc c + n =
      omega arith in k) (cleanly c n (next p w))

  -- what each step keeps, a run keeps
  pub kept_run : (I : Whole S → Type 0) → ((w : Whole S) → I w → I (next p w)) → (n : ℕ) (w : Whole S) → I w
      → I (run p w None n)
  unfolding run
  kept_run I h zero w i = i
  kept_run I h (suc n) w i = kept_run I h n (next p w) (h w i)

  -- a run by its last step, and its cycle
  pub run_more : (f : Option Flip) (n : ℕ) (w : Whole S) → run p w f (suc n) ≡ next p (made p f (run p w f n))
  unfolding run
  run_more f zero w = refl
  run_more f (suc n) w = run_more f n (next p (made p f w))

  -- making the flip counts no cycle
  made_by : (b : Bool) (f : Flip) (w : Whole S) → (if b then flip p f.site w else w).place.cycle ≡ w.place.cycle
  made_by true f w = cycle_flipped f.site w
  made_by false f w = refl

  -- a flip that may be made counts no cycle
  cycle_made : (f : Option Flip) (w : Whole S) → (made p f w).place.cycle ≡ w.place.cycle
  cycle_made None w = refl
  cycle_made (Some f) w = made_by (w.place.cycle == f.cycle) f w

  -- a run counts its steps
  pub cycle_run : (f : Option Flip) (n : ℕ) (w : Whole S) → (run p w f n).place.cycle ≡ w.place.cycle + n
  unfolding run
  cycle_run f zero w = omega arith
  cycle_run f (suc n) w = omega (arith, cycle_run f n (next p (made p f w)), cycle_after (made p f w), cycle_made f w)
