-- Every site.
use Rattle.std.proofs.Common.{◌≡◌, ℕ, suc, ◌+◌, ◌-◌, ◌≤◌, ◌<◌, Bool, true, false, Option, Some, None, inl, inr, refl}
use Rattle.std.proofs.Common.{ap, subst, sym, ◌∙◌, arith}
use Rattle.std.specs.Prelude.{◌&&◌, nat_le}
use Rattle.std.proofs.lemmas.Bool.{cases_lt, and_parts, leb-true, le-leb, not_from_true}
use Rattle.ibx_system.specs.Core.{Parts, CoreLaws}
use Rattle.ibx_system.specs.System.{Whole}
use Rattle.ibx_plan.specs.declared.site.Site.{Site}
use Rattle.ibx_plan.specs.declared.site.Site.TheVariants as site
use Rattle.ibx_plan.specs.declared.site.Flip.{Flip}
use Rattle.ibx_system.specs.Flips.{Fits}
use Rattle.ibx_flips.specs.Flips.{is_side, is_word, Noticed, ReplacementNoticed, ToldByUse, Unseen}
use Rattle.ibx_system.specs.Runs.{IsFirst}
use Rattle.ibx_system.specs.Flips.{flip}
use Rattle.ibx_flips.specs.Flips.{AgreesTo, differs, alarms, first_use, first_from, uses, uses_from}
use Rattle.ibx_system.specs.Runs.{run}
use Rattle.ibx_flips.specs.Flips.{marks_from, spot_of, marks_of}
use Rattle.ibx_flips.proofs.Searches.{found, none_found}
use Rattle.ibx_system.proofs.Runs.{kept_run}
use Rattle.ibx_flips.proofs.Runs.{noticed_by, noticed_from, noticed_where, same_ahead, differs_behind}
use Rattle.ibx_flips.proofs.Runs.{alarms_behind}
use Rattle.ibx_system.proofs.Follows.{Follows, follows_first, follows_next}
use Rattle.ibx_flips.proofs.Mains.{Mains, mains_keep, mains_start, replaced_start, Sides, sides_agree, sides_keep}
use Rattle.ibx_flips.proofs.Mains.{shadow_start, delay_start}
use Rattle.ibx_system.proofs.Codewords.{Ready, ready_next}
use Rattle.ibx_flips.proofs.Words.{Words, goes, told, follow, reg_start, tag_start, line_start, mem_start}
use Rattle.ibx_flips.proofs.Words.{output_start, answer_start}

module _ {S : Type 0} (p : Parts S) (laws : CoreLaws p) where
  -- at the flip every word is a codeword, and the place is there
  ready_at : (x : Site) (n : ℕ) (w : Whole S) → IsFirst p w → Fits x w.place → Ready p laws x (run p w None n)
  ready_at x n w i fits =
      kept_run p (Ready p laws x) (ready_next p laws x) n w (record { words = i.words; inside = fits })

  -- the flip of a word, by its site
  word_start : (x : Site) (w : Whole S) → is_word x ≡ true → Ready p laws x w
      → Words p laws (spot_of x) (marks_of x) w (flip p x w)
  word_start (site.Main field bit) w e r = cc
  word_start (site.Shadow field bit) w e r = cc
  word_start (site.Delay slot wire bit) w e r = cc
  word_start (site.Reg n bit) w e r = reg_start p laws n bit w r
  word_start (site.Tag set way bit) w e r = tag_start p laws set way bit w r
  word_start (site.Line set way half bit) w e r = line_start p laws set way half bit w r
  word_start (site.Output wire bit) w e r = output_start p laws wire bit w r
  word_start (site.Answer port bit) w e r = answer_start p laws port bit w r
  word_start (site.Mem word bit) w e r = mem_start p laws word bit w r

  module _ (w : Whole S) (f : Flip) (first : IsFirst p w)
      (start : Words p laws (spot_of f.site) (marks_of f.site) (run p w None f.cycle)
      (flip p f.site (run p w None f.cycle))) where
    -- the run up to the flip, and the uses from there on
    abbrev clean : Whole S
    clean = run p w None f.cycle

    -- whether the word is used, n cycles after the flip
    abbrev uses_at : ℕ → Bool
    uses_at n = uses_from p (spot_of f.site) (marks_of f.site) clean n

    -- the uses of the run are these, behind the flip
    uses_behind : (n : ℕ) → uses p w f (f.cycle + n) ≡ uses_at n
    uses_behind n =
        let after : nat_le f.cycle (f.cycle + n) ≡ true = le-leb f.cycle (f.cycle + n) (omega arith) in
        let left : f.cycle + n - f.cycle ≡ n = omega arith in
        ap (λ (b : Bool). b && uses_at (f.cycle + n - f.cycle)) after ∙ ap uses_at left

    -- no use in the first n cycles from the flip on
    abbrev Quiet : ℕ → Type 0
    Quiet n = (b : ℕ) → b < n → uses_at b ≡ false

    -- the bus is the same in a cycle up to which nothing uses the word
    same_at : (n : ℕ) → Quiet (suc n) → differs p w f (f.cycle + n) ≡ false
    same_at n quiet =
        let r = follow p laws n (spot_of f.site) (marks_of f.site) clean (flip p f.site clean) start
        (λ b lt. quiet b (omega arith)) in
        let g = goes p laws (spot_of f.site) (marks_from p (spot_of f.site) (marks_of f.site) clean n)
        (run p clean None n) (run p (flip p f.site clean) None n) r (quiet n (omega arith)) in
        differs_behind p f n w first.cycle ∙ not_from_true _ g.bus

    -- the first use is told in its cycle
    told_at : (n : ℕ) → Quiet n → uses_at n ≡ true → alarms p w f (f.cycle + n) ≡ true
    told_at n quiet used =
        let r = follow p laws n (spot_of f.site) (marks_of f.site) clean (flip p f.site clean) start quiet in
        alarms_behind p f n w first.cycle
        ∙ told p laws (spot_of f.site) (marks_from p (spot_of f.site) (marks_of f.site) clean n)
        (run p clean None n) (run p (flip p f.site clean) None n) r used

    -- no use in the run's first cycles, by the cycles of the flip
    quiet_to : (n : ℕ) → ((b : ℕ) → b < f.cycle + n → uses p w f b ≡ false) → Quiet n
    quiet_to n h b lt = sym (uses_behind b) ∙ h (f.cycle + b) (omega arith)

    -- before the first use the bus is the same
    same_before : (n : ℕ) → ((b : ℕ) → b < suc n → uses p w f b ≡ false) → differs p w f n ≡ false
    same_before n h =
        elim (cases_lt n f.cycle) [
          | inl early ↦ same_ahead p f n w first.cycle early
          | inr late ↦
              let j = n - f.cycle in
              let is : f.cycle + j ≡ n = omega arith in
              subst (λ k. differs p w f k ≡ false) is (same_at j (quiet_to (suc j) (λ b lt. h b (omega arith))))
        ]

    -- by the first use
    agrees_by : (cycles : ℕ) (u : Option ℕ) → first_from cycles (uses p w f) 0 ≡ u → AgreesTo p w f cycles u
    agrees_by cycles None e =
        λ n lt. same_before n (λ b small. none_found cycles (uses p w f) 0 e b (omega arith) (omega arith))
    agrees_by cycles (Some u) e =
        let x = found cycles (uses p w f) 0 u e in
        let after : f.cycle ≤ u = leb-true f.cycle u (and_parts _ _ x.passes).0 in
        let j = u - f.cycle in
        let is : f.cycle + j ≡ u = omega arith in
        let used : uses_at j ≡ true = sym (uses_behind j) ∙ subst (λ k. uses p w f k ≡ true) (sym is) x.passes in (
          λ n lt. same_before n (λ b small. x.least b (omega arith) (omega arith)),
          subst (λ k. alarms p w f k ≡ true) is
              (told_at j (quiet_to j (λ b small. x.least b (omega arith) (omega arith))) used),
        )

    -- so both runs agree up to the first use
    agrees : (cycles : ℕ) → AgreesTo p w f cycles (first_use p w f cycles)
    agrees cycles = agrees_by cycles (first_use p w f cycles) refl

    -- the bound, by the first use
    answer_by : (d : ℕ) → differs p w f d ≡ true → (u : Option ℕ) → first_from (suc d) (uses p w f) 0 ≡ u
        → AgreesTo p w f (suc d) u → (a : ℕ) × (a ≤ d + (w.delay + 1)) × (alarms p w f a ≡ true)
    answer_by d h None e a = let no_difference = a d (omega arith) in cc
    answer_by d h (Some u) e a = let x = found (suc d) (uses p w f) 0 u e in (u, omega (arith, x.inside), a.1)

    -- the flip of a word is noticed
    words_noticed : (cycles : ℕ) → Noticed p w f cycles
    words_noticed cycles =
        noticed_where p f w
        (λ d h. answer_by d h (first_from (suc d) (uses p w f) 0) refl
        (agrees_by (suc d) (first_from (suc d) (uses p w f) 0) refl)) cycles

  -- the flip of a word is told by its first use, and changes nothing before it
  pub told_by_use : (w : Whole S) (f : Flip) (cycles : ℕ) → IsFirst p w → Fits f.site w.place → ToldByUse p w f cycles
  told_by_use w f cycles i fits word =
      agrees w f i (word_start f.site (run p w None f.cycle) word (ready_at f.site f.cycle w i fits)) cycles

  -- the flip of a word is noticed, and one in the shadow, the delayed pairs or the age
  word_noticed : (w : Whole S) (f : Flip) (cycles : ℕ) → IsFirst p w → Fits f.site w.place → is_word f.site ≡ true
      → Noticed p w f cycles
  word_noticed w f cycles i fits word =
      words_noticed w f i (word_start f.site (run p w None f.cycle) word (ready_at f.site f.cycle w i fits)) cycles

  -- the flip of a site that nothing but the comparator reads
  side_noticed : (w : Whole S) (f : Flip) (cycles : ℕ) → IsFirst p w
      → Sides p laws (run p w None f.cycle) (flip p f.site (run p w None f.cycle)) → Noticed p w f cycles
  side_noticed w f cycles i start =
      noticed_by p f w i.cycle (Sides p laws) (sides_keep p laws (w.delay + 1)) start cycles

  -- in a run without a flip the shadow follows main
  follows_at : (n : ℕ) (w : Whole S) → IsFirst p w → Follows p laws w.delay (run p w None n)
  follows_at n w i = kept_run p (Follows p laws w.delay) (follows_next p laws w.delay) n w (follows_first p laws w i)

  -- by the site
  at_site : (x : Site) (c : ℕ) (w : Whole S) (cycles : ℕ) → IsFirst p w → Fits x w.place
      → Noticed p w (record { cycle = c; site = x }) cycles
  at_site (site.Main field bit) c w n i fits =
      noticed_by p (record { cycle = c; site = site.Main field bit }) w i.cycle (Mains p laws w.delay)
      (mains_keep p laws w.delay) (mains_start p laws w.delay field bit (run p w None c) (follows_at c w i)) n
  at_site (site.Shadow field bit) c w n i fits =
      side_noticed w (record { cycle = c; site = site.Shadow field bit }) n i
      (shadow_start p laws field bit (run p w None c))
  at_site (site.Delay slot wire bit) c w n i fits =
      side_noticed w (record { cycle = c; site = site.Delay slot wire bit }) n i
      (delay_start p laws slot wire bit (run p w None c))
  at_site (site.Reg k bit) c w n i fits = word_noticed w (record { cycle = c; site = site.Reg k bit }) n i fits refl
  at_site (site.Tag set way bit) c w n i fits =
      word_noticed w (record { cycle = c; site = site.Tag set way bit }) n i fits refl
  at_site (site.Line set way half bit) c w n i fits =
      word_noticed w (record { cycle = c; site = site.Line set way half bit }) n i fits refl
  at_site (site.Output wire bit) c w n i fits =
      word_noticed w (record { cycle = c; site = site.Output wire bit }) n i fits refl
  at_site (site.Answer port bit) c w n i fits =
      word_noticed w (record { cycle = c; site = site.Answer port bit }) n i fits refl
  at_site (site.Mem word bit) c w n i fits =
      word_noticed w (record { cycle = c; site = site.Mem word bit }) n i fits refl

  -- any single flip is noticed
  pub noticed : (w : Whole S) (f : Flip) (cycles : ℕ) → IsFirst p w → Fits f.site w.place → Noticed p w f cycles
  noticed w f cycles i fits = at_site f.site f.cycle w cycles i fits

  -- any other core in main's place is noticed
  pub replacement_noticed : (w : Whole S) (cycle : ℕ) (other : S) (cycles : ℕ) → IsFirst p w
      → ReplacementNoticed p w cycle other cycles
  replacement_noticed w cycle other cycles i =
      let clean = run p w None cycle in
      noticed_from p (w.delay + 1) (Mains p laws w.delay) (mains_keep p laws w.delay) clean
      (record clean { main = other }) (replaced_start p laws w.delay clean other (follows_at cycle w i)) cycles
      (cycles + w.delay + 1) (omega arith)

  -- the flip of a site beside main and its words leaves the main and the words
  side_start : (x : Site) (w : Whole S) → is_side x ≡ true → Sides p laws w (flip p x w)
  side_start (site.Shadow field bit) w e = shadow_start p laws field bit w
  side_start (site.Delay slot wire bit) w e = delay_start p laws slot wire bit w
  side_start (site.Main field bit) w e = cc
  side_start (site.Reg n bit) w e = cc
  side_start (site.Tag set way bit) w e = cc
  side_start (site.Line set way half bit) w e = cc
  side_start (site.Output wire bit) w e = cc
  side_start (site.Answer port bit) w e = cc
  side_start (site.Mem word bit) w e = cc

  -- it never changes the bus
  pub unseen : (w : Whole S) (f : Flip) → IsFirst p w → Unseen p w f
  unseen w f i side n =
      elim (cases_lt n f.cycle) [
        | inl early ↦ same_ahead p f n w i.cycle early
        | inr late ↦
            let j = n - f.cycle in
            let is : f.cycle + j ≡ n = omega arith in
            let clean = run p w None f.cycle in
            subst (λ k. differs p w f k ≡ false) is
            (differs_behind p f j w i.cycle
            ∙ sides_agree p laws j clean (flip p f.site clean) (side_start f.site clean side))
      ]
