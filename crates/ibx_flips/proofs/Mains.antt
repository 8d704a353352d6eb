-- Another core in main's place: the runs agree until main's compared wires differ, and this is told the delay plus one
-- cycles later.
use Rattle.std.proofs.Common.{Bool, true, false, ◌≡◌, ◌⊎◌, ℕ, zero, suc, ◌+◌, ◌-◌, ◌≤◌, [], inl, inr, refl, ap, subst}
use Rattle.std.proofs.Common.{sym, ◌∙◌, arith}
use Rattle.std.specs.Prelude.{◌==◌}
use Rattle.std.proofs.lemmas.Bool.{cases_Bool, not_from_true}
use Rattle.ibx_core.specs.Wires.{InWires as In, OutWires as Out, agree}
use Rattle.ibx_core.specs.Core.{reads_in}
use Rattle.ibx_system.specs.Core.{Parts, CoreLaws}
use Rattle.ibx_system.specs.System.{Whole, Place, next, settle, output_of, same_bus, look, output}
use Rattle.ibx_system.specs.System.{input, with_grants, shown, changed}
use Rattle.ibx_plan.specs.declared.site.Site.TheVariants as site
use Rattle.ibx_system.specs.Flips.{delay_flip, flip}
use Rattle.ibx_flips.specs.Flips.{parted}
use Rattle.ibx_system.specs.Runs.{run}
use Rattle.ibx_system.proofs.Compare.{same_compared, same_bus-refl, same_bus_agreed}
use Rattle.ibx_flips.proofs.Runs.{Keeps, Goes, Soon}
use Rattle.ibx_system.proofs.Follows.{Awaits, Follows, given, joined, nearer, told_after}

module _ {S : Type 0} (p : Parts S) (laws : CoreLaws p) where
  -- ---- what the wires alone decide

  -- outputs that agree leave the same words
  settled : (e : Place) (a b : Out) → agree a b ≡ true → settle p e a ≡ settle p e b
  unfolding settle
  settled e a b h = ap (λ (o : Out). settle p e o) (same_compared a b h)

  -- cores whose outputs agree read the same
  reads_agree : (r s : S) (i j : In) → agree (p.gives r i) (p.gives s j) ≡ true → p.reads r ≡ p.reads s
  reads_agree r s i j h = sym (laws.reading r i) ∙ ap reads_in (same_compared (p.gives r i) (p.gives s j) h)
      ∙ laws.reading s j

  -- so they are shown the same
  looks_agree : (e : Place) (r s : S) (i j : In) → agree (p.gives r i) (p.gives s j) ≡ true → look p e r ≡ look p e s
  looks_agree e r s i j h = ap (λ x. changed e.pending (shown e x)) (reads_agree r s i j h)

  -- and with the grants too
  inputs_agree : (e : Place) (r s : S) → agree (output p e r) (output p e s) ≡ true → input p e r ≡ input p e s
  inputs_agree e r s h =
      let same = looks_agree e r s (look p e r) (look p e s) h in
      let wires = same_compared (output p e r) (output p e s) h in
      λ t. with_grants p e (wires t) (same t)

  -- where two cores' outputs differ, that of the first for the second's input differs from the second's too
  still_differs : (e : Place) (r s : S) → agree (output p e r) (output p e s) ≡ false
      → agree (p.gives r (input p e s)) (output p e s) ≡ false
  still_differs e r s h =
      elim (cases_Bool (agree (p.gives r (input p e s)) (output p e s))) [
        | inl alike ↦
            let same : look p e r ≡ look p e s = looks_agree e r s (input p e s) (look p e s) alike in
            let out : p.gives r (input p e s) ≡ output p e r =
            laws.ungranted r (look p e s) (input p e s).igrant (input p e s).dgrant ∙ ap (p.gives r) (sym same) in
            let again : agree (output p e r) (output p e s) ≡ true =
            ap (λ (o : Out). agree o (output p e s)) (sym out) ∙ alike in
            cc
        | inr apart ↦ apart
      ]

  -- ---- the relation

  -- the second system has the same words, and its shadow comes to the first system's main by the pairs that wait: its
  -- own main may be any core
  pub record Mains (d : ℕ) (w v : Whole S) : Type 0 where
    -- the same words
    pub place : w.place ≡ v.place
    -- the second system's shadow is d cycles behind
    pub behind : v.delay ≡ d
    -- at least one
    pub some : 1 ≤ d
    -- by d pairs it becomes what the first system's main is
    pub comes : Awaits p laws w.main d [] v

  -- the same where the pairs that wait are counted down to the next step
  one_less : (d : ℕ) (w v : Whole S) → Mains d w v → Awaits p laws w.main (suc (d - 1)) [] v
  one_less d w v r =
      let e : d ≡ suc (d - 1) = omega (arith, r.some) in subst (λ n. Awaits p laws w.main n [] v) e r.comes

  -- a difference of the mains is told d + 1 cycles later
  told_later : (d : ℕ) (w v : Whole S) → Mains d w v
      → agree (output p v.place w.main) (output p v.place v.main) ≡ false → Soon p (d + 1) v
  unfolding run
  told_later d w v r h = (
    suc (suc (d - 1)),
    omega (arith, r.some),
    told_after p laws (d - 1) w.main (input p v.place v.main) (output p v.place v.main) [] (next p v)
        (nearer p laws w.main (d - 1) [] v (one_less d w v r)) (still_differs v.place w.main v.main h),
  )

  -- where the outputs agree, the bus is the same and the relation goes on
  goes_on : (d : ℕ) (w v : Whole S) → Mains d w v
      → agree (output p v.place w.main) (output p v.place v.main) ≡ true → Goes p (Mains d) w v
  unfolding next
  goes_on d w v r h =
      let i : In = input p v.place v.main in
      let o : Out = output p v.place v.main in
      let same : input p v.place w.main ≡ i = inputs_agree v.place w.main v.main h in
      let own : p.gives w.main i ≡ output p v.place w.main =
      ap (p.gives w.main) (sym same) ∙ given p laws v.place w.main in
      let agrees : agree (p.gives w.main i) o ≡ true = ap (λ (x : Out). agree x o) own ∙ h in
      let e : suc (d - 1) ≡ d = omega (arith, r.some) in
      let here : input p w.place w.main ≡ i = ap (λ (q : Place). input p q w.main) r.place ∙ same in
      let more : Awaits p laws (p.leaves w.main i) d [] (next p v) =
      subst (λ n. Awaits p laws (p.leaves w.main i) n [] (next p v)) e
      (joined p laws w.main (d - 1) i o (next p v)
      (nearer p laws w.main (d - 1) [] v (one_less d w v r)) agrees) in
      record {
        bus = subst (λ (q : Place). same_bus (output p q w.main) o ≡ true) (sym r.place)
            (same_bus_agreed (output p v.place w.main) o h);
        after = record {
          place = ap (λ (q : Place). settle p q (output p q w.main)) r.place
              ∙ settled v.place (output p v.place w.main) o h;
          behind = r.behind;
          some = r.some;
          comes = subst (λ (x : In). Awaits p laws (p.leaves w.main x) d [] (next p v)) (sym here) more;
        };
      }

  -- a step keeps the relation, or an alert comes soon
  pub mains_keep : (d : ℕ) → Keeps p (d + 1) (Mains d)
  mains_keep d w v r =
      elim (cases_Bool (agree (output p v.place w.main) (output p v.place v.main))) [
        | inl alike ↦ inl (goes_on d w v r alike)
        | inr apart ↦ inr (told_later d w v r apart)
      ]

  -- another core in main's place leaves such a system, and so does a flip in main
  pub replaced_start : (d : ℕ) (w : Whole S) (other : S) → Follows p laws d w → Mains d w (record w { main = other })
  replaced_start d w other f = record {
    place = refl;
    behind = f.behind;
    some = f.some;
    comes = record {
      idle = f.comes.idle;
      waiting = f.comes.waiting;
      is = f.comes.is;
      count = f.comes.count;
      age = f.comes.age;
      comes = f.comes.comes;
    };
  }

  -- a flip in main leaves such a system
  pub mains_start : (d field bit : ℕ) (w : Whole S) → Follows p laws d w
      → Mains d w (flip p (site.Main field bit) w)
  unfolding flip
  mains_start d field bit w f = replaced_start d w (p.flip_field field bit w.main) f

  -- ---- the shadow, the delayed pairs, the age and the kept finding: nothing reads them but the comparator

  -- the same main with the same words round it
  pub record Sides (w v : Whole S) : Type 0 where
    -- the mains are equal, whatever their shadows are
    pub main : w.main ≡ v.main
    -- so are the words round them
    pub place : w.place ≡ v.place

  -- a step keeps the relation, and the bus is the same
  pub sides_go : (w v : Whole S) → Sides w v → Goes p Sides w v
  unfolding next
  sides_go w v r =
      let out : output p w.place w.main ≡ output p v.place v.main = λ t. output p (r.place t) (r.main t) in
      record {
        bus = subst (λ (o : Out). same_bus (output p w.place w.main) o ≡ true) out
            (same_bus-refl (output p w.place w.main));
        after = record {
          main = λ t. p.leaves (r.main t) (input p (r.place t) (r.main t));
          place = λ t. settle p (r.place t) (out t);
        };
      }

  -- so a step keeps the relation
  pub sides_keep : (most : ℕ) → Keeps p most Sides
  sides_keep most w v r = inl (sides_go w v r)

  -- so the bus never differs
  pub sides_agree : (n : ℕ) (w v : Whole S) → Sides w v → parted p w v n ≡ false
  unfolding run
  sides_agree zero w v r = not_from_true _ (sides_go w v r).bus
  sides_agree (suc n) w v r = sides_agree n (next p w) (next p v) (sides_go w v r).after

  -- a flip in the shadow leaves such a system
  pub shadow_start : (field bit : ℕ) (w : Whole S) → Sides w (flip p (site.Shadow field bit) w)
  unfolding flip
  shadow_start field bit w = record { main = refl; place = refl }

  -- and so does one in the delayed pairs, the age or the kept finding
  delay_side : (age told : Bool) (slot wire bit : ℕ) (w : Whole S) → Sides w (delay_flip p age told slot wire bit w)
  delay_side true told slot wire bit w = record { main = refl; place = refl }
  delay_side false true slot wire bit w = record { main = refl; place = refl }
  delay_side false false slot wire bit w = record { main = refl; place = refl }

  -- a flip of a delayed wire, of the age or of the kept finding leaves such a system
  pub delay_start : (slot wire bit : ℕ) (w : Whole S) → Sides w (flip p (site.Delay slot wire bit) w)
  unfolding flip
  delay_start slot wire bit w = delay_side (wire == 36) (wire == 37) slot wire bit w
