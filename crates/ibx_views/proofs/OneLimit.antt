-- The timeline reads of views nothing but their time views.
use Rattle.std.proofs.Common.{◌≡◌, ℕ, zero, suc, Bool, true, false, List, [], ◌∷◌, map, refl, sym, ap, ap₂, ◌∙◌, subst}
use Rattle.std.proofs.Common.{nat_lt, if◌then◌else◌}
use Rattle.std.specs.Prelude.{take}
use Rattle.ibx_isa.specs.declared.event.View.{View}
use Rattle.ibx_isa.specs.Views.{view_of}
use Rattle.ibx_time.specs.Settings.{Settings}
use Rattle.ibx_time.specs.Controls.{Ctl, ctl_reset, ctl_after}
use Rattle.ibx_time.specs.Times.{Times, kind_at, done_of, first_times}
use Rattle.ibx_time.specs.Timeline.{admission_for, is_dummy, item_for, done_for, pc_after, views_by, times_for}
use Rattle.ibx_time.specs.Timeline.{cycle_by}
use Rattle.ibx_time.specs.Timeline.{cycles_from}
use Rattle.ibx_views.specs.Laws.{ReadsTimeViews}
use Rattle.ibx_views.proofs.Limits.{times_after}
use Rattle.ibx_views.proofs.Alike.{IsSame, Alike, admission_same, item_same, times_same, admitted_ctl, event_ctl}
use Rattle.ibx_views.proofs.Seen.{alike_events}

-- two lists of views are alike as far as they go
abbrev AllAlike : Settings → Ctl → List View → List View → Type 0
AllAlike k c va vb = (j : ℕ) → Alike k c j va vb

module _ (k : Settings) (limit pc : ℕ) where
  -- such views have the same cycles below a limit, of at most so many items
  abbrev Reads : ℕ → Type 0
  Reads n =
      (done : ℕ) (x : Times) (va vb : List View) → AllAlike k x.ctl va vb
      → cycles_from k limit n done x va pc ≡ cycles_from k limit n done x vb pc

  -- an event before them leaves the same program counter
  same_pc : (c : Ctl) (va vb : List View) → AllAlike k c va vb → pc_after va pc ≡ pc_after vb pc
  same_pc c [] [] e = refl
  same_pc c [] (w ∷ vb) e = absurd (e (suc zero))
  same_pc c (v ∷ va) [] e = absurd (e (suc zero))
  same_pc c (v ∷ va) (w ∷ vb) e = (e (suc zero)).0.pc

  -- the cycles that are left after an item
  rest_same : (n : ℕ) → Reads n → (dummy : Bool) (t d : ℕ) (x : Times) (v w : View) (va vb : List View)
      → AllAlike k x.ctl (v ∷ va) (w ∷ vb)
      → cycles_from k limit n d (times_after k t d x v dummy (pc_after va pc)) (views_by dummy v va) pc
      ≡ cycles_from k limit n d (times_after k t d x w dummy (pc_after vb pc)) (views_by dummy w vb) pc
  rest_same n more_ true t d x v w va vb e =
      let same : IsSame k x.ctl v w = (e (suc zero)).0 in
      more_ d (times_after k t d x v true (pc_after va pc)) (v ∷ va) (w ∷ vb)
      (subst (λ z. AllAlike k z (v ∷ va) (w ∷ vb)) (sym (admitted_ctl (kind_at k x t) t (item_for k t x v) x)) e)
      ∙ ap (λ y. cycles_from k limit n d y (w ∷ vb) pc) (times_same k t d x v w true (pc_after va pc) same)
  rest_same n more_ false t d x v w va vb e =
      let same : IsSame k x.ctl v w = (e (suc zero)).0 in
      let rest : AllAlike k (ctl_after x.ctl v) va vb = λ j. (e (suc j)).1 in
      more_ d (times_after k t d x v false (pc_after va pc)) va vb
      (subst (λ z. AllAlike k z va vb) (sym (event_ctl k t d x v (pc_after va pc))) rest)
      ∙ ap (λ y. cycles_from k limit n d y vb pc) (times_same k t d x v w false (pc_after va pc) same)
      ∙ ap (λ p. cycles_from k limit n d (times_after k t d x w false p) vb pc)
      (same_pc (ctl_after x.ctl v) va vb rest)

  -- one step of the list of cycles, by the admission and the done of the item
  abbrev step : ℕ → Times → View → List View → ℕ → ℕ → List ℕ
  step n x v vs t d =
      if nat_lt d limit
      then cycle_by (is_dummy (kind_at k x t)) d
      (cycles_from k limit n d (times_after k t d x v (is_dummy (kind_at k x t)) (pc_after vs pc))
      (views_by (is_dummy (kind_at k x t)) v vs) pc)
      else []

  -- a step of the list is that
  step_is : (n done : ℕ) (x : Times) (v : View) (vs : List View)
      → cycles_from k limit (suc n) done x (v ∷ vs) pc
      ≡ step n x v vs (admission_for k limit done x v) (done_for k limit (admission_for k limit done x v) x v)
  unfolding cycles_from times_for
  step_is n done x v vs = refl

  -- so it is the same for views that are alike
  step_same : (n : ℕ) → Reads n → (done : ℕ) (x : Times) (v w : View) (va vb : List View)
      → AllAlike k x.ctl (v ∷ va) (w ∷ vb)
      → cycles_from k limit (suc n) done x (v ∷ va) pc ≡ cycles_from k limit (suc n) done x (w ∷ vb) pc
  step_same n more_ done x v w va vb e =
      let same : IsSame k x.ctl v w = (e (suc zero)).0 in
      let t : ℕ = admission_for k limit done x v in
      let d : ℕ = done_for k limit t x v in
      let at : t ≡ admission_for k limit done x w = admission_same k limit done x v w same in
      let is : d ≡ done_for k limit (admission_for k limit done x w) x w =
      ap (λ i. done_of k limit t i x) (item_same k t x v w same) ∙ ap (λ z. done_for k limit z x w) at in
      step_is n done x v va
      ∙ ap (λ l. if nat_lt d limit then cycle_by (is_dummy (kind_at k x t)) d l else [])
      (rest_same n more_ (is_dummy (kind_at k x t)) t d x v w va vb e)
      ∙ ap₂ (λ z y. step n x w vb z y) at is
      ∙ sym (step_is n done x w vb)

  -- views that are alike have the same cycles
  reads : (n : ℕ) → Reads n
  unfolding cycles_from
  reads zero done x va vb e = refl
  reads (suc n) done x [] [] e = refl
  reads (suc n) done x [] (w ∷ vb) e = absurd (e (suc zero))
  reads (suc n) done x (v ∷ va) [] e = absurd (e (suc zero))
  reads (suc n) done x (v ∷ va) (w ∷ vb) e = step_same n (reads n) done x v w va vb e

-- so the timeline reads the time views alone
pub reads_time_views : ReadsTimeViews
unfolding first_times
reads_time_views k entry limit pc xs ys e =
    reads k limit pc limit 0 (first_times entry) (map view_of xs) (map view_of ys)
    (λ j. alike_events k ctl_reset j xs ys (ap (take j) e))
