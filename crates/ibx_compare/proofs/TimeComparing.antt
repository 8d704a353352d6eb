-- Two stories told side by side: the first difference of their time views.
use Rattle.std.proofs.Common.{◌≡◌, ℕ, ◌+◌, List, [], ◌∷◌, Option, Some, None, refl, sym, ap, ap₂, ◌∙◌, subst}
use Rattle.std.proofs.Common.{arith}
use Rattle.std.specs.Prelude.{IfSome}
use Rattle.std.specs.List.{cons_option, slice_get}
use Rattle.std.specs.Option.{option_map}
use Rattle.std.proofs.lemmas.Option.{slice_get-map}
use Rattle.ibx_isa.specs.declared.event.Event.{Event}
use Rattle.ibx_isa.specs.declared.event.View.{View}
use Rattle.ibx_isa.specs.Views.{view_of}
use Rattle.ibx_isa.specs.declared.insn.MulKind.{MulKind}
use Rattle.ibx_elf.specs.declared.ram.Ram.{Ram}
use Rattle.ibx_plan.specs.Plan.{PlanValue, empty_plan}
use Rattle.ibx_core.specs.declared.state.State.{State}
use Rattle.ibx_system.specs.System.{Whole}
use Rattle.ibx_time.specs.Settings.{Settings}
use Rattle.ibx_time.specs.Controls.{Ctl, ctl_after, ctl_reset}
use Rattle.ibx_views.specs.declared.time_view.Part.{Part}
use Rattle.ibx_views.specs.declared.time_view.TimeView.{TimeView}
use Rattle.ibx_views.specs.TimeViews.{time_view, time_views}
use Rattle.ibx_views.specs.Parts.{part_of}
use Rattle.ibx_views.specs.Compared.{Answer, answer_by, first_apart}
use Rattle.ibx_views.specs.declared.observer.Observer.{Observer}
use Rattle.ibx_views.specs.Observers.{ctl_in, settings_in}
use Rattle.ibx_views.proofs.Operands.{reads_no_plan}
use Rattle.ibx_compare.specs.declared.time_twins.TwinBy.{TwinBy}
use Rattle.ibx_compare.specs.Drives.{drive_from}
use Rattle.ibx_compare.specs.Twins.{HasLine, HaveLines, index_of, told, views_of}
use Rattle.ibx_compare.specs.TimeTwins.{apart_by, ctl_past, differ_at, ends_with, same_at, seen_of, time_twin_of}
use Rattle.ibx_compare.specs.TimeTwins.{time_views_in, twin_at}
use Rattle.ibx_compare.proofs.Comparing.{HasTold, next_of, tells_more, tells_nothing, views_by, views_spent}
use Rattle.ibx_compare.proofs.Telling.{tells}

-- ---- the answer at an index

-- where something tells two events apart
apart_answers : (at : ℕ) (x y : View) (o : Option Part) (t : TwinBy) (rest : Answer) (full_a full_b : List View)
    → slice_get full_a at ≡ Some x → slice_get full_b at ≡ Some y → apart_by at x y o ≡ Some t
    → twin_at full_a full_b (answer_by at o rest) ≡ t
apart_answers at x y None t rest full_a full_b of_a of_b is = absurd (cc)
apart_answers at x y (Some part) t rest full_a full_b of_a of_b is =
    let answer : differ_at at (Some x) (Some y) (Some part) ≡ t = cc in
    ap₂ (λ (v w : Option View). differ_at at v w (Some part)) of_a of_b ∙ answer

module _ (k : Settings) (c d : Ctl) (at : ℕ) (full_a full_b xs ys : List View) where
  -- what is said where the answer comes at an index, by the events that both stories have at it
  pub answers : (e f : Option Event) (t : TwinBy) → slice_get full_a at ≡ option_map view_of e
      → slice_get full_b at ≡ option_map view_of f → (e ≡ None → xs ≡ []) → (f ≡ None → ys ≡ [])
      → ends_with at (option_map (seen_of k c) e) (option_map (seen_of k d) f) ≡ Some t
      → twin_at full_a full_b (first_apart at (time_views k c (cons_option (option_map view_of e) xs))
      (time_views k d (cons_option (option_map view_of f) ys)))
      ≡ t
  unfolding first_apart time_views
  answers None None t of_a of_b no_x no_y is =
      let answer : same_at at ≡ t = cc in
      ap₂ (λ (v w : List View). twin_at full_a full_b (first_apart at (time_views k c v) (time_views k d w)))
      (no_x refl) (no_y refl) ∙ answer
  answers (Some e) None t of_a of_b no_x no_y is =
      let answer : differ_at at (Some (view_of e)) None None ≡ t = cc in
      ap (λ (w : List View). twin_at full_a full_b
      (first_apart at (time_views k c (view_of e ∷ xs)) (time_views k d w))) (no_y refl)
      ∙ ap₂ (λ (v w : Option View). differ_at at v w None) of_a of_b
      ∙ answer
  answers None (Some f) t of_a of_b no_x no_y is =
      let answer : differ_at at None (Some (view_of f)) None ≡ t = cc in
      ap (λ (v : List View). twin_at full_a full_b
      (first_apart at (time_views k c v) (time_views k d (view_of f ∷ ys)))) (no_x refl)
      ∙ ap₂ (λ (v w : Option View). differ_at at v w None) of_a of_b
      ∙ answer
  answers (Some e) (Some f) t of_a of_b no_x no_y is =
      apart_answers at (view_of e) (view_of f) (part_of (time_view k c (view_of e)) (time_view k d (view_of f))) t
      (first_apart (at + 1) (time_views k (ctl_after c (view_of e)) xs) (time_views k (ctl_after d (view_of f)) ys))
      full_a full_b of_a of_b is

-- where nothing tells two events apart, the answer is that of the rest
apart_goes : (at : ℕ) (x y : View) (o : Option Part) (rest : Answer) → apart_by at x y o ≡ None
    → answer_by at o rest ≡ rest
apart_goes at x y None rest is = refl
apart_goes at x y (Some part) rest is = absurd (cc)

-- what is so where there is no answer at an index: both stories have an event there, and the answer is that of the rest
pub record GoesOn (k : Settings) (c d : Ctl) (at : ℕ) (e f : Option Event) (xs ys : List View) : Type 0 where
  pub of_a : (v : Event) × (e ≡ Some v)
  pub of_b : (v : Event) × (f ≡ Some v)
  pub rest : first_apart at (time_views k c (cons_option (option_map view_of e) xs))
      (time_views k d (cons_option (option_map view_of f) ys))
      ≡ first_apart (at + 1) (time_views k (ctl_past c e) xs) (time_views k (ctl_past d f) ys)

-- so it is by the events that both stories have at it
pub goes_by : (k : Settings) (c d : Ctl) (at : ℕ) (e f : Option Event) (xs ys : List View)
    → ends_with at (option_map (seen_of k c) e) (option_map (seen_of k d) f) ≡ None → GoesOn k c d at e f xs ys
unfolding first_apart time_views
goes_by k c d at None None xs ys is = absurd (cc)
goes_by k c d at (Some e) None xs ys is = absurd (cc)
goes_by k c d at None (Some f) xs ys is = absurd (cc)
goes_by k c d at (Some e) (Some f) xs ys is = record {
  of_a = (e, refl);
  of_b = (f, refl);
  rest =
      apart_goes at (view_of e) (view_of f) (part_of (time_view k c (view_of e)) (time_view k d (view_of f)))
      (first_apart (at + 1) (time_views k (ctl_after c (view_of e)) xs) (time_views k (ctl_after d (view_of f)) ys)) is;
}

-- the index of an answer
apart_index : (at : ℕ) (x y : View) (o : Option Part) (t : TwinBy) → apart_by at x y o ≡ Some t
    → index_of t.twin ≡ at
apart_index at x y None t is = absurd (cc)
apart_index at x y (Some part) t is =
    let answer : differ_at at (Some x) (Some y) (Some part) ≡ t = cc in
    sym (ap (λ (u : TwinBy). index_of u.twin) answer)

-- is the one at which it comes
pub index_is : (at : ℕ) (u v : Option (View × TimeView)) (t : TwinBy) → ends_with at u v ≡ Some t
    → index_of t.twin ≡ at
index_is at None None t is =
    let answer : same_at at ≡ t = cc in sym (ap (λ (u : TwinBy). index_of u.twin) answer)
index_is at (Some x) None t is =
    let answer : differ_at at (Some x.0) None None ≡ t = cc in sym (ap (λ (u : TwinBy). index_of u.twin) answer)
index_is at None (Some y) t is =
    let answer : differ_at at None (Some y.0) None ≡ t = cc in sym (ap (λ (u : TwinBy). index_of u.twin) answer)
index_is at (Some x) (Some y) t is = apart_index at x.0 y.0 (part_of x.1 y.1) t is

-- the views of an answer that tells two events apart have lines
apart_lines : (at : ℕ) (x y : View) (o : Option Part) (t : TwinBy) → HasLine x → HasLine y → apart_by at x y o ≡ Some t
    → HaveLines t.twin
apart_lines at x y None t of_x of_y is = absurd (cc)
apart_lines at x y (Some part) t of_x of_y is =
    let answer : differ_at at (Some x) (Some y) (Some part) ≡ t = cc in
    subst (λ (u : TwinBy). HaveLines u.twin) answer (of_x, of_y)

-- so have those of every answer
pub lines_are : (at : ℕ) (u v : Option (View × TimeView)) (t : TwinBy) → IfSome u (λ s. HasLine s.0)
    → IfSome v (λ s. HasLine s.0) → ends_with at u v ≡ Some t → HaveLines t.twin
lines_are at None None t of_u of_v is =
    let answer : same_at at ≡ t = cc in subst (λ (u : TwinBy). HaveLines u.twin) answer tt
lines_are at (Some x) None t of_u of_v is =
    let answer : differ_at at (Some x.0) None None ≡ t = cc in
    subst (λ (u : TwinBy). HaveLines u.twin) answer (of_u, tt)
lines_are at None (Some y) t of_u of_v is =
    let answer : differ_at at None (Some y.0) None ≡ t = cc in
    subst (λ (u : TwinBy). HaveLines u.twin) answer (tt, of_v)
lines_are at (Some x) (Some y) t of_u of_v is = apart_lines at x.0 y.0 (part_of x.1 y.1) t of_u of_v is

-- ---- both stories as far as they are told

-- So many events of both stories are told, and nothing tells them apart: the answer is that of the rest, with the
-- registers that they left.
pub record AreAlikeInTime (k : Settings) (cycles : ℕ) (a b : Whole State) (events left_a left_b : ℕ) (c d : Ctl)
    (x y : Whole State) : Type 0 where
  pub of_a : HasTold cycles a events left_a x
  pub of_b : HasTold cycles b events left_b y
  pub same : first_apart 0 (time_views_in k cycles a) (time_views_in k cycles b)
      ≡ first_apart events (time_views k c (views_of left_a x)) (time_views k d (views_of left_b y))

-- before the first event
pub begin : (k : Settings) (cycles : ℕ) (a b : Whole State) (c d : Ctl) → a.place.cycle ≡ 0 → b.place.cycle ≡ 0
    → c ≡ ctl_reset → d ≡ ctl_reset → AreAlikeInTime k cycles a b 0 cycles cycles c d a b
begin k cycles a b c d new other at_a at_b = record {
  of_a = tells_nothing cycles a new;
  of_b = tells_nothing cycles b other;
  same =
      ap₂ (λ (p q : Ctl). first_apart 0 (time_views k p (views_of cycles a)) (time_views k q (views_of cycles b)))
      (sym at_a) (sym at_b);
}

-- the view of a story at the index of its next event
view_next : (cycles : ℕ) (start : Whole State) (events left : ℕ) (w : Whole State)
    → HasTold cycles start events left w
    → slice_get (views_of cycles start) events ≡ option_map view_of (told left w).event
view_next cycles start events left w has =
    slice_get-map view_of (drive_from cycles start).events events
    ∙ ap (option_map view_of)
    (next_of cycles start events left w (told left w).event (told left w) (tells left w) refl has)

module _ {k : Settings} {cycles : ℕ} {a b : Whole State} {events left_a left_b : ℕ} {c d : Ctl}
    {x y : Whole State} where
  -- an answer at the index of the next events is that of the stories
  pub ends : AreAlikeInTime k cycles a b events left_a left_b c d x y → (t : TwinBy)
      → ends_with events (option_map (seen_of k c) (told left_a x).event)
      (option_map (seen_of k d) (told left_b y).event)
      ≡ Some t
      → t ≡ time_twin_of k cycles a b
  ends alike t is =
      sym (ap (twin_at (views_of cycles a) (views_of cycles b)) (alike.same
      ∙ ap₂ (λ (v w : List View). first_apart events (time_views k c v) (time_views k d w))
      (views_by left_a x (told left_a x).event refl) (views_by left_b y (told left_b y).event refl))
      ∙ answers k c d events (views_of cycles a) (views_of cycles b)
      (views_of (told left_a x).left (told left_a x).next) (views_of (told left_b y).left (told left_b y).next)
      (told left_a x).event (told left_b y).event t (view_next cycles a events left_a x alike.of_a)
      (view_next cycles b events left_b y alike.of_b) (views_spent left_a x) (views_spent left_b y) is)

  -- without one the comparison goes on with one event more
  pub goes_on : AreAlikeInTime k cycles a b events left_a left_b c d x y
      → ends_with events (option_map (seen_of k c) (told left_a x).event)
      (option_map (seen_of k d) (told left_b y).event)
      ≡ None
      → AreAlikeInTime k cycles a b (events + 1) (told left_a x).left (told left_b y).left
      (ctl_past c (told left_a x).event) (ctl_past d (told left_b y).event) (told left_a x).next (told left_b y).next
  goes_on alike is =
      let on : GoesOn k c d events (told left_a x).event (told left_b y).event
      (views_of (told left_a x).left (told left_a x).next) (views_of (told left_b y).left (told left_b y).next) =
      goes_by k c d events (told left_a x).event (told left_b y).event
      (views_of (told left_a x).left (told left_a x).next) (views_of (told left_b y).left (told left_b y).next) is in
      record {
        of_a = tells_more cycles a events left_a x on.of_a.0 (told left_a x) (tells left_a x) on.of_a.1 alike.of_a;
        of_b = tells_more cycles b events left_b y on.of_b.0 (told left_b y) (tells left_b y) on.of_b.1 alike.of_b;
        same =
            alike.same
            ∙ ap₂ (λ (v w : List View). first_apart events (time_views k c v) (time_views k d w))
            (views_by left_a x (told left_a x).event refl) (views_by left_b y (told left_b y).event refl)
            ∙ on.rest;
      }

-- after as many events as the budget has cycles, nothing is left
pub ends_last : (k : Settings) (cycles : ℕ) (a b : Whole State) (events left_a left_b : ℕ) (c d : Ctl)
    (x y : Whole State) → events ≡ cycles → AreAlikeInTime k cycles a b events left_a left_b c d x y
    → same_at cycles ≡ time_twin_of k cycles a b
unfolding drive_from first_apart time_views
ends_last k cycles a b events left_a left_b c d x y all alike =
    let none_a : left_a ≡ 0 = omega (arith, alike.of_a.room) in
    let none_b : left_b ≡ 0 = omega (arith, alike.of_b.room) in
    ap same_at (sym all)
    ∙ sym (ap (twin_at (views_of cycles a) (views_of cycles b)) (alike.same
    ∙ ap₂ (λ (v w : List View). first_apart events (time_views k c v) (time_views k d w))
    (ap (λ (n : ℕ). views_of n x) none_a) (ap (λ (n : ℕ). views_of n y) none_b)))

-- ---- with the observers of both

-- the time views of a list hang on no plan
pub plan_views : (ram : Ram) (mul : MulKind) (p q : PlanValue) (c : Ctl) (views : List View)
    → time_views (record { ram = ram; mul = mul; plan = p }) c views
    ≡ time_views (record { ram = ram; mul = mul; plan = q }) c views
unfolding time_views
plan_views ram mul p q c [] = refl
plan_views ram mul p q c (v ∷ views) =
    ap₂ (λ (w : TimeView) (ws : List TimeView). w ∷ ws) (reads_no_plan ram mul p q c v)
    (plan_views ram mul p q (ctl_after c v) views)

-- nor does the comparison of two stories
pub plan_twins : (ram : Ram) (mul : MulKind) (p q : PlanValue) (cycles : ℕ) (a b : Whole State)
    → time_twin_of (record { ram = ram; mul = mul; plan = p }) cycles a b
    ≡ time_twin_of (record { ram = ram; mul = mul; plan = q }) cycles a b
plan_twins ram mul p q cycles a b =
    ap₂ (λ (vs ws : List TimeView). twin_at (views_of cycles a) (views_of cycles b) (first_apart 0 vs ws))
    (plan_views ram mul p q ctl_reset (views_of cycles a)) (plan_views ram mul p q ctl_reset (views_of cycles b))

-- So many events of both stories are told, and two observers with this configuration have seen them.
pub record IsTelling (k : Settings) (cycles : ℕ) (a b : Whole State) (events left_a left_b : ℕ) (p q : Observer)
    (x y : Whole State) : Type 0 where
  pub alike : AreAlikeInTime k cycles a b events left_a left_b (ctl_in p) (ctl_in q) x y
  pub of_a : settings_in p ≡ k
  pub of_b : settings_in q ≡ k

-- an observer's configuration
pub settings_are : (ram : Ram) (mul : MulKind) (p : Observer) → p.ram ≡ ram → p.mul ≡ mul
    → settings_in p ≡ record { ram = ram; mul = mul; plan = empty_plan }
settings_are ram mul p of_ram of_mul =
    ap₂ (λ (r : Ram) (m : MulKind). record { ram = r; mul = m; plan = empty_plan }) of_ram of_mul

-- what an observer sees of the next event
abbrev pub sees : Observer → ℕ → Whole State → Option (View × TimeView)
sees p left w = option_map (seen_of (settings_in p) (ctl_in p)) (told left w).event

-- it is what is seen with its configuration
sees_with : (k : Settings) (p : Observer) (left : ℕ) (w : Whole State) → settings_in p ≡ k
    → sees p left w ≡ option_map (seen_of k (ctl_in p)) (told left w).event
sees_with k p left w is = ap (λ (s : Settings). option_map (seen_of s (ctl_in p)) (told left w).event) is

module _ {k : Settings} {cycles : ℕ} {a b : Whole State} {events left_a left_b : ℕ} {p q : Observer} {x y : Whole State}
    (telling : IsTelling k cycles a b events left_a left_b p q x y) (u v : Option (View × TimeView))
    (of_u : u ≡ sees p left_a x) (of_v : v ≡ sees q left_b y) where
  -- what ends the comparison is what both stories have next
  ends_alike : ends_with events u v
      ≡ ends_with events (option_map (seen_of k (ctl_in p)) (told left_a x).event)
      (option_map (seen_of k (ctl_in q)) (told left_b y).event)
  ends_alike =
      ap₂ (ends_with events) (of_u ∙ sees_with k p left_a x telling.of_a) (of_v ∙ sees_with k q left_b y telling.of_b)

  -- an answer is that of the stories
  pub answer_is : (t : TwinBy) → ends_with events u v ≡ Some t → t ≡ time_twin_of k cycles a b
  answer_is t is = ends telling.alike t (sym ends_alike ∙ is)

  -- without one the telling goes on
  pub tells_on : ends_with events u v ≡ None → (less_a less_b : ℕ) (p2 q2 : Observer) (x2 y2 : Whole State)
      → less_a ≡ (told left_a x).left → less_b ≡ (told left_b y).left → x2 ≡ (told left_a x).next
      → y2 ≡ (told left_b y).next → ctl_in p2 ≡ ctl_past (ctl_in p) (told left_a x).event
      → ctl_in q2 ≡ ctl_past (ctl_in q) (told left_b y).event → settings_in p2 ≡ settings_in p
      → settings_in q2 ≡ settings_in q → IsTelling k cycles a b (events + 1) less_a less_b p2 q2 x2 y2
  tells_on is less_a less_b p2 q2 x2 y2 la lb na nb ca cb sa sb = record {
    alike = rw (la, lb, na, nb, ca, cb) (goes_on telling.alike (sym ends_alike ∙ is));
    of_a = sa ∙ telling.of_a;
    of_b = sb ∙ telling.of_b;
  }
