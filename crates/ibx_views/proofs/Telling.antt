-- The part that is found tells two time views apart.
use Rattle.std.proofs.Common.{◌≡◌, ℕ, Bool, true, false, ◌&&◌, ◌==◌, Option, Some, None, refl, ap}
use Rattle.std.proofs.lemmas.Bool.{eqb-true, eqb-false}
use Rattle.ibx_views.specs.declared.time_view.Portions.{Portions}
use Rattle.ibx_views.specs.declared.time_view.Portions.TheVariants.{Nothing, Single, SingleError, Double, DoubleError}
use Rattle.ibx_views.specs.declared.time_view.Change.{Change}
use Rattle.ibx_views.specs.declared.time_view.Change.TheVariants.{Unchanged, Trapped, Interrupted, Returned, Wrote}
use Rattle.ibx_views.specs.declared.time_view.TimeView.{TimeView}
use Rattle.ibx_views.specs.declared.time_view.Part.{Part}
use Rattle.ibx_views.specs.declared.time_view.Part.TheVariants.{Path, Length, Cost, Access, Control}
use Rattle.ibx_views.specs.Parts.{Way, Retirement, Trapping, Interruption}
use Rattle.ibx_views.specs.Parts.{way_of, path_in, length_in, cost_in, access_in, control_in, same_bool, way_number}
use Rattle.ibx_views.specs.Parts.{portions_number, same_change, same_path, same_length, same_cost, same_access}
use Rattle.ibx_views.specs.Parts.{same_control, part_by, part_of, Tells}
use Rattle.ibx_views.specs.Laws.{PartsTell, NothingTellsEqual}

-- ---- tests

-- a test says whether something holds
abbrev Says : Bool → Type 0 → Type 0
Says true A = A
Says false A = ¬ A

-- it says so of two things together
says_and : (A B : Type 0) (a b : Bool) → Says a A → Says b B → Says (a && b) (A × B)
says_and A B true true x y = (x, y)
says_and A B true false x y = λ p. y p.1
says_and A B false b x y = λ p. x p.0

-- and of what comes to the same
says_as : (A B : Type 0) (a : Bool) → (A → B) → (B → A) → Says a A → Says a B
says_as A B true f g x = f x
says_as A B false f g x = λ y. x (g y)

-- numbers
number_says : (a b : ℕ) → Says (a == b) (a ≡ b)
number_says a b = elim (a == b) as (λ c. ((a == b) ≡ c → Says c (a ≡ b)))
    [ true ↦ λ e. eqb-true a b e | false ↦ λ e. eqb-false a b e ] refl

-- truth values
bool_says : (a b : Bool) → Says (same_bool a b) (a ≡ b)
bool_says true true = refl
bool_says true false = λ e. cc
bool_says false true = λ e. cc
bool_says false false = refl

-- ways
way_says : (a b : Way) → Says (way_number a == way_number b) (a ≡ b)
way_says Retirement Retirement = refl
way_says Trapping Trapping = refl
way_says Interruption Interruption = refl
way_says a b = λ e. cc

-- portions
portions_say : (a b : Portions) → Says (portions_number a == portions_number b) (a ≡ b)
portions_say Nothing Nothing = refl
portions_say Single Single = refl
portions_say SingleError SingleError = refl
portions_say Double Double = refl
portions_say DoubleError DoubleError = refl
portions_say a b = λ e. cc

-- changes
change_says : (a b : Change) → Says (same_change a b) (a ≡ b)
change_says Unchanged Unchanged = refl
change_says Trapped Trapped = refl
change_says Interrupted Interrupted = refl
change_says Returned Returned = refl
change_says (Wrote a v) (Wrote b w) =
    says_as _ _ (a == b && v == w) (λ (p : (a ≡ b) × (v ≡ w)). let x = p.0 in let y = p.1 in cc)
    (λ e. (cc, cc)) (says_and _ _ (a == b) (v == w) (number_says a b) (number_says v w))
change_says a b = λ e. cc

-- ---- the parts

module _ (v w : TimeView) where
  -- each test says whether its part is the same: that of the path
  path_says : Says (same_path v w) (path_in v ≡ path_in w)
  path_says =
      says_as _ _ (same_path v w)
      (λ (p : (v.pc ≡ w.pc) × (way_of v.change ≡ way_of w.change)). let x = p.0 in let y = p.1 in cc)
      (λ e. (ap (λ (z : ℕ × Way). z.0) e, ap (λ (z : ℕ × Way). z.1) e))
      (says_and _ _ (v.pc == w.pc) (way_number (way_of v.change) == way_number (way_of w.change))
      (number_says v.pc w.pc)
      (way_says (way_of v.change) (way_of w.change)))

  -- of the length
  length_says : Says (same_length v w) (length_in v ≡ length_in w)
  length_says = number_says v.item.parcels w.item.parcels

  -- of the cost
  cost_says : Says (same_cost v w) (cost_in v ≡ cost_in w)
  cost_says =
      let a = v.item in
      let b = w.item in
      let fences = says_and _ _ (same_bool a.redirects b.redirects) (same_bool a.fences b.fences)
      (bool_says a.redirects b.redirects) (bool_says a.fences b.fences) in
      says_as _ _ (same_cost v w)
      (λ (p : (a.cost ≡ b.cost)
      × ((a.sleeps ≡ b.sleeps) × ((a.redirects ≡ b.redirects) × (a.fences ≡ b.fences)))).
      let x = p.0 in let y = p.1.0 in let z = p.1.1.0 in let u = p.1.1.1 in cc)
      (λ e. (
        ap (λ (z : ℕ × Bool × Bool × Bool). z.0) e,
        (
          ap (λ (z : ℕ × Bool × Bool × Bool). z.1) e,
          (ap (λ (z : ℕ × Bool × Bool × Bool). z.2) e, ap (λ (z : ℕ × Bool × Bool × Bool). z.3) e),
        ),
      ))
      (says_and _ _ (a.cost == b.cost)
      (same_bool a.sleeps b.sleeps && (same_bool a.redirects b.redirects && same_bool a.fences b.fences))
      (number_says a.cost b.cost)
      (says_and _ _ (same_bool a.sleeps b.sleeps) (same_bool a.redirects b.redirects && same_bool a.fences b.fences)
      (bool_says a.sleeps b.sleeps) fences))

  -- of the portions
  access_says : Says (same_access v w) (access_in v ≡ access_in w)
  access_says = portions_say v.item.portions w.item.portions

  -- of the change
  control_says : Says (same_control v w) (control_in v ≡ control_in w)
  control_says = change_says v.change w.change

-- a time view by its parts
abbrev made : ℕ → ℕ → (ℕ × Bool × Bool × Bool) → Portions → Change → TimeView
made p a c o h = record {
  pc = p;
  item = record { parcels = a; portions = o; cost = c.0; sleeps = c.1; redirects = c.2; fences = c.3 };
  change = h;
}

-- equal parts make one time view
whole : (p p2 a a2 : ℕ) (c c2 : ℕ × Bool × Bool × Bool) (o o2 : Portions) (h h2 : Change) → p ≡ p2 → a ≡ a2 → c ≡ c2
    → o ≡ o2 → h ≡ h2 → made p a c o h ≡ made p2 a2 c2 o2 h2
whole p p2 a a2 c c2 o o2 h h2 e1 e2 e3 e4 e5 = cc

-- by the tests of the parts
tells_by : (v w : TimeView) (path length cost access control : Bool) → Says path (path_in v ≡ path_in w)
    → Says length (length_in v ≡ length_in w) → Says cost (cost_in v ≡ cost_in w)
    → Says access (access_in v ≡ access_in w) → Says control (control_in v ≡ control_in w)
    → Tells v w (part_by path length cost access control)
tells_by v w false length cost access control p l c a h = p
tells_by v w true false cost access control p l c a h = (p, l)
tells_by v w true true false access control p l c a h = (p, l, c)
tells_by v w true true true false control p l c a h = (p, l, c, a)
tells_by v w true true true true false p l c a h = (p, l, c, a, h)
tells_by v w true true true true true p l c a h =
    whole v.pc w.pc (length_in v) (length_in w) (cost_in v) (cost_in w) (access_in v) (access_in w) v.change w.change
    (ap (λ (z : ℕ × Way). z.0) p) l c a h

-- so each answer tells what it says
pub parts_tell : PartsTell
unfolding part_of
parts_tell v w =
    tells_by v w (same_path v w) (same_length v w) (same_cost v w) (same_access v w) (same_control v w)
    (path_says v w) (length_says v w) (cost_says v w) (access_says v w) (control_says v w)

-- an answer that names a part is of time views that differ
none_of : (v w : TimeView) (o : Option Part) → Tells v w o → v ≡ w → o ≡ None
none_of v w None t e = refl
none_of v w (Some Path) t e = absurd (t (ap path_in e))
none_of v w (Some Length) t e = absurd (t.1 (ap length_in e))
none_of v w (Some Cost) t e = absurd (t.2 (ap cost_in e))
none_of v w (Some Access) t e = absurd (t.3 (ap access_in e))
none_of v w (Some Control) t e = absurd (t.4 (ap control_in e))

-- so equal ones have none
pub nothing_tells : NothingTellsEqual
nothing_tells v w e = none_of v w (part_of v w) (parts_tell v w) e
