-- The first difference of two lists of time views, and what it says of cycles.
use Rattle.std.proofs.Common.{◌≡◌, ℕ, zero, suc, ◌+◌, ◌≤◌, List, [], ◌∷◌, map, length, Option, Some, None, refl, sym}
use Rattle.std.proofs.Common.{ap}
use Rattle.std.proofs.Common.{◌∙◌, subst, arith}
use Rattle.std.specs.Prelude.{take}
use Rattle.std.specs.List.{slice_get}
use Rattle.std.proofs.lemmas.List.{length-map, take_all}
use Rattle.ibx_isa.specs.declared.event.Event.{Event}
use Rattle.ibx_isa.specs.Views.{view_of}
use Rattle.ibx_time.specs.Settings.{Settings, settings_of}
use Rattle.ibx_time.specs.Controls.{Ctl, ctl_reset, ctl_after}
use Rattle.ibx_time.specs.History.{story}
use Rattle.ibx_time.specs.Cycles.{cycle_of}
use Rattle.ibx_views.specs.declared.time_view.Part.{Part}
use Rattle.ibx_views.specs.declared.time_view.TimeView.{TimeView}
use Rattle.ibx_views.specs.TimeViews.{time_views, time_views_of}
use Rattle.ibx_views.specs.Parts.{Tells, part_of}
use Rattle.ibx_views.specs.Compared.{Answer, Same, Differ, Ended, answer_by, first_apart, ApartBy, OneHas, IsFirstApart}
use Rattle.ibx_views.specs.Compared.{SameAsFar, compared, FindsFirst, ComparesInTime}
use Rattle.ibx_views.proofs.Histories.{equal_stories}
use Rattle.ibx_views.proofs.Telling.{parts_tell}

-- the same of lists of which the first have an index
abbrev IsApartFrom : ℕ → List TimeView → List TimeView → Answer → Type 0
IsApartFrom from vs ws (Same n) = (vs ≡ ws) × (from + length vs ≡ n)
IsApartFrom from vs ws (Differ at part) =
    (i : ℕ) × (from + i ≡ at) × (take i vs ≡ take i ws) × ApartBy part (slice_get vs i) (slice_get ws i)
IsApartFrom from vs ws (Ended at) =
    (i : ℕ) × (from + i ≡ at) × (take i vs ≡ take i ws) × OneHas (slice_get vs i) (slice_get ws i)

-- two that are the same stand before the rest
after_same : (from : ℕ) (v w : TimeView) (vs ws : List TimeView) (rest : Answer) → v ≡ w
    → IsApartFrom (from + 1) vs ws rest → IsApartFrom from (v ∷ vs) (w ∷ ws) rest
after_same from v w vs ws (Same n) e h = let tails : vs ≡ ws = h.0 in (cc, omega (arith, h.1))
after_same from v w vs ws (Differ at part) e h =
    let firsts : take h.0 vs ≡ take h.0 ws = h.2 in (suc h.0, omega (arith, h.1), cc, h.3)
after_same from v w vs ws (Ended at) e h =
    let firsts : take h.0 vs ≡ take h.0 ws = h.2 in (suc h.0, omega (arith, h.1), cc, h.3)

-- by the part that tells the first two apart
by_part : (from : ℕ) (v w : TimeView) (vs ws : List TimeView) (o : Option Part) (rest : Answer) → Tells v w o
    → IsApartFrom (from + 1) vs ws rest → IsApartFrom from (v ∷ vs) (w ∷ ws) (answer_by from o rest)
by_part from v w vs ws None rest e h = after_same from v w vs ws rest e h
by_part from v w vs ws (Some part) rest e h = (zero, omega arith, refl, e)

-- so each answer is the first difference
apart_from : (from : ℕ) (vs ws : List TimeView) → IsApartFrom from vs ws (first_apart from vs ws)
unfolding first_apart
apart_from from [] [] = (refl, omega arith)
apart_from from [] (w ∷ ws) = (zero, omega arith, refl, tt)
apart_from from (v ∷ vs) [] = (zero, omega arith, refl, tt)
apart_from from (v ∷ vs) (w ∷ ws) =
    by_part from v w vs ws (part_of v w) (first_apart (from + 1) vs ws) (parts_tell v w)
    (apart_from (from + 1) vs ws)

-- from index 0 on
from_start : (vs ws : List TimeView) (answer : Answer) → IsApartFrom 0 vs ws answer → IsFirstApart vs ws answer
from_start vs ws (Same n) h = (h.0, let count : 0 + length vs ≡ n = h.1 in omega (arith, count))
from_start vs ws (Differ at part) h =
    let index : h.0 ≡ at = omega (arith, h.1) in
    subst (λ i. (take i vs ≡ take i ws) × ApartBy part (slice_get vs i) (slice_get ws i)) index (h.2, h.3)
from_start vs ws (Ended at) h =
    let index : h.0 ≡ at = omega (arith, h.1) in
    subst (λ i. (take i vs ≡ take i ws) × OneHas (slice_get vs i) (slice_get ws i)) index (h.2, h.3)

-- each answer is the first difference
pub finds_first : FindsFirst
finds_first vs ws = from_start vs ws (first_apart 0 vs ws) (apart_from 0 vs ws)

-- ---- the cycles

-- there are as many time views as events
view_count : (k : Settings) (c : Ctl) (events : List Event)
    → length (time_views k c (map view_of events)) ≡ length events
unfolding time_views
view_count k c [] = refl
view_count k c (e ∷ events) = ap suc (view_count k (ctl_after c (view_of e)) events)

module _ (k l : Settings) (xs ys : List Event)
    (first : (j : ℕ) → take j (time_views_of k xs) ≡ take j (time_views_of l ys)
    → take j (map cycle_of xs) ≡ take j (map cycle_of ys)) where
  -- there are as many cycles as time views
  count : (m : Settings) (es : List Event) → length (map cycle_of es) ≡ length (time_views_of m es)
  count m es = length-map es cycle_of ∙ sym (view_count m ctl_reset es)

  -- they are the same as far as an answer says
  by_answer : (answer : Answer) → IsFirstApart (time_views_of k xs) (time_views_of l ys) answer
      → SameAsFar answer (map cycle_of xs) (map cycle_of ys)
  by_answer (Same n) is =
      let of_xs : length (map cycle_of xs) ≤ n = omega (arith, count k xs, is.1) in
      let alike : length (time_views_of k xs) ≡ length (time_views_of l ys) =
      ap (λ (z : List TimeView). length z) is.0 in
      let of_ys : length (map cycle_of ys) ≤ n = omega (arith, count l ys, alike, is.1) in
      sym (take_all n (map cycle_of xs) of_xs) ∙ first n (ap (take n) is.0) ∙ take_all n (map cycle_of ys) of_ys
  by_answer (Differ at part) is = first at is.0
  by_answer (Ended at) is = first at is.0

-- so it is of two stories
pub compares_in_time : ComparesInTime
compares_in_time a b same n m =
    by_answer (settings_of a) (settings_of b) (story a n) (story b m) (λ j. equal_stories a b same n m j)
    (compared a b n m)
    (finds_first (time_views_of (settings_of a) (story a n)) (time_views_of (settings_of b) (story b m)))
