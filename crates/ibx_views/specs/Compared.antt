-- How the time views of two stories compare, in order. Our own rule.
use Rattle.std.specs.Prelude.{◌≡◌, ℕ, ◌+◌, List, [], ◌∷◌, map, length, take, Option, Some, None}
use Rattle.std.specs.List.{slice_get}
use Rattle.ibx_time.specs.Settings.{Setup, settings_of}
use Rattle.ibx_time.specs.History.{story}
use Rattle.ibx_time.specs.Cycles.{cycle_of}
use Rattle.ibx_views.specs.declared.time_view.TimeView.{TimeView}
use Rattle.ibx_views.specs.TimeViews.{time_views_of}
use Rattle.ibx_views.specs.declared.time_view.Part.{Part}
use Rattle.ibx_views.specs.Parts.{Tells, part_of}

-- the answer: so many time views, all the same; the first index at which they differ, and the part that tells them
-- apart; or the index at which one list has ended
pub data Answer : Type 0 where
  Same : (count : ℕ) → Answer
  Differ : (at : ℕ) → (part : Part) → Answer
  Ended : (at : ℕ) → Answer

-- by the part that tells the first two apart, and the answer for the rest
abbrev pub answer_by : ℕ → Option Part → Answer → Answer
answer_by at None rest = rest
answer_by at (Some part) rest = Differ at part

-- the answer for two lists, the first of which have this index
unfoldable pub first_apart : ℕ → List TimeView → List TimeView → Answer
first_apart at [] [] = Same at
first_apart at [] (w ∷ ws) = Ended at
first_apart at (v ∷ vs) [] = Ended at
first_apart at (v ∷ vs) (w ∷ ws) = answer_by at (part_of v w) (first_apart (at + 1) vs ws)

-- ---- what an answer means

-- a part is the one that tells what is at an index apart
abbrev pub ApartBy : Part → Option TimeView → Option TimeView → Type 0
ApartBy part (Some v) (Some w) = Tells v w (Some part)
ApartBy part x y = ⊥

-- just one list has a time view at an index
abbrev pub OneHas : Option TimeView → Option TimeView → Type 0
OneHas (Some v) None = Unit
OneHas None (Some w) = Unit
OneHas x y = ⊥

-- both lists are equal and have so many; or they are equal up to an index, and there they differ or one has ended
abbrev pub IsFirstApart : List TimeView → List TimeView → Answer → Type 0
IsFirstApart vs ws (Same n) = (vs ≡ ws) × (length vs ≡ n)
IsFirstApart vs ws (Differ at part) =
    (take at vs ≡ take at ws) × ApartBy part (slice_get vs at) (slice_get ws at)
IsFirstApart vs ws (Ended at) = (take at vs ≡ take at ws) × OneHas (slice_get vs at) (slice_get ws at)

-- the cycles are the same as far as an answer says that the time views are
abbrev pub SameAsFar : Answer → List ℕ → List ℕ → Type 0
SameAsFar (Same n) xs ys = xs ≡ ys
SameAsFar (Differ at part) xs ys = take at xs ≡ take at ys
SameAsFar (Ended at) xs ys = take at xs ≡ take at ys

-- how the time views of two stories compare
abbrev pub compared : Setup → Setup → ℕ → ℕ → Answer
compared a b n m =
    first_apart 0 (time_views_of (settings_of a) (story a n)) (time_views_of (settings_of b) (story b m))

-- each answer means what it says
abbrev pub FindsFirst : Type 0
FindsFirst = (vs ws : List TimeView) → IsFirstApart vs ws (first_apart 0 vs ws)

-- and with equal settings the cycles of two stories are the same as far as it says
abbrev pub ComparesInTime : Type 0
ComparesInTime =
    (a b : Setup) → settings_of a ≡ settings_of b → (n m : ℕ)
    → SameAsFar (compared a b n m) (map cycle_of (story a n)) (map cycle_of (story b m))
