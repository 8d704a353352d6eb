-- Equal time views have equal cycles, in histories and in stories.
use Rattle.std.proofs.Common.{◌≡◌, ℕ, zero, suc, true, false, List, [], ◌∷◌, map, length, refl, sym, ap, ◌∙◌, subst}
use Rattle.std.proofs.Common.{if◌then◌else◌}
use Rattle.std.specs.Prelude.{take}
use Rattle.std.proofs.Math.Seq.{take-nil}
use Rattle.std.proofs.lemmas.List.{length-map}
use Rattle.ibx_isa.specs.declared.event.Event.{Event}
use Rattle.ibx_isa.specs.declared.event.View.{View}
use Rattle.ibx_isa.specs.Views.{view_of}
use Rattle.ibx_arch.specs.Step.{reset_state}
use Rattle.ibx_time.specs.Settings.{Settings, Setup, settings_of}
use Rattle.ibx_time.specs.Controls.{Ctl, ctl_reset, ctl_after}
use Rattle.ibx_time.specs.Times.{first_times}
use Rattle.ibx_time.specs.Timeline.{pc_after, cycles_from}
use Rattle.ibx_time.specs.History.{opening, told_below, history, halts, up_to_halt, story}
use Rattle.ibx_time.specs.Cycles.{cycle_of, EqualViewsEqualCycles, EqualStoryViewsEqualCycles}
use Rattle.ibx_time.proofs.Cycles.{has_views, is_timed}
use Rattle.ibx_time.proofs.Timed.{pc_is}
use Rattle.ibx_views.specs.declared.time_view.TimeView.{TimeView}
use Rattle.ibx_views.specs.TimeViews.{time_view, time_views, time_views_of}
use Rattle.ibx_views.specs.Laws.{EqualTimeViewsEqualCycles, EqualStoryTimeViewsEqualCycles}
use Rattle.ibx_views.proofs.Limits.{IsFull}
use Rattle.ibx_views.proofs.Agree.{alike_agree}
use Rattle.ibx_views.proofs.Seen.{alike_events, equal_time_views}

-- ---- two histories

-- the views of events
abbrev views_in : List Event → List View
views_in events = map view_of events

-- events whose cycles are those of their views
abbrev AreTimed : Settings → ℕ → ℕ → List Event → ℕ → Type 0
AreTimed k entry n events pc = map cycle_of events ≡ cycles_from k n n 0 (first_times entry) (views_in events) pc

-- such events have a cycle each
timed_full : (k : Settings) (entry n : ℕ) (events : List Event) (pc : ℕ) → AreTimed k entry n events pc
    → IsFull k n n 0 (first_times entry) (views_in events) pc
timed_full k entry n events pc e =
    sym (ap (λ (l : List ℕ). length l) e) ∙ length-map events cycle_of ∙ sym (length-map events view_of)

-- two such lists from one entry, whose first j time views agree, have the same first j cycles
same_entry : (k : Settings) (entry n m j : ℕ) (xs ys : List Event) (pa pb : ℕ) → AreTimed k entry n xs pa
    → AreTimed k entry m ys pb → take j (time_views_of k xs) ≡ take j (time_views_of k ys)
    → take j (map cycle_of xs) ≡ take j (map cycle_of ys)
unfolding first_times
same_entry k entry n m j xs ys pa pb ta tb e =
    ap (take j) ta
    ∙ alike_agree k n m n m pa pb 0 j (first_times entry) (views_in xs) (views_in ys)
    (alike_events k ctl_reset j xs ys e) (timed_full k entry n xs pa ta) (timed_full k entry m ys pb tb)
    ∙ sym (ap (take j) tb)

-- the entry is the first program counter
same_first : (k : Settings) (ea eb n m j : ℕ) (xs ys : List Event) (pa pb : ℕ) → pc_after (views_in xs) pa ≡ ea
    → pc_after (views_in ys) pb ≡ eb → AreTimed k ea n xs pa → AreTimed k eb m ys pb
    → take j (time_views_of k xs) ≡ take j (time_views_of k ys) → take j (map cycle_of xs) ≡ take j (map cycle_of ys)
unfolding time_views
same_first k ea eb n m zero xs ys pa pb ia ib ta tb e = refl
same_first k ea eb n m (suc j) [] [] pa pb ia ib ta tb e = refl
same_first k ea eb n m (suc j) [] (w ∷ ys) pa pb ia ib ta tb e = absurd (cc)
same_first k ea eb n m (suc j) (v ∷ xs) [] pa pb ia ib ta tb e = absurd (cc)
same_first k ea eb n m (suc j) (v ∷ xs) (w ∷ ys) pa pb ia ib ta tb e =
    let same : time_view k ctl_reset (view_of w) ≡ time_view k ctl_reset (view_of v) = cc in
    let entries : eb ≡ ea = sym ib ∙ ap (λ (z : TimeView). z.pc) same ∙ ia in
    same_entry k ea n m (suc j) (v ∷ xs) (w ∷ ys) pa pb ta (subst (λ z. AreTimed k z m (w ∷ ys) pb) entries tb) e

-- a history's first program counter is the image's entry
entry_is : (s : Setup) (n : ℕ) → pc_after (views_in (history s n)) (told_below s n).story.state.pc ≡ s.image.entry
unfolding reset_state
entry_is s n = pc_is s (has_views s) n n (opening s)

-- so histories with equal settings and equal first time views have equal first cycles
pub equal_histories : EqualTimeViewsEqualCycles
equal_histories a b same n m j e =
    same_first (settings_of b) a.image.entry b.image.entry n m j (history a n) (history b m)
    (told_below a n).story.state.pc (told_below b m).story.state.pc (entry_is a n) (entry_is b m)
    (subst (λ z. AreTimed z a.image.entry n (history a n) (told_below a n).story.state.pc) same (is_timed a n))
    (is_timed b m)
    (ap (λ z. take j (time_views_of z (history a n))) (sym same) ∙ e)

-- with it histories with equal views have equal cycles, since equal views have equal time views
pub equal_views : EqualViewsEqualCycles
equal_views a b same n m j e =
    equal_histories a b same n m j
    (equal_time_views (settings_of a) j (history a n) (history b m) e
    ∙ ap (λ z. take j (time_views_of z (history b m))) same)

-- ---- stories

-- how many of the first j events are in the story
kept : ℕ → List Event → ℕ
kept zero xs = 0
kept (suc j) [] = 0
kept (suc j) (x ∷ xs) = if halts x then 1 else suc (kept j xs)

-- the first cycles of a story are first cycles of the history
first_cycles : (j : ℕ) (xs : List Event) → take j (map cycle_of (up_to_halt xs)) ≡ take (kept j xs) (map cycle_of xs)
unfolding up_to_halt kept
first_cycles zero xs = refl
first_cycles (suc j) [] = refl
first_cycles (suc j) (x ∷ xs) =
    elim (halts x) as (λ b. take (suc j) (map cycle_of (if b then x ∷ [] else x ∷ up_to_halt xs))
    ≡ take (if b then 1 else suc (kept j xs)) (cycle_of x ∷ map cycle_of xs))
    [ true ↦ ap (λ l. cycle_of x ∷ l) (take-nil j) | false ↦ ap (λ l. cycle_of x ∷ l) (first_cycles j xs) ]

-- and so for its time views
first_views : (k : Settings) (c : Ctl) (j : ℕ) (xs : List Event)
    → take j (time_views k c (views_in (up_to_halt xs))) ≡ take (kept j xs) (time_views k c (views_in xs))
unfolding up_to_halt kept time_views
first_views k c zero xs = refl
first_views k c (suc j) [] = refl
first_views k c (suc j) (x ∷ xs) =
    elim (halts x) as (λ b. take (suc j) (time_views k c (views_in (if b then x ∷ [] else x ∷ up_to_halt xs)))
    ≡ take (if b then 1 else suc (kept j xs))
    (time_view k c (view_of x) ∷ time_views k (ctl_after c (view_of x)) (views_in xs))) [
      | true ↦ ap (λ l. time_view k c (view_of x) ∷ l) (take-nil j)
      | false ↦ ap (λ l. time_view k c (view_of x) ∷ l) (first_views k (ctl_after c (view_of x)) j xs)
    ]

-- how many they are is told by the story itself
kept_length : (k : Settings) (c : Ctl) (j : ℕ) (xs : List Event)
    → kept j xs ≡ length (take j (time_views k c (views_in (up_to_halt xs))))
unfolding up_to_halt kept time_views
kept_length k c zero xs = refl
kept_length k c (suc j) [] = refl
kept_length k c (suc j) (x ∷ xs) =
    elim (halts x) as (λ b. (if b then 1 else suc (kept j xs))
    ≡ length (take (suc j) (time_views k c (views_in (if b then x ∷ [] else x ∷ up_to_halt xs))))) [
      | true ↦ sym (ap (λ (l : List TimeView). suc (length l)) (take-nil j))
      | false ↦ ap suc (kept_length k (ctl_after c (view_of x)) j xs)
    ]

-- so stories with equal settings and equal first time views have equal first cycles
pub equal_stories : EqualStoryTimeViewsEqualCycles
equal_stories a b same n m j e =
    let ka : Settings = settings_of a in
    let kb : Settings = settings_of b in
    let xs : List Event = history a n in
    let ys : List Event = history b m in
    let counts : kept j xs ≡ kept j ys =
    kept_length ka ctl_reset j xs
    ∙ ap (λ (l : List TimeView). length l) e
    ∙ sym (kept_length kb ctl_reset j ys) in
    first_cycles j xs
    ∙ equal_histories a b same n m (kept j xs)
    (sym (first_views ka ctl_reset j xs) ∙ e ∙ first_views kb ctl_reset j ys
    ∙ ap (λ i. take i (time_views_of kb ys)) (sym counts))
    ∙ ap (λ i. take i (map cycle_of ys)) counts
    ∙ sym (first_cycles j ys)

-- and so stories with equal views have equal cycles
pub equal_story_views : EqualStoryViewsEqualCycles
equal_story_views a b same n m j e =
    equal_stories a b same n m j
    (equal_time_views (settings_of a) j (story a n) (story b m) e
    ∙ ap (λ z. take j (time_views_of z (story b m))) same)
