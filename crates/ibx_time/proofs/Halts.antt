-- What holds of histories as far as views agree holds of stories: a story is the history up to its first halting
-- store.
use Rattle.std.proofs.Common.{◌≡◌, ℕ, zero, suc, true, false, List, [], ◌∷◌, map, length, refl, sym, ap, ◌∙◌}
use Rattle.std.proofs.Common.{if◌then◌else◌}
use Rattle.std.specs.Prelude.{take}
use Rattle.std.proofs.Math.Seq.{take-nil}
use Rattle.ibx_isa.specs.declared.event.Event.{Event}
use Rattle.ibx_isa.specs.Views.{view_of}
use Rattle.ibx_time.specs.Cycles.{cycle_of, EqualStoryViewsEqualCycles}
use Rattle.ibx_time.specs.History.{history, halts, up_to_halt}
use Rattle.ibx_time.proofs.Cycles.{equal_views}

-- how many of the first k events are in the story
kept : ℕ → List Event → ℕ
kept zero xs = 0
kept (suc k) [] = 0
kept (suc k) (x ∷ xs) = if halts x then 1 else suc (kept k xs)

-- the first events of a story are first events of the history
first_kept : {A : Type 0} (f : Event → A) (k : ℕ) (xs : List Event)
    → take k (map f (up_to_halt xs)) ≡ take (kept k xs) (map f xs)
unfolding up_to_halt kept
first_kept f zero xs = refl
first_kept f (suc k) [] = refl
first_kept f (suc k) (x ∷ xs) =
    elim (halts x) as (λ b. take (suc k) (map f (if b then x ∷ [] else x ∷ up_to_halt xs))
    ≡ take (if b then 1 else suc (kept k xs)) (f x ∷ map f xs))
    [ true ↦ ap (λ l. f x ∷ l) (take-nil k) | false ↦ ap (λ l. f x ∷ l) (first_kept f k xs) ]

-- how many they are is told by the story itself
kept_length : {A : Type 0} (f : Event → A) (k : ℕ) (xs : List Event)
    → kept k xs ≡ length (take k (map f (up_to_halt xs)))
unfolding up_to_halt kept
kept_length f zero xs = refl
kept_length f (suc k) [] = refl
kept_length f (suc k) (x ∷ xs) =
    elim (halts x) as (λ b. (if b then 1 else suc (kept k xs))
    ≡ length (take (suc k) (map f (if b then x ∷ [] else x ∷ up_to_halt xs))))
    [ true ↦ sym (ap (λ l. suc (length l)) (take-nil k)) | false ↦ ap suc (kept_length f k xs) ]

-- so stories with equal settings and equal first views have equal first cycles
pub equal_stories : EqualStoryViewsEqualCycles
equal_stories a b same n m k e =
    let xs : List Event = history a n in
    let ys : List Event = history b m in
    let counts : kept k xs ≡ kept k ys = kept_length view_of k xs ∙ ap length e ∙ sym (kept_length view_of k ys) in
    first_kept cycle_of k xs
    ∙ equal_views a b same n m (kept k xs)
    (sym (first_kept view_of k xs) ∙ e ∙ first_kept view_of k ys ∙ ap (λ j. take j (map view_of ys)) (sym counts))
    ∙ ap (λ j. take j (map cycle_of ys)) counts
    ∙ sym (first_kept cycle_of k ys)
