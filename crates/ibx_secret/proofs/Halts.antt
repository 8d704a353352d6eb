-- Stories, which end with the first halting store.
use Rattle.std.proofs.Common.{◌≡◌, ℕ, zero, suc, ◌≤◌, ◌∙◌, ◌||◌, Bool, true, false, List, [], ◌∷◌, length, take, refl}
use Rattle.std.proofs.Common.{sym, ap}
use Rattle.std.proofs.Common.{subst, arith, if◌then◌else◌}
use Rattle.ibx_isa.specs.declared.event.Event.{Event}
use Rattle.ibx_isa.specs.Views.{view_of}
use Rattle.ibx_time.specs.Settings.{Settings, settings_of}
use Rattle.ibx_time.specs.Controls.{Ctl, ctl_reset, ctl_after}
use Rattle.ibx_time.specs.History.{history, halts, up_to_halt, story}
use Rattle.ibx_secret.specs.Marks.{marks_of}
use Rattle.ibx_secret.specs.Runs.{has_leak, has_halt, AreTimedAlike, IsEvenStory, IsEvenToHalt, IsEvenToBudget}
use Rattle.ibx_secret.proofs.Even.{is_even, whole_even}

-- a story has no more events than its history
kept_less : (es : List Event) → length (up_to_halt es) ≤ length es
unfolding up_to_halt
kept_less [] = omega arith
kept_less (e ∷ es) = by (halts e) (kept_less es)
  where
    by : (b : Bool) → length (up_to_halt es) ≤ length es
        → length (if b then e ∷ [] else e ∷ up_to_halt es) ≤ suc (length es)
    by true h = omega arith
    by false h = omega (arith, h)

-- and begins as it does
kept_first : (es : List Event) (j : ℕ) → j ≤ length (up_to_halt es) → take j (up_to_halt es) ≡ take j es
unfolding up_to_halt
kept_first es zero h = refl
kept_first [] (suc j) h = refl
kept_first (e ∷ es) (suc j) h = by (halts e) h (kept_first es j)
  where
    by : (b : Bool) → suc j ≤ length (if b then e ∷ [] else e ∷ up_to_halt es)
        → (j ≤ length (up_to_halt es) → take j (up_to_halt es) ≡ take j es)
        → take (suc j) (if b then e ∷ [] else e ∷ up_to_halt es) ≡ e ∷ take j es
    by true g ih = ap (λ l. e ∷ l) (none j (omega (arith, g)))
      where
        none : (i : ℕ) → i ≤ 0 → take i [] ≡ take i es
        none zero le = refl
        none (suc i) le = absurd (omega (arith, le))
    by false g ih = ap (λ l. e ∷ l) (ih (omega (arith, g)))

-- two lists that are alike so far are so up to the halt
kept_alike : (k : Settings) (c : Ctl) (es fs : List Event) (j : ℕ) → j ≤ length (up_to_halt es)
    → AreTimedAlike k c (take j es) (take j fs) → AreTimedAlike k c (take j (up_to_halt es)) (take j (up_to_halt fs))
unfolding up_to_halt
kept_alike k c es fs zero h t = tt
kept_alike k c [] fs (suc j) h t = absurd (omega (arith, h))
kept_alike k c (e ∷ es) [] (suc j) h t = elim t [ ]
kept_alike k c (e ∷ es) (f ∷ fs) (suc j) h t =
    subst (λ b. AreTimedAlike k c (take (suc j) (if halts e then e ∷ [] else e ∷ up_to_halt es))
    (take (suc j) (if b then f ∷ [] else f ∷ up_to_halt fs))) (t.0).halts
    (by (halts e) h (λ le. kept_alike k (ctl_after c (view_of e)) es fs j le t.1.1))
  where
    none : (i : ℕ) → i ≤ 0 → AreTimedAlike k (ctl_after c (view_of e)) (take i []) (take i [])
    none zero le = tt
    none (suc i) le = absurd (omega (arith, le))

    by : (b : Bool) → suc j ≤ length (if b then e ∷ [] else e ∷ up_to_halt es)
        → (j ≤ length (up_to_halt es)
        → AreTimedAlike k (ctl_after c (view_of e)) (take j (up_to_halt es)) (take j (up_to_halt fs)))
        → AreTimedAlike k c (take (suc j) (if b then e ∷ [] else e ∷ up_to_halt es))
        (take (suc j) (if b then f ∷ [] else f ∷ up_to_halt fs))
    by true g ih = (t.0, (t.1.0, none j (omega (arith, g))))
    by false g ih = (t.0, (t.1.0, ih (omega (arith, g))))

pub is_even_story : IsEvenStory
is_even_story a b same first size images n j le e =
    kept_alike (settings_of a) ctl_reset (history a n) (history b n) j le
    (is_even a b same first size images n j (omega (arith, le, kept_less (history a n)))
    (subst (λ l. has_leak a.image.ram a.mul (marks_of first size) l ≡ false) (kept_first (history a n) j le) e))

-- ---- to the halt

-- the events after a first one are alike to the halt, by whether it halts
next_alike : (k : Settings) (c : Ctl) (e f : Event) (es fs : List Event) (b : Bool) → halts e ≡ b
    → has_halt (if b then e ∷ [] else e ∷ up_to_halt es) ≡ true
    → AreTimedAlike k c (take (length (if b then e ∷ [] else e ∷ up_to_halt es)) (e ∷ es))
    (take (length (if b then e ∷ [] else e ∷ up_to_halt es)) (f ∷ fs))
    → (has_halt (up_to_halt es) ≡ true
    → AreTimedAlike k (ctl_after c (view_of e)) (take (length (up_to_halt es)) es) (take (length (up_to_halt es)) fs)
    → AreTimedAlike k (ctl_after c (view_of e)) (up_to_halt es) (up_to_halt fs))
    → AreTimedAlike k c (if b then e ∷ [] else e ∷ up_to_halt es) (if b then f ∷ [] else f ∷ up_to_halt fs)
unfolding has_halt
next_alike k c e f es fs true is h t rest = (t.0, (t.1.0, tt))
next_alike k c e f es fs false is h t rest =
    (t.0, (t.1.0, rest (subst (λ b. (b || has_halt (up_to_halt es)) ≡ true) is h) t.1.1))

-- the first event of both halts alike
head_halts : (k : Settings) (c : Ctl) (e f : Event) (es fs : List Event) (b : Bool)
    → AreTimedAlike k c (take (length (if b then e ∷ [] else e ∷ up_to_halt es)) (e ∷ es))
    (take (length (if b then e ∷ [] else e ∷ up_to_halt es)) (f ∷ fs)) → halts e ≡ halts f
head_halts k c e f es fs true t = (t.0).halts
head_halts k c e f es fs false t = (t.0).halts

no_head : (k : Settings) (c : Ctl) (e : Event) (es : List Event) (b : Bool)
    → AreTimedAlike k c (take (length (if b then e ∷ [] else e ∷ up_to_halt es)) (e ∷ es))
    (take (length (if b then e ∷ [] else e ∷ up_to_halt es)) []) → ⊥
no_head k c e es true t = t
no_head k c e es false t = t

-- lists that are alike as far as the first one's story goes, which halts, have alike stories
whole_alike : (k : Settings) (c : Ctl) (es fs : List Event) → has_halt (up_to_halt es) ≡ true
    → AreTimedAlike k c (take (length (up_to_halt es)) es) (take (length (up_to_halt es)) fs)
    → AreTimedAlike k c (up_to_halt es) (up_to_halt fs)
unfolding up_to_halt has_halt
whole_alike k c [] fs h t = absurd (cc)
whole_alike k c (e ∷ es) [] h t = absurd (no_head k c e es (halts e) t)
whole_alike k c (e ∷ es) (f ∷ fs) h t =
    subst (λ b. AreTimedAlike k c (if halts e then e ∷ [] else e ∷ up_to_halt es)
    (if b then f ∷ [] else f ∷ up_to_halt fs)) (head_halts k c e f es fs (halts e) t)
    (next_alike k c e f es fs (halts e) refl h t (whole_alike k (ctl_after c (view_of e)) es fs))

-- all of a story
take_all : (es : List Event) → take (length es) es ≡ es
take_all [] = refl
take_all (e ∷ es) = ap (λ l. e ∷ l) (take_all es)

pub is_even_to_halt : IsEvenToHalt
is_even_to_halt a b same first size images n h e =
    whole_alike (settings_of a) ctl_reset (history a n) (history b n) h
    (is_even a b same first size images n (length (story a n)) (kept_less (history a n))
    (subst (λ l. has_leak a.image.ram a.mul (marks_of first size) l ≡ false)
    (sym (take_all (story a n)) ∙ kept_first (history a n) (length (story a n)) (omega arith)) e))

-- ---- to the budget

-- lists that are alike have alike stories
kept_whole : (k : Settings) (c : Ctl) (es fs : List Event) → AreTimedAlike k c es fs
    → AreTimedAlike k c (up_to_halt es) (up_to_halt fs)
unfolding up_to_halt
kept_whole k c [] [] t = tt
kept_whole k c [] (f ∷ fs) t = elim t [ ]
kept_whole k c (e ∷ es) [] t = elim t [ ]
kept_whole k c (e ∷ es) (f ∷ fs) t =
    subst (λ b. AreTimedAlike k c (if halts e then e ∷ [] else e ∷ up_to_halt es)
    (if b then f ∷ [] else f ∷ up_to_halt fs)) (t.0).halts
    (by (halts e) (kept_whole k (ctl_after c (view_of e)) es fs t.1.1))
  where
    by : (b : Bool) → AreTimedAlike k (ctl_after c (view_of e)) (up_to_halt es) (up_to_halt fs)
        → AreTimedAlike k c (if b then e ∷ [] else e ∷ up_to_halt es) (if b then f ∷ [] else f ∷ up_to_halt fs)
    by true r = (t.0, (t.1.0, tt))
    by false r = (t.0, (t.1.0, r))

pub is_even_to_budget : IsEvenToBudget
is_even_to_budget a b same first size images n e ends =
    let whole : AreTimedAlike (settings_of a) ctl_reset (history a n) (history b n) =
    whole_even a b same first size images n e ends in
    (whole, kept_whole (settings_of a) ctl_reset (history a n) (history b n) whole)
