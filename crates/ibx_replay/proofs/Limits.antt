-- A history below a later cycle goes on from the story below an earlier one.
use Rattle.std.proofs.Common.{◌≡◌, ℕ, zero, suc, ◌+◌, ◌-◌, ◌<◌, ◌≤◌, ◌⊎◌, inl, inr, Bool, true, false, if◌then◌else◌}
use Rattle.std.proofs.Common.{refl, sym, ap}
use Rattle.std.proofs.Common.{◌∙◌, ap₂, arith, append_assoc, append-nil, subst, List, [], ◌∷◌, ◌++◌, nat_lt, Some}
use Rattle.std.proofs.Common.{None, Option}
use Rattle.std.proofs.lemmas.Bool.{lt-ltb, le-ltb}
use Rattle.ibx_isa.specs.declared.event.Event.{Event}
use Rattle.ibx_plan.specs.declared.site.Wait.{Wait}
use Rattle.ibx_time.specs.Search.{first_from}
use Rattle.ibx_time.specs.Settings.{Setup, Settings, settings_of}
use Rattle.ibx_time.specs.Items.{Item, Portions, NoPortion, One, OneBad, Two, TwoBad}
use Rattle.ibx_time.specs.Times.{Times, kind_at, is_ready, done_of, done_by, may_end}
use Rattle.ibx_time.specs.History.{Story, admission, words_there, done_at, continued, event_at, item_at, told}
use Rattle.ibx_time.specs.History.{opening, history}
use Rattle.ibx_time.specs.History.{with_event, event_by, taken, choice_at, ended_by}
use Rattle.ibx_time.specs.Chains.{story_after}
use Rattle.ibx_arch.specs.Step.{Choice}
use Rattle.ibx_time.proofs.Timed.{done_after, first_after}
use Rattle.ibx_time.proofs.Chains.{after_zero, after_suc}
use Rattle.ibx_replay.proofs.Searches.{first_grows}

-- ---- the admission and the done cycle don't depend on the limit, where they come before it

-- an admission before a limit is the same before every later one
pub admission_grows : (s : Setup) (l m : ℕ) (h : Story) → l ≤ m → admission s l h < l
    → admission s m h ≡ admission s l h
unfolding admission
admission_grows s l m h low below =
    first_grows (l - h.done) (m - h.done) (λ t. is_ready (kind_at (settings_of s) h.times t) (words_there s h t))
    h.done
    (omega arith)
    (omega (
      arith,
      below,
      first_after (l - h.done) (λ t. is_ready (kind_at (settings_of s) h.times t)
          (words_there s h t)) h.done,
    ))

-- the end of an item without a portion
done_grows_by : (ws : List Wait) (portions : Portions) (n e stop stop2 : ℕ) → (portions ≡ NoPortion → stop2 ≡ stop)
    → done_by ws portions n e stop2 ≡ done_by ws portions n e stop
unfolding done_by
done_grows_by ws NoPortion n e stop stop2 h = h refl
done_grows_by ws One n e stop stop2 h = refl
done_grows_by ws OneBad n e stop stop2 h = refl
done_grows_by ws Two n e stop stop2 h = refl
done_grows_by ws TwoBad n e stop stop2 h = refl

-- without a portion the item is done where its search stops
none_is : (ws : List Wait) (portions : Portions) (n e stop : ℕ) → portions ≡ NoPortion
    → done_by ws portions n e stop ≡ stop
unfolding done_by
none_is ws NoPortion n e stop h = refl
none_is ws One n e stop h = absurd (cc)
none_is ws OneBad n e stop h = absurd (cc)
none_is ws Two n e stop h = absurd (cc)
none_is ws TwoBad n e stop h = absurd (cc)

-- so is a done cycle
pub done_grows : (k : Settings) (l m t : ℕ) (i : Item) (x : Times) → l ≤ m → done_of k l t i x < l
    → done_of k m t i x ≡ done_of k l t i x
unfolding done_of
done_grows k l m t i x low below =
    done_grows_by k.plan.dwaits i.portions x.made (t + 1) (first_from (l - (t + 1)) (may_end k i x.ctl (t + 1))
    (t + 1))
    (first_from (m - (t + 1)) (may_end k i x.ctl (t + 1)) (t + 1))
    (λ e. first_grows (l - (t + 1)) (m - (t + 1)) (may_end k i x.ctl (t + 1)) (t + 1) (omega arith)
    (omega (
      arith,
      below,
      none_is k.plan.dwaits i.portions x.made (t + 1) (first_from (l - (t + 1)) (may_end k i x.ctl (t + 1)) (t + 1)) e,
      first_after (l - (t + 1)) (may_end k i x.ctl (t + 1)) (t + 1),
    )))

-- so an item that is done before the limit is the same item below a later one
pub item_grows : (s : Setup) (l m : ℕ) (h : Story) → l ≤ m → done_at s l (admission s l h) h < l
    → (admission s m h ≡ admission s l h) × (done_at s m (admission s m h) h ≡ done_at s l (admission s l h) h)
item_grows s l m h low below =
    let t = admission s l h in
    let early : t < l = omega (arith, below, done_after (settings_of s) l t (item_at s t h) h.times) in
    let same : admission s m h ≡ t = admission_grows s l m h low early in
    (same, ap (λ u. done_at s m u h) same ∙ done_grows (settings_of s) l m t (item_at s t h) h.times low below)

-- the story after it is the same, and so is its event
continued_grows : (s : Setup) (l m t : ℕ) (h : Story) → done_at s m t h ≡ done_at s l t h
    → continued s m t h ≡ continued s l t h
unfolding continued
continued_grows s l m t h e = ap (λ d. ended_by s h (choice_at s t h) (item_at s t h) d (taken s t h)) e

-- an item that ends leaves its done cycle
ended_done : (s : Setup) (h : Story) (o : Option Choice) (i : Item) (d : ℕ) (y : Story)
    → (ended_by s h o i d y).done ≡ d
ended_done s h (Some choice) i d y = refl
ended_done s h None i d y = refl

-- the next story is done when its item is
pub continued_done : (s : Setup) (l t : ℕ) (h : Story) → (continued s l t h).done ≡ done_at s l t h
unfolding continued
continued_done s l t h = ended_done s h (choice_at s t h) (item_at s t h) (done_at s l t h) (taken s t h)

-- the next story
abbrev pub next_story : Setup → ℕ → Story → Story
next_story s l h = continued s l (admission s l h) h

-- it is done later than the story before it
pub next_later : (s : Setup) (l : ℕ) (h : Story) → h.done < (next_story s l h).done
unfolding admission
next_later s l h =
    let t = admission s l h in
    omega (
      arith,
      continued_done s l t h,
      done_after (settings_of s) l t (item_at s t h) h.times,
      first_after (l - h.done) (λ u. is_ready (kind_at (settings_of s) h.times u) (words_there s h u)) h.done,
    )

-- an item that is done below a limit leaves the same story below every later one
pub next_grows : (s : Setup) (l m : ℕ) (h : Story) → l ≤ m → (next_story s l h).done < l
    → next_story s m h ≡ next_story s l h
next_grows s l m h low below =
    let g = item_grows s l m h low (omega (arith, below, continued_done s l (admission s l h) h)) in
    ap (λ u. continued s m u h) g.0
    ∙ continued_grows s l m (admission s l h) h (sym (ap (λ u. done_at s m u h) g.0) ∙ g.1)

-- so stories below a limit are those below a later one
pub story_grows : (s : Setup) (l m n : ℕ) → l ≤ m → ((n ≡ 0) ⊎ ((story_after s l n).done < l))
    → story_after s m n ≡ story_after s l n
story_grows s l m zero low below = after_zero s m ∙ sym (after_zero s l)
story_grows s l m (suc n) low (inl e) = absurd (omega (arith, e))
story_grows s l m (suc n) low (inr below) =
    let h = story_after s l n in
    let d : (next_story s l h).done < l = subst (λ x. x.done < l) (after_suc s l n) below in
    after_suc s m n
    ∙ ap (λ x. next_story s m x) (story_grows s l m n low (inr (omega (arith, d, next_later s l h))))
    ∙ next_grows s l m h low d ∙ sym (after_suc s l n)

-- ---- what is told

-- by whether the item is done before the limit
told_by : (s : Setup) (l n : ℕ) (h : Story) (b : Bool) → nat_lt (done_at s l (admission s l h) h) l ≡ b
    → told s l (suc n) h
    ≡ (if b then (let rest = told s l n (next_story s l h) in
    record { events = with_event (event_at s l (admission s l h) h) rest.events; story = rest.story })
    else record { events = []; story = h })
unfolding told
told_by s l n h true e = rw e refl
told_by s l n h false e = rw e refl

-- the events alone
events_by : (s : Setup) (l n : ℕ) (h : Story) (b : Bool) → nat_lt (done_at s l (admission s l h) h) l ≡ b
    → (told s l (suc n) h).events
    ≡ (if b then with_event (event_at s l (admission s l h) h) (told s l n (next_story s l h)).events else [])
events_by s l n h true e = ap (λ x. x.events) (told_by s l n h true e)
events_by s l n h false e = ap (λ x. x.events) (told_by s l n h false e)

-- nothing is told of a story that is at the limit
none_told : (s : Setup) (l n : ℕ) (h : Story) → l ≤ h.done → (told s l n h).events ≡ []
unfolding told
none_told s l zero h a = refl
none_told s l (suc n) h a =
    events_by s l n h false (le-ltb (done_at s l (admission s l h) h) l
    (omega (arith, a, next_later s l h, continued_done s l (admission s l h) h)))

-- one item more in front of two that tell the same
front_by : (b : Bool) (o : Option Event) (x y : List Event) → x ≡ y
    → (if b then with_event o x else []) ≡ (if b then with_event o y else [])
front_by true o x y e = ap (with_event o) e
front_by false o x y e = refl

-- as many items as there are cycles left are all that can be told
pub told_enough : (s : Setup) (l n m : ℕ) (h : Story) → l ≤ h.done + n → l ≤ h.done + m
    → (told s l n h).events ≡ (told s l m h).events
told_enough s l zero m h a b = none_told s l zero h (omega arith) ∙ sym (none_told s l m h (omega arith))
told_enough s l (suc n) zero h a b = none_told s l (suc n) h (omega arith) ∙ sym (none_told s l zero h (omega arith))
told_enough s l (suc n) (suc m) h a b =
    let t = admission s l h in
    events_by s l n h (nat_lt (done_at s l t h) l) refl
    ∙ front_by (nat_lt (done_at s l t h) l) (event_at s l t h) (told s l n (next_story s l h)).events
    (told s l m (next_story s l h)).events
    (told_enough s l n m (next_story s l h) (omega (arith, next_later s l h)) (omega (arith, next_later s l h)))
    ∙ sym (events_by s l m h (nat_lt (done_at s l t h) l) refl)

-- what is told below a limit from a story on, however many items it takes
abbrev pub rest_of : Setup → ℕ → Story → List Event
rest_of s l h = (told s l l h).events

-- it begins with the event of the next item, where that is done, and goes on from the story after it
pub rest_more : (s : Setup) (l : ℕ) (h : Story) → done_at s l (admission s l h) h < l
    → rest_of s l h ≡ with_event (event_at s l (admission s l h) h) (rest_of s l (next_story s l h))
rest_more s zero h below = absurd (omega arith)
rest_more s (suc l) h below =
    let t = admission s (suc l) h in
    events_by s (suc l) l h true (lt-ltb (done_at s (suc l) t h) (suc l) below)
    ∙ ap (with_event (event_at s (suc l) t h)) (told_enough s (suc l) l (suc l) (next_story s (suc l) h)
    (omega (arith, next_later s (suc l) h)) (omega arith))

-- and is nothing where it isn't
pub rest_none : (s : Setup) (l : ℕ) (h : Story) → l ≤ done_at s l (admission s l h) h → rest_of s l h ≡ []
rest_none s zero h late_ = none_told s zero zero h (omega arith)
rest_none s (suc l) h late_ =
    events_by s (suc l) l h false (le-ltb (done_at s (suc l) (admission s (suc l) h) h) (suc l) late_)

-- ---- the events so far, whatever the limit

-- its event is the same below a later limit
event_grows : (s : Setup) (l m t : ℕ) (h : Story) → done_at s m t h ≡ done_at s l t h
    → event_at s m t h ≡ event_at s l t h
unfolding event_at
event_grows s l m t h e = ap (λ d. event_by s h (choice_at s t h) d) e

-- below each limit from l on the history is these events, and then what is told from a story on
abbrev pub Goes : Setup → ℕ → List Event → Story → Type 0
Goes s l events h = (m : ℕ) → l ≤ m → history s m ≡ events ++ rest_of s m h

-- so it begins
pub goes_opening : (s : Setup) → Goes s 0 [] (opening s)
goes_opening s m low = refl

-- the events with one behind, or with none
abbrev pub with_last : List Event → Option Event → List Event
with_last events None = events
with_last events (Some e) = events ++ e ∷ []

-- an event in front of a rest stands behind the events before it
behind : (events rest : List Event) (o : Option Event) → events ++ with_event o rest ≡ with_last events o ++ rest
behind events rest None = refl
behind events rest (Some e) = sym (append_assoc events (e ∷ []) rest)

-- and goes on with each item that is done below a limit
pub goes_more : (s : Setup) (l m : ℕ) (events : List Event) (h : Story) → l ≤ m → done_at s m (admission s m h) h < m
    → Goes s l events h → Goes s m (with_last events (event_at s m (admission s m h) h)) (next_story s m h)
goes_more s l m events h low below g n more =
    let t = admission s m h in
    let same = item_grows s m n h more below in
    let d : done_at s n (admission s n h) h < n = omega (arith, same.1) in
    let e : event_at s n (admission s n h) h ≡ event_at s m t h =
    ap (λ u. event_at s n u h) same.0 ∙ event_grows s m n t h (sym (ap (λ u. done_at s n u h) same.0) ∙ same.1) in
    let x : next_story s n h ≡ next_story s m h =
    next_grows s m n h more (omega (arith, below, continued_done s m t h)) in
    g n (omega (arith, more)) ∙ ap (λ es. events ++ es) (rest_more s n h d)
    ∙ ap₂ (λ o y. events ++ with_event o (rest_of s n y)) e x
    ∙ behind events (rest_of s n (next_story s m h)) (event_at s m t h)

-- where it isn't done, these are all
pub goes_none : (s : Setup) (l m : ℕ) (events : List Event) (h : Story) → l ≤ m → m ≤ done_at s m (admission s m h) h
    → Goes s l events h → history s m ≡ events
goes_none s l m events h low over g =
    g m low ∙ ap (λ es. events ++ es) (rest_none s m h over) ∙ append-nil events
