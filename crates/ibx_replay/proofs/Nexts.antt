-- The interrupt in code, the data port over an item, and what `next` answers.
use Rattle.std.proofs.Common.{◌≡◌, ℕ, zero, suc, ◌+◌, ◌-◌, Bool, true, false, List, [], ◌∷◌, ◌++◌, length, Option}
use Rattle.std.proofs.Common.{Some, None}
use Rattle.std.proofs.Common.{refl, sym, ap, ◌∙◌, arith, if◌then◌else◌, slice_get, append_assoc}
use Rattle.std.proofs.lemmas.Bool.{le-leb}
use Rattle.ibx_isa.specs.declared.event.Access.{Access}
use Rattle.ibx_isa.specs.declared.event.Event.{Event}
use Rattle.ibx_plan.specs.declared.site.Wait.{Wait}
use Rattle.ibx_time.specs.Search.{first_from}
use Rattle.ibx_time.specs.Settings.{Settings, Setup, settings_of}
use Rattle.ibx_time.specs.Controls.{enables_cache}
use Rattle.ibx_time.specs.Items.{Portions, NoPortion, One, OneBad, Two, TwoBad, plain}
use Rattle.ibx_time.specs.Times.{Times, AnInterrupt, done_of, done_by, may_end, made_by}
use Rattle.ibx_time.specs.History.{Story, history, kind_of, item_at, access_at, done_at}
use Rattle.ibx_time.proofs.Told.{IsStory}
use Rattle.ibx_replay.specs.Fetches.{Fetch, finish, redirected, port_after}
use Rattle.ibx_replay.proofs.Ports.{IsPlace, place_after}
use Rattle.ibx_replay.proofs.Limits.{with_last, rest_of}
use Rattle.ibx_replay.proofs.Items.{FetchOf, finished_at, held_at, takes_at, stores_for, writes_some}
use Rattle.ibx_replay.proofs.Turns.{Stands, interrupt_is, no_parcels, turns_alone}

-- ---- an interrupt

-- a search ends where it begins, if the test holds there
first_at : (n : ℕ) (p : ℕ → Bool) (c : ℕ) → p c ≡ true → first_from n p c ≡ c
unfolding first_from
first_at zero p c e = refl
first_at (suc n) p c e = by (p c) (first_from n p (c + 1)) e
  where
    by : (b : Bool) (y : ℕ) → b ≡ true → (if b then c else y) ≡ c
    by true y e = refl
    by false y e = let no_ : true ≡ false = sym e in cc

-- it is done as it enters
irq_done : (k : Settings) (limit t : ℕ) (x : Times)
    → done_of k limit t (record (plain 0) { redirects = true }) x ≡ t + 1
unfolding done_of done_by
irq_done k limit t x =
    first_at (limit - (t + 1)) (may_end k (record (plain 0) { redirects = true }) x.ctl (t + 1)) (t + 1)
    (le-leb (t + 1 + 0) (t + 1) (omega arith))

-- an interrupt is done in the cycle after its admission
pub interrupt_done : (s : Setup) (limit t number : ℕ) (h : Story) → kind_of s t h ≡ AnInterrupt number
    → done_at s limit t h ≡ t + 1
interrupt_done s limit t number h e =
    ap (λ i. done_of (settings_of s) limit t i h.times) (interrupt_is s t number h e)
    ∙ irq_done (settings_of s) limit t h.times

-- without a portion no store writes
no_store : (portions : Portions) (o : Option Access) → portions ≡ NoPortion → stores_for portions o ≡ false
no_store portions None e = refl
no_store portions (Some a) e = ap (λ p. writes_some p a.store) e ∙ by a.store
  where
    by : (b : Bool) → writes_some NoPortion b ≡ false
    by true = refl
    by false = refl

-- the end of an interrupt, by what its item has
finish_by : (k : Settings) (on : Bool) (held : ℕ → ℕ
    → ℕ) (since e d : ℕ) (takes stores fences redirects : Bool) (pc : ℕ)
    (f : Fetch) → d ≡ e → takes ≡ false → stores ≡ false → fences ≡ false → redirects ≡ true
    → finish k on held since e d takes stores fences redirects pc f ≡ finish k on held since e e false false false
    true pc f
finish_by k on held since e d takes stores fences redirects pc f a b c g h = cc

-- So the code's redirect is all that an interrupt leaves of the fetch side.
pub interrupt_turns : (s : Setup) (limit t number pc : ℕ) (h : Story) (f : Fetch) → IsStory s h → FetchOf s h (t + 1) f
    → kind_of s t h ≡ AnInterrupt number → finished_at s limit t h pc f ≡ redirected (t + 1) pc f
interrupt_turns s limit t number pc h f z a e =
    let k : Settings = settings_of s in
    let on = enables_cache h.times.ctl in
    let i = interrupt_is s t number h e in
    finish_by k on (held_at s t h) h.done (t + 1) (done_at s limit t h) (takes_at s t h)
    (stores_for (item_at s t h).portions (access_at s t h)) (item_at s t h).fences (item_at s t h).redirects pc f
    (interrupt_done s limit t number h e)
    (no_parcels h.times.half (item_at s t h).parcels z.half_low (ap (λ i. i.parcels) i))
    (no_store (item_at s t h).portions (access_at s t h) (ap (λ i. i.portions) i))
    (ap (λ i. i.fences) i) (ap (λ i. i.redirects) i)
    ∙ turns_alone k _ (held_at s t h) a.q h.done (t + 1) pc on f h.times.stream a.fetch

-- ---- the data port

-- how many transactions the portions of an item have
abbrev pub portions_count : Portions → ℕ
portions_count NoPortion = 0
portions_count One = 1
portions_count OneBad = 1
portions_count Two = 2
portions_count TwoBad = 2

-- so many move its place
pub place_item : (portions : Portions) (waits : List Wait) (at n : ℕ) → IsPlace waits at n
    → IsPlace waits (port_after waits at (portions_count portions)) (made_by portions n)
unfolding made_by
place_item NoPortion waits at n h = place_after waits at n 0 n (omega arith) h
place_item One waits at n h = place_after waits at n 1 (suc n) (omega arith) h
place_item OneBad waits at n h = place_after waits at n 1 (suc n) (omega arith) h
place_item Two waits at n h = place_after waits at n 2 (suc (suc n)) (omega arith) h
place_item TwoBad waits at n h = place_after waits at n 2 (suc (suc n)) (omega arith) h

-- ---- the answer of `next`

-- an entry behind a list is the one at its length, and there is none behind all
get_behind : (xs ys : List Event) (e : Event) → slice_get (xs ++ e ∷ ys) (length xs) ≡ Some e
get_behind [] ys e = refl
get_behind (x ∷ xs) ys e = get_behind xs ys e

-- a list has no entry past its end
get_none : (xs : List Event) → slice_get xs (length xs) ≡ None
get_none [] = refl
get_none (x ∷ xs) = get_none xs

-- after a turn with an event the history below the limit has that event next
pub next_event : (s : Setup) (limit c : ℕ) (events : List Event) (e : Event) (h : Story) (f : Fetch)
    → Stands s limit (with_last events (Some e)) h c f → slice_get (history s limit) (length events) ≡ Some e
next_event s limit c events e h f z =
    ap (λ es. slice_get es (length events)) (z.goes limit (omega arith) ∙ append_assoc events (e ∷ [])
    (rest_of s limit h))
    ∙ get_behind events (rest_of s limit h) e

-- and where the search is left it has none
pub next_none : (s : Setup) (limit : ℕ) (events : List Event) → history s limit ≡ events
    → slice_get (history s limit) (length events) ≡ None
next_none s limit events e = ap (λ es. slice_get es (length events)) e ∙ get_none events
