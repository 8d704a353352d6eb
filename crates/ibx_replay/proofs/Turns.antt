-- One item of the replay: what stands between items goes on with an event, with a dummy, and stays where none is done.
use Rattle.std.proofs.Common.{◌≡◌, ℕ, ◌+◌, ◌<◌, ◌≤◌, Bool, true, false, not, ◌||◌, ◌==◌, List, Some, None}
use Rattle.std.proofs.Common.{refl, sym, ap, ◌∙◌, subst, arith, nat_le}
use Rattle.std.proofs.lemmas.Bool.{and_parts, lt-leb}
use Rattle.ibx_isa.specs.declared.event.Event.{Event}
use Rattle.ibx_isa.specs.declared.event.View.{View}
use Rattle.ibx_arch.specs.Step.{Choice, Interrupt}
use Rattle.ibx_time.specs.Settings.{Settings, Setup, settings_of}
use Rattle.ibx_time.specs.Controls.{Ctl}
use Rattle.ibx_time.specs.Items.{item_of, plain}
use Rattle.ibx_time.specs.Streams.{Stream}
use Rattle.ibx_time.specs.Times.{AnInterrupt, ADummy, AnInstruction}
use Rattle.ibx_time.specs.History.{Story, admission, continued, event_at, event_by, history, kind_of, choice_at}
use Rattle.ibx_time.specs.History.{choice_by}
use Rattle.ibx_time.specs.History.{item_at, item_by, access_at, done_at, brought_parcels, view_with}
use Rattle.ibx_time.proofs.Seen.{item_at_is}
use Rattle.ibx_time.proofs.Timed.{done_after}
use Rattle.ibx_time.proofs.Settled.{IsBefore}
use Rattle.ibx_time.proofs.Stories.{IsSane}
use Rattle.ibx_time.proofs.Told.{IsStory}
use Rattle.ibx_time.proofs.Views.{view_interrupt}
use Rattle.ibx_replay.specs.Fetches.{Fetch, end_of, finish, redirected, are_there, is_answered}
use Rattle.ibx_replay.proofs.Fetched.{FetchAt}
use Rattle.ibx_replay.proofs.Keeps.{request_none}
use Rattle.ibx_replay.proofs.Limits.{Goes, with_last, goes_more, goes_none}
use Rattle.ibx_replay.proofs.Items.{FetchOf, IsAdmitted, IsSmall, finished_at, takes_at}
use Rattle.ibx_replay.proofs.Searching.{answered_held, IsSearching}
use Rattle.ibx_replay.proofs.Stays.{IsKept, story_stays, item_stays, dummy_stays, search_leaves}

-- ---- what is admitted, by its kind

-- the choice of an instruction is its parcels, that of an interrupt its number, and a dummy has none
pub choice_instruction : (s : Setup) (t : ℕ) (h : Story) → kind_of s t h ≡ AnInstruction
    → choice_at s t h ≡ Some (brought_parcels s h)
choice_instruction s t h e = ap (choice_by s h) e

-- an interrupt is the step's choice
pub choice_interrupt : (s : Setup) (t number : ℕ) (h : Story) → kind_of s t h ≡ AnInterrupt number
    → choice_at s t h ≡ Some (Interrupt number)
choice_interrupt s t number h e = ap (choice_by s h) e

-- a dummy has no choice
pub choice_dummy : (s : Setup) (t : ℕ) (h : Story) → kind_of s t h ≡ ADummy → choice_at s t h ≡ None
choice_dummy s t h e = ap (choice_by s h) e

-- an instruction is admitted with its first word there
pub admits_instruction : (s : Setup) (t : ℕ) (h : Story) (crosses : Bool) (f : Fetch) → FetchOf s h (t + 1) f
    → h.done ≤ t
    → IsStory s h → IsSmall (access_at s t h) → are_there f crosses t ≡ true → IsAdmitted s t h f
admits_instruction s t h crosses f a late z small e =
    let held : 0 < f.count = answered_held f 0 t
    (and_parts (is_answered f 0 t) (not crosses || is_answered f 1 t) e).0 in
    record { at = a; later = late; before = z.before; access = small; there = λ u. held; some = λ u. held }

-- an interrupt takes no parcel, has no portion, and redirects
irq_is : (k : Settings) (c : Ctl) (v : View) → (v.kind == 2) ≡ true
    → item_of k c v ≡ record (plain 0) { redirects = true }
unfolding item_of
irq_is k c v e = rw e refl

-- the item of an interrupt redirects, and has nothing else
pub interrupt_is : (s : Setup) (t number : ℕ) (h : Story) → kind_of s t h ≡ AnInterrupt number
    → item_at s t h ≡ record (plain 0) { redirects = true }
interrupt_is s t number h e =
    item_at_is s t h ∙ ap (item_by s h) (choice_interrupt s t number h e)
    ∙ irq_is (settings_of s) h.times.ctl (view_with s h (Interrupt number)) (view_interrupt s h number)

-- an item without parcels takes no last half
pub no_parcels : (half parcels : ℕ) → half < 2 → parcels ≡ 0 → nat_le 2 (half + parcels) ≡ false
no_parcels half parcels low e = lt-leb 2 (half + parcels) (omega (arith, low, e))

-- an interrupt that is found is the item that is admitted
pub admits_interrupt : (s : Setup) (t number : ℕ) (h : Story) (f : Fetch) → FetchOf s h (t + 1) f → h.done ≤ t
    → IsStory s h → IsSmall (access_at s t h) → kind_of s t h ≡ AnInterrupt number → IsAdmitted s t h f
admits_interrupt s t number h f a late z small e =
    let i = interrupt_is s t number h e in
    let takes : takes_at s t h ≡ false = no_parcels h.times.half (item_at s t h).parcels z.half_low (ap
    (λ i. i.parcels) i) in
    let fences : (item_at s t h).fences ≡ false = ap (λ i. i.fences) i in
    record {
      at = a;
      later = late;
      before = z.before;
      access = small;
      there = λ u. let no_ : true ≡ false = sym u ∙ takes in cc;
      some = λ u. let no_ : true ≡ false = sym u ∙ fences in cc;
    }

-- an item that takes no word, makes no store and redirects in the cycle of its enter redirects alone
pub turns_alone : (k : Settings) (reads held : ℕ → ℕ → ℕ) (q since e pc : ℕ) (on : Bool) (f : Fetch)
    (x : Stream) → FetchAt k reads x q e f
    → finish k on held since e e false false false true pc f ≡ redirected e pc f
unfolding finish
turns_alone k reads held q since e pc on f x h = ap (redirected e pc) (request_none 3 k reads held x q e e on f h
    (omega arith))

-- ---- what stands between items

-- below each limit from `asked` on the history is these events and then what the story tells, and the fetch side is
-- that
-- of the story
pub record Stands (s : Setup) (asked : ℕ) (events : List Event) (h : Story) (c : ℕ) (f : Fetch) : Type 0 where
  pub goes : Goes s asked events h
  pub story : IsStory s h
  pub fetch : IsKept s h c f

-- it goes on with an event that is done below the limit,
pub turn_event : (s : Setup) (asked limit t c : ℕ) (events : List Event) (h : Story) (choice : Choice)
    (first f : Fetch)
    → IsSane s → Stands s asked events h c first → asked ≤ limit → admission s limit h ≡ t → IsAdmitted s t h f
    → choice_at s t h ≡ Some choice → done_at s limit t h < limit
    → Stands s limit (with_last events (event_at s limit t h)) (continued s limit t h)
    (end_of (item_at s t h).redirects (done_at s limit t h))
    (finished_at s limit t h (continued s limit t h).state.pc f)
turn_event s asked limit t c events h choice first f ok z more e a is below = record {
  goes = subst (λ u. Goes s limit (with_last events (event_at s limit u h)) (continued s limit u h)) e
      (goes_more s asked limit events h more (subst (λ u. done_at s limit u h < limit) (sym e) below) z.goes);
  story = story_stays s limit t h ok z.story a.later;
  fetch = item_stays s limit t h choice f ok z.story a is;
}

-- with a dummy, which tells nothing,
no_event : (s : Setup) (limit t : ℕ) (h : Story) → choice_at s t h ≡ None → event_at s limit t h ≡ None
unfolding event_at
no_event s limit t h e = ap (λ o. event_by s h o (done_at s limit t h)) e

-- one item of the replay that is a dummy
pub turn_dummy : (s : Setup) (asked limit t c : ℕ) (events : List Event) (h : Story) (first f : Fetch)
    → IsSane s → Stands s asked events h c first → asked ≤ limit → admission s limit h ≡ t → FetchOf s h (t + 1) f
    → h.done ≤ t → IsBefore h.writes (t + 1) → choice_at s t h ≡ None → done_at s limit t h < limit
    → Stands s limit events (continued s limit t h) (t + 1) f
turn_dummy s asked limit t c events h first f ok z more e a late w is below = record {
  goes = subst (λ es. Goes s limit es (continued s limit t h)) (ap (with_last events) (no_event s limit t h is))
      (subst (λ u. Goes s limit (with_last events (event_at s limit u h)) (continued s limit u h)) e
      (goes_more s asked limit events h more (subst (λ u. done_at s limit u h < limit) (sym e) below) z.goes));
  story = story_stays s limit t h ok z.story late;
  fetch = dummy_stays s limit t h f z.story a w is;
}

-- and where the next item isn't done below the limit, these are all events below it, and all stands for a later limit,
-- whatever was requested meanwhile.
pub turn_open : (s : Setup) (asked limit t c b : ℕ) (events : List Event) (h : Story) (first f : Fetch)
    → Stands s asked events h b first → IsSearching s h t c f → asked ≤ limit
    → limit ≤ done_at s limit (admission s limit h) h → (history s limit ≡ events) × Stands s limit events h c f
turn_open s asked limit t c b events h first f z i more over = (
  goes_none s asked limit events h more over z.goes,
  record {
    goes = λ m low. z.goes m (omega (arith, more, low));
    story = z.story;
    fetch = search_leaves s h t c f i;
  },
)

-- so it is where nothing is admitted below the limit
pub open_late : (s : Setup) (limit : ℕ) (h : Story) → limit ≤ admission s limit h
    → limit ≤ done_at s limit (admission s limit h) h
open_late s limit h over =
    omega (
      arith,
      over,
      done_after (settings_of s) limit (admission s limit h) (item_at s
          (admission s limit h) h) h.times,
    )
