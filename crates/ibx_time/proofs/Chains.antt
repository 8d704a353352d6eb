-- The events of a history are steps of the architecture, each from the state that the one before left.
use Rattle.std.proofs.Common.{◌≡◌, ℕ, zero, suc, ◌+◌, ◌-◌, ◌<◌, ◌==◌, Bool, true, false, List, [], Option, Some, None}
use Rattle.std.proofs.Common.{refl, sym, ap, ◌∙◌, subst, arith, nat_lt}
use Rattle.std.proofs.lemmas.Bool.{le-leb, eq-eqb, ltb-true}
use Rattle.ibx_isa.specs.declared.event.Event.{Event}
use Rattle.ibx_isa.specs.declared.event.View.{View}
use Rattle.ibx_arch.specs.State.{State}
use Rattle.ibx_arch.specs.Step.{reset_state, Choice, Interrupt, arch_step, is_pending, pending_in, is_taken, step_with}
use Rattle.ibx_arch.specs.Step.{takes_choice}
use Rattle.ibx_time.specs.Search.{first_from}
use Rattle.ibx_time.specs.Settings.{Settings, Setup, settings_of, lines_in}
use Rattle.ibx_time.specs.Controls.{Ctl, values_of}
use Rattle.ibx_time.specs.Dummies.{is_due_in}
use Rattle.ibx_time.specs.Items.{Item, item_of, plain}
use Rattle.ibx_time.specs.Times.{first_times, Times, AnInstruction, kind_by, kind_at, done_of, done_by, may_end}
use Rattle.ibx_time.specs.History.{Story, opening, view_with, brought_parcels, admission, choice_by, choice_at}
use Rattle.ibx_time.specs.History.{item_by, item_at, done_at, taken, event_by, event_at, ended_by, continued}
use Rattle.ibx_time.specs.History.{with_event, told}
use Rattle.ibx_time.specs.Chains.{IsChain, HasChain, story_after}
use Rattle.ibx_time.proofs.Controls.{ctl_of-reset}
use Rattle.ibx_time.proofs.Follows.{HasCtl, continued_ctl}
use Rattle.ibx_time.proofs.Seen.{taken_state}
use Rattle.ibx_time.proofs.Timed.{done_after}
use Rattle.ibx_time.proofs.Views.{view_interrupt}

-- ---- an interrupt is done in the cycle after its admission

-- the search ends where it begins, if the test holds there, and so an interrupt's does
first_here : (n : ℕ) (p : ℕ → Bool) (c : ℕ) → p c ≡ true → first_from n p c ≡ c
unfolding first_from
first_here zero p c e = refl
first_here (suc n) p c e = rw e refl

-- the item of an interrupt takes no parcels, has neither portions nor a cost, and redirects
irq_item_is : (k : Settings) (c : Ctl) (v : View) → (v.kind == 2) ≡ true
    → item_of k c v ≡ record (plain 0) { redirects = true }
unfolding item_of
irq_item_is k c v e = rw e refl

-- an item with no portion, cost or wait is done as it enters, a cycle after its admission
turning_done : (k : Settings) (limit t : ℕ) (x : Times)
    → done_of k limit t (record (plain 0) { redirects = true }) x ≡ suc t
unfolding done_of done_by
turning_done k limit t x =
    first_here (limit - (t + 1)) (may_end k (record (plain 0) { redirects = true }) x.ctl (t + 1)) (t + 1)
    (le-leb (t + 1 + 0) (t + 1) (omega arith))
    ∙ omega arith

-- so an interrupt is done in the cycle after its admission, whatever the limit
irq_done : (s : Setup) (limit t number : ℕ) (h : Story)
    → done_of (settings_of s) limit t (item_by s h (Some (Interrupt number))) h.times ≡ suc t
irq_done s limit t number h =
    ap (λ i. done_of (settings_of s) limit t i h.times)
    (irq_item_is (settings_of s) h.times.ctl (view_with s h (Interrupt number)) (view_interrupt s h number))
    ∙ turning_done (settings_of s) limit t h.times

-- ---- the state takes the choice of each step of the history

-- the state takes the choice at the done cycle; a dummy has none
abbrev IsArch : Setup → Story → ℕ → Option Choice → Type 0
IsArch s h d None = Unit {0}
IsArch s h d (Some choice) = takes_choice (lines_in (settings_of s)) h.state choice d ≡ true

-- a pending interrupt is taken, and parcels always are
irq_arch : (k : Settings) (s : State) (number t : ℕ) → is_taken s.csrs (lines_in k t) number ≡ true
    → takes_choice (lines_in k) s (Interrupt number) (suc t) ≡ true
unfolding takes_choice
irq_arch k s number t e = e

-- the parcels that were brought are a choice that the state takes in every cycle
brought_arch : (s : Setup) (h : Story) (d : ℕ) → IsArch s h d (Some (brought_parcels s h))
unfolding brought_parcels takes_choice
brought_arch s h d = refl

-- a choice that the state takes has its step
taken_step : (lines : ℕ → ℕ) (s : State) (choice : Choice) (d : ℕ) → takes_choice lines s choice d ≡ true
    → arch_step lines s choice d ≡ Some (step_with lines s choice d)
unfolding arch_step
taken_step lines s choice d e = rw e refl

-- the interrupt that is pending by the times is pending by the state
irq_taken : (s : Setup) (h : Story) (t number : ℕ) → HasCtl h
    → pending_in (values_of h.times.ctl) (lines_in (settings_of s) t) ≡ Some number
    → is_taken h.state.csrs (lines_in (settings_of s) t) number ≡ true
irq_taken s h t number c e =
    ap (λ o. is_pending o number) (ap (λ x. pending_in (values_of x) (lines_in (settings_of s) t)) (sym c) ∙ e)
    ∙ eq-eqb number number refl

-- so each choice is taken, by what is pending and due, and at the admission of each item
arch_by : (s : Setup) (limit t : ℕ) (h : Story) → HasCtl h → (o : Option ℕ) (due : Bool)
    → pending_in (values_of h.times.ctl) (lines_in (settings_of s) t) ≡ o
    → IsArch s h (done_of (settings_of s) limit t (item_by s h (choice_by s h (kind_by o due))) h.times)
    (choice_by s h (kind_by o due))
arch_by s limit t h c (Some number) due e =
    subst (λ d. IsArch s h d (Some (Interrupt number))) (sym (irq_done s limit t number h))
    (irq_arch (settings_of s) h.state number t (irq_taken s h t number c e))
arch_by s limit t h c None true e = tt
arch_by s limit t h c None false e =
    brought_arch s h (done_of (settings_of s) limit t (item_by s h (choice_by s h AnInstruction)) h.times)

-- so the state takes the choice of what is admitted at t, in its done cycle
arch_at : (s : Setup) (limit t : ℕ) (h : Story) → HasCtl h → IsArch s h (done_at s limit t h) (choice_at s t h)
unfolding item_at kind_at
arch_at s limit t h c = arch_by s limit t h c (pending_in (values_of h.times.ctl) (lines_in (settings_of s) t))
    (is_due_in h.times.ctl h.times.dummies) refl

-- ---- the chain

-- the story after no item, and after one more
pub after_zero : (s : Setup) (limit : ℕ) → story_after s limit zero ≡ opening s
unfolding story_after
after_zero s limit = refl

-- one item more continues the story with the item that is admitted next
pub after_suc : (s : Setup) (limit n : ℕ)
    → story_after s limit (suc n) ≡ continued s limit (admission s limit (story_after s limit n))
    (story_after s limit n)
unfolding story_after
after_suc s limit n = refl

-- along these stories the times have the registers of the state
opening_ctl : (s : Setup) → HasCtl (opening s)
unfolding first_times reset_state
opening_ctl s = sym (ctl_of-reset s.image.entry)

-- after any number of items the times have the control registers of the state
pub story_ctl : (s : Setup) (limit n : ℕ) → HasCtl (story_after s limit n)
story_ctl s limit zero = subst HasCtl (sym (after_zero s limit)) (opening_ctl s)
story_ctl s limit (suc n) =
    subst HasCtl (sym (after_suc s limit n))
    (continued_ctl s limit (admission s limit (story_after s limit n)) (story_after s limit n) (story_ctl s limit n))

-- one item in front of a chain is a chain: its event is a step from the story's state
link_by : (s : Setup) (limit n : ℕ) (o : Option Choice) (i : Item) (d : ℕ) (y : Story) (events : List Event)
    → admission s limit (story_after s limit n) < limit
    → choice_at s (admission s limit (story_after s limit n)) (story_after s limit n) ≡ o
    → IsArch s (story_after s limit n) d o → y.state ≡ (story_after s limit n).state
    → IsChain s limit (ended_by s (story_after s limit n) o i d y).state events
    → IsChain s limit (story_after s limit n).state (with_event (event_by s (story_after s limit n) o d) events)
unfolding IsChain
link_by s limit n (Some choice) i d y events low chosen step same rest = (
  (step_with (lines_in (settings_of s)) (story_after s limit n).state choice d).next,
  (
    record {
      choice = choice;
      cycle = d;
      is_step = taken_step (lines_in (settings_of s)) (story_after s limit n).state choice d step;
      item = n;
      found = refl;
      below = low;
      is_choice = chosen;
    },
    rest,
  ),
)
link_by s limit n None i d y events low chosen step same rest = subst (λ x. IsChain s limit x events) same rest

-- an item that is admitted before limit puts its event, if it has one, in front of the chain of the rest
link : (s : Setup) (limit n t : ℕ) (events : List Event) → admission s limit (story_after s limit n) ≡ t → t < limit
    → IsChain s limit (continued s limit t (story_after s limit n)).state events
    → IsChain s limit (story_after s limit n).state (with_event (event_at s limit t (story_after s limit n)) events)
unfolding continued event_at
link s limit n t events e low rest =
    let h : Story = story_after s limit n in
    link_by s limit n (choice_at s t h) (item_at s t h) (done_at s limit t h) (taken s t h) events
    (omega (arith, e, low)) (ap (λ u. choice_at s u h) e)
    (arch_at s limit t h (story_ctl s limit n)) (taken_state s t h) rest

-- the events that are told, by whether the item is done before limit
abbrev events_if : Bool → Option Event → List Event → List Event
events_if true e rest = with_event e rest
events_if false e rest = []

-- what is told is these
told_is : (s : Setup) (limit n : ℕ) (h : Story) (b : Bool) → nat_lt (done_at s limit (admission s limit h) h) limit ≡ b
    → (told s limit (suc n) h).events
    ≡ events_if b (event_at s limit (admission s limit h) h)
    (told s limit n (continued s limit (admission s limit h) h)).events
unfolding told
told_is s limit n h true e = rw e refl
told_is s limit n h false e = rw e refl

-- the chain ends where no event is left
empty_chain : (s : Setup) (limit : ℕ) (x : State) → IsChain s limit x []
unfolding IsChain
empty_chain s limit x = tt

-- one item more, whether it is done before limit or not
chain_if : (s : Setup) (limit n t : ℕ) (events : List Event) (b : Bool) → admission s limit (story_after s limit n) ≡ t
    → nat_lt (done_at s limit t (story_after s limit n)) limit ≡ b
    → IsChain s limit (continued s limit t (story_after s limit n)).state events
    → IsChain s limit (story_after s limit n).state (events_if b (event_at s limit t (story_after s limit n)) events)
chain_if s limit n t events true e done rest =
    let h : Story = story_after s limit n in
    link s limit n t events e (omega (
      arith,
      ltb-true (done_at s limit t h) limit done,
      done_after (settings_of s) limit t (item_at s t h) h.times,
    )) rest
chain_if s limit n t events false e done rest = empty_chain s limit (story_after s limit n).state

-- of no items nothing is told
no_events : (s : Setup) (limit : ℕ) (h : Story) → (told s limit zero h).events ≡ []
unfolding told
no_events s limit h = refl

-- what is told from an item on, n items at most
pub told_chain : (s : Setup) (limit n m : ℕ)
    → IsChain s limit (story_after s limit m).state (told s limit n (story_after s limit m)).events
told_chain s limit zero m = subst (λ events. IsChain s limit (story_after s limit m).state events)
    (sym (no_events s limit (story_after s limit m))) (empty_chain s limit (story_after s limit m).state)
told_chain s limit (suc n) m =
    let h : Story = story_after s limit m in
    let t : ℕ = admission s limit h in
    subst (λ events. IsChain s limit h.state events)
    (sym (told_is s limit n h (nat_lt (done_at s limit t h) limit) refl))
    (chain_if s limit m t (told s limit n (continued s limit t h)).events (nat_lt (done_at s limit t h) limit) refl
    refl
    (subst (λ x. IsChain s limit x.state (told s limit n x).events) (after_suc s limit m)
    (told_chain s limit n (suc m))))

-- the events of a history are a chain from the image's first state
pub has_chain : (s : Setup) → HasChain s
has_chain s n = subst (λ x. IsChain s n x.state (told s n n x).events) (after_zero s n) (told_chain s n n zero)
