-- Along a story the address of the next instruction by the times is the program counter.
use Rattle.std.proofs.Common.{◌≡◌, ℕ, zero, suc, ◌+◌, ◌*◌, ◌/◌, ◌%◌, ◌^◌, ◌<◌, ◌≤◌, ◌==◌, ◌++◌, Bool, true, false}
use Rattle.std.proofs.Common.{List, [], ◌∷◌, length, length-append, Option, Some, None, refl, sym, ap, ◌∙◌, subst}
use Rattle.std.proofs.Common.{arith, if◌then◌else◌, nat_le}
use Rattle.std.proofs.lemmas.Bool.{leb-true, leb-false}
use Rattle.ibx_isa.specs.declared.event.View.{View}
use Rattle.ibx_isa.specs.Views.{view_of}
use Rattle.ibx_decoder.specs.Instructions.{instruction_of}
use Rattle.ibx_isa.specs.Lengths.{is_long}
use Rattle.ibx_arch.specs.Step.{Choice, reset_state, step_with}
use Rattle.ibx_time.specs.Settings.{Settings, Setup, settings_of, lines_in}
use Rattle.ibx_time.specs.Controls.{Ctl, ctl_of, ctl_after}
use Rattle.ibx_time.specs.Items.{Item, item_of, dummy_item, plain, parcels_of, portions_for, retired_item}
use Rattle.ibx_time.specs.Items.{trap_parcels}
use Rattle.ibx_time.specs.Streams.{Stream, redirected, redirected_to}
use Rattle.ibx_time.specs.Times.{Times, Kind, next_pc, admitted, after_event, first_times, half_after, marked}
use Rattle.ibx_time.specs.Times.{target_if}
use Rattle.ibx_time.specs.History.{Story, opening, view_with, admission, kind_of, choice_at, item_by, item_at, done_at}
use Rattle.ibx_time.specs.History.{taken, ended_by, continued}
use Rattle.ibx_time.specs.Chains.{story_after}
use Rattle.ibx_time.proofs.SameViews.{step_view}
use Rattle.ibx_time.proofs.Follows.{HasCtl}
use Rattle.ibx_time.proofs.Chains.{story_ctl}
use Rattle.ibx_time.proofs.Seen.{taken_state, item_at_is, story_half}
use Rattle.ibx_time.proofs.States.{IsGood, step_good}
use Rattle.ibx_time.proofs.Stories.{IsSane, kind_halves, HasHalves, story_good}
use Rattle.ibx_time.proofs.Positions.{row_parcels, step_goes}

-- ---- parcels

-- no word has more than two
parcels_low : (word : ℕ) → parcels_of word ≤ 2
parcels_low word = low_by (is_long word)
  where
    low_by : (b : Bool) → (if b then 2 else 1) ≤ 2
    low_by true = omega arith
    low_by false = omega arith

-- nor has a trap: an unsound parcel is the first or the second, and else the word counts
trap_low : (word : ℕ) (a b : Bool) → (if a then (if b then 1 else 2) else parcels_of word) ≤ 2
trap_low word true true = omega arith
trap_low word true false = omega arith
trap_low word false b = parcels_low word

-- so no item of an event takes more than two parcels
item_low : (k : Settings) (c : Ctl) (v : View) → (item_of k c v).parcels ≤ 2
unfolding item_of
item_low k c v = low_by (v.kind == 2) (v.kind == 1)
  where
    low_by : (irq trap : Bool)
        → (if irq then record (plain 0) { redirects = true } else
        if trap then record (plain (trap_parcels v))
        { portions = portions_for k c (instruction_of v.word) v.addr; cost = 1; redirects = true } else
        retired_item k c v (instruction_of v.word) (plain (parcels_of v.word))).parcels ≤ 2
    low_by true trap = omega arith
    low_by false true = trap_low v.word (v.cause == 1) (v.tval == v.pc)
    low_by false false =
        omega (arith, row_parcels k c v (instruction_of v.word) (parcels_of v.word), parcels_low v.word)

-- ---- an item's parcels move the address

-- so many parcels more are twice as many bytes, whether a word's last half is among them or not
enters_by : (base half parcels e : ℕ) (enters : List ℕ) (b : Bool) → nat_le 2 (half + parcels) ≡ b → half < 2
    → parcels ≤ 2 → (4 * (base + length (if b then enters ++ e ∷ [] else enters)) + 2 * ((half + parcels) % 2))
    % 2 ^ 32 ≡ ((4 * (base + length enters) + 2 * half) % 2 ^ 32 + 2 * parcels) % 2 ^ 32
enters_by base half parcels e enters true f low small =
    let more : length (enters ++ e ∷ []) ≡ length enters + 1 = length-append enters (e ∷ []) in
    let two : 2 ≤ half + parcels = leb-true 2 (half + parcels) f in
    let rest : (half + parcels) % 2 + 2 ≡ half + parcels = omega (arith, two, low, small) in
    omega (arith, more, rest)
enters_by base half parcels e enters false f low small =
    let two : half + parcels < 2 = leb-false 2 (half + parcels) f in
    let rest : (half + parcels) % 2 ≡ half + parcels = omega (arith, two) in
    omega (arith, rest)

-- so an admission moves the address by the item's parcels
admitted_next : (kind : Kind) (t : ℕ) (i : Item) (x : Times) → x.half < 2 → i.parcels ≤ 2
    → next_pc (admitted kind t i x) ≡ (next_pc x + 2 * i.parcels) % 2 ^ 32
unfolding admitted
admitted_next kind t i x low small =
    enters_by x.stream.base x.half i.parcels (t + 1) x.stream.enters (nat_le 2 (x.half + i.parcels)) refl low small

-- ---- an event

-- the address of the next instruction, by the stream and the half
abbrev place_of : Stream → ℕ → ℕ
place_of x half = (4 * (x.base + length x.enters) + 2 * half) % 2 ^ 32

-- a redirect puts it at its target, and else FENCE.I and icache_enable leave it
turned_by : (k : Settings) (x : Stream) (half d pc : ℕ) (fences turns : Bool) (c : Ctl) → pc % 2 ≡ 0 → pc < 2 ^ 32
    → (turns ≡ false → place_of x half ≡ pc)
    → place_of (redirected_to k (marked fences c d x) d (target_if turns pc)) (half_after (target_if turns pc) half)
    ≡ pc
unfolding redirected
turned_by k x half d pc fences true c even low stays =
    let whole : 4 * (pc / 4 + 0) + 2 * (pc / 2 % 2) ≡ pc = omega (arith, even) in
    omega (arith, whole, low)
turned_by k x half d pc fences false c even low stays = stays refl

-- so after an event it is the program counter that the event left
event_next : (k : Settings) (d : ℕ) (v : View) (i : Item) (pc : ℕ) (x : Times) → pc % 2 ≡ 0 → pc < 2 ^ 32
    → (i.redirects ≡ false → next_pc x ≡ pc) → next_pc (after_event k d v i pc x) ≡ pc
unfolding after_event
event_next k d v i pc x even low stays =
    turned_by k x.stream x.half d pc i.fences i.redirects (ctl_after x.ctl v) even low stays

-- ---- the story

-- the address by the times is the state's program counter
abbrev pub HasPlace : Story → Type 0
HasPlace h = next_pc h.times ≡ h.state.pc

-- a step that doesn't redirect, with its item as the history has it
goes_with : (s : Setup) (h : Story) (choice : Choice) (d : ℕ) → HasCtl h
    → (item_by s h (Some choice)).redirects ≡ false
    → (step_with (lines_in (settings_of s)) h.state choice d).next.pc
    ≡ (h.state.pc + 2 * (item_by s h (Some choice)).parcels) % 2 ^ 32
goes_with s h choice d c e =
    let same : item_of (settings_of s) (ctl_of h.state.csrs)
    (view_of (step_with (lines_in (settings_of s)) h.state choice d).event) ≡ item_by s h (Some choice) =
    ap (λ x. item_of (settings_of s) x (view_of (step_with (lines_in (settings_of s)) h.state choice d).event)) (sym c)
    ∙ ap (item_of (settings_of s) h.times.ctl) (step_view (settings_of s) h.state choice d h.state.stands) in
    step_goes (settings_of s) h.state choice d (ap (λ i. i.redirects) same ∙ e)
    ∙ ap (λ i. (h.state.pc + 2 * i.parcels) % 2 ^ 32) same

-- a dummy has no parcels, and no item more than two
dummy_parcels : (s : Setup) (h : Story) → (item_by s h None).parcels ≡ 0
unfolding dummy_item
dummy_parcels s h = refl

-- whatever is admitted takes two parcels at most
choice_low : (s : Setup) (h : Story) (o : Option Choice) → (item_by s h o).parcels ≤ 2
choice_low s h (Some choice) = item_low (settings_of s) h.times.ctl (view_with s h choice)
choice_low s h None = omega (arith, dummy_parcels s h)

-- so it is after an item that is done, by its choice
ended_place : (s : Setup) (h : Story) (o : Option Choice) (d : ℕ) (y : Story) → IsSane s → HasHalves o → HasCtl h
    → IsGood s.image.ram h.state → HasPlace h → y.state ≡ h.state
    → next_pc y.times ≡ (next_pc h.times + 2 * (item_by s h o).parcels) % 2 ^ 32
    → HasPlace (ended_by s h o (item_by s h o) d y)
ended_place s h (Some choice) d y ok p c g at same moved =
    let next = step_good s.image.ram (settings_of s) h.state choice d g p (ok.lines d) in
    event_next (settings_of s) d (view_with s h choice) (item_by s h (Some choice))
    (step_with (lines_in (settings_of s)) h.state choice d).next.pc y.times next.pc_even next.pc_low
    (λ e. moved ∙ ap (λ n. (n + 2 * (item_by s h (Some choice)).parcels) % 2 ^ 32) at
    ∙ sym (goes_with s h choice d c e))
ended_place s h None d y ok p c g at same moved =
    let stays : (h.state.pc + 2 * (item_by s h None).parcels) % 2 ^ 32 ≡ h.state.pc =
    omega (arith, dummy_parcels s h, g.pc_low) in
    moved ∙ ap (λ n. (n + 2 * (item_by s h None).parcels) % 2 ^ 32) at ∙ stays ∙ ap (λ x. x.pc) (sym same)

-- an admission of the story moves the address
taken_next : (s : Setup) (t : ℕ) (h : Story) → h.times.half < 2 → (item_at s t h).parcels ≤ 2
    → next_pc (taken s t h).times ≡ (next_pc h.times + 2 * (item_at s t h).parcels) % 2 ^ 32
unfolding taken
taken_next s t h low small = admitted_next (kind_of s t h) t (item_at s t h) h.times low small

-- so it stays after each item, from the opening on
pub continued_place : (s : Setup) (limit t : ℕ) (h : Story) → IsSane s → HasCtl h → h.times.half < 2
    → IsGood s.image.ram h.state → HasPlace h → HasPlace (continued s limit t h)
unfolding continued
continued_place s limit t h ok c low g at =
    let item = item_at_is s t h in
    let small : (item_at s t h).parcels ≤ 2 =
    omega (arith, ap (λ i. i.parcels) item, choice_low s h (choice_at s t h)) in
    subst (λ i. HasPlace (ended_by s h (choice_at s t h) i (done_at s limit t h) (taken s t h))) (sym item)
    (ended_place s h (choice_at s t h) (done_at s limit t h) (taken s t h) ok (kind_halves s h (kind_of s t h) ok) c g
    at (taken_state s t h)
    (taken_next s t h low small ∙ ap (λ i. (next_pc h.times + 2 * i.parcels) % 2 ^ 32) item))

-- at reset the address is the entry, since that is even
opening_place : (s : Setup) → IsSane s → HasPlace (opening s)
unfolding first_times reset_state
opening_place s ok =
    let whole : 4 * (s.image.entry / 4 + 0) + 2 * (s.image.entry / 2 % 2) ≡ s.image.entry =
    omega (arith, ok.entry_even) in
    omega (arith, whole, ok.entry_low)

-- after any number of items
pub story_place : (s : Setup) (limit n : ℕ) → IsSane s → HasPlace (story_after s limit n)
unfolding story_after
story_place s limit zero ok = opening_place s ok
story_place s limit (suc n) ok =
    let h : Story = story_after s limit n in
    continued_place s limit (admission s limit h) h ok (story_ctl s limit n) (story_half s limit n)
    (story_good s limit n ok) (story_place s limit n ok)
