-- The history: the events below a cycle, built event by event.
use Rattle.std.specs.Prelude.{ℕ, zero, suc, ◌+◌, ◌-◌, ◌%◌, ◌^◌, Bool, false, ◌&&◌, ◌==◌, nat_lt, if◌then◌else◌, List}
use Rattle.std.specs.Prelude.{[], ◌∷◌, length, Option, Some, None}
use Rattle.ibx_bits.specs.Platform.{halt_register}
use Rattle.ibx_isa.specs.declared.event.Access.{Access}
use Rattle.ibx_isa.specs.declared.event.Event.{Event}
use Rattle.ibx_isa.specs.declared.event.Event.TheVariants.{Retire, Trap, Irq}
use Rattle.ibx_isa.specs.declared.event.View.{View}
use Rattle.ibx_isa.specs.Views.{view_of}
use Rattle.ibx_decoder.specs.Instructions.{instruction_of}
use Rattle.ibx_arch.specs.Memory.{image_memory, read_bytes}
use Rattle.ibx_arch.specs.State.{State}
use Rattle.ibx_arch.specs.Step.{Choice, Interrupt, Parcels, reset_state, step_with}
use Rattle.ibx_time.specs.Search.{first_from}
use Rattle.ibx_time.specs.Settings.{Setup, settings_of, lines_in}
use Rattle.ibx_time.specs.Items.{Item, item_of, dummy_item}
use Rattle.ibx_time.specs.Requests.{Transaction}
use Rattle.ibx_time.specs.Streams.{past}
use Rattle.ibx_time.specs.Times.{Times, Kind, AnInterrupt, ADummy, AnInstruction, kind_at, is_ready, has_answered}
use Rattle.ibx_time.specs.Times.{admitted, after_event, done_of, first_times}
use Rattle.ibx_time.specs.Memories.{Write, memory_at, access_of, writes_with, sent_with}

-- the times, the state of the architecture, the writes and the transactions of the data port, the last first, and the
-- done cycle of the last item
pub record Story : Type 0 where
  pub times : Times
  pub state : State
  pub writes : List Write
  pub sent : List Transaction
  pub done : ℕ

-- the story at reset, before the first item
abbrev pub opening : Setup → Story
opening s = record { times = first_times s.image.entry; state = reset_state s.image; writes = []; sent = []; done = 0 }

-- ---- the brought parcels

-- the halfword at an address in word j of the stream, as memory held it in the grant of the transaction that read the
-- word
abbrev pub brought : Setup → Story → ℕ → ℕ → ℕ
brought s h j addr =
    read_bytes (memory_at (image_memory s.image) h.writes (past (settings_of s) h.times.stream (suc j)).grant) addr 2

-- the two parcels of the next instruction; the second is in the same word as the first or in the next one
unfoldable pub brought_parcels : Setup → Story → Choice
brought_parcels s h =
    Parcels (brought s h (length h.times.stream.enters) h.state.pc)
    (brought s h (length h.times.stream.enters + h.times.half) ((h.state.pc + 2) % 2 ^ 32))

-- ---- the step of the architecture

-- the view of its event, which doesn't depend on the cycle
abbrev pub view_with : Setup → Story → Choice → View
view_with s h choice = view_of (step_with (lines_in (settings_of s)) h.state choice h.state.stands).event

-- ---- the next item

-- the words of the real instruction have answered by t
unfoldable pub words_there : Setup → Story → ℕ → Bool
words_there s h t =
    has_answered (settings_of s) h.times
    (item_of (settings_of s) h.times.ctl (view_with s h (brought_parcels s h))).parcels t

-- the admission of the next item, if before limit
unfoldable pub admission : Setup → ℕ → Story → ℕ
admission s limit h =
    first_from (limit - h.done) (λ t. is_ready (kind_at (settings_of s) h.times t) (words_there s h t)) h.done

-- what is admitted at t: an interrupt, a dummy or the real instruction
abbrev pub kind_of : Setup → ℕ → Story → Kind
kind_of s t h = kind_at (settings_of s) h.times t

-- the step's choice; a dummy has none
abbrev pub choice_by : Setup → Story → Kind → Option Choice
choice_by s h (AnInterrupt number) = Some (Interrupt number)
choice_by s h ADummy = None
choice_by s h AnInstruction = Some (brought_parcels s h)

-- the choice of the item that is admitted at t
abbrev pub choice_at : Setup → ℕ → Story → Option Choice
choice_at s t h = choice_by s h (kind_of s t h)

-- what of the item decides its cycles, by its choice, and at t
abbrev pub item_by : Setup → Story → Option Choice → Item
item_by s h (Some choice) = item_of (settings_of s) h.times.ctl (view_with s h choice)
item_by s h None = dummy_item (settings_of s) h.times.dummies

-- what decides the cycles of the item that is admitted at t
unfoldable pub item_at : Setup → ℕ → Story → Item
item_at s t h = item_by s h (choice_at s t h)

-- the load's or store's access, if it is one, by its choice, and at t
abbrev pub access_by : Setup → Story → Option Choice → Option Access
access_by s h (Some choice) = access_of h.state (instruction_of (view_with s h choice).word)
access_by s h None = None

-- the access of the item that is admitted at t, where it is a load or store
unfoldable pub access_at : Setup → ℕ → Story → Option Access
access_at s t h = access_by s h (choice_at s t h)

-- the done cycle of the item that is admitted at t
abbrev pub done_at : Setup → ℕ → ℕ → Story → ℕ
done_at s limit t h = done_of (settings_of s) limit t (item_at s t h) h.times

-- the story with the item that is admitted at t, its state as before
unfoldable pub taken : Setup → ℕ → Story → Story
taken s t h = record h {
  times = admitted (kind_of s t h) t (item_at s t h) h.times;
  writes = writes_with s.plan.dwaits h.times.made (t + 1) (item_at s t h).portions (access_at s t h) h.writes;
  sent = sent_with s.plan.dwaits h.times.made (t + 1) (item_at s t h).portions (access_at s t h) h.sent;
}

-- ---- the history

-- an item that is done, from the story with it, by its choice: an event, or none for a dummy
abbrev pub event_by : Setup → Story → Option Choice → ℕ → Option Event
event_by s h (Some choice) d = Some (step_with (lines_in (settings_of s)) h.state choice d).event
event_by s h None d = None

-- the story after an item that is done: an event makes a step, and a dummy leaves all but the done cycle
abbrev pub ended_by : Setup → Story → Option Choice → Item → ℕ → Story → Story
ended_by s h (Some choice) i d y =
    let stepped = step_with (lines_in (settings_of s)) h.state choice d in
    record y {
      times = after_event (settings_of s) d (view_with s h choice) i stepped.next.pc y.times;
      state = stepped.next;
      done = d;
    }
ended_by s h None i d y = record y { done = d }

-- the story after the item that is admitted at t, and its event
unfoldable pub continued : Setup → ℕ → ℕ → Story → Story
continued s limit t h = ended_by s h (choice_at s t h) (item_at s t h) (done_at s limit t h) (taken s t h)

-- the event of the item that is admitted at t
unfoldable pub event_at : Setup → ℕ → ℕ → Story → Option Event
event_at s limit t h = event_by s h (choice_at s t h) (done_at s limit t h)

-- the events with one in front, or with none
abbrev pub with_event : Option Event → List Event → List Event
with_event None events = events
with_event (Some e) events = e ∷ events

-- the events from a story on that are done before limit, of at most so many items, and the story that they leave
pub record Told : Type 0 where
  pub events : List Event
  pub story : Story

-- item by item, as long as each is done before limit
unfoldable pub told : Setup → ℕ → ℕ → Story → Told
told s limit zero h = record { events = []; story = h }
told s limit (suc n) h =
    let t = admission s limit h in
    if nat_lt (done_at s limit t h) limit
    then (let rest = told s limit n (continued s limit t h) in
    record { events = with_event (event_at s limit t h) rest.events; story = rest.story })
    else record { events = []; story = h }

-- what is told below a cycle
abbrev pub told_below : Setup → ℕ → Told
told_below s limit = told s limit limit (opening s)

-- the events that are done below a cycle
abbrev pub history : Setup → ℕ → List Event
history s limit = (told_below s limit).events

-- the item that is admitted before limit and not done before it
abbrev pub open_item : Setup → ℕ → Story → Option ℕ
open_item s limit h = if nat_lt (admission s limit h) limit then Some (admission s limit h) else None

-- the story with that item, if there is one
abbrev pub with_item : Setup → Story → Option ℕ → Story
with_item s h None = h
with_item s h (Some t) = taken s t h

-- ---- the story: the history up to and with its first halting store, a word store of 1 in bit 0 to the host's
-- register

-- such a store
abbrev pub is_halt : Access → Bool
is_halt a = a.store && (a.size == 4 && (a.addr == halt_register && a.value % 2 == 1))

-- an event that retires it
abbrev pub halts : Event → Bool
halts (Retire cycle pc word rd value (Some a) ctl ops) = is_halt a
halts (Retire cycle pc word rd value None ctl ops) = false
halts (Trap cycle pc word cause tval addr) = false
halts (Irq cycle pc cause) = false

-- the events up to and with the first that halts
unfoldable pub up_to_halt : List Event → List Event
up_to_halt [] = []
up_to_halt (e ∷ events) = if halts e then e ∷ [] else e ∷ up_to_halt events

-- the events of a run below a cycle, up to its halt
abbrev pub story : Setup → ℕ → List Event
story s limit = up_to_halt (history s limit)
