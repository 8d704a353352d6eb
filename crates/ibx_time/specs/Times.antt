-- When items are admitted, enter and are done: what the items so far leave of time. Our own rule.
use Rattle.std.specs.Prelude.{ℕ, suc, ◌+◌, ◌-◌, ◌*◌, ◌/◌, ◌%◌, ◌^◌, Bool, true, false, not, ◌&&◌, ◌||◌, ◌==◌, nat_le}
use Rattle.std.specs.Prelude.{if◌then◌else◌, List, [], ◌∷◌, ◌++◌, length, Option, Some, None}
use Rattle.ibx_isa.specs.declared.event.View.{View}
use Rattle.ibx_plan.specs.declared.site.Wait.{Wait}
use Rattle.ibx_bus.specs.PortTimes.{grant_time, answer_time}
use Rattle.ibx_arch.specs.Step.{pending_in}
use Rattle.ibx_time.specs.Search.{first_from}
use Rattle.ibx_time.specs.Settings.{Settings, lines_in}
use Rattle.ibx_time.specs.Controls.{Ctl, ctl_reset, ctl_after, enables_cache, is_woken, values_of}
use Rattle.ibx_time.specs.Dummies.{dummies_after, is_due_in, counted_in}
use Rattle.ibx_dummy.specs.Dummies.{dummies_reset, inserted}
use Rattle.ibx_dummy.specs.declared.unit.Dummy.{Dummy}
use Rattle.ibx_time.specs.Items.{Item, Portions, NoPortion, One, OneBad, Two, TwoBad}
use Rattle.ibx_time.specs.Requests.{nothing_past}
use Rattle.ibx_time.specs.Streams.{Stream, answer, redirected_to}

-- the words since the last redirect, the half of its word in which the next instruction begins, the transactions of
-- the data port, the registers that time depends on, and the dummies
pub record Times : Type 0 where
  pub stream : Stream
  pub half : ℕ
  pub made : ℕ
  pub ctl : Ctl
  pub dummies : Dummy

-- the address of the next instruction
abbrev pub next_pc : Times → ℕ
next_pc x = (4 * (x.stream.base + length x.stream.enters) + 2 * x.half) % 2 ^ 32

-- ---- the portions of a load or store that enters at e, with n transactions of the port before it; the second portion
-- is issued in the cycle after the first answer

-- the number of a portion's transaction, its issue, its grant and its answer
abbrev pub portion_number : ℕ → Bool → ℕ
portion_number n false = n
portion_number n true = suc n

-- the second portion waits for the first one's answer
abbrev pub portion_issue : List Wait → ℕ → ℕ → Bool → ℕ
portion_issue waits n e false = e
portion_issue waits n e true = answer_time waits n e + 1

-- the issue and the waits of the portion's own transaction give its grant
abbrev pub portion_grant : List Wait → ℕ → ℕ → Bool → ℕ
portion_grant waits n e second = grant_time waits (portion_number n second) (portion_issue waits n e second)

-- the answer comes at least one cycle after the grant
abbrev pub portion_answer : List Wait → ℕ → ℕ → Bool → ℕ
portion_answer waits n e second = answer_time waits (portion_number n second) (portion_issue waits n e second)

-- the transactions after it
unfoldable pub made_by : Portions → ℕ → ℕ
made_by NoPortion n = n
made_by One n = suc n
made_by OneBad n = suc n
made_by Two n = suc (suc n)
made_by TwoBad n = suc (suc n)

-- ---- the done

-- an item without a portion can be done in cycle u
abbrev pub may_end : Settings → Item → Ctl → ℕ → ℕ → Bool
may_end k i c e u = if i.sleeps then is_woken c (lines_in k u) else nat_le (e + i.cost) u

-- the first cycle in which an item without a portion can end, if before limit
abbrev pub stop_of : Settings → ℕ → Item → Ctl → ℕ → ℕ
stop_of k limit i c e = first_from (limit - e) (may_end k i c e) e

-- at the last answer, in the cycle after one that is an error, or where it can end without a portion
unfoldable pub done_by : List Wait → Portions → ℕ → ℕ → ℕ → ℕ
done_by waits NoPortion n e stop = stop
done_by waits One n e stop = portion_answer waits n e false
done_by waits OneBad n e stop = portion_answer waits n e false + 1
done_by waits Two n e stop = portion_answer waits n e true
done_by waits TwoBad n e stop = portion_answer waits n e true + 1

-- the done cycle of an item that is admitted at t; where it comes at limit or later, the item is not done before limit
unfoldable pub done_of : Settings → ℕ → ℕ → Item → Times → ℕ
done_of k limit t i x = done_by k.plan.dwaits i.portions x.made (t + 1) (stop_of k limit i x.ctl (t + 1))

-- ---- the admission

-- what is admitted
pub data Kind : Type 0 where
  AnInterrupt : (number : ℕ) → Kind
  ADummy : Kind
  AnInstruction : Kind

-- by the interrupt that is pending, and whether a dummy is due
abbrev pub kind_by : Option ℕ → Bool → Kind
kind_by (Some number) due = AnInterrupt number
kind_by None true = ADummy
kind_by None false = AnInstruction

-- what is admitted at t: a pending interrupt first, then a due dummy, else the instruction
unfoldable pub kind_at : Settings → Times → ℕ → Kind
kind_at k x t = kind_by (pending_in (values_of x.ctl) (lines_in k t)) (is_due_in x.ctl x.dummies)

-- an interrupt and a dummy wait for nothing, and the real instruction for its words
abbrev pub is_ready : Kind → Bool → Bool
is_ready (AnInterrupt number) words = true
is_ready ADummy words = true
is_ready AnInstruction words = words

-- The words of an instruction with so many parcels have answered by t. One that crosses a word needs two; one with an
-- unsound first parcel takes that one alone.
unfoldable pub has_answered : Settings → Times → ℕ → ℕ → Bool
has_answered k x parcels t =
    nat_le (answer k x.stream (length x.stream.enters)) t
    && (not (x.half == 1 && parcels == 2) || nat_le (answer k x.stream (length x.stream.enters + 1)) t)

-- an item with parcels takes them as it enters, and with them the last half of a word, or not
abbrev pub entered : ℕ → ℕ → ℕ → List ℕ → List ℕ
entered half parcels e enters = if nat_le 2 (half + parcels) then enters ++ e ∷ [] else enters

-- the dummies after an admission: an interrupt leaves them, a dummy is inserted, an instruction counts
abbrev pub dummies_with : Kind → Ctl → Dummy → Dummy
dummies_with (AnInterrupt number) c d = d
dummies_with ADummy c d = inserted d
dummies_with AnInstruction c d = counted_in c d

-- the times with an item that is admitted at t
unfoldable pub admitted : Kind → ℕ → Item → Times → Times
admitted kind t i x = record {
  stream = record x.stream { enters = entered x.half i.parcels (t + 1) x.stream.enters };
  half = (x.half + i.parcels) % 2;
  made = made_by i.portions x.made;
  ctl = x.ctl;
  dummies = dummies_with kind x.ctl x.dummies;
}

-- ---- after an event

-- the FENCE.I so far, with one at d
abbrev pub fenced_if : Bool → ℕ → List ℕ → List ℕ
fenced_if true d fences = d ∷ fences
fenced_if false d fences = fences

-- where an item redirects to, if it does
abbrev pub target_if : Bool → ℕ → Option ℕ
target_if true target = Some target
target_if false target = None

-- the half of its word in which the next instruction begins, after a redirect
abbrev pub half_after : Option ℕ → ℕ → ℕ
half_after None half = half
half_after (Some target) half = target / 2 % 2

-- the stream with what an event at d leaves of FENCE.I and icache_enable
abbrev pub marked : Bool → Ctl → ℕ → Stream → Stream
marked fences c d x = record x {
  fences = fenced_if fences d x.fences;
  switches = record { time = d; on = enables_cache c } ∷ x.switches;
}

-- The times after an event at d with this view, whose item redirects, if it does, to the program counter that the
-- event left.
unfoldable pub after_event : Settings → ℕ → View → Item → ℕ → Times → Times
after_event k d v i pc x = record {
  stream = redirected_to k (marked i.fences (ctl_after x.ctl v) d x.stream) d (target_if i.redirects pc);
  half = half_after (target_if i.redirects pc) x.half;
  made = x.made;
  ctl = ctl_after x.ctl v;
  dummies = dummies_after x.dummies v;
}

-- reset is a redirect at cycle 0
unfoldable pub first_times : ℕ → Times
first_times pc = record {
  stream =
      record { start = 0; base = pc / 4; before = nothing_past; last = 0; enters = []; fences = []; switches = [] };
  half = pc / 2 % 2;
  made = 0;
  ctl = ctl_reset;
  dummies = dummies_reset;
}
