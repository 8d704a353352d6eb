-- Small facts about a cycle's phases, of which the join is made.
use Rattle.std.proofs.Common.{◌≡◌, ℕ, zero, suc, ◌+◌, ◌*◌, ◌/◌, ◌%◌, ◌^◌, ◌<◌, ◌≤◌, Bool, true, false, not, List, []}
use Rattle.std.proofs.Common.{◌∷◌, ◌++◌, length, if◌then◌else◌, nat_le, ◌==◌, bit_and, Some, None, Option, sym, refl}
use Rattle.std.proofs.Common.{ap, ◌∙◌, subst, arith, add-zero}
use Rattle.std.proofs.lemmas.Bool.{lt-ltb, le-ltb, lt-leb}
use Rattle.ibx_muldiv.specs.declared.unit.MulDiv.{MulDiv as MulDivUnit}
use Rattle.ibx_muldiv.specs.Unit.{idle_of as md_idle}
use Rattle.ibx_id.specs.declared.stage.Turn.TheVariants.{Idle, Dummy, Hold, Irq, Retire, Trap}
use Rattle.ibx_id.specs.declared.stage.Turn.{Turn}
use Rattle.ibx_id.specs.declared.stage.IdState.{IdState}
use Rattle.ibx_prefetch.specs.Buffer.{requested, head_of, popped, took}
use Rattle.ibx_prefetch.specs.declared.buffer.Prefetch.{Prefetch}
use Rattle.ibx_prefetch.specs.declared.buffer.Head.{Head}
use Rattle.std.proofs.lemmas.Nat.{mod_below}
use Rattle.std.proofs.Math.Nat.{mod-eq_of_lt}
use Rattle.ibx_time_invariant.proofs.Fetches.{pc_in}
use Rattle.ibx_time_invariant.proofs.Ties.{AreLate, Grows, IsBefore, Tied}
use Rattle.ibx_time_invariant.proofs.Invariant.{enables}
use Rattle.ibx_time_invariant.proofs.StageSide.{ending}
use Rattle.ibx_time_invariant.proofs.AdmitSide.{entry_in_cycle}
use Rattle.ibx_bus.specs.Memory.{MemoryState, memory_after, memory_next}
use Rattle.ibx_time.specs.Settings.{Settings, Setup}
use Rattle.ibx_time.specs.Controls.{Ctl, enables_cache}
use Rattle.ibx_time.specs.Streams.{Stream, issue, past}
use Rattle.ibx_time.specs.Times.{ADummy, AnInstruction, AnInterrupt, Kind, entered, next_pc}
use Rattle.ibx_time.specs.Memories.{Write, memory_at}
use Rattle.ibx_time.specs.History.{Story}
use Rattle.ibx_time.proofs.Times.{IsRequested, past_more}
use Rattle.ibx_icache.specs.declared.doing.Doing.TheVariants.{Answers, AsksBare, AsksFirst, AsksSecond, AwaitsBare}
use Rattle.ibx_icache.specs.declared.doing.Doing.TheVariants.{AwaitsFirst, AwaitsSecond, Looks, Rests}
use Rattle.ibx_icache.specs.Doing.{wires_by}
use Rattle.ibx_icache.specs.declared.doing.Doing.{Doing}
use Rattle.ibx_arch.specs.Memory.{Memory, with_bytes}
use Rattle.ibx_csr.specs.Fields.{values}
use Rattle.ibx_csr.specs.Values.{CsrValues, counters_after}
use Rattle.ibx_csr.specs.declared.csrs.Csrs.{Csrs}
use Rattle.ibx_core.specs.Effects.{Effect}
use Rattle.ibx_core.specs.Entries.{admits_by, admits_at}
use Rattle.ibx_core.specs.Core.{md_next}

-- ---- memory

-- no write is in cycle c
pub memory_stays : (memory : Memory) (ws : List Write) (c : ℕ) → IsBefore ws c
    → memory_at memory ws (c + 1) ≡ memory_at memory ws c
unfolding memory_at
memory_stays memory [] c b = refl
memory_stays memory (w ∷ ws) c b =
    rw (lt-ltb w.time (c + 1) (omega (arith, b.0)), lt-ltb w.time c b.0)
    (ap (λ m. with_bytes m w.addr w.from w.to w.value) (memory_stays memory ws c b.1))

-- a fetch changes no memory
pub fetch_reads : (granted : Bool) (m : MemoryState) (g : Doing) (addr : ℕ)
    → memory_after granted m (wires_by g addr) ≡ m
unfolding wires_by memory_next
fetch_reads false m g addr = refl
fetch_reads true m Rests addr = refl
fetch_reads true m Looks addr = refl
fetch_reads true m AsksFirst addr = refl
fetch_reads true m AwaitsFirst addr = refl
fetch_reads true m AsksSecond addr = refl
fetch_reads true m AwaitsSecond addr = refl
fetch_reads true m Answers addr = refl
fetch_reads true m AsksBare addr = refl
fetch_reads true m AwaitsBare addr = refl

-- ---- the buffer

-- the request doesn't show at the head
pub head_same : (request : Option ℕ) (f : Prefetch) → head_of (requested request f) ≡ head_of f
unfolding head_of requested
head_same None f = refl
head_same (Some addr) f = refl

-- an even program counter stays where no parcel is taken
took_by : (f : Prefetch) (b : Bool) (addr : ℕ) → b ≡ false → addr ≡ f.head_pc
    → record (popped b f) { head_pc = addr } ≡ f
unfolding popped
took_by f true addr e k = let no_ : true ≡ false = e in cc
took_by f false addr e k = ap (λ a. record f { head_pc = a }) k

-- nothing is taken
pub took_none : (x : Stream) (half : ℕ) (f : Prefetch) → f.head_pc ≡ pc_in x half → took 0 f ≡ f
took_none x half f e =
    took_by f (nat_le 2 (f.head_pc / 2 % 2 + 2 * 0)) ((f.head_pc + 2 * 0) % 2 ^ 32)
    (lt-leb 2 (f.head_pc / 2 % 2 + 2 * 0) (omega (arith, mod_below (f.head_pc / 2) 2 (omega arith))))
    (ap (λ a. a % 2 ^ 32) (add-zero f.head_pc) ∙ mod-eq_of_lt low)
  where
    low : f.head_pc < 2 ^ 32
    low =
        subst (λ a. a < 2 ^ 32) (sym e) (mod_below (4 * (x.base + length x.enters) + 2 * half) (2 ^ 32) (omega arith))

-- ---- the turn

-- the stage is empty after it, before the admission
abbrev pub is_over : Turn → Bool
is_over (Hold next) = false
is_over turn = true

-- after an empty stage the entry is the admission's, after a held item it is that item, and the multiplier rests
pub over_admits : (turn : Turn) (head : Head) (e : Effect) (lines : ℕ) → is_over turn ≡ true
    → admits_by turn head e lines ≡ entry_in_cycle lines head e.csrs e.dummies e.next_pc
unfolding admits_at values
over_admits Idle head e lines k = refl
over_admits (Hold next) head e lines k = let no_ : false ≡ true = k in cc
over_admits (Retire redirect) head e lines k = refl
over_admits (Trap portion) head e lines k = refl
over_admits Irq head e lines k = refl
over_admits Dummy head e lines k = refl

-- an item that is held takes no parcel, and leaves the dummies as the effects say
pub hold_admits : (turn : Turn) (next : IdState) (head : Head) (e : Effect) (lines : ℕ) → turn ≡ Hold next
    → admits_by turn head e lines ≡ record { id = next; taken = 0; dummies = e.dummies }
unfolding admits_at values
hold_admits turn next head e lines k = ap (λ t. admits_by t head e lines) k

-- the multiplier is idle once the stage is empty
pub over_md : (turn : Turn) (md : MulDivUnit) → is_over turn ≡ true → md_next turn md ≡ md_idle
unfolding md_idle md_next
over_md Idle md k = refl
over_md (Hold next) md k = let no_ : false ≡ true = k in cc
over_md (Retire redirect) md k = refl
over_md (Trap portion) md k = refl
over_md Irq md k = refl
over_md Dummy md k = refl

-- each ending turn leaves the stage empty
ending_over_by : (a b c redirect : Bool)
    → is_over (if a then Trap 1 else if b then Trap 2 else if c then Trap 0 else Retire redirect) ≡ true
ending_over_by true b c redirect = refl
ending_over_by false true c redirect = refl
ending_over_by false false true redirect = refl
ending_over_by false false false redirect = refl

-- whatever the item was, its last turn leaves the stage empty
pub ending_over : (kind : Kind) (phase : ℕ) (redirect : Bool) → is_over (ending kind phase redirect) ≡ true
ending_over (AnInterrupt number) phase redirect = refl
ending_over ADummy phase redirect = refl
ending_over AnInstruction phase redirect = ending_over_by (phase == 2) (phase == 3) (phase == 4) redirect

-- ---- the enable bit

-- the core's bit is that of the times
pub enables_is : (s : Setup) (h : Story) (c next_pc : ℕ) (csrs : Csrs) (regs : List ℕ) → Tied s h c next_pc csrs regs
    → enables csrs ≡ enables_cache h.times.ctl
unfolding values counters_after
enables_is s h c next_pc csrs regs t =
    ap (λ (v : CsrValues). not (bit_and v.cpuctrl 1 == 0)) t.values_are ∙ sym (ap (λ (v : Ctl). enables_cache v) t.ctl)

-- ---- the first request

-- an instruction in the stage has had a word requested
pub has_request : (k : Settings) (x : Stream) (t c q : ℕ) → IsRequested k x c q → issue k x 0 < t + 1 → t < c → 0 < q
has_request k x t c zero r h less = absurd (omega (arith, r.after (omega arith)))
has_request k x t c (suc q) r h less = omega arith

-- ---- an item that enters

-- writes of this cycle or later aren't seen in it
pub late_unseen : (memory : Memory) (front ws : List Write) (c : ℕ) → AreLate front c
    → memory_at memory (front ++ ws) c ≡ memory_at memory ws c
unfolding memory_at
late_unseen memory [] ws c l = refl
late_unseen memory (w ∷ front) ws c l = rw (le-ltb w.time c l.0) (late_unseen memory front ws c l.1)

-- so a log that grows by such writes gives the same memory in this cycle
pub grows_unseen : (memory : Memory) (old more : List Write) (c : ℕ) → Grows old more c
    → memory_at memory more c ≡ memory_at memory old c
grows_unseen memory old more c g = ap (λ ws. memory_at memory ws c) g.joined ∙ late_unseen memory g.front old c g.late

-- parcels that are taken change no word before the third one behind them
past_entered_by : (k : Settings) (x : Stream) (e q : ℕ) (b : Bool) → q ≤ length x.enters + 3
    → past k (record x { enters = if b then x.enters ++ e ∷ [] else x.enters }) q ≡ past k x q
past_entered_by k x e q true low = past_more k x e q low
past_entered_by k x e q false low = refl

-- the words that are requested are the same
pub past_entered : (k : Settings) (x : Stream) (half n e q : ℕ) → q ≤ length x.enters + 3
    → past k (record x { enters = entered half n e x.enters }) q ≡ past k x q
past_entered k x half n e q low = past_entered_by k x e q (nat_le 2 (half + n)) low
