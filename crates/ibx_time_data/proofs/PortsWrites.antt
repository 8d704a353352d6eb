-- Memory over a cycle by the writes of an item: with none of them in it, and with one.
use Rattle.std.proofs.Common.{◌≡◌, ◌≢◌, ℕ, ◌+◌, ◌<◌, ◌≤◌, Bool, true, false, List, ◌∷◌, refl, sym, ap, ◌∙◌, inl}
use Rattle.std.proofs.Common.{inr, arith, Option, Some, None}
use Rattle.std.proofs.lemmas.Bool.{cases_lt, lt-ltb, le-ltb}
use Rattle.ibx_plan.specs.declared.site.Wait.{Wait}
use Rattle.ibx_bus.specs.PortTimes.{answer_time, grant_time}
use Rattle.ibx_isa.specs.declared.event.Access.{Access}
use Rattle.ibx_arch.specs.Memory.{Memory, with_bytes}
use Rattle.ibx_time_invariant.proofs.Stages.{reaches}
use Rattle.ibx_time.specs.Items.{NoPortion, One, OneBad, Portions, Two, TwoBad}
use Rattle.ibx_time.specs.Times.{portion_grant}
use Rattle.ibx_time.specs.Memories.{Write, memory_at, write_of, writes_with, written_by}
use Rattle.ibx_time_data.proofs.PortsMemory.{memory_with}

-- memory in the next cycle is as in this one
abbrev pub Stays : Memory → List Write → ℕ → Type 0
Stays memory ws c = memory_at memory ws (c + 1) ≡ memory_at memory ws c

-- ---- one write

-- memory with one write made
abbrev pub written : Memory → Write → Memory
written m w = with_bytes m w.addr w.from w.to w.value

-- a write shows from the cycle after its own on
skip_write : (memory : Memory) (w : Write) (ws : List Write) (c : ℕ) → c ≤ w.time
    → memory_at memory (w ∷ ws) c ≡ memory_at memory ws c
unfolding memory_at
skip_write memory w ws c h = rw (le-ltb w.time c h) refl

-- a write is in memory in every cycle after its own
pub take_write : (memory : Memory) (w : Write) (ws : List Write) (c : ℕ) → w.time < c
    → memory_at memory (w ∷ ws) c ≡ written (memory_at memory ws c) w
unfolding memory_at
take_write memory w ws c h = rw (lt-ltb w.time c h) refl

-- so a write in another cycle changes nothing in this one, and one in this cycle is made
pub same_write : (memory : Memory) (w : Write) (ws : List Write) (c : ℕ) → w.time ≢ c → Stays memory ws c
    → Stays memory (w ∷ ws) c
same_write memory w ws c ne stays =
    elim (cases_lt w.time c) [
      | inl past ↦ take_write memory w ws (c + 1) (omega arith) ∙ ap (λ m. written m w) stays
          ∙ sym (take_write memory w ws c past)
      | inr late ↦ skip_write memory w ws (c + 1) (omega (arith, ne)) ∙ stays ∙ sym (skip_write memory w ws c late)
    ]

-- a write in this cycle is made between this cycle's memory and the next one's
now_write : (memory : Memory) (w : Write) (ws : List Write) (c : ℕ) → w.time ≡ c → Stays memory ws c
    → memory_at memory (w ∷ ws) (c + 1) ≡ written (memory_at memory (w ∷ ws) c) w
now_write memory w ws c now stays =
    take_write memory w ws (c + 1) (omega arith)
    ∙ ap (λ m. written m w) (stays ∙ sym (skip_write memory w ws c (omega arith)))

-- a later write doesn't show
late_write : (memory : Memory) (v w : Write) (ws : List Write) (c : ℕ) → c < v.time
    → memory_at memory ws (c + 1) ≡ written (memory_at memory ws c) w
    → memory_at memory (v ∷ ws) (c + 1) ≡ written (memory_at memory (v ∷ ws) c) w
late_write memory v w ws c late h =
    skip_write memory v ws (c + 1) (omega arith) ∙ h
    ∙ ap (λ m. written m w) (sym (skip_write memory v ws c (omega arith)))

-- ---- the writes of two portions

-- neither is in this cycle, the first is, or the second is
none_written : (memory : Memory) (portions : Portions) (st : Bool) (first second : Write) (ws : List Write) (c : ℕ)
    → first.time ≢ c → second.time ≢ c → Stays memory ws c → Stays memory (written_by portions st first second ws) c
unfolding written_by
none_written memory portions false first second ws c a b k = k
none_written memory NoPortion true first second ws c a b k = k
none_written memory One true first second ws c a b k = same_write memory first ws c a k
none_written memory OneBad true first second ws c a b k = same_write memory first ws c a k
none_written memory Two true first second ws c a b k =
    same_write memory second (first ∷ ws) c b (same_write memory first ws c a k)
none_written memory TwoBad true first second ws c a b k =
    same_write memory second (first ∷ ws) c b (same_write memory first ws c a k)

-- where the first portion is granted in this cycle and the second later, the first alone is added
first_written : (memory : Memory) (portions : Portions) (first second : Write) (ws : List Write) (c : ℕ)
    → reaches portions false ≡ true → first.time ≡ c → c < second.time → Stays memory ws c
    → memory_at memory (written_by portions true first second ws) (c + 1)
    ≡ written (memory_at memory (written_by portions true first second ws) c) first
unfolding written_by
first_written memory NoPortion first second ws c r a b k = let no_ : false ≡ true = r in cc
first_written memory One first second ws c r a b k = now_write memory first ws c a k
first_written memory OneBad first second ws c r a b k = now_write memory first ws c a k
first_written memory Two first second ws c r a b k =
    late_write memory second first (first ∷ ws) c b (now_write memory first ws c a k)
first_written memory TwoBad first second ws c r a b k =
    late_write memory second first (first ∷ ws) c b (now_write memory first ws c a k)

-- where the second portion is granted in this cycle and the first in another, the second alone is added
second_written : (memory : Memory) (portions : Portions) (first second : Write) (ws : List Write) (c : ℕ)
    → reaches portions true ≡ true → first.time ≢ c → second.time ≡ c → Stays memory ws c
    → memory_at memory (written_by portions true first second ws) (c + 1)
    ≡ written (memory_at memory (written_by portions true first second ws) c) second
unfolding written_by
second_written memory NoPortion first second ws c r a b k = let no_ : false ≡ true = r in cc
second_written memory One first second ws c r a b k = let no_ : false ≡ true = r in cc
second_written memory OneBad first second ws c r a b k = let no_ : false ≡ true = r in cc
second_written memory Two first second ws c r a b k =
    now_write memory second (first ∷ ws) c b (same_write memory first ws c a k)
second_written memory TwoBad first second ws c r a b k =
    now_write memory second (first ∷ ws) c b (same_write memory first ws c a k)

-- ---- the writes of an item

-- an item whose portions are granted in other cycles leaves memory, and so does one without any
pub item_stays : (memory : Memory) (waits : List Wait) (n e : ℕ) (portions : Portions) (a : Option Access)
    (ws : List Write) (c : ℕ)
    → portion_grant waits n e false ≢ c → portion_grant waits n e true ≢ c → Stays memory ws c
    → Stays memory (writes_with waits n e portions a ws) c
item_stays memory waits n e portions None ws c x y k = k
item_stays memory waits n e portions (Some a) ws c x y k =
    none_written memory portions a.store (write_of waits n e a false) (write_of waits n e a true) ws c x y k

-- an item without portions adds no write, so memory stays
pub no_writes : (memory : Memory) (waits : List Wait) (n e : ℕ) (a : Option Access) (ws : List Write) (c : ℕ)
    → Stays memory ws c → Stays memory (writes_with waits n e NoPortion a ws) c
unfolding written_by
no_writes memory waits n e None ws c k = k
no_writes memory waits n e (Some a) ws c k = by a.store (write_of waits n e a false) (write_of waits n e a true)
  where
    by : (st : Bool) (first second : Write) → Stays memory (written_by NoPortion st first second ws) c
    by false first second = k
    by true first second = k

-- a load writes nothing
pub load_writes : (waits : List Wait) (n e : ℕ) (portions : Portions) (a : Access) (ws : List Write) → a.store ≡ false
    → writes_with waits n e portions (Some a) ws ≡ ws
unfolding written_by
load_writes waits n e portions a ws h =
    ap (λ st. written_by portions st (write_of waits n e a false) (write_of waits n e a true) ws) h

-- the portion of a store that is granted in cycle c
pub portion_written : (memory : Memory) (waits : List Wait) (n e : ℕ) (portions : Portions) (a : Access) (b : Bool)
    (ws : List Write) (c : ℕ) → reaches portions b ≡ true → a.store ≡ true → portion_grant waits n e b ≡ c
    → Stays memory ws c → memory_at memory (writes_with waits n e portions (Some a) ws) (c + 1)
    ≡ memory_with (memory_at memory (writes_with waits n e portions (Some a) ws) c) a b
unfolding answer_time grant_time
portion_written memory waits n e portions a false ws c r st now k =
    ap (λ v. memory_at memory (written_by portions v (write_of waits n e a false) (write_of waits n e a true) ws)
    (c + 1)) st
    ∙ first_written memory portions (write_of waits n e a false) (write_of waits n e a true) ws c r now (omega arith) k
    ∙ sym (ap (λ v. memory_with (memory_at memory
    (written_by portions v (write_of waits n e a false) (write_of waits n e a true) ws) c) a false) st)
portion_written memory waits n e portions a true ws c r st now k =
    ap (λ v. memory_at memory (written_by portions v (write_of waits n e a false) (write_of waits n e a true) ws)
    (c + 1)) st
    ∙ second_written memory portions (write_of waits n e a false) (write_of waits n e a true) ws c r
    (λ h. absurd (omega arith)) now k
    ∙ sym (ap (λ v. memory_with (memory_at memory
    (written_by portions v (write_of waits n e a false) (write_of waits n e a true) ws) c) a true) st)
