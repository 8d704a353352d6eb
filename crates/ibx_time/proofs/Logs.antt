-- Words as memory held them when they were read: writes to come change nothing of them.
use Rattle.std.proofs.Common.{◌≡◌, ℕ, ◌+◌, ◌≤◌, Bool, true, false, List, [], ◌∷◌, ◌++◌, Option, Some, None, refl}
use Rattle.std.proofs.Common.{sym, ap, ◌∙◌, arith}
use Rattle.std.proofs.lemmas.Bool.{le-ltb}
use Rattle.ibx_isa.specs.declared.event.Access.{Access}
use Rattle.ibx_plan.specs.declared.site.Wait.{Wait}
use Rattle.ibx_bus.specs.PortTimes.{answer_time, grant_time}
use Rattle.ibx_arch.specs.Memory.{Memory, image_memory, read_bytes}
use Rattle.ibx_time.specs.Settings.{Setup}
use Rattle.ibx_time.specs.Items.{Portions, NoPortion, One, OneBad, Two, TwoBad}
use Rattle.ibx_time.specs.Times.{portion_grant, portion_issue}
use Rattle.ibx_time.specs.Memories.{Write, memory_at, write_of, writes_with, written_by}
use Rattle.ibx_time.specs.History.{Story, access_at, item_at, taken}

-- the word at an address, as memory held it in a cycle
abbrev pub word_in : Setup → List Write → ℕ → ℕ → ℕ
word_in s log g a = read_bytes (memory_at (image_memory s.image) log g) a 4

-- all these writes are at c or later
abbrev pub AreLate : List Write → ℕ → Type 0
AreLate [] c = Unit {0}
AreLate (w ∷ ws) c = (c ≤ w.time) × AreLate ws c

-- the writes that are new are at c or later
pub record Grows (old new : List Write) (c : ℕ) : Type 0 where
  pub front : List Write
  pub joined : new ≡ front ++ old
  pub late : AreLate front c

-- ---- what was read

-- a write that is later than a read doesn't show in it
pub late_memory : (memory : Memory) (front log : List Write) (g d : ℕ) → g ≤ d → AreLate front d
    → memory_at memory log g ≡ memory_at memory (front ++ log) g
unfolding memory_at
late_memory memory [] log g d h l = refl
late_memory memory (w ∷ front) log g d h l =
    rw (le-ltb w.time g (omega (arith, l.0))) (late_memory memory front log g d h l.1)

-- words that were read at d or before are the same in both logs
abbrev pub IsSame : Setup → List Write → List Write → ℕ → Type 0
IsSame s log new d = (g a : ℕ) → g ≤ d → word_in s log g a ≡ word_in s new g a

-- so writes that are all later leave words that were read
pub grows_same : (s : Setup) (log new : List Write) (d : ℕ) → Grows log new d → IsSame s log new d
grows_same s log new d w g a h =
    ap (λ m. read_bytes m a 4) (late_memory (image_memory s.image) w.front log g d h w.late
    ∙ ap (λ l. memory_at (image_memory s.image) l g) (sym w.joined))

-- ---- the writes of an item

-- a portion is issued in the item's first cycle or later
pub late_issue : (ws : List Wait) (n e : ℕ) (second : Bool) → e ≤ portion_issue ws n e second
unfolding answer_time grant_time
late_issue ws n e false = omega arith
late_issue ws n e true = omega arith

-- the grant of a portion isn't before the item enters
late_grant : (ws : List Wait) (n e : ℕ) (second : Bool) → e ≤ portion_grant ws n e second
unfolding grant_time
late_grant ws n e second = omega (arith, late_issue ws n e second)

-- so neither portion of a store is written before its item enters
late_write : (ws : List Wait) (n e : ℕ) (a : Access) (second : Bool) → e ≤ (write_of ws n e a second).time
late_write ws n e a false = late_grant ws n e false
late_write ws n e a true = late_grant ws n e true

-- so the writes that are new are at that cycle or later
grows_by : (portions : Portions) (store : Bool) (first second : Write) (ws : List Write) (e : ℕ) → e ≤ first.time
    → e ≤ second.time → Grows ws (written_by portions store first second ws) e
unfolding written_by
grows_by NoPortion false first second ws e a b = record { front = []; joined = refl; late = tt }
grows_by One false first second ws e a b = record { front = []; joined = refl; late = tt }
grows_by OneBad false first second ws e a b = record { front = []; joined = refl; late = tt }
grows_by Two false first second ws e a b = record { front = []; joined = refl; late = tt }
grows_by TwoBad false first second ws e a b = record { front = []; joined = refl; late = tt }
grows_by NoPortion true first second ws e a b = record { front = []; joined = refl; late = tt }
grows_by One true first second ws e a b = record { front = first ∷ []; joined = refl; late = (a, tt) }
grows_by OneBad true first second ws e a b = record { front = first ∷ []; joined = refl; late = (a, tt) }
grows_by Two true first second ws e a b = record { front = second ∷ first ∷ []; joined = refl; late = (b, (a, tt)) }
grows_by TwoBad true first second ws e a b = record { front = second ∷ first ∷ []; joined = refl; late = (b, (a, tt)) }

-- an item only adds to the log, and nothing before it enters; without an access it adds nothing
grows_with : (waits : List Wait) (n e : ℕ) (portions : Portions) (o : Option Access) (ws : List Write)
    → Grows ws (writes_with waits n e portions o ws) e
grows_with waits n e portions None ws = record { front = []; joined = refl; late = tt }
grows_with waits n e portions (Some a) ws =
    grows_by portions a.store (write_of waits n e a false) (write_of waits n e a true) ws e
    (late_write waits n e a false) (late_write waits n e a true)

-- so the log of a story grows by writes of the next cycle or later
pub grows : (s : Setup) (t : ℕ) (h : Story) → Grows h.writes (taken s t h).writes (t + 1)
unfolding taken
grows s t h = grows_with s.plan.dwaits h.times.made (t + 1) (item_at s t h).portions (access_at s t h) h.writes
