-- What the code reads after a store is what memory held, and the store changes nothing that was read before it
-- entered.
use Rattle.std.proofs.Common.{◌≡◌, ℕ, ◌*◌, ◌/◌, ◌^◌, ◌<◌, ◌≤◌, ◌⊎◌, inl, inr, Bool, true, false, ◌&&◌}
use Rattle.std.proofs.Common.{◌==◌, List, ◌∷◌, Some, None, refl, sym, ap, ◌∙◌, subst, arith, nat_lt, nat_le}
use Rattle.std.proofs.Common.{if◌then◌else◌}
use Rattle.std.proofs.lemmas.Bool.{le-ltb, lt-ltb, le-leb, lt-leb, cases_lt, eqb-true, eqb-false, ne_eqb}
use Rattle.ibx_isa.specs.declared.event.Access.{Access}
use Rattle.ibx_plan.specs.declared.site.Wait.{Wait}
use Rattle.ibx_bus.specs.PortTimes.{grant_time, answer_time}
use Rattle.ibx_arch.specs.Memory.{Memory, read_bytes}
use Rattle.ibx_memory.specs.Words.{portion_word}
use Rattle.ibx_time.specs.Items.{Portions, NoPortion, One, OneBad, Two, TwoBad}
use Rattle.ibx_time.specs.Memories.{Write, memory_at, write_of, written_by}
use Rattle.ibx_time.specs.Times.{portion_grant}
use Rattle.ibx_time.proofs.Settled.{IsBefore, all_at, later_before}
use Rattle.ibx_time.proofs.Written.{all_written}
use Rattle.ibx_replay.specs.Fetches.{Written, held_in, first_of, second_of}
use Rattle.ibx_replay.proofs.Fetched.{Holds}
use Rattle.ibx_replay.proofs.Held.{word_of, put, Leaves, other_word, held_two}
use Rattle.ibx_replay.proofs.Enters.{AreOld}

-- the word at an address that memory held in a cycle, by the writes
abbrev pub reads_of : Memory → List Write → ℕ → ℕ → ℕ
reads_of m ws g a = read_bytes (memory_at m ws g) a 4

-- ---- a portion leaves the words at other addresses

-- two different words have different numbers
apart_by : (i p : ℕ) → (4 * p == 4 * i) ≡ false → (i < p) ⊎ (p < i)
apart_by i p e = elim (cases_lt i p) [
  | inl low ↦ inl low
  | inr high ↦ inr (omega (arith, high, eqb-false (4 * p) (4 * i) e))
]

-- a portion leaves each other word
leaves_other : (waits : List Wait) (n e i : ℕ) (a : Access) (second : Bool) → a.addr < 2 ^ 32 → a.size ≤ 4 → i < 2 ^ 30
    → (4 * portion_word a.addr second == 4 * i) ≡ false → Leaves i (write_of waits n e a second)
leaves_other waits n e i a false low most small f m =
    other_word m a.addr a.size a.value i false low most small (apart_by i (portion_word a.addr false) f)
leaves_other waits n e i a true low most small f m =
    other_word m a.addr a.size a.value i true low most small (apart_by i (portion_word a.addr true) f)

-- the word that the code keeps of a portion
abbrev pub kept_word : Memory → List Write → List Wait → ℕ → ℕ → Access → Bool → Written
kept_word m ws waits n e a second = record {
  addr = 4 * portion_word a.addr second;
  time = portion_grant waits n e second;
  old = word_of (portion_word a.addr second) (all_written m ws);
}

-- it is the word at its address
old_at : (b c : Bool) (p i z : ℕ) (m : Memory) → (4 * p == 4 * i) ≡ b
    → (if b && c then word_of p m else z) ≡ (if b && c then word_of i m else z)
old_at true c p i z m e =
    let same : p ≡ i = omega (arith, eqb-true (4 * p) (4 * i) e) in
    ap (λ n. if c then word_of n m else z) same
old_at false c p i z m e = refl

-- ---- one portion

-- the word before one write, or after it
held_one : (m : Memory) (ws : List Write) (w : Write) (g i : ℕ) (b : Bool) → IsBefore ws g → (b ≡ false → Leaves i w)
    → (if b && nat_le g w.time then word_of i (all_written m ws) else word_of i (put w (all_written m ws)))
    ≡ word_of i (memory_at m (w ∷ ws) g)
unfolding memory_at
held_one m ws w g i b z l = by b l (cases_lt w.time g)
  where
    n : Memory
    n = all_written m ws

    old : memory_at m ws g ≡ n
    old = all_at m ws g z

    by : (b : Bool) → (b ≡ false → Leaves i w) → (w.time < g) ⊎ (g ≤ w.time)
        → (if b && nat_le g w.time then word_of i n else word_of i (put w n))
        ≡ word_of i (if nat_lt w.time g then put w (memory_at m ws g) else memory_at m ws g)
    by true l (inl h) = rw (lt-leb g w.time h, lt-ltb w.time g h) (ap (λ v. word_of i (put w v)) (sym old))
    by true l (inr h) = rw (le-leb g w.time h, le-ltb w.time g h) (ap (word_of i) (sym old))
    by false l (inl h) = rw (lt-ltb w.time g h) (ap (λ v. word_of i (put w v)) (sym old))
    by false l (inr h) = rw (le-ltb w.time g h) (l refl n ∙ ap (word_of i) (sym old))

-- ---- by the portions of an item

-- the second portion is granted after the first
second_later : (waits : List Wait) (n e : ℕ) (a : Access)
    → (write_of waits n e a false).time < (write_of waits n e a true).time
unfolding grant_time answer_time
second_later waits n e a = omega arith

-- the two are of different words
words_apart : (addr i : ℕ) → addr < 2 ^ 32 → (4 * portion_word addr false == 4 * i) ≡ true
    → (4 * portion_word addr true == 4 * i) ≡ false
words_apart addr i low e =
    ne_eqb (4 * portion_word addr true) (4 * i)
    (λ f. omega (arith, f, low, eqb-true (4 * portion_word addr false) (4 * i) e))

-- one kept word gives the word of each cycle
one_is : (m : Memory) (waits : List Wait) (n e : ℕ) (a : Access) (ws : List Write) (g i : ℕ) → a.addr < 2 ^ 32
    → a.size ≤ 4 → i < 2 ^ 30 → IsBefore ws g
    → held_in (Some (kept_word m ws waits n e a false)) None
    (λ b. read_bytes (put (write_of waits n e a false) (all_written m ws)) b 4) g (4 * i)
    ≡ word_of i (memory_at m (write_of waits n e a false ∷ ws) g)
unfolding held_in
one_is m waits n e a ws g i low most small z =
    let w = write_of waits n e a false in
    let b = 4 * portion_word a.addr false == 4 * i in
    old_at b (nat_le g w.time) (portion_word a.addr false) i (word_of i (put w (all_written m ws)))
    (all_written m ws) refl
    ∙ held_one m ws w g i b z (leaves_other waits n e i a false low most small)

-- so do two
two_is : (m : Memory) (waits : List Wait) (n e : ℕ) (a : Access) (ws : List Write) (g i : ℕ) → a.addr < 2 ^ 32
    → a.size ≤ 4 → i < 2 ^ 30 → IsBefore ws g
    → held_in (Some (kept_word m ws waits n e a false)) (Some (kept_word m ws waits n e a true))
    (λ b. read_bytes (put (write_of waits n e a true) (put (write_of waits n e a false) (all_written m ws))) b 4) g
    (4 * i)
    ≡ word_of i (memory_at m (write_of waits n e a true ∷ write_of waits n e a false ∷ ws) g)
unfolding held_in
two_is m waits n e a ws g i low most small z =
    let w = write_of waits n e a false in
    let v = write_of waits n e a true in
    let b = 4 * portion_word a.addr false == 4 * i in
    let c = 4 * portion_word a.addr true == 4 * i in
    let k = all_written m ws in
    let now = word_of i (put v (put w k)) in
    old_at b (nat_le g w.time) (portion_word a.addr false) i
    (if c && nat_le g v.time then word_of (portion_word a.addr true) k else now) k refl
    ∙ ap (λ u. if b && nat_le g w.time then word_of i k else u)
    (old_at c (nat_le g v.time) (portion_word a.addr true) i now k refl)
    ∙ sym (held_two m ws w v g i z (second_later waits n e a) b c (leaves_other waits n e i a false low most small)
    (leaves_other waits n e i a true low most small) (words_apart a.addr i low))

-- What the code reads is what memory held in each cycle after all earlier writes.
held_by : (portions : Portions) (store : Bool) (m : Memory) (waits : List Wait) (n e : ℕ) (a : Access)
    (ws : List Write)
    (g i : ℕ) → a.addr < 2 ^ 32 → a.size ≤ 4 → i < 2 ^ 30 → IsBefore ws g
    → held_in (first_of portions store (kept_word m ws waits n e a false))
    (second_of portions store (kept_word m ws waits n e a true))
    (λ b. read_bytes (all_written m (written_by portions store (write_of waits n e a false)
    (write_of waits n e a true) ws)) b 4)
    g (4 * i)
    ≡ word_of i (memory_at m (written_by portions store (write_of waits n e a false) (write_of waits n e a true) ws) g)
unfolding held_in written_by
held_by NoPortion false m waits n e a ws g i low most small z = ap (word_of i) (sym (all_at m ws g z))
held_by One false m waits n e a ws g i low most small z = ap (word_of i) (sym (all_at m ws g z))
held_by OneBad false m waits n e a ws g i low most small z = ap (word_of i) (sym (all_at m ws g z))
held_by Two false m waits n e a ws g i low most small z = ap (word_of i) (sym (all_at m ws g z))
held_by TwoBad false m waits n e a ws g i low most small z = ap (word_of i) (sym (all_at m ws g z))
held_by NoPortion true m waits n e a ws g i low most small z = ap (word_of i) (sym (all_at m ws g z))
held_by One true m waits n e a ws g i low most small z = one_is m waits n e a ws g i low most small z
held_by OneBad true m waits n e a ws g i low most small z = one_is m waits n e a ws g i low most small z
held_by Two true m waits n e a ws g i low most small z = two_is m waits n e a ws g i low most small z
held_by TwoBad true m waits n e a ws g i low most small z = two_is m waits n e a ws g i low most small z

-- the kept words give what memory held in every cycle from the last item's done on
pub held_is : (portions : Portions) (m : Memory) (waits : List Wait) (n e : ℕ) (a : Access) (ws : List Write)
    (since : ℕ)
    → a.addr < 2 ^ 32 → a.size ≤ 4 → IsBefore ws since
    → Holds (held_in (first_of portions a.store (kept_word m ws waits n e a false))
    (second_of portions a.store (kept_word m ws waits n e a true))
    (λ b. read_bytes (all_written m (written_by portions a.store (write_of waits n e a false)
    (write_of waits n e a true) ws)) b 4))
    (reads_of m (written_by portions a.store (write_of waits n e a false) (write_of waits n e a true) ws)) since
held_is portions m waits n e a ws since low most z g b late small even =
    let log = written_by portions a.store (write_of waits n e a false) (write_of waits n e a true) ws in
    let at : 4 * (b / 4) ≡ b = omega (arith, even) in
    let held = held_in (first_of portions a.store (kept_word m ws waits n e a false))
    (second_of portions a.store (kept_word m ws waits n e a true)) (λ b. read_bytes (all_written m log) b 4) in
    subst (λ b. held g b ≡ reads_of m log g b) at
    (held_by portions a.store m waits n e a ws g (b / 4) low most (omega (arith, small))
    (later_before ws since g late z))

-- ---- what was read up to the enter

-- a portion is granted at the item's enter or later
late_grant : (waits : List Wait) (n e : ℕ) (a : Access) (second : Bool) → e ≤ (write_of waits n e a second).time
unfolding grant_time answer_time
late_grant waits n e a false = omega arith
late_grant waits n e a true = omega arith

-- so the writes of an item that enters at e change none of it
old_by : (portions : Portions) (store : Bool) (m : Memory) (waits : List Wait) (n e : ℕ) (a : Access)
    (ws : List Write) (g : ℕ)
    → g ≤ e → memory_at m ws g
    ≡ memory_at m (written_by portions store (write_of waits n e a false) (write_of waits n e a true) ws) g
unfolding memory_at written_by
old_by NoPortion false m waits n e a ws g h = refl
old_by One false m waits n e a ws g h = refl
old_by OneBad false m waits n e a ws g h = refl
old_by Two false m waits n e a ws g h = refl
old_by TwoBad false m waits n e a ws g h = refl
old_by NoPortion true m waits n e a ws g h = refl
old_by One true m waits n e a ws g h = rw (le-ltb (write_of waits n e a false).time g (omega
    (arith, h, late_grant waits n e a false))) refl
old_by OneBad true m waits n e a ws g h = rw (le-ltb (write_of waits n e a false).time g (omega
    (arith, h, late_grant waits n e a false))) refl
old_by Two true m waits n e a ws g h = rw (
  le-ltb (write_of waits n e a false).time g (omega
      (arith, h, late_grant waits n e a false)),
  le-ltb (write_of waits n e a true).time g (omega
      (arith, h, late_grant waits n e a true)),
) refl
old_by TwoBad true m waits n e a ws g h = rw (
  le-ltb (write_of waits n e a false).time g (omega
      (arith, h, late_grant waits n e a false)),
  le-ltb (write_of waits n e a true).time g (omega
      (arith, h, late_grant waits n e a true)),
) refl

-- the item's writes change nothing that was read up to its enter
pub old_is : (portions : Portions) (store : Bool) (m : Memory) (waits : List Wait) (n e : ℕ) (a : Access)
    (ws : List Write)
    → AreOld (reads_of m ws)
    (reads_of m (written_by portions store (write_of waits n e a false) (write_of waits n e a true) ws)) e
old_is portions store m waits n e a ws g b h = ap (λ v. read_bytes v b 4) (old_by portions store m waits n e a ws g h)
