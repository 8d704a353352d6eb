-- What a step leaves of memory is what the writes of its item leave.
use Rattle.std.proofs.Common.{◌≡◌, ℕ, ◌%◌, ◌^◌, ◌&&◌, ◌||◌, not, Bool, true, false, List, [], ◌∷◌, Option, Some, None}
use Rattle.std.proofs.Common.{refl, ap, ◌∙◌, if◌then◌else◌}
use Rattle.ibx_isa.specs.declared.event.Access.{Access}
use Rattle.ibx_isa.specs.Portions.{portion_addr, portion_size}
use Rattle.ibx_pmp.specs.declared.protection.AccessKind.TheVariants.{Write as Writes}
use Rattle.ibx_plan.specs.declared.site.Wait.{Wait}
use Rattle.ibx_arch.specs.Access.{error_at, has_second, is_refused, refused_at, stored}
use Rattle.ibx_arch.specs.Effects.{store, store_with}
use Rattle.ibx_arch.specs.Memory.{Memory, is_mapped, with_bytes}
use Rattle.ibx_arch.specs.State.{State}
use Rattle.ibx_time.specs.Settings.{Settings}
use Rattle.ibx_time.specs.Controls.{ctl_of}
use Rattle.ibx_time.specs.Items.{Portions, NoPortion, One, OneBad, Two, TwoBad, portions_at, portions_by}
use Rattle.ibx_time.specs.Memories.{Write, write_of, writes_with, written_by}

-- ---- what the portions of an item leave

-- the bytes of one portion of an access, put into memory
abbrev pub put_portion : Memory → Access → Bool → Memory
put_portion m a false = with_bytes m a.addr 0 (portion_size a.addr a.size false) a.value
put_portion m a true = with_bytes m a.addr (portion_size a.addr a.size false) a.size a.value

-- what the portions of a store leave of memory, in their order; a load leaves it
abbrev pub leaves : Bool → Portions → Access → Memory → Memory
leaves false portions a m = m
leaves true NoPortion a m = m
leaves true One a m = put_portion m a false
leaves true OneBad a m = put_portion m a false
leaves true Two a m = put_portion (put_portion m a false) a true
leaves true TwoBad a m = put_portion (put_portion m a false) a true

-- the same of an item that may have no access
abbrev pub leaves_for : Portions → Option Access → Memory → Memory
leaves_for portions None m = m
leaves_for portions (Some a) m = leaves a.store portions a m

-- all writes of a log
abbrev pub all_written : Memory → List Write → Memory
all_written m [] = m
all_written m (w ∷ ws) = with_bytes (all_written m ws) w.addr w.from w.to w.value

-- the writes of an item leave this of memory
portions_written : (waits : List Wait) (n e : ℕ) (store : Bool) (portions : Portions) (a : Access) (ws : List Write)
    (m : Memory) → all_written m (written_by portions store (write_of waits n e a false) (write_of waits n e a true)
    ws) ≡ leaves store portions a (all_written m ws)
unfolding written_by
portions_written waits n e false NoPortion a ws m = refl
portions_written waits n e false One a ws m = refl
portions_written waits n e false OneBad a ws m = refl
portions_written waits n e false Two a ws m = refl
portions_written waits n e false TwoBad a ws m = refl
portions_written waits n e true NoPortion a ws m = refl
portions_written waits n e true One a ws m = refl
portions_written waits n e true OneBad a ws m = refl
portions_written waits n e true Two a ws m = refl
portions_written waits n e true TwoBad a ws m = refl

-- so do those of an item that may have no access
pub writes_leave : (waits : List Wait) (n e : ℕ) (portions : Portions) (o : Option Access) (ws : List Write)
    (m : Memory) → all_written m (writes_with waits n e portions o ws) ≡ leaves_for portions o (all_written m ws)
writes_leave waits n e portions None ws m = refl
writes_leave waits n e portions (Some a) ws m = portions_written waits n e a.store portions a ws m

-- ---- a store

-- a store with its value cut to its bytes
abbrev pub cut_access : ℕ → ℕ → ℕ → Access
cut_access addr size value = record { addr = addr; size = size; store = true; value = value % 256 ^ size }

-- memory after a store, by what is refused and what isn't answered
abbrev store_memory : Memory → Memory → Option ℕ → Option ℕ → Memory
store_memory old new (Some at) error = old
store_memory old new None (Some at) = new
store_memory old new None None = new

-- a store leaves this
store_memory_is : (s : State) (size addr value next : ℕ) (refused error : Option ℕ)
    → (store_with s size addr value next refused error).memory
    ≡ store_memory s.memory (stored s.memory addr size (value % 256 ^ size)) refused error
store_memory_is s size addr value next (Some at) error = refl
store_memory_is s size addr value next None (Some at) = refl
store_memory_is s size addr value next None None = refl

-- what is left is told by the four tests of its portions
store_by : (m : Memory) (addr size value p1 p2 : ℕ) (r1 r2 h2 m1 m2 : Bool)
    → store_memory m
    (if h2 && m1 then with_bytes (with_bytes m addr 0 (portion_size addr size false) (value % 256 ^ size)) addr
    (portion_size addr size false) size (value % 256 ^ size)
    else with_bytes m addr 0 (portion_size addr size false) (value % 256 ^ size))
    (if r1 then Some p1 else if h2 && r2 then Some p2 else None)
    (if not m1 then Some p1 else if h2 && not m2 then Some p2 else None)
    ≡ leaves true (portions_by (r1 || (h2 && r2)) (not m1) h2 (not m2)) (cut_access addr size value) m
store_by m addr size value p1 p2 true r2 h2 m1 m2 = refl
store_by m addr size value p1 p2 false true true m1 m2 = refl
store_by m addr size value p1 p2 false false true true true = refl
store_by m addr size value p1 p2 false false true true false = refl
store_by m addr size value p1 p2 false false true false m2 = refl
store_by m addr size value p1 p2 false true false true m2 = refl
store_by m addr size value p1 p2 false true false false m2 = refl
store_by m addr size value p1 p2 false false false true m2 = refl
store_by m addr size value p1 p2 false false false false m2 = refl

-- the portions by the state's own registers and RAM are those by the settings
store_portions : (k : Settings) (s : State) (size addr : ℕ) → s.memory.ram ≡ k.ram
    → portions_by (is_refused s.csrs addr size Writes false
    || (has_second addr size && is_refused s.csrs addr size Writes true))
    (not (is_mapped s.memory.ram (portion_addr addr false))) (has_second addr size)
    (not (is_mapped s.memory.ram (portion_addr addr true)))
    ≡ portions_at k (ctl_of s.csrs) addr size Writes
store_portions k s size addr e =
    ap (λ r. portions_by (is_refused s.csrs addr size Writes false
    || (has_second addr size && is_refused s.csrs addr size Writes true)) (not (is_mapped r (portion_addr addr false)))
    (has_second addr size) (not (is_mapped r (portion_addr addr true)))) e

-- so a store leaves what its portions do
store_inner : (s : State) (size addr value : ℕ)
    → store_memory s.memory (stored s.memory addr size (value % 256 ^ size)) (refused_at s.csrs addr size Writes)
    (error_at s.memory.ram addr size)
    ≡ leaves true (portions_by (is_refused s.csrs addr size Writes false
    || (has_second addr size && is_refused s.csrs addr size Writes true))
    (not (is_mapped s.memory.ram (portion_addr addr false))) (has_second addr size)
    (not (is_mapped s.memory.ram (portion_addr addr true)))) (cut_access addr size value) s.memory
unfolding stored refused_at error_at
store_inner s size addr value =
    store_by s.memory addr size value (portion_addr addr false) (portion_addr addr true)
    (is_refused s.csrs addr size Writes false) (is_refused s.csrs addr size Writes true) (has_second addr size)
    (is_mapped s.memory.ram (portion_addr addr false)) (is_mapped s.memory.ram (portion_addr addr true))

-- a store of the architecture leaves what its portions by the settings leave
pub store_leaves : (k : Settings) (s : State) (size addr value next : ℕ) → s.memory.ram ≡ k.ram
    → (store s size addr value next).memory
    ≡ leaves true (portions_at k (ctl_of s.csrs) addr size Writes) (cut_access addr size value) s.memory
unfolding store
store_leaves k s size addr value next e =
    store_memory_is s size addr value next (refused_at s.csrs addr size Writes) (error_at s.memory.ram addr size)
    ∙ store_inner s size addr value
    ∙ ap (λ p. leaves true p (cut_access addr size value) s.memory) (store_portions k s size addr e)
