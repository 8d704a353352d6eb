-- What enters the stage next: an interrupt that is pending, a dummy that is due, or the instruction whose parcels are
-- there. Our own rule.
use Rattle.std.specs.Prelude.{ℕ, ◌+◌, ◌*◌, ◌/◌, ◌%◌, ◌^◌, Bool, true, false, not, ◌&&◌, ◌==◌, Option, Some}
use Rattle.std.specs.Prelude.{None, bit_and}
use Rattle.ibx_isa.specs.ControlBits.{dummy_instr_en, dummy_instr_mask}
use Rattle.ibx_isa.specs.Lengths.{is_long}
use Rattle.ibx_csr.specs.declared.csrs.Csrs.{Csrs}
use Rattle.ibx_csr.specs.Fields.{values}
use Rattle.ibx_csr.specs.Values.{cfg_bytes, sec_of}
use Rattle.ibx_pmp.specs.declared.protection.AccessKind.TheVariants.{Execute}
use Rattle.ibx_pmp.specs.Ranges.{allowed}
use Rattle.ibx_trap.specs.Interrupts.{pending_of}
use Rattle.ibx_dummy.specs.declared.unit.Dummy.{Dummy as DummyUnit}
use Rattle.ibx_dummy.specs.Dummies.{counted_by, dummy_word, inserted, is_due}
use Rattle.ibx_prefetch.specs.declared.buffer.Head.{Head}
use Rattle.ibx_id.specs.declared.stage.IdState.{IdState}
use Rattle.ibx_id.specs.declared.stage.Turn.{Turn}
use Rattle.ibx_id.specs.declared.stage.Turn.TheVariants.{Hold}
use Rattle.ibx_id.specs.Turns.{empty_stage}
use Rattle.ibx_core.specs.declared.state.State.{State}
use Rattle.ibx_core.specs.Effects.{Effect}

-- what the stage holds in the next cycle, the parcels, 0 to 2, that leave the buffer, and the dummies after it
pub record Entry : Type 0 where
  pub id : IdState
  pub taken : ℕ
  pub dummies : DummyUnit

-- an item in its first cycle
abbrev pub enters : ℕ → ℕ → ℕ → ℕ → IdState
enters kind pc word fault =
    record { valid = true; kind = kind; pc = pc; word = word; fault = fault; phase = 0; count = 0 }

-- dummies are enabled, and the mask of their distance
abbrev pub enables_dummies : Csrs → Bool
enables_dummies c = not (bit_and c.cpuctrl dummy_instr_en == 0)

-- bits 5:3 of cpuctrl, which bound how many real instructions lie between two dummies
abbrev pub dummy_mask : Csrs → ℕ
dummy_mask c = bit_and c.cpuctrl dummy_instr_mask / 8

-- a parcel at the head of the buffer: it is awaited, or it came with an error or where protection forbids it, or it is
-- a halfword of code
pub data Parcel : Type 0 where
  Awaited : Parcel
  Unsound : Parcel
  Sound : ℕ → Parcel

-- a parcel by whether it is ready, whether it is sound, and its halfword
abbrev pub parcel_by : Bool → Bool → ℕ → Parcel
parcel_by false sound half = Awaited
parcel_by true false half = Unsound
parcel_by true true half = Sound half

-- nothing enters, and the dummies stay
abbrev pub nothing_enters : DummyUnit → Entry
nothing_enters d = record { id = empty_stage; taken = 0; dummies = d }

-- a sound first parcel, by whether it is long: a long one waits for the second, and an unsound second is taken with it
abbrev pub completed_by : Bool → ℕ → Parcel → ℕ → DummyUnit → DummyUnit → Entry
completed_by false first second pc d counted = record { id = enters 0 pc first 0; taken = 1; dummies = counted }
completed_by true first Awaited pc d counted = nothing_enters d
completed_by true first Unsound pc d counted = record { id = enters 0 pc 0 2; taken = 2; dummies = counted }
completed_by true first (Sound second) pc d counted =
    record { id = enters 0 pc (first + 2 ^ 16 * second) 0; taken = 2; dummies = counted }

-- What comes of the first two parcels at a program counter, with the dummies before and with this instruction counted.
-- An unsound first parcel is taken alone.
unfoldable pub fetched_by : Parcel → Parcel → ℕ → DummyUnit → DummyUnit → Entry
fetched_by Awaited second pc d counted = nothing_enters d
fetched_by Unsound second pc d counted = record { id = enters 0 pc 0 1; taken = 1; dummies = counted }
fetched_by (Sound first) second pc d counted = completed_by (is_long first) first second pc d counted

-- no entry of protection is in use, and M needs none, as at reset
abbrev pub is_unset : Csrs → Bool
is_unset c =
    c.pmpcfg0 == 0 && (c.pmpcfg1 == 0 && (c.pmpcfg2 == 0 && (c.pmpcfg3 == 0 && c.mseccfg == 0)))

-- protection lets the parcel at this address be executed
unfoldable pub may_execute : Csrs → ℕ → Bool
may_execute c addr =
    allowed (sec_of (values c)) (cfg_bytes (values c)) (values c).pmpaddr (addr / 2 * 2) 2 Execute c.priv_

-- the instruction of the buffer's first parcels, each sound where its answer had no error and protection lets it run
unfoldable pub fetched_of : Head → Csrs → DummyUnit → ℕ → Entry
fetched_of h c d pc =
    fetched_by (parcel_by h.first.ready (not h.first.err && may_execute c pc) h.first.half)
    (parcel_by h.second.ready (not h.second.err && may_execute c ((pc + 2) % 2 ^ 32)) h.second.half) pc d
    (counted_by (enables_dummies c) d)

-- by the interrupt that is pending, and whether a dummy is due
unfoldable pub entry_by : Option ℕ → Bool → Head → Csrs → DummyUnit → ℕ → Entry
entry_by (Some number) due h c d pc = record { id = enters 2 pc number 0; taken = 0; dummies = d }
entry_by None true h c d pc = record { id = enters 1 pc (dummy_word d.lfsr) 0; taken = 0; dummies = inserted d }
entry_by None false h c d pc = fetched_of h c d pc

-- while the item is held nothing enters
unfoldable pub admits_at : Turn → Head → Csrs → DummyUnit → ℕ → ℕ → Entry
admits_at (Hold st) h c d pc lines = record { id = st; taken = 0; dummies = d }
admits_at _ h c d pc lines =
    entry_by (pending_of c.priv_ c.mstatus c.mie lines) (is_due (enables_dummies c) (dummy_mask c) d) h c d pc

-- all else is as this cycle's event left it
abbrev pub admits_by : Turn → Head → Effect → ℕ → Entry
admits_by turn h e lines = admits_at turn h e.csrs e.dummies e.next_pc lines

-- ---- widths

-- the fields once it has entered
abbrev pub entered : State → Entry → State
entered x n = record x { id = n.id; dummies = n.dummies }
