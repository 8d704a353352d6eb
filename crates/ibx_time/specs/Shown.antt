-- What the fields of the core show before a cycle: the item in the stage, the last word requested, and what the events
-- left.
use Rattle.std.specs.Prelude.{ℕ, Option, Some, None}
use Rattle.ibx_csr.specs.Values.{CsrValues}
use Rattle.ibx_arch.specs.State.{at_cycle}
use Rattle.ibx_time.specs.Settings.{Setup, settings_of}
use Rattle.ibx_dummy.specs.declared.unit.Dummy.{Dummy}
use Rattle.ibx_dummy.specs.Dummies.{dummy_word}
use Rattle.ibx_time.specs.Streams.{last_of, requested}
use Rattle.ibx_time.specs.Times.{Kind, AnInterrupt, ADummy, AnInstruction}
use Rattle.ibx_time.specs.History.{Story, told_below, open_item, with_item, kind_of, view_with, brought_parcels}

-- an item in the stage: its kind, 0 for a real one, 1 for a dummy and 2 for an interrupt, its program counter, and its
-- word: the one that was fetched, 0 where a parcel is unsound, the dummy's, or the interrupt's number
pub record Staged : Type 0 where
  pub kind : ℕ
  pub pc : ℕ
  pub word : ℕ

-- what the stage shows for an item, by what was admitted, and for the item that there may be
abbrev pub staged_by : Setup → Story → Kind → Staged
staged_by s h (AnInterrupt number) = record { kind = 2; pc = h.state.pc; word = number }
staged_by s h ADummy = record { kind = 1; pc = h.state.pc; word = dummy_word h.times.dummies.lfsr }
staged_by s h AnInstruction = record { kind = 0; pc = h.state.pc; word = (view_with s h (brought_parcels s h)).word }

-- the stage is empty where no item is open, and else shows the one admitted at t
abbrev pub staged : Setup → Story → Option ℕ → Option Staged
staged s h None = None
staged s h (Some t) = Some (staged_by s h (kind_of s t h))

-- what is shown: the stage, the address of the last request, the next program counter, the registers and the dummies
pub record Shown : Type 0 where
  pub stage : Option Staged
  pub f_addr : ℕ
  pub next_pc : ℕ
  pub csrs : CsrValues
  pub dummies : Dummy

-- the same, computed from a story and its open item
unfoldable pub shown_of : Setup → ℕ → Story → Option ℕ → Shown
shown_of s c h o =
    let y = with_item s h o in
    record {
      stage = staged s h o;
      f_addr = last_of y.times.stream (requested (settings_of s) y.times.stream c);
      next_pc = h.state.pc;
      csrs = (at_cycle h.state c).csrs;
      dummies = y.times.dummies;
    }

-- before the step of cycle c
abbrev pub shown : Setup → ℕ → Shown
shown s c = let h = (told_below s c).story in shown_of s c h (open_item s c h)
