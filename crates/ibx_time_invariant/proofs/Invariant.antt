-- The invariant of the machine before a cycle.
use Rattle.std.proofs.Common.{◌≡◌, ℕ, ◌+◌, ◌<◌, Bool, not, ◌==◌, bit_and, Some, None, Option}
use Rattle.ibx_time_invariant.proofs.Words.{Words}
use Rattle.ibx_time_invariant.proofs.Stages.{StageAt}
use Rattle.ibx_time_invariant.proofs.Ties.{IsState, MemoryAt, Tied}
use Rattle.ibx_time.specs.Settings.{Setup, settings_of}
use Rattle.ibx_time.specs.Streams.{issue}
use Rattle.ibx_time.specs.Times.{AnInstruction}
use Rattle.ibx_time.specs.History.{Story, kind_of, taken, with_item}
use Rattle.ibx_time_machine.specs.System.{System}
use Rattle.ibx_csr.specs.declared.csrs.Csrs.{Csrs}

-- the fetch of an instruction in the stage began before it was admitted
abbrev pub Begun : Setup → Story → Option ℕ → Type 0
Begun s h None = Unit {0}
Begun s h (Some t) = kind_of s t h ≡ AnInstruction → issue (settings_of s) (taken s t h).times.stream 0 < t + 1

-- bit 0 of cpuctrl
abbrev pub enables : Csrs → Bool
enables c = not (bit_and c.cpuctrl 1 == 0)

-- Below a limit, with the story h of the items that are done, the phase o and the count q of the words that are
-- requested.
pub record Inv (s : Setup) (limit : ℕ) (h : Story) (o : Option ℕ) (q : ℕ) (st : System) : Type 0 where
  pub stage : StageAt s limit h o st.cycle st.main.id st.main.md st.main.ls st.dport
  pub words : Words s (with_item s h o) q st.cycle (enables st.main.csrs) st.main.fetch st.main.words st.iport st.tags
      st.lines
  pub begun : Begun s h o
  pub memory : MemoryAt s (with_item s h o) st.cycle st.mem
  pub tied : Tied s h st.cycle st.main.next_pc st.main.csrs st.regs
  pub dummies : st.main.dummies ≡ (with_item s h o).times.dummies
  pub state : IsState s st.cycle h

-- the invariant holds, with some item and some count of words
abbrev pub Kept : Setup → ℕ → Story → System → Type 0
Kept s limit h st = (o : Option ℕ) × ((q : ℕ) × Inv s limit h o q st)
