-- The architecture's state against the fields that hold it, and what is kept of the story itself.
use Rattle.std.proofs.Common.{◌≡◌, ℕ, ◌<◌, ◌≤◌, List, map}
use Rattle.ibx_arch.specs.State.{at_cycle}
use Rattle.ibx_time_invariant.proofs.Fetches.{pc_in}
use Rattle.ibx_time_invariant.proofs.Links.{AreGranted}
use Rattle.ibx_bus.specs.Memory.{MemoryState}
use Rattle.ibx_time.specs.Settings.{Setup}
use Rattle.ibx_time.specs.Controls.{ctl_of}
use Rattle.ibx_time.specs.Memories.{memory_at}
use Rattle.ibx_time.specs.History.{Story}
pub use Rattle.ibx_time.proofs.Logs.{AreLate, Grows}
pub use Rattle.ibx_time.proofs.Settled.{IsBefore}
pub use Rattle.ibx_time.specs.Runs.{IsPlaced}
use Rattle.ibx_arch.specs.Memory.{image_memory}
use Rattle.ibx_csr.specs.Fields.{Complemented, values}
use Rattle.ibx_secded.specs.Code.{encode_of}
use Rattle.ibx_csr.specs.declared.csrs.Csrs.{Csrs}
use Rattle.ibx_time.proofs.States.{IsGood}
use Rattle.ibx_memory.specs.Coded.{HoldsMemory}

-- memory over time, by the story with the item in the stage
abbrev pub MemoryAt : Setup → Story → ℕ → MemoryState → Type 0
MemoryAt s y c m = HoldsMemory s.image.ram m (memory_at (image_memory s.image) y.writes c)

-- ---- the core's fields before cycle c, and the story of the items that are done

-- registers, program counter and CSRs are those of the story's state
pub record Tied (s : Setup) (h : Story) (c next_pc : ℕ) (csrs : Csrs) (regs : List ℕ) : Type 0 where
  pub values_are : values csrs ≡ (at_cycle h.state c).csrs
  pub complemented : Complemented csrs
  pub next_pc_is : next_pc ≡ h.state.pc
  pub regs_are : regs ≡ map (encode_of 32 7) h.state.regs
  pub ctl : h.times.ctl ≡ ctl_of h.state.csrs
  pub half_low : h.times.half < 2
  pub pc : pc_in h.times.stream h.times.half ≡ h.state.pc

-- ---- the story alone, before cycle c

-- all that the items did to memory and asked of the data port is before c
pub record IsSettled (s : Setup) (c : ℕ) (h : Story) : Type 0 where
  pub before : IsBefore h.writes c
  pub granted : AreGranted h.sent c
  pub memory : h.state.memory ≡ memory_at (image_memory s.image) h.writes c

-- the state is valid, and stands at a cycle up to c
pub record IsState (s : Setup) (c : ℕ) (h : Story) : Type 0 where
  pub good : IsGood s.image.ram h.state
  pub stands : h.state.stands ≤ c
  pub done : h.done ≤ c
  pub settled : IsSettled s c h
