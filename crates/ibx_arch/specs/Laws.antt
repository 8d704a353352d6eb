-- What holds of every step.
use Rattle.std.specs.Prelude.{◌≡◌, ℕ, ◌%◌, ◌^◌, ◌<◌}
use Rattle.ibx_elf.specs.Image.{Placed}
use Rattle.ibx_arch.specs.State.{State}
use Rattle.ibx_arch.specs.Step.{Choice, Interrupt, Parcels, reset_state, step_with}
use Rattle.ibx_arch.specs.Writes.{after_writes, step_writes}

-- Instructions begin at even addresses (Unprivileged ISA, 1.5): the program counter is even, and so is the address to
-- which MRET returns.
pub record IsAligned (s : State) : Type 0 where
  pub pc : s.pc % 2 ≡ 0
  pub mepc : s.csrs.mepc % 2 ≡ 0

-- parcels have 16 bits
abbrev pub AreParcels : Choice → Type 0
AreParcels (Interrupt number) = Unit {0}
AreParcels (Parcels first second) = (first < 2 ^ 16) × (second < 2 ^ 16)

-- the first state is aligned where the image's entry is even
abbrev pub BeginsAligned : Type 0
BeginsAligned = (image : Placed) → image.entry % 2 ≡ 0 → IsAligned (reset_state image)

-- a step of an aligned state leads to one
abbrev pub StaysAligned : Type 0
StaysAligned = (lines : ℕ → ℕ) (s : State) (choice : Choice) (cycle : ℕ) → AreParcels choice → IsAligned s
    → IsAligned (step_with lines s choice cycle).next

-- the memory after a step is the memory before with the step's writes made in order
abbrev pub WritesMemory : Type 0
WritesMemory = (lines : ℕ → ℕ) (s : State) (choice : Choice) (cycle : ℕ)
    → (step_with lines s choice cycle).next.memory ≡ after_writes s.memory (step_writes s choice)
