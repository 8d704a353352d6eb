-- The state of the architecture: no stages, no buffers, no caches.
use Rattle.std.specs.Prelude.{ℕ, ◌-◌, List, slice_index, slice_set, ◌==◌, if◌then◌else◌}
use Rattle.ibx_csr.specs.Values.{CsrValues, counters_after}
use Rattle.ibx_arch.specs.Memory.{Memory}

-- The program counter, the registers x0 to x31, memory, the CSRs with the mode, and the cycle at which the
-- counters among them stand.
pub record State : Type 0 where
  pub pc : ℕ
  pub regs : List ℕ
  pub memory : Memory
  pub csrs : CsrValues
  pub stands : ℕ

-- x0 reads as 0, and a write to it has no effect (Unprivileged ISA, 2.1)
abbrev pub reg : State → ℕ → ℕ
reg s n = if n == 0 then 0 else slice_index s.regs n

-- the registers with a value written to one of them
abbrev pub with_reg : List ℕ → ℕ → ℕ → List ℕ
with_reg regs n value = if n == 0 then regs else slice_set regs n value

-- the counters moved to a cycle that is not before the one at which they stand
abbrev pub at_cycle : State → ℕ → State
at_cycle s cycle = record s { csrs = counters_after s.csrs (cycle - s.stands); stands = cycle }
