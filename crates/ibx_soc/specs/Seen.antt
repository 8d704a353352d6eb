-- The system as its parts: the state that is data, and what holds of every value of the type.
use Rattle.std.specs.Prelude.{◌≡◌, ℕ, ◌<◌, ◌≤◌, ◌==◌, ◌||◌, if◌then◌else◌, length, Option, Some, None}
use Rattle.ibx_lockstep.specs.declared.pair.Pair.{Pair}
use Rattle.ibx_lockstep.specs.Paired.{Paired}
use Rattle.ibx_lockstep.specs.Seen.{seen}
use Rattle.ibx_core.specs.declared.state.State.{State}
use Rattle.ibx_core.specs.Wires.{InWires as In, OutWires as Out}
use Rattle.ibx_system.specs.System.{Place, Whole}
use Rattle.ibx_soc.specs.declared.memories.Memories.{Memories}

-- the words round the cores
abbrev pub place_of : Memories → Place
place_of m = record {
  settings = record { mul = m.mul; changes = m.plan.now.changes };
  registers = m.registers;
  tags = m.tags;
  lines = m.lines;
  memory = m.memory;
  iport = m.iport;
  dport = m.dport;
  pending = m.pending;
  cycle = m.cycle;
}

-- the whole system
abbrev pub whole_in : Paired State In Out → Place → Whole State
whole_in p place = record {
  main = p.main;
  shadow = p.shadow;
  delayed = p.delayed;
  delay = p.delay;
  age = p.age;
  told = p.told;
  place = place;
}

-- the same from the pair of cores
abbrev pub whole_with : Pair State In Out → Place → Whole State
whole_with pair place = whole_in (seen pair) place

-- the same from the pair and the memories
abbrev pub whole_of : Pair State In Out → Memories → Whole State
whole_of pair m = whole_with pair (place_of m)

-- a pending flip is inside its word
abbrev pub PendingFits : Option (ℕ × ℕ) → Type 0
PendingFits None = Unit {0}
PendingFits (Some x) = (x.0 < 6) × (x.1 < (if (x.0 == 2) || (x.0 == 3) then 28 else 39))

-- the sizes of the memories
pub record Sizes (m : Memories) : Type 0 where
  pub tags : length m.tags ≡ 512
  pub lines : length m.lines ≡ 1024
  pub words : m.ram_words ≡ length m.memory.words
  pub pending : PendingFits m.pending
  pub mul : m.mul ≤ 2

-- what holds of every system: the sizes, and an age of three bits
pub record IsSound (pair : Pair State In Out) (m : Memories) : Type 0 where
  pub sizes : Sizes m
  pub age : (seen pair).age < 8
