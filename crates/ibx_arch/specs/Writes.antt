-- What a step writes to memory: the portions of a store, in the order in which they are made.
use Rattle.std.specs.Prelude.{ℕ, ◌+◌, ◌%◌, ◌^◌, Bool, true, false, ◌&&◌, if◌then◌else◌, List, [], ◌∷◌, Option, Some}
use Rattle.std.specs.Prelude.{None}
use Rattle.ibx_elf.specs.declared.ram.Ram.{Ram}
use Rattle.ibx_isa.specs.declared.insn.Insn.{Insn}
use Rattle.ibx_isa.specs.declared.insn.Insn.TheVariants.{Store}
use Rattle.ibx_isa.specs.Portions.{portion_addr, portion_size}
use Rattle.ibx_pmp.specs.declared.protection.AccessKind.TheVariants.{Write}
use Rattle.ibx_arch.specs.declared.fetched.Fetched.{Fetched}
use Rattle.ibx_arch.specs.declared.fetched.Fetched.TheVariants.{Unsound, Instruction}
use Rattle.ibx_arch.specs.Access.{has_second, refused_at}
use Rattle.ibx_arch.specs.Fetch.{fetch}
use Rattle.ibx_decoder.specs.Instructions.{instruction_of}
use Rattle.ibx_arch.specs.Memory.{Memory, is_mapped, with_bytes}
use Rattle.ibx_arch.specs.State.{State, reg}
use Rattle.ibx_arch.specs.Step.{Choice, Interrupt, Parcels}

-- bytes number `from` up to `to` of a value, written by an access at addr
pub record PortionWrite : Type 0 where
  pub addr : ℕ
  pub from : ℕ
  pub to : ℕ
  pub value : ℕ

-- the memory after these writes, made in order
unfoldable pub after_writes : Memory → List PortionWrite → Memory
after_writes memory [] = memory
after_writes memory (w ∷ ws) = after_writes (with_bytes memory w.addr w.from w.to w.value) ws

-- the first portion of a store, or the second
abbrev pub portion_write : ℕ → ℕ → ℕ → Bool → PortionWrite
portion_write addr size value false =
    record { addr = addr; from = 0; to = portion_size addr size false; value = value }
portion_write addr size value true =
    record { addr = addr; from = portion_size addr size false; to = size; value = value }

-- A store that nothing refuses makes its first portion, and the second where the first met no error. One that no
-- memory answers is among them, and changes nothing.
abbrev pub granted_writes : Ram → ℕ → ℕ → ℕ → List PortionWrite
granted_writes ram addr size value =
    if has_second addr size && is_mapped ram (portion_addr addr false)
    then portion_write addr size value false ∷ portion_write addr size value true ∷ []
    else portion_write addr size value false ∷ []

-- a store that protection refuses makes none
abbrev pub unless_refused : Option ℕ → List PortionWrite → List PortionWrite
unless_refused None ws = ws
unless_refused (Some at) ws = []

-- a store's, with its value as the event has it
unfoldable pub store_writes : State → ℕ → ℕ → ℕ → List PortionWrite
store_writes s size addr value =
    unless_refused (refused_at s.csrs addr size Write) (granted_writes s.memory.ram addr size (value % 256 ^ size))

-- those of an instruction, and of what was fetched
abbrev pub insn_writes : State → Option Insn → List PortionWrite
insn_writes s (Some (Store size rs1 rs2 imm)) = store_writes s size ((reg s rs1 + imm) % 2 ^ 32) (reg s rs2)
insn_writes s insn = []

-- an unsound parcel ends the fetch in a trap, which writes nothing
abbrev pub fetched_writes : State → Fetched → List PortionWrite
fetched_writes s (Unsound addr) = []
fetched_writes s (Instruction word length) = insn_writes s (instruction_of word)

-- those of the step with a choice
unfoldable pub step_writes : State → Choice → List PortionWrite
step_writes s (Interrupt number) = []
step_writes s (Parcels first second) = fetched_writes s (fetch s first second)
