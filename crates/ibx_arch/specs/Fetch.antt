-- How an instruction is fetched: by parcels of 16 bits (Unprivileged ISA, 1.5).
use Rattle.std.specs.Prelude.{ℕ, ◌+◌, ◌*◌, ◌%◌, ◌^◌, Bool, not, ◌&&◌, if◌then◌else◌}
use Rattle.ibx_isa.specs.Lengths.{is_long}
use Rattle.ibx_pmp.specs.declared.protection.AccessKind.TheVariants.{Execute}
use Rattle.ibx_pmp.specs.Ranges.{allowed}
use Rattle.ibx_csr.specs.Values.{cfg_bytes, CsrValues, sec_of}
use Rattle.ibx_arch.specs.declared.fetched.Fetched.{Fetched}
use Rattle.ibx_arch.specs.declared.fetched.Fetched.TheVariants.{Unsound, Instruction}
use Rattle.ibx_arch.specs.Memory.{is_mapped}
use Rattle.ibx_arch.specs.State.{State}
use Rattle.ibx_elf.specs.declared.ram.Ram.{Ram}

-- a parcel may be executed: its word answers without an error, and protection allows it
abbrev pub is_sound : CsrValues → Ram → ℕ → Bool
is_sound csrs ram addr =
    is_mapped ram addr && allowed (sec_of csrs) (cfg_bytes csrs) csrs.pmpaddr addr 2 Execute csrs.machine

-- what is fetched: the first parcel before the second, which only a long instruction has
unfoldable pub fetch : State → ℕ → ℕ → Fetched
fetch s first second =
    if not (is_sound s.csrs s.memory.ram s.pc) then Unsound s.pc else
    if not (is_long first) then Instruction first 2 else
    if not (is_sound s.csrs s.memory.ram ((s.pc + 2) % 2 ^ 32)) then Unsound ((s.pc + 2) % 2 ^ 32) else
    Instruction (first + 2 ^ 16 * second) 4
