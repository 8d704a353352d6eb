-- Loads and stores: their portions, who may make them, and what they leave (Unprivileged ISA, 2.6; Privileged ISA
-- 1.12, 3.1.6.3 and 3.7).
use Rattle.std.specs.Prelude.{ℕ, Bool, true, false, not, ◌&&◌, ◌==◌, if◌then◌else◌, Option, Some, None}
use Rattle.ibx_csr.specs.Values.{CsrValues, cfg_bytes, sec_of}
use Rattle.ibx_isa.specs.Portions.{parts_of, portion_addr, portion_size}
use Rattle.ibx_pmp.specs.declared.protection.AccessKind.{AccessKind}
use Rattle.ibx_pmp.specs.Ranges.{allowed}
use Rattle.ibx_arch.specs.Memory.{Memory, is_mapped, with_bytes}
use Rattle.ibx_elf.specs.declared.ram.Ram.{Ram}
use Rattle.ibx_csr.specs.Modes.{access_machine}

-- an access that crosses a word has a second portion
abbrev pub has_second : ℕ → ℕ → Bool
has_second addr size = parts_of addr size == 2

-- protection refuses a portion
abbrev pub is_refused : CsrValues → ℕ → ℕ → AccessKind → Bool → Bool
is_refused csrs addr size kind second =
    not (allowed (sec_of csrs) (cfg_bytes csrs) csrs.pmpaddr (portion_addr addr second)
    (portion_size addr size second) kind (access_machine csrs))

-- the address of the portion that protection refuses, the first before the second
unfoldable pub refused_at : CsrValues → ℕ → ℕ → AccessKind → Option ℕ
refused_at csrs addr size kind =
    if is_refused csrs addr size kind false then Some (portion_addr addr false) else
    if has_second addr size && is_refused csrs addr size kind true then Some (portion_addr addr true) else
    None

-- the address of the portion that no memory answers
unfoldable pub error_at : Ram → ℕ → ℕ → Option ℕ
error_at ram addr size =
    if not (is_mapped ram (portion_addr addr false)) then Some (portion_addr addr false) else
    if has_second addr size && not (is_mapped ram (portion_addr addr true)) then Some (portion_addr addr true) else
    None

-- What a store leaves that nothing refuses: its first portion, and the second where the first met no error.
unfoldable pub stored : Memory → ℕ → ℕ → ℕ → Memory
stored memory addr size value =
    if has_second addr size && is_mapped memory.ram (portion_addr addr false)
    then with_bytes (with_bytes memory addr 0 (portion_size addr size false) value) addr (portion_size addr size false)
    size value
    else with_bytes memory addr 0 (portion_size addr size false) value
