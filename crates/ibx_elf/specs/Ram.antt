-- The memory that a file is loaded into.
use Rattle.std.specs.Prelude.{◌≡◌, ℕ, ◌+◌, ◌%◌, ◌^◌, ◌<◌, ◌≤◌, Bool, ◌&&◌, ◌||◌, ◌==◌, nat_lt, nat_le}
use Rattle.ibx_bits.specs.Platform.{host_page, host_page_end}
use Rattle.ibx_elf.specs.declared.ram.Ram.{Ram}

-- a range of addresses that may be memory: whole pages, at most 16 MiB, below 2^32, and none of them the
-- host page (our own rule)
pub record IsRamRange (ram : Ram) : Type 0 where
  pub base_in_steps : ram.base % 4096 ≡ 0
  pub size_in_steps : ram.size % 4096 ≡ 0
  pub smallest : 4096 ≤ ram.size
  pub largest : ram.size ≤ 16777216
  pub ends_below : ram.base + ram.size ≤ 2 ^ 32
  pub off_host_page : host_page < ram.base + ram.size → host_page_end ≤ ram.base

-- the test of `IsRamRange`
abbrev pub is_ram_range : Ram → Bool
is_ram_range ram = (ram.base % 4096 == 0) && (ram.size % 4096 == 0)
    && nat_le 4096 ram.size && nat_le ram.size 16777216
    && nat_le (ram.base + ram.size) (2 ^ 32)
    && (nat_le (ram.base + ram.size) host_page || nat_le host_page_end ram.base)

-- an address of memory
pub record IsInRam (ram : Ram) (addr : ℕ) : Type 0 where
  pub from_base : ram.base ≤ addr
  pub before_end : addr < ram.base + ram.size

-- the test of `IsInRam`
abbrev pub ram_has : Ram → ℕ → Bool
ram_has ram addr = nat_le ram.base addr && nat_lt addr (ram.base + ram.size)

-- so many bytes from an address on are all memory
abbrev pub ram_has_all : Ram → ℕ → ℕ → Bool
ram_has_all ram addr bytes = nat_le ram.base addr && nat_le (addr + bytes) (ram.base + ram.size)
