-- The bytes of memory, by their addresses.
use Rattle.std.specs.Prelude.{ℕ, ◌+◌, ◌-◌, ◌%◌, ◌^◌, Bool, ◌&&◌, ◌||◌, nat_le, nat_lt, if◌then◌else◌}
use Rattle.ibx_bits.specs.Platform.{host_page_has}
use Rattle.ibx_elf.specs.declared.ram.Ram.{Ram}
use Rattle.ibx_elf.specs.Image.{Placed, image_byte}
use Rattle.ibx_elf.specs.Ram.{ram_has}
use Rattle.ibx_bits.specs.Bytes.{word_byte, bytes_number}

-- The range of RAM, and the byte at each address of it. What the map says of other addresses has no meaning.
pub record Memory : Type 0 where
  pub ram : Ram
  pub byte : ℕ → ℕ

-- an address that answers without an error
abbrev pub is_mapped : Ram → ℕ → Bool
is_mapped ram addr = ram_has ram addr || host_page_has addr

-- the byte that a read gives: the host's page reads as 0
abbrev pub read_byte : Memory → ℕ → ℕ
read_byte memory addr = if ram_has memory.ram addr then memory.byte addr else 0

-- the number of the bytes at addr, addr + 1 and so on, the least significant first; addresses wrap (Unprivileged ISA,
-- 1.4)
abbrev pub read_bytes : Memory → ℕ → ℕ → ℕ
read_bytes memory addr size = bytes_number (λ k. read_byte memory ((addr + k) % 2 ^ 32)) size

-- which byte of an access at addr an address is
abbrev pub offset_from : ℕ → ℕ → ℕ
offset_from addr a = (a + 2 ^ 32 - addr) % 2 ^ 32

-- Bytes number `from` up to `to` of a value, written by an access at addr. Only RAM takes bytes.
unfoldable pub with_bytes : Memory → ℕ → ℕ → ℕ → ℕ → Memory
with_bytes memory addr from to value = record memory {
  byte = λ a.
      if ram_has memory.ram a && (nat_le from (offset_from addr a) && nat_lt (offset_from addr a) to)
      then word_byte value (offset_from addr a)
      else memory.byte a;
}

-- the memory of an image, with 0 outside RAM
unfoldable pub image_memory : Placed → Memory
image_memory image = record { ram = image.ram; byte = λ a. if ram_has image.ram a then image_byte image a else 0 }
