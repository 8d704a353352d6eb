-- The fixed numbers of the platform. Our own rule.
use Rattle.std.specs.Prelude.{ℕ, Bool, ◌&&◌, nat_le, nat_lt}

-- the page of the host's registers, from its first byte address up to the one after its last
abbrev pub host_page : ℕ
host_page = 0x20000

-- the first byte address after the page, which has 4 KiB
abbrev pub host_page_end : ℕ
host_page_end = 0x21000

-- the register that ends the run, by a word store with bit 0 set
abbrev pub halt_register : ℕ
halt_register = 0x20008

-- a byte address of the host's page
abbrev pub host_page_has : ℕ → Bool
host_page_has addr = nat_le host_page addr && nat_lt addr host_page_end

-- the interrupt lines that there are: software 3, timer 7, external 11 and fast 16 to 30 (Privileged ISA 1.12, 3.1.9)
abbrev pub interrupt_lines : ℕ
interrupt_lines = 0x7fff0888
