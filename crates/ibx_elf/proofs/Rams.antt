-- The test of a range of memory decides whether it may be one.
use Rattle.std.proofs.Common.{◌≡◌, Bool, true, arith}
use Rattle.std.specs.Bool.{Decides}
use Rattle.std.proofs.lemmas.Bool.Decides.{nat_tests, same_from_decides}
use Rattle.ibx_elf.specs.declared.ram.Ram.{Ram}
use Rattle.ibx_elf.specs.Ram.{IsRamRange, is_ram_range}

-- the test is passed by the ranges that may be memory, and by no others
pub is_ram_range-tested : (ram : Ram) → is_ram_range ram ≡ true → IsRamRange ram
is_ram_range-tested ram h = record {
  base_in_steps = grind (arith, nat_tests);
  size_in_steps = grind (arith, nat_tests);
  smallest = grind (arith, nat_tests);
  largest = grind (arith, nat_tests);
  ends_below = grind (arith, nat_tests);
  off_host_page = λ above. grind (arith, nat_tests);
}

-- no range that may be memory is refused
pub is_ram_range-of : (ram : Ram) → IsRamRange ram → is_ram_range ram ≡ true
is_ram_range-of ram r = grind (arith, nat_tests)

-- what a test that decides it answers
pub tested_alike : (ram : Ram) (answer : Bool) → Decides answer (IsRamRange ram) → answer ≡ is_ram_range ram
tested_alike ram answer h =
    same_from_decides answer (is_ram_range ram) h (is_ram_range-tested ram, is_ram_range-of ram)
