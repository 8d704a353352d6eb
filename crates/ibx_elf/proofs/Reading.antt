-- A number that is read from the rest of a file is a field of the file.
use Rattle.std.proofs.Common.{◌≡◌, ℕ, zero, suc, ◌+◌, ◌-◌, ◌≤◌, List, length, take, drop, refl, ◌∙◌, arith}
use Rattle.std.proofs.Common.{get_or-drop, add-zero, add-suc}
use Rattle.byteorder.specs.Endian.{little_from}
use Rattle.byteorder.specs.Numbers.{little_from-take}
use Rattle.ibx_elf.specs.Fields.{field}

-- the bytes from an offset on, the lowest first, make the field at that offset
little_from-drop : (i n offset : ℕ) (file : List ℕ) → little_from i n (drop offset file) ≡ field file (offset + i) n
unfolding field
little_from-drop i zero offset file = refl
little_from-drop i (suc n) offset file =
    rw (get_or-drop offset file i 0, little_from-drop (suc i) n offset file, add-suc offset i) refl

-- what a read of n bytes of the rest of a file gives
pub read-field : (n offset : ℕ) (file : List ℕ) → offset + n ≤ length file
    → little_from 0 n (take (length file - offset) (drop offset file)) ≡ field file offset n
read-field n offset file within =
    little_from-take 0 n (length file - offset) (drop offset file) (omega arith)
    ∙ rw (little_from-drop 0 n offset file, add-zero offset) refl
