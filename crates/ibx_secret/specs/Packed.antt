-- The marks as the code keeps them. Our own rule.
use Rattle.std.specs.Prelude.{◌≡◌, ℕ, ◌<◌, Bool, ◌==◌}
use Rattle.std.specs.Int.{bit_at}
use Rattle.ibx_secret.specs.declared.registers.RegisterMarks.{RegisterMarks}
use Rattle.ibx_secret.specs.Marks.{Marks}

-- the register of a number is marked: its bit is set
abbrev pub has_mark : RegisterMarks → ℕ → Bool
has_mark r n = bit_at r.bits n == 1

-- the bits of the 32 registers are their marks
abbrev pub AreMarksOf : Marks → RegisterMarks → Type 0
AreMarksOf m r = (n : ℕ) → n < 32 → has_mark r n ≡ m.reg n
