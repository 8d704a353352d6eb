-- One line of a text at a time.
use Rattle.std.proofs.Common.{◌≡◌, ℕ, ◌+◌, List, [], ◌∷◌, length, Ok, refl, arith}
use Rattle.std.specs.Str.Lines.{lines}
use Rattle.ibx_plan.specs.declared.bounds.Bounds.{Bounds}
use Rattle.ibx_plan.specs.declared.bounds.PlanFault.{PlanFault}
use Rattle.ibx_plan.specs.declared.bounds.PlanFault.TheVariants as fault
use Rattle.ibx_plan.specs.Plan.{PlanValue, with_line, with_lines, Fails}

-- a line that is accepted is one step of the reading, one that is refused ends it, and after the last there is nothing
-- to read
pub one_line : (bounds : Bounds) (n : ℕ) (plan next : PlanValue) (text line after : List ℕ)
    → lines text ≡ line ∷ lines after → with_line bounds n plan line ≡ Ok next
    → with_lines bounds n plan (lines text) ≡ with_lines bounds (n + 1) next (lines after)
unfolding with_lines
one_line bounds n plan next text line after cut here = rw (cut, here)

-- a line that is refused ends the reading with its fault, whatever lines come after it
pub refused : (e : PlanFault) (bounds : Bounds) (n : ℕ) (plan : PlanValue) (text line after : List ℕ)
    → lines text ≡ line ∷ lines after → Fails e (with_line bounds n plan line)
    → Fails e (with_lines bounds n plan (lines text))
unfolding with_lines
refused fault.Memory bounds n plan text line after cut here = tt
refused fault.NoFlip bounds n plan text line after cut here = rw (cut, here)
refused (fault.TooMany m) bounds n plan text line after cut here = rw (cut, here)
refused (fault.Line m k) bounds n plan text line after cut here = rw (cut, here)

-- a text without a byte has no line
no_rest : (rest : List ℕ) → length rest ≡ 0 → lines rest ≡ []
no_rest [] h = refl
no_rest (x ∷ rest) h = absurd (omega arith)

-- behind the last line the plan stays as the lines before have made it
pub at_end : (bounds : Bounds) (n : ℕ) (plan : PlanValue) (rest : List ℕ) → length rest ≡ 0
    → with_lines bounds n plan (lines rest) ≡ Ok plan
unfolding with_lines
at_end bounds n plan rest h = rw (no_rest rest h)
