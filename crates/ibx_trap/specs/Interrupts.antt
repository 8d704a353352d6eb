-- Which interrupt is taken (Privileged ISA 1.12, 3.1.6.1 and 3.1.9).
use Rattle.std.specs.Prelude.{ℕ, Bool, not, ◌&&◌, List, [], ◌∷◌, Option, None, find, bit_and, if◌then◌else◌}
use Rattle.ibx_isa.specs.ControlBits.{mie_bit}
use Rattle.ibx_trap.specs.Bits.{has_some, bit_of}

-- The interrupts, the one that is taken first in front: the fast ones (our own order), external, software
-- and timer.
abbrev pub order : List ℕ
order = 16 ∷ 17 ∷ 18 ∷ 19 ∷ 20 ∷ 21 ∷ 22 ∷ 23 ∷ 24 ∷ 25 ∷ 26 ∷ 27 ∷ 28 ∷ 29 ∷ 30 ∷ 11 ∷ 3 ∷ 7 ∷ []

-- In M mode MIE of mstatus lets them through, in U mode they always come: then the first that is both
-- asked for and enabled.
unfoldable pub pending_of : Bool → ℕ → ℕ → ℕ → Option ℕ
pending_of machine mstatus mie lines =
    if machine && not (has_some mstatus mie_bit) then None else
    find (λ n. bit_of (bit_and mie lines) n) order
