-- The changes of the interrupt lines as a list: our own rule.
use Rattle.std.specs.Prelude.{ℕ, ◌+◌, Bool, true, ◌&&◌, nat_le, List, [], ◌∷◌}
use Rattle.ibx_plan.specs.declared.entry.Change.{Change}

-- whether the first change is in this cycle or later, and each other one in a later cycle than the one before it
abbrev pub rises_from : ℕ → List Change → Bool
rises_from cycle [] = true
rises_from cycle (change ∷ more) = nat_le cycle change.cycle && rises_from (change.cycle + 1) more
