-- The RAM that two numbers give.
use Rattle.std.proofs.Common.{◌≡◌, ℕ, List, Option}
use Rattle.std.specs.Option.{option_and_then}
use Rattle.ibx_command.specs.Parts.{Piece}
use Rattle.ibx_command.specs.Numbers.{ram_base_rule, ram_size_rule}
use Rattle.ibx_command.specs.Options.{number_in, checked_ram, ram_in}

-- a base and a size that were read apart, and then checked together, make the RAM of the options
pub ram_by : (pieces : List Piece) (base size : Option ℕ) → base ≡ number_in ram_base_rule pieces → size ≡ number_in
    ram_size_rule pieces → option_and_then (λ b. option_and_then (λ s. checked_ram (record { base = b; size = s }))
    size) base ≡ ram_in pieces
unfolding ram_in
ram_by pieces base size eb es = rw (eb, es)
