-- The seal of a run: a sum over all fields of the core, which the events and their cycles don't give. Our own rule.
use Rattle.std.specs.Prelude.{ℕ, ◌%◌, ◌^◌}
use Rattle.std.specs.List.{sum}
use Rattle.ibx_core.specs.declared.state.State.{State}
use Rattle.ibx_core.specs.Fields.{fields}

-- the sum of a core's fields, modulo 2^64
unfoldable pub seal_of : State → ℕ
seal_of s = sum (fields s) % 2 ^ 64
