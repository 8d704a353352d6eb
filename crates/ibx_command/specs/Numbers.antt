-- Options whose value is a number (our own rules).
use Rattle.std.specs.Prelude.{ℕ, Bool, ◌&&◌, nat_le, List, [], ◌∷◌, codes, Option, Some, None, if◌then◌else◌}
use Rattle.std.specs.Option.{option_and_then}
use Rattle.ibx_text.specs.Number.{number_of}

-- an option that takes a number: its name, the number where it isn't given, and the least and the most that it takes
pub record NumberRule : Type 0 where
  pub name : List ℕ
  pub default : ℕ
  pub least : ℕ
  pub most : ℕ

-- how long a run lasts at most, in cycles
abbrev pub cycles_rule : NumberRule
cycles_rule = record { name = codes "--cycles"; default = 1000000; least = 1; most = 1000000000 }

-- the first byte address of the RAM
abbrev pub ram_base_rule : NumberRule
ram_base_rule = record { name = codes "--ram-base"; default = 0x00100000; least = 0; most = 0xffffffff }

-- how many bytes the RAM has
abbrev pub ram_size_rule : NumberRule
ram_size_rule = record { name = codes "--ram-size"; default = 1048576; least = 0; most = 0xffffffff }

-- by how many cycles the shadow is behind main
abbrev pub delay_rule : NumberRule
delay_rule = record { name = codes "--delay"; default = 2; least = 1; most = 4 }

-- whether an option takes a number
abbrev pub allows : NumberRule → ℕ → Bool
allows rule n = nat_le rule.least n && nat_le n rule.most

-- the number that an option stands at, by the values that it was given: none where there are two, or where the
-- one is no number that it takes
unfoldable pub number_set : NumberRule → List (List ℕ) → Option ℕ
number_set rule [] = Some rule.default
number_set rule (value ∷ []) = option_and_then (λ n. if allows rule n then Some n else None) (number_of value)
number_set rule (value ∷ another ∷ more) = None
