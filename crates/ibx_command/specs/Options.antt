-- What the commands may be told beside their files (our own rules).
use Rattle.std.specs.Prelude.{ℕ, ◌≤◌, ◌==◌, nat_lt, List, [], ◌∷◌, length, codes, Option, Some, None, if◌then◌else◌}
use Rattle.std.specs.Option.{option_map, option_and_then}
use Rattle.std.specs.Str.{bytes_eq}
use Rattle.ibx_isa.specs.declared.insn.MulKind.{MulKind}
use Rattle.ibx_isa.specs.declared.insn.MulKind.TheVariants.{Single, Fast, Slow}
use Rattle.ibx_lockstep.specs.declared.delay.Delay.{Delay}
use Rattle.ibx_lockstep.specs.declared.delay.Delay.TheVariants.{One, Two, Three, Four}
use Rattle.ibx_elf.specs.declared.ram.Ram.{Ram}
use Rattle.ibx_elf.specs.Ram.{IsRamRange, is_ram_range}
use Rattle.ibx_command.specs.declared.options.Options.{Options}
use Rattle.ibx_command.specs.Parts.{Piece, values_of, only}
use Rattle.ibx_command.specs.Numbers.{NumberRule, cycles_rule, delay_rule, ram_base_rule, ram_size_rule, number_set}

-- the option that names the plan
abbrev pub plan_name : List ℕ
plan_name = codes "--plan"

-- the option that names the multiplier
abbrev pub mul_name : List ℕ
mul_name = codes "--mul"

-- options that a run can have
pub record IsInRange (options : Options) : Type 0 where
  pub least_cycles : 1 ≤ options.cycles
  pub most_cycles : options.cycles ≤ 1000000000
  pub ram : IsRamRange options.ram

-- the number that an option stands at
abbrev pub number_in : NumberRule → List Piece → Option ℕ
number_in rule pieces = number_set rule (values_of rule.name pieces)

-- the multiplier of this name
abbrev pub mul_named : List ℕ → Option MulKind
mul_named word = if bytes_eq word (codes "single") then Some Single
    else if bytes_eq word (codes "fast") then Some Fast
    else if bytes_eq word (codes "slow") then Some Slow
    else None

-- the multiplier that the option stands at, by the values that it was given: the fast one where it isn't given
unfoldable pub mul_set : List (List ℕ) → Option MulKind
mul_set [] = Some Fast
mul_set (value ∷ []) = mul_named value
mul_set (value ∷ another ∷ more) = None

-- the multiplier that the option stands at
abbrev pub mul_in : List Piece → Option MulKind
mul_in pieces = mul_set (values_of mul_name pieces)

-- the delay of so many cycles, from 1 to 4
abbrev pub delay_of : ℕ → Delay
delay_of cycles = if cycles == 1 then One else if cycles == 2 then Two else if cycles == 3 then Three else Four

-- the delay that the option stands at
abbrev pub delay_in : List Piece → Option Delay
delay_in pieces = option_map delay_of (number_in delay_rule pieces)

-- a word that isn't empty
abbrev pub named : List ℕ → Option (List ℕ)
named word = if nat_lt 0 (length word) then Some word else None

-- the name of the plan, none where it isn't given once
abbrev pub plan_in : List Piece → Option (List ℕ)
plan_in pieces = option_and_then named (only (values_of plan_name pieces))

-- the plan that is named, if there is one, by the values that its option was given
unfoldable pub plan_choice : List (List ℕ) → Option (Option (List ℕ))
plan_choice [] = Some None
plan_choice (value ∷ []) = option_map Some (named value)
plan_choice (value ∷ another ∷ more) = None

-- the plan that is named, if there is one
abbrev pub plan_choice_in : List Piece → Option (Option (List ℕ))
plan_choice_in pieces = plan_choice (values_of plan_name pieces)

-- the RAM, if it may be one
unfoldable pub checked_ram : Ram → Option Ram
checked_ram ram = if is_ram_range ram then Some ram else None

-- the RAM that the options give
unfoldable pub ram_in : List Piece → Option Ram
ram_in pieces = option_and_then (λ base.
    option_and_then (λ size. checked_ram (record { base = base; size = size })) (number_in ram_size_rule pieces))
    (number_in ram_base_rule pieces)

-- the options of a run
unfoldable pub options_in : List Piece → Option Options
options_in pieces = option_and_then (λ cycles. option_and_then (λ ram. option_and_then (λ mul.
    option_map (λ delay. record { cycles = cycles; ram = ram; mul = mul; delay = delay }) (delay_in pieces))
    (mul_in pieces))
    (ram_in pieces))
    (number_in cycles_rule pieces)
