-- The number that a word writes (our own rule; the notation is positional).
use Rattle.std.specs.Prelude.{ℕ, ◌+◌, ◌*◌, ◌^◌, ◌&&◌, nat_lt, nat_le, nat_eq, List, [], ◌∷◌, length, drop, codes}
use Rattle.std.specs.Prelude.{Option, Some, None, if◌then◌else◌}
use Rattle.std.specs.Char.{digit_value, is_digit}
use Rattle.std.specs.List.{starts_with}
use Rattle.std.specs.Option.{option_map}

-- what digits stand for in a base, none where one is no digit of it: each counts its value times the base to
-- the number of digits after it
unfoldable pub value_in : ℕ → List ℕ → Option ℕ
value_in base [] = Some 0
value_in base (digit ∷ more) = if is_digit digit base
    then option_map (λ rest. digit_value digit * base ^ length more + rest) (value_in base more)
    else None

-- the same for a number of digits from 1 to the most
abbrev pub short_value : ℕ → ℕ → List ℕ → Option ℕ
short_value base most digits =
    if nat_lt 0 (length digits) && nat_le (length digits) most then value_in base digits else None

-- the number that a word writes: 1 to 10 decimal digits, or "0x" and 1 to 8 hexadecimal digits of either case
unfoldable pub number_of : List ℕ → Option ℕ
number_of text =
    if starts_with nat_eq text (codes "0x") then short_value 16 8 (drop 2 text) else short_value 10 10 text
