-- Numbers as they are printed. The formats are our own.
use Rattle.std.specs.Prelude.{ℕ, zero, suc, ◌*◌, ◌/◌, ◌%◌, ◌^◌, false, List, [], ◌∷◌}
use Rattle.std.specs.Fmt.{digit_glyph}

-- the lowest `width` hexadecimal digits, in lower case, the highest first: digit k is bits 4 k + 3 to 4 k
unfoldable pub hex_digits : ℕ → ℕ → List ℕ
hex_digits zero n = []
hex_digits (suc k) n = digit_glyph false (n / 2 ^ (4 * k) % 16) ∷ hex_digits k n

-- a number below 100 by two decimal digits
unfoldable pub two_digits : ℕ → List ℕ
two_digits n = digit_glyph false (n / 10) ∷ digit_glyph false (n % 10) ∷ []
