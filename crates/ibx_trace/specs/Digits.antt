-- Instructions as they are printed. The formats are our own.
use Rattle.std.specs.Prelude.{ℕ, ◌%◌, ◌==◌, if◌then◌else◌, List}
use Rattle.ibx_text.specs.Digits.{hex_digits}

-- an instruction: 8 digits for a word, whose bits 1:0 are both 1 (Unprivileged ISA, 1.5), and 4 for a halfword
unfoldable pub word_digits : ℕ → List ℕ
word_digits word = if word % 4 == 3 then hex_digits 8 word else hex_digits 4 word
