-- Codes that tell one or two flipped bits, by their check matrix, column by column.
-- Source: M. Y. Hsiao, "A Class of Optimal Minimum Odd-weight-column SEC-DED Codes" (1970); the order of the columns
-- and the constant are this project's own rule.
use Rattle.std.specs.Prelude.{ℕ, zero, suc, ◌≡◌, ◌+◌, ◌-◌, ◌*◌, ◌/◌, ◌%◌, ◌^◌, ◌≤◌, List, ◌++◌, filter, ◌==◌}
use Rattle.std.specs.Prelude.{slice_index, bit_xor}
use Rattle.std.specs.Int.{bit_at}
use Rattle.std.specs.List.{range_with_len}

-- the number of ones among the lowest bits of n
unfoldable pub weight : ℕ → ℕ → ℕ
weight zero n = 0
weight (suc bits) n = n % 2 + weight bits (n / 2)

-- the numbers of this many bits and this weight, from the least on
unfoldable pub numbers_of_weight : ℕ → ℕ → List ℕ
unfolding weight
numbers_of_weight bits w = filter (λ n. weight bits n == w) (range_with_len 0 (2 ^ bits))

-- every column of the check matrix of this height: the odd weights from 3 on, the least weight first. Heights are at
-- most 8
unfoldable pub columns : ℕ → List ℕ
unfolding numbers_of_weight
columns height = numbers_of_weight height 3 ++ numbers_of_weight height 5 ++ numbers_of_weight height 7

-- column i of the check matrix, counted from 0
unfoldable pub column : ℕ → ℕ → ℕ
unfolding columns
column height i = slice_index (columns height) i

-- the plain check: the XOR of the columns of the set bits among the lowest
unfoldable pub checks : ℕ → ℕ → ℕ → ℕ
unfolding column
checks height zero word = 0
checks height (suc i) word = bit_xor (checks height i word) (bit_at word i * column height i)

-- An entry of the tables of a code: the plain check of the payload with these four bits, from bit 4 * place on, and no
-- others. A bit at or above payload_bits has no column and adds nothing.
abbrev pub entry_of : ℕ → ℕ → ℕ → ℕ → ℕ
entry_of payload_bits height place four = checks height payload_bits (four * 2 ^ (4 * place))

-- the number of this height, at most 8, whose bit k is 1 exactly for odd k
abbrev pub constant : ℕ → ℕ
constant height = 170 % 2 ^ height

-- the payload is the low bits of a word; the stored check bits are above it
abbrev pub payload_of : ℕ → ℕ → ℕ
payload_of payload_bits word = word % 2 ^ payload_bits

-- the stored check bits, without the constant, are those of the payload
abbrev pub IsCodeword : ℕ → ℕ → ℕ → Type 0
IsCodeword payload_bits height word =
    bit_xor (word / 2 ^ payload_bits) (constant height) ≡ checks height payload_bits (payload_of payload_bits word)

-- the XOR of the two sides: the check bits that are wrong
unfoldable pub syndrome_of : ℕ → ℕ → ℕ → ℕ
unfolding checks
syndrome_of payload_bits height word =
    bit_xor (bit_xor (word / 2 ^ payload_bits) (constant height))
    (checks height payload_bits (payload_of payload_bits word))

-- the codeword of a payload
unfoldable pub encode_of : ℕ → ℕ → ℕ → ℕ
unfolding checks
encode_of payload_bits height value =
    bit_xor (checks height payload_bits value) (constant height) * 2 ^ payload_bits + value

-- the word with this payload and the syndrome of the old word
unfoldable pub rewrite_of : ℕ → ℕ → ℕ → ℕ → ℕ
unfolding checks syndrome_of
rewrite_of payload_bits height old value =
    bit_xor (bit_xor (syndrome_of payload_bits height old) (constant height)) (checks height payload_bits value)
    * 2 ^ payload_bits + value

-- from 4 to 8 check bits
pub record IsHeight (height : ℕ) : Type 0 where
  pub least : 4 ≤ height
  pub most : height ≤ 8

-- the sizes of a code: a payload has no more bits than there are columns, and a word fits 63 bits
pub record IsCode (payload_bits height : ℕ) : Type 0 where
  pub least : 4 ≤ height
  pub most : height ≤ 8
  pub some : 1 ≤ payload_bits
  pub columns : payload_bits ≤ 2 ^ (height - 1) - height
  pub word : payload_bits + height ≤ 63
