-- Memories of codewords, as lists. Our own rule.
use Rattle.std.specs.Prelude.{◌≡◌, ℕ, ◌+◌, ◌*◌, ◌<◌, ◌≤◌, ◌^◌, ◌==◌, if◌then◌else◌, List, [], ◌∷◌, All, length}
use Rattle.std.specs.Prelude.{replicate, slice_index, slice_set, bit_xor}
use Rattle.ibx_secded.specs.Code.{IsCode, encode_of}

-- this many words, each the codeword of 0
abbrev pub empty_of : ℕ → ℕ → ℕ → List ℕ
empty_of payload_bits height count = replicate count (encode_of payload_bits height 0)

-- one bit of one word is changed
abbrev pub flip_of : List ℕ → ℕ → ℕ → List ℕ
flip_of words i bit = slice_set words i (bit_xor (slice_index words i) (2 ^ bit))

-- a register takes a word; register 0 takes none
abbrev pub register_put : List ℕ → ℕ → ℕ → List ℕ
register_put words n word = if n == 0 then words else slice_set words n word

-- one bit of a register's word is changed; register 0 doesn't change
abbrev pub register_flip : List ℕ → ℕ → ℕ → List ℕ
register_flip words n bit = if n == 0 then words else flip_of words n bit

-- the words whose payloads and stored check bits stand in two planes
unfoldable pub words_of : ℕ → List ℕ → List ℕ → List ℕ
words_of payload_bits [] checks = []
words_of payload_bits (p ∷ ps) [] = []
words_of payload_bits (p ∷ ps) (s ∷ ss) = (s * 2 ^ payload_bits + p) ∷ words_of payload_bits ps ss

-- planes of one code, of at most 32 payload bits
pub record IsCodedRam (payload_bits height : ℕ) (payloads checks : List ℕ) : Type 0 where
  pub code : IsCode payload_bits height
  pub payload : payload_bits ≤ 32
  pub count : length checks ≡ length payloads
  pub payloads_fit : All (λ p. p < 2 ^ payload_bits) payloads
  pub checks_fit : All (λ s. s < 2 ^ height) checks

-- 32 words of 39 bits, the first the codeword of 0
pub record IsRegisters (words : List ℕ) : Type 0 where
  pub count : length words ≡ 32
  pub zero : slice_index words 0 ≡ encode_of 32 7 0
  pub fits : All (λ w. w < 2 ^ 39) words
