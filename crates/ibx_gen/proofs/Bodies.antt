-- How long the program is, and what its words are.
use Rattle.std.proofs.Common.{◌≡◌, ℕ, zero, suc, ◌+◌, ◌*◌, ◌^◌, ◌<◌, List, [], ◌∷◌, ◌++◌, length, refl, ap, ◌∙◌, arith}
use Rattle.std.proofs.Common.{length-append, append-nil, add-one, sym}
use Rattle.std.specs.List.{All}
use Rattle.std.specs.Prelude.{slice_index}
use Rattle.std.proofs.lemmas.List.Elements.{All-append, All-cons, All-get_or, All-nil}
use Rattle.ibx_bits.specs.Bytes.{bits_at}
use Rattle.std.proofs.lemmas.List.{flat_map_more}
use Rattle.ibx_gen.specs.Draws.{draw_of, next_draw}
use Rattle.ibx_gen.specs.Words.{choices, body, body_word, bytes_of, program, opening, closing}
use Rattle.ibx_wrap.specs.Wrapped.{word}

-- a body has as many words as draws
pub length-body : (seed n : ℕ) → length (body seed n) ≡ n
unfolding body
length-body seed zero = refl
length-body seed (suc n) = simp length-append (omega (arith, length-body seed n))

-- each word has four bytes
pub length-bytes_of : (words : List ℕ) → length (bytes_of words) ≡ 4 * length words
length-bytes_of [] = refl
length-bytes_of (w ∷ words) = omega (arith, length-bytes_of words)

-- the opening, the body and the closing
pub length-program : (seed : ℕ) → length (program seed) ≡ 4105
unfolding program
length-program seed = simp length-append (omega (arith, length-body seed 4096))

-- before the first draw
pub start : (seed : ℕ) (code : List ℕ) → (seed ≡ draw_of seed 0) × (code ≡ code ++ bytes_of (body seed 0))
unfolding body draw_of
start seed code = (refl, sym (append-nil code))

-- one draw more
pub next : (seed n x : ℕ) (code more : List ℕ) → x ≡ next_draw (draw_of seed n) → more ≡
    (code ++ bytes_of (body seed n)) ++ word (body_word x)
    → (x ≡ draw_of seed (n + 1)) × (more ≡ code ++ bytes_of (body seed (n + 1)))
unfolding body draw_of
next seed n x code more drawn appended =
    rw (add-one n) (
      drawn,
      appended ∙ flat_map_more word code (body seed n) (body_word x) ∙ ap
          (λ (y : ℕ). code ++ bytes_of (body seed n ++ body_word y ∷ [])) drawn,
    )

-- the program's bytes
pub length-code : (seed : ℕ) → length (bytes_of (program seed)) ≡ 16420
length-code seed = length-bytes_of (program seed) ∙ ap (λ (n : ℕ). 4 * n) (length-program seed)

-- a number of 32 bits
abbrev pub IsWord : ℕ → Type 0
IsWord w = w < 2 ^ 32

-- each choice is one, whatever the draw
choices_fit : (x : ℕ) → All IsWord (choices x)
choices_fit x = search (arith, All-cons, All-nil)

-- so is the word of a draw
body_word_fits : (x : ℕ) → IsWord (body_word x)
unfolding body_word
body_word_fits x = All-get_or IsWord (choices x) (bits_at x 0 3) 0 (omega arith) (choices_fit x)

-- and each word of a body
body_fits : (seed n : ℕ) → All IsWord (body seed n)
unfolding body
body_fits seed zero = All-nil IsWord
body_fits seed (suc n) =
    All-append IsWord (body seed n) _ (body_fits seed n)
    (All-cons IsWord _ [] (body_word_fits (draw_of seed (suc n))) (All-nil IsWord))

-- and of the closing
closing_fits : All IsWord closing
closing_fits = search (arith, All-cons, All-nil)

-- and so does each word of the program
pub program_fits : (seed i : ℕ) → i < length (program seed) → IsWord (slice_index (program seed) i)
unfolding program
program_fits seed i inside =
    All-get_or IsWord (program seed) i 0 inside
    (All-append IsWord opening _ (search (arith, All-cons, All-nil))
    (All-append IsWord (body seed 4096) closing (body_fits seed 4096) closing_fits))
