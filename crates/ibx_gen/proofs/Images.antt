-- The file that a number gives has no fault, and its image is the program.
use Rattle.std.proofs.Common.{◌≡◌, ℕ, ◌+◌, ◌-◌, ◌*◌, ◌/◌, ◌%◌, ◌^◌, ◌<◌, true, false, ◌&&◌, List, length, take, refl}
use Rattle.std.proofs.Common.{◌∙◌, ap, arith, subst}
use Rattle.std.proofs.lemmas.Bool.Decides.{nat_tests}
use Rattle.std.proofs.lemmas.List.{length-take-le}
use Rattle.std.proofs.lemmas.List.Concat.{get_or-flat_map}
use Rattle.std.specs.Prelude.{slice_index, nat_le, nat_lt}
use Rattle.ibx_elf.specs.declared.ram.Ram.{Ram}
use Rattle.ibx_elf.specs.Faults.{IsWellFormed}
use Rattle.ibx_elf.specs.Image.{image_byte, image_of, image_word}
use Rattle.ibx_gen.specs.Image.{HoldsProgram, default_ram}
use Rattle.ibx_gen.specs.Words.{bytes_of, generated, program}
use Rattle.ibx_gen.proofs.Decoded.{is_drawn}
use Rattle.ibx_gen.proofs.Bodies.{length-code, length-program, length-bytes_of, program_fits}
use Rattle.ibx_wrap.specs.Wrapped.{TakesCode, code_address, image_of_code, word}
use Rattle.ibx_wrap.proofs.Laws.{length-wrapped, wrapped-well_formed, image_of-wrapped}

-- the default memory takes the program
takes : (seed : ℕ) → TakesCode default_ram (length (bytes_of (program seed)))
takes seed = record {
  from_base = omega arith;
  entry = omega arith;
  before_end = omega (arith, length-code seed);
}

-- the file has no fault
pub generated-well_formed : (seed : ℕ) → IsWellFormed (generated seed) default_ram
unfolding generated
generated-well_formed seed = wrapped-well_formed (bytes_of (program seed)) default_ram
    (omega (arith, length-code seed)) (takes seed)

-- 84 bytes of headers, and the code
pub length-generated : (seed : ℕ) → length (generated seed) ≡ 16504
unfolding generated
length-generated seed = omega (arith, length-wrapped (bytes_of (program seed)), length-code seed)

-- a byte of code where it stands
byte_there : (code : List ℕ) (ram : Ram) (k : ℕ) → k < length code → image_byte (image_of_code code ram)
    (code_address + k) ≡ slice_index code k
unfolding image_byte
byte_there code ram k inside =
    let here : (nat_le code_address (code_address + k) && nat_lt (code_address + k) (code_address + length code)) ≡
    true = grind (arith, nat_tests) in
    let back : code_address + k - code_address ≡ k = omega arith in
    rw (here, back) refl

-- and none before or after
byte_elsewhere : (code : List ℕ) (ram : Ram) (addr : ℕ) → (nat_le code_address addr && nat_lt addr
    (code_address + length code)) ≡ false
    → image_byte (image_of_code code ram) addr ≡ 0
unfolding image_byte
byte_elsewhere code ram addr out = rw out refl

-- byte j of word i
byte_of_word : (words : List ℕ) (i j : ℕ) → i < length words → j < 4 → slice_index (bytes_of words) (4 * i + j) ≡
    slice_index (word (slice_index words i)) j
byte_of_word words i j inside low =
    let start : length (bytes_of (take i words)) ≡ 4 * i =
    length-bytes_of (take i words) ∙ ap (λ (n : ℕ). 4 * n) (length-take-le i words (omega arith)) in
    subst (λ (n : ℕ). slice_index (bytes_of words) (n + j) ≡ slice_index (word (slice_index words i)) j) start
    (get_or-flat_map word words i j 0 0 inside low)

-- the same where it is loaded
lane : (words : List ℕ) (ram : Ram) (i j addr : ℕ) → i < length words → j < 4 → addr ≡ code_address + (4 * i + j)
    → image_byte (image_of_code (bytes_of words) ram) addr ≡ slice_index (word (slice_index words i)) j
lane words ram i j addr inside low at =
    rw at
    (byte_there (bytes_of words) ram (4 * i + j) (omega (arith, length-bytes_of words)) ∙ byte_of_word words i j inside
    low)

-- a number of 32 bits by its bytes
by_bytes : (w : ℕ) → w < 2 ^ 32 → w % 256 + 256 * (w / 256 % 256) + 65536 * (w / 65536 % 256) + 16777216 *
    (w / 16777216 % 256) ≡ w
by_bytes w fits = omega arith

-- the words of code that is made of words
word_there : (words : List ℕ) (ram : Ram) (i : ℕ) → i < length words → slice_index words i < 2 ^ 32
    → image_word (image_of_code (bytes_of words) ram) (code_address + 4 * i) ≡ slice_index words i
word_there words ram i inside fits =
    let at = code_address + 4 * i in
    rw (
      lane words ram i 0 at inside (omega arith) (omega arith),
      lane words ram i 1 (at + 1) inside (omega arith) (omega arith),
      lane words ram i 2 (at + 2) inside (omega arith) (omega arith),
      lane words ram i 3 (at + 3) inside (omega arith) (omega arith),
    )
    (by_bytes (slice_index words i) fits)

-- code that is made of words is those words in memory
holds_words : (words : List ℕ) (ram : Ram) → ((i : ℕ) → i < length words → slice_index words i < 2 ^ 32)
    → HoldsProgram words (image_of_code (bytes_of words) ram)
holds_words words ram fit = record {
  entry = refl;
  there = λ i inside. word_there words ram i inside (fit i inside);
  before = λ addr below. byte_elsewhere (bytes_of words) ram addr (grind (arith, nat_tests));
  after = λ addr above. byte_elsewhere (bytes_of words) ram addr (grind (arith, nat_tests, length-bytes_of));
}

-- its image is the program
pub generated-image : (seed : ℕ) → HoldsProgram (program seed) (image_of (generated seed) default_ram)
unfolding generated
generated-image seed =
    rw (image_of-wrapped (bytes_of (program seed)) default_ram (omega (arith, length-code seed)))
    (holds_words (program seed) default_ram (λ i inside. program_fits seed i inside))

-- what `generate` says of the file that a number gives
pub ruleset laws = (generated-well_formed, generated-image, length-program, length-generated, is_drawn)
