-- Words that are filled segment by segment are the image's.
use Rattle.std.proofs.Common.{◌≡◌, ℕ, zero, suc, ◌+◌, ◌-◌, ◌*◌, ◌/◌, ◌%◌, ◌^◌, ◌<◌, ◌≤◌, true, false, ◌&&◌, List}
use Rattle.std.proofs.Common.{length, get_or, set, replicate, Option, Some, None, unwrap_or, inl, inr, add-one}
use Rattle.std.proofs.Common.{add-zero, take, drop, get_or-take, get_or-drop, length-take, length-drop, refl, ◌∙◌, sym}
use Rattle.std.proofs.Common.{ap, subst, arith}
use Rattle.std.specs.Int.{w32, to_le_bytes, from_le_bytes}
use Rattle.std.specs.Option.{option_or}
use Rattle.std.specs.Prelude.{◌==◌, nat_lt, nat_le, slice_index, if◌then◌else◌}
use Rattle.std.proofs.lemmas.Bool.Decides.{nat_tests}
use Rattle.std.proofs.Math.Nat.{zero-div}
use Rattle.ibx_bits.specs.Bytes.{word_byte}
use Rattle.ibx_bits.proofs.Bytes.{four}
use Rattle.ibx_elf.specs.declared.fields.ProgramHeader.{ProgramHeader}
use Rattle.ibx_elf.specs.declared.ram.Ram.{Ram}
use Rattle.ibx_elf.specs.Faults.{IsWellFormed, leaves, outside_fault, overruns, segment_fault}
use Rattle.ibx_elf.specs.Fields.{e_phnum, has_file_bytes, program_header}
use Rattle.ibx_elf.specs.Filling.{AreWords, FilledBelow, HasPut, byte_of}
use Rattle.ibx_elf.specs.Image.{HoldsBytes, HoldsWords, Placed, image_byte, image_of, placed_by, placed_byte, places}
use Rattle.ibx_elf.specs.Search.{first_below}
use Rattle.ibx_elf.proofs.Laws.{byte_of-image_of, no_fault, not_placed, only_if-none, others_have_none, readable}
use Rattle.ibx_elf.proofs.Laws.{true_or_false}
use Rattle.ibx_elf.proofs.Searching.{first_below-empty, first_below-none}

-- one lane of a word is set
pub with_byte_is : (w lane b : ℕ) → lane < 4 → b < 256 → (j : ℕ) → j < 4
    → word_byte (from_le_bytes w32 (set (to_le_bytes w32 w) lane b)) j ≡ (if j == lane then b else word_byte w j)
with_byte_is w lane b below small j within =
    four (λ (l : ℕ). word_byte (from_le_bytes w32 (set (to_le_bytes w32 w) l b)) j
    ≡ (if j == l then b else word_byte w j))
    (four (λ (i : ℕ). word_byte (from_le_bytes w32 (set (to_le_bytes w32 w) 0 b)) i
    ≡ (if i == 0 then b else word_byte w i)) (omega arith) (omega arith) (omega arith) (omega arith) j within)
    (four (λ (i : ℕ). word_byte (from_le_bytes w32 (set (to_le_bytes w32 w) 1 b)) i
    ≡ (if i == 1 then b else word_byte w i)) (omega arith) (omega arith) (omega arith) (omega arith) j within)
    (four (λ (i : ℕ). word_byte (from_le_bytes w32 (set (to_le_bytes w32 w) 2 b)) i
    ≡ (if i == 2 then b else word_byte w i)) (omega arith) (omega arith) (omega arith) (omega arith) j within)
    (four (λ (i : ℕ). word_byte (from_le_bytes w32 (set (to_le_bytes w32 w) 3 b)) i
    ≡ (if i == 3 then b else word_byte w i)) (omega arith) (omega arith) (omega arith) (omega arith) j within)
    lane below

-- nothing after an answer
option_or-nothing : (o : Option ℕ) → option_or o None ≡ o
option_or-nothing None = refl
option_or-nothing (Some x) = refl

-- a header that has no byte for an address leaves the answer
unchanged : (file : List ℕ) (addr n : ℕ) → places (program_header file n) addr ≡ false
    → unwrap_or (first_below (placed_by file addr) (n + 1)) 0 ≡ unwrap_or (first_below (placed_by file addr) n) 0
unfolding first_below
unchanged file addr n has_none =
    rw (add-one n, not_placed file addr n has_none)
    (ap (λ o. unwrap_or o 0) (option_or-nothing (first_below (placed_by file addr) n)))

-- one that has is the only one
placed : (file : List ℕ) (ram : Ram) (addr n : ℕ) → IsWellFormed file ram → n < e_phnum file
    → places (program_header file n) addr ≡ true → unwrap_or (first_below (placed_by file addr) (n + 1)) 0
    ≡ slice_index file ((program_header file n).p_offset + (addr - (program_header file n).p_paddr))
unfolding first_below placed_by
placed file ram addr n well less has =
    let overlaps = (no_fault file ram well).overlaps in
    let before = first_below-none (placed_by file addr) n
    (λ j below.
    elim (true_or_false (places (program_header file j) addr)) as (λ _. placed_by file addr j ≡ None) [
      | inl also ↦ absurd (others_have_none file n j addr overlaps less below has also)
      | inr not_here ↦ not_placed file addr j not_here
    ]) in
    rw (add-one n, before, has) refl

-- the same of a header that is this one
placed_alike : (file : List ℕ) (ram : Ram) (addr n : ℕ) (header : ProgramHeader) → IsWellFormed file ram
    → n < e_phnum file → header ≡ program_header file n → places header addr ≡ true
    → unwrap_or (first_below (placed_by file addr) (n + 1)) 0
    ≡ slice_index file (header.p_offset + (addr - header.p_paddr))
placed_alike file ram addr n header well less is has =
    placed file ram addr n well less (ap (λ (h : ProgramHeader). places h addr) (sym is) ∙ has)
    ∙ ap (λ (h : ProgramHeader). slice_index file (h.p_offset + (addr - h.p_paddr))) (sym is)

-- a header without file bytes has none for any address
no_bytes_there : (header : ProgramHeader) (addr : ℕ) → has_file_bytes header ≡ false → places header addr ≡ false
no_bytes_there header addr none = grind (arith, nat_tests)

-- such a header adds nothing
pub filled-skip : (file : List ℕ) (base : ℕ) (words : List ℕ) (n : ℕ) (header : ProgramHeader)
    → header ≡ program_header file n → has_file_bytes header ≡ false → FilledBelow file base words n
    → FilledBelow file base words (n + 1)
filled-skip file base words n header is none filled = record {
  bytes = λ a less.
      let lacks : places (program_header file n) (base + a) ≡ false =
      subst (λ (h : ProgramHeader). places h (base + a) ≡ false) is (no_bytes_there header (base + a) none) in
      filled.bytes a less ∙ sym (unchanged file (base + a) n lacks);
  small = filled.small;
}

-- zeros, and their bytes
all_zeros : (n i : ℕ) → get_or (replicate n zero) i zero ≡ zero
all_zeros zero i = refl
all_zeros (suc n) zero = refl
all_zeros (suc n) (suc i) = all_zeros n i

-- each byte of the word 0 is 0
no_byte : (w k : ℕ) → w ≡ 0 → word_byte w k ≡ 0
no_byte w k none = rw (none, zero-div (256 ^ k)) refl

-- where a segment with file bytes lies in the file and in the words
pub record LiesIn (file : List ℕ) (ram : Ram) (header : ProgramHeader) : Type 0 where
  pub file_end : header.p_offset + header.p_filesz ≤ length file
  pub from_base : ram.base ≤ header.p_paddr
  pub to_end : header.p_paddr + header.p_filesz ≤ ram.base + ram.size

-- a segment that passed the tests lies within the file and within RAM
lies : (file : List ℕ) (ram : Ram) (header : ProgramHeader) → overruns (length file) header ≡ false
    → leaves ram header ≡ false → has_file_bytes header ≡ true → LiesIn file ram header
lies file ram header fits inside some =
    record {
      file_end = grind (arith, nat_tests);
      from_base = grind (arith, nat_tests);
      to_end = grind (arith, nat_tests);
    }

-- each segment with file bytes of a well-formed file does
pub lies_in : (file : List ℕ) (ram : Ram) (n : ℕ) (header : ProgramHeader) → IsWellFormed file ram → n < e_phnum file
    → header ≡ program_header file n → has_file_bytes header ≡ true → LiesIn file ram header
unfolding segment_fault outside_fault
lies_in file ram n header well less is some =
    let parts = no_fault file ram well in
    let fits : overruns (length file) (program_header file n) ≡ false =
    only_if-none _ _ (first_below-empty (segment_fault file) (e_phnum file) n parts.segments less) in
    let inside : leaves ram (program_header file n) ≡ false =
    only_if-none _ _ (first_below-empty (outside_fault file ram) (e_phnum file) n parts.outside less) in
    lies file ram header (ap (overruns (length file)) is ∙ fits) (ap (leaves ram) is ∙ inside) some

-- what was put over the old bytes, by addresses
put_segment : (file : List ℕ) (header : ProgramHeader) (base a old : ℕ) → has_file_bytes header ≡ true
    → base ≤ header.p_paddr → (if nat_le (header.p_paddr - base) a
    && nat_lt a (header.p_paddr - base + header.p_filesz)
    then slice_index (take header.p_filesz (drop header.p_offset file)) (a - (header.p_paddr - base)) else old)
    ≡ (if places header (base + a) then slice_index file (header.p_offset + (base + a - header.p_paddr)) else old)
put_segment file header base a old some from =
    let inside : (nat_le (header.p_paddr - base) a && nat_lt a (header.p_paddr - base + header.p_filesz))
    ≡ places header (base + a) =
    grind (arith, nat_tests) in
    rw inside
    (elim (true_or_false (places header (base + a))) as (λ _.
    (if places header (base + a) then slice_index (take header.p_filesz (drop header.p_offset file))
    (a - (header.p_paddr - base)) else old)
    ≡ (if places header (base + a) then slice_index file (header.p_offset + (base + a - header.p_paddr)) else old)) [
      | inl has ↦
          let below : a - (header.p_paddr - base) < header.p_filesz = grind (arith, nat_tests) in
          let same : header.p_offset + (a - (header.p_paddr - base)) ≡ header.p_offset + (base + a - header.p_paddr) =
          grind (arith, nat_tests) in
          rw has
          (get_or-take header.p_filesz (drop header.p_offset file) (a - (header.p_paddr - base)) 0 below
          ∙ get_or-drop header.p_offset file (a - (header.p_paddr - base)) 0 ∙ ap (slice_index file) same)
      | inr lacks ↦ rw lacks refl
    ])

-- one more segment is put
pub filled-next : (file : List ℕ) (ram : Ram) (before after : List ℕ) (n : ℕ) (header : ProgramHeader)
    → IsWellFormed file ram → n < e_phnum file → header ≡ program_header file n → has_file_bytes header ≡ true
    → length after ≡ length before → HasPut before (header.p_paddr - ram.base)
    (take header.p_filesz (drop header.p_offset file)) header.p_filesz after
    → (AreWords before → AreWords after) → FilledBelow file ram.base before n → FilledBelow file ram.base after (n + 1)
filled-next file ram before after n header well less is some same put small filled = record {
  bytes = λ a within.
      let addr = ram.base + a in
      let old : byte_of before a ≡ unwrap_or (first_below (placed_by file addr) n) 0 = filled.bytes a (omega arith) in
      let new = unwrap_or (first_below (placed_by file addr) (n + 1)) 0 in
      put a ∙ put_segment file header ram.base a (byte_of before a) some
      (lies_in file ram n header well less is some).from_base
      ∙ elim (true_or_false (places header addr))
      as (λ _. (if places header addr then slice_index file (header.p_offset + (addr - header.p_paddr))
      else byte_of before a) ≡ new) [
        | inl has ↦ rw has (sym (placed_alike file ram addr n header well less is has))
        | inr lacks ↦
            rw lacks (old ∙ sym (unchanged file addr n (ap (λ (h : ProgramHeader). places h addr) (sym is) ∙ lacks)))
      ];
  small = small filled.small;
}

-- the file bytes of a segment are as many as its header says
pub segment_bytes : (file : List ℕ) (ram : Ram) (header : ProgramHeader) → LiesIn file ram header
    → length (take (header.p_offset + header.p_filesz - header.p_offset) (drop header.p_offset file)) ≡ header.p_filesz
segment_bytes file ram header lies = simp (length-take, length-drop) (omega arith)

-- the same put, with the count in place of its length
pub put_part : (before : List ℕ) (start offset count : ℕ) (file after : List ℕ)
    → length (take (offset + count - offset) (drop offset file)) ≡ count
    → HasPut before start (take (offset + count - offset) (drop offset file))
    (length (take (offset + count - offset) (drop offset file))) after
    → HasPut before start (take count (drop offset file)) count after
put_part before start offset count file after whole put =
    let part : offset + count - offset ≡ count = omega arith in
    subst (λ (n : ℕ). HasPut before start (take n (drop offset file)) count after) part
    (subst (λ (n : ℕ). HasPut before start (take (offset + count - offset) (drop offset file)) n after) whole put)

-- zeros hold what no header places
pub filled-start : (file : List ℕ) (base : ℕ) (words : List ℕ) (n : ℕ) → words ≡ replicate n 0
    → FilledBelow file base words 0
unfolding first_below
filled-start file base words n zeros = record {
  bytes = λ a less. no_byte (slice_index words (a / 4)) (a % 4) (rw zeros (all_zeros n (a / 4)));
  small = λ i. rw (zeros, all_zeros n i) (omega arith);
}

-- a word is the number of its bytes
word_of_bytes : (w a b d e : ℕ) → w < 2 ^ 32 → word_byte w 0 ≡ a → word_byte w 1 ≡ b → word_byte w 2 ≡ d
    → word_byte w 3 ≡ e → w ≡ a + 256 * b + 256 ^ 2 * d + 256 ^ 3 * e
word_of_bytes w a b d e small at_0 at_1 at_2 at_3 = omega arith

-- filled by all headers, the words hold the image
pub holds_bytes : (file : List ℕ) (ram : Ram) (words : List ℕ) → IsWellFormed file ram → (n : ℕ) → n ≡ e_phnum file
    → FilledBelow file ram.base words n → HoldsBytes (image_of file ram) words
unfolding placed_byte
holds_bytes file ram words well n all filled i less k below =
    let word : (4 * i + k) / 4 ≡ i = omega arith in
    let lane : (4 * i + k) % 4 ≡ k = omega arith in
    let there : ram.base + (4 * i + k) ≡ ram.base + 4 * i + k = omega arith in
    ap (λ (j : ℕ). word_byte (slice_index words j) k) (sym word)
    ∙ ap (λ (j : ℕ). word_byte (slice_index words ((4 * i + k) / 4)) j) (sym lane)
    ∙ filled.bytes (4 * i + k) (omega arith)
    ∙ ap (λ (m : ℕ). unwrap_or (first_below (placed_by file (ram.base + (4 * i + k))) m) 0) all
    ∙ sym (byte_of-image_of file ram (ram.base + (4 * i + k)) (readable file ram well))
    ∙ ap (image_byte (image_of file ram)) there

-- words that hold the image's bytes are the image's words
pub holds_words : (image : Placed) (words : List ℕ) → AreWords words → HoldsBytes image words → HoldsWords image words
holds_words image words small bytes i less =
    word_of_bytes (slice_index words i) _ _ _ _ (small i)
    (bytes i less 0 (omega arith) ∙ ap (image_byte image) (add-zero (image.ram.base + 4 * i)))
    (bytes i less 1 (omega arith)) (bytes i less 2 (omega arith)) (bytes i less 3 (omega arith))
