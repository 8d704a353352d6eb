-- The file around code has no fault, and its image is the code.
use Rattle.std.proofs.Common.{◌≡◌, ℕ, ◌+◌, ◌^◌, ◌<◌, Bool, true, false, List, length, take, refl, ap, arith, Option}
use Rattle.std.proofs.Common.{None}
use Rattle.std.proofs.lemmas.Bool.Decides.{nat_tests}
use Rattle.std.specs.Option.{option_or}
use Rattle.std.proofs.Math.Seq.{take-length}
use Rattle.std.specs.Prelude.{nat_lt}
use Rattle.ibx_elf.specs.declared.ram.Ram.{Ram}
use Rattle.ibx_elf.specs.Faults.{IsWellFormed, first_fault, file_header_fault, segment_fault, outside_fault}
use Rattle.ibx_elf.specs.Faults.{first_overlap, overlap_fault, entry_fault, overruns, leaves, is_bad_entry}
use Rattle.ibx_elf.specs.Fields.{field, e_entry, e_phnum, program_header, is_load}
use Rattle.ibx_elf.specs.Image.{image_of, segments_below}
use Rattle.ibx_elf.specs.Search.{first_below, only_if}
use Rattle.ibx_wrap.specs.Wrapped.{TakesCode, code_address, image_of_code, wrapped}

-- the headers have 84 bytes
pub length-wrapped : (code : List ℕ) → length (wrapped code) ≡ 84 + length code
unfolding wrapped
length-wrapped code = omega arith

-- the entry is where the code is loaded
entry_is : (code : List ℕ) → e_entry (wrapped code) ≡ code_address
unfolding wrapped field
entry_is code = refl

-- there is one program header
count_is : (code : List ℕ) → e_phnum (wrapped code) ≡ 1
unfolding wrapped field
count_is code = refl

-- what the one program header says
record Describes (file : List ℕ) (count : ℕ) : Type 0 where
  loads : is_load (program_header file 0) ≡ true
  offset : (program_header file 0).p_offset ≡ 84
  address : (program_header file 0).p_paddr ≡ code_address
  file_bytes : (program_header file 0).p_filesz ≡ count
  bytes : (program_header file 0).p_memsz ≡ count

-- which says where the code stands, and how long it is
describes : (code : List ℕ) → length code < 2 ^ 32 → Describes (wrapped code) (length code)
unfolding wrapped field program_header
describes code fits = record {
  loads = refl;
  offset = refl;
  address = refl;
  file_bytes = omega arith;
  bytes = omega arith;
}

-- a test that doesn't hold gives no answer
only_if-false : {A : Type 0} (test : Bool) (x : A) → test ≡ false → only_if test x ≡ None
only_if-false test x fails = rw fails refl

-- where neither answers there is no answer
neither : {A : Type 0} (a b : Option A) → a ≡ None → b ≡ None → option_or a b ≡ None
neither a b none rest = rw none rest

-- the file header passes each of its tests
header_passes : (code : List ℕ) → file_header_fault (wrapped code) ≡ None
unfolding wrapped field file_header_fault
header_passes code =
    let long : nat_lt (length (wrapped code)) 52 ≡ false = grind (arith, nat_tests) in
    let within : nat_lt (length (wrapped code)) 84 ≡ false = grind (arith, nat_tests) in
    neither _ _ (only_if-false _ _ long) (neither _ _ (only_if-false _ _ within) refl)

-- the segment lies within the file, and fills its memory
segment_passes : (code : List ℕ) → length code < 2 ^ 32 → first_below (segment_fault (wrapped code))
    (e_phnum (wrapped code)) ≡ None
unfolding first_below segment_fault
segment_passes code fits =
    let says = describes code fits in
    let within : overruns (length (wrapped code)) (program_header (wrapped code) 0) ≡ false = grind
    (arith, nat_tests, length-wrapped) in
    rw (count_is code) (only_if-false _ _ within)

-- it lies in memory
range_passes : (code : List ℕ) (ram : Ram) → length code < 2 ^ 32 → TakesCode ram (length code)
    → first_below (outside_fault (wrapped code) ram) (e_phnum (wrapped code)) ≡ None
unfolding first_below outside_fault
range_passes code ram fits takes =
    let says = describes code fits in
    let inside : leaves ram (program_header (wrapped code) 0) ≡ false = grind (arith, nat_tests) in
    rw (count_is code) (only_if-false _ _ inside)

-- one segment meets no other
overlaps_pass : (code : List ℕ) → first_below (first_overlap (wrapped code)) (e_phnum (wrapped code)) ≡ None
unfolding wrapped field first_below first_overlap overlap_fault
overlaps_pass code = refl

-- the entry is even and in memory
entry_passes : (code : List ℕ) (ram : Ram) → TakesCode ram (length code) → entry_fault (wrapped code) ram ≡ None
unfolding entry_fault
entry_passes code ram takes =
    let good : is_bad_entry ram code_address ≡ false = grind (arith, nat_tests) in
    rw (entry_is code) (only_if-false _ _ good)

-- no fault of any kind
pub wrapped-well_formed : (code : List ℕ) (ram : Ram) → length code < 2 ^ 32 → TakesCode ram (length code) →
    IsWellFormed (wrapped code) ram
unfolding first_fault
wrapped-well_formed code ram fits takes =
    neither _ _ (header_passes code)
    (neither _ _ (segment_passes code fits)
    (neither _ _ (range_passes code ram fits takes)
    (neither _ _ (overlaps_pass code) (neither _ _ (entry_passes code ram takes) refl))))

-- its image is the code at its address
pub image_of-wrapped : (code : List ℕ) (ram : Ram) → length code < 2 ^ 32 → image_of (wrapped code) ram ≡ image_of_code
    code ram
unfolding wrapped field program_header segments_below
image_of-wrapped code ram fits =
    let whole : take (program_header (wrapped code) 0).p_filesz code ≡ code = rw (describes code fits).file_bytes
    (take-length code) in
    ap (λ (bytes : List ℕ). image_of_code bytes ram) whole
