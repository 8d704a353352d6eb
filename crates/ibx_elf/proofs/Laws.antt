-- What a well-formed file's headers and image are.
use Rattle.std.proofs.Common.{◌≡◌, ℕ, zero, suc, ◌+◌, ◌-◌, ◌<◌, ◌≤◌, Bool, true, false, not, ◌&&◌, ◌||◌, min}
use Rattle.std.proofs.Common.{ltb-false, ◌%◌, ◌*◌, List, [], ◌∷◌, ◌++◌, length, map, take, drop, length-take}
use Rattle.std.proofs.Common.{length-drop, get_or-take, get_or-drop, Option, Some, None, unwrap_or, ◌⊎◌, inl, inr}
use Rattle.std.proofs.Common.{refl, ◌∙◌, ap, arith}
use Rattle.std.proofs.lemmas.Bool.Decides.{nat_tests}
use Rattle.ibx_elf.specs.declared.fields.ProgramHeader.{ProgramHeader}
use Rattle.ibx_elf.specs.declared.ram.Ram.{Ram}
use Rattle.ibx_elf.specs.declared.fault.ElfFault.TheVariants.{Short, Headers, TooMany}
use Rattle.ibx_elf.specs.Faults.{IsWellFormed, file_header_fault, file_header_faults, first_fault, first_overlap}
use Rattle.ibx_elf.specs.Faults.{overlap_fault, outside_fault, segment_fault, entry_fault, is_bad_entry}
use Rattle.ibx_elf.specs.Faults.{shares_address, overruns, is_short, lacks_headers, has_too_many}
use Rattle.ibx_elf.specs.Fields.{HasHeaders, e_entry, e_phentsize, e_phnum, e_phoff, program_header, is_load}
use Rattle.ibx_elf.specs.Image.{loaded_byte, segment_of, segments_below, HoldsSegments, IsReadable, IsZeroElsewhere}
use Rattle.ibx_elf.specs.Image.{places, placed_by, placed_byte, image_byte, image_of}
use Rattle.ibx_elf.specs.Ram.{IsInRam}
use Rattle.ibx_elf.specs.Search.{first_below, first_of, only_if}
use Rattle.std.specs.Option.{option_or}
use Rattle.std.specs.Prelude.{◌==◌, nat_lt, nat_le, slice_index, if◌then◌else◌}
use Rattle.std.proofs.lemmas.List.{map-append}
use Rattle.ibx_elf.proofs.Searching.{first_below-empty, first_below-found, first_below-none, option_or-none}

-- no fault of any kind
pub record HasNoFault (file : List ℕ) (ram : Ram) : Type 0 where
  pub header : file_header_fault file ≡ None
  pub segments : first_below (segment_fault file) (e_phnum file) ≡ None
  pub outside : first_below (outside_fault file ram) (e_phnum file) ≡ None
  pub overlaps : first_below (first_overlap file) (e_phnum file) ≡ None
  pub entry : entry_fault file ram ≡ None

-- a well-formed file has none of the faults
pub no_fault : (file : List ℕ) (ram : Ram) → IsWellFormed file ram → HasNoFault file ram
unfolding first_fault
no_fault file ram well =
    let a = option_or-none _ _ well in
    let b = option_or-none _ _ a.1 in
    let d = option_or-none _ _ b.1 in
    let e = option_or-none _ _ d.1 in
    let f = option_or-none _ _ e.1 in
    record { header = a.0; segments = b.0; outside = d.0; overlaps = e.0; entry = f.0 }

-- a test that gives no answer doesn't hold
pub only_if-none : {A : Type 0} (test : Bool) (x : A) → only_if test x ≡ None → test ≡ false
only_if-none true x none = absurd (cc)
only_if-none false x none = refl

-- none of the list is an answer
abbrev AreNone : {A : Type 0} → List (Option A) → Type 0
AreNone [] = Unit {0}
AreNone (answer ∷ rest) = (answer ≡ None) × AreNone rest

-- where the list has no answer, none in it is one
first_of-none : {A : Type 0} (answers : List (Option A)) → first_of answers ≡ None → AreNone answers
first_of-none [] none = tt
first_of-none (None ∷ rest) none = (refl, first_of-none rest none)
first_of-none (Some x ∷ rest) none = absurd (cc)

-- three of the tests that an accepted file header has passed
accepted_header : (file : List ℕ) → file_header_fault file ≡ None
    → (is_short file ≡ false) × (lacks_headers file ≡ false) × (has_too_many file ≡ false)
unfolding file_header_fault
accepted_header file none =
    let all = first_of-none (file_header_faults file) none in
    let last = all.1.1.1.1.1.1.1 in (
      only_if-none (is_short file) Short all.0,
      only_if-none (lacks_headers file) Headers last.0,
      only_if-none (has_too_many file) TooMany last.1.0,
    )

-- program headers that passed the tests of their number, size and offset end within the file
within_file : (count size first bytes : ℕ)
    → (not (count == 0 || count == 0xffff) && (not (size == 32) || nat_lt bytes (first + 32 * count))) ≡ false
    → (count == 0xffff) ≡ false → 0 < count → first + 32 * count ≤ bytes
within_file count size first bytes there few some = grind (arith, nat_tests)

-- an accepted file header tells where the program headers are
pub headers_of : (file : List ℕ) → file_header_fault file ≡ None → HasHeaders file
headers_of file none =
    let passed = accepted_header file none in
    record {
      long = ltb-false (length file) 52 passed.0;
      within = within_file (e_phnum file) (e_phentsize file) (e_phoff file) (length file) passed.1 passed.2;
    }

-- of a well-formed file the headers and each segment's file bytes lie in the file
pub readable : (file : List ℕ) (ram : Ram) → IsWellFormed file ram → IsReadable file
readable file ram well =
    let parts = no_fault file ram well in
    record { headers = headers_of file parts.header; segments = parts.segments }

-- where a segment of a readable file lies
pub segment_within : (file : List ℕ) (i addr : ℕ) → IsReadable file → i < e_phnum file
    → places (program_header file i) addr ≡ true
    → (program_header file i).p_offset + (addr - (program_header file i).p_paddr) < length file
unfolding segment_fault
segment_within file i addr read less has =
    let none = first_below-empty (segment_fault file) (e_phnum file) i read.segments less in
    let fits : overruns (length file) (program_header file i) ≡ false = only_if-none _ _ none in
    grind (arith, nat_tests)

-- two segments with a byte for one address share it
shared : (a b : ProgramHeader) (addr : ℕ) → places a addr ≡ true → places b addr ≡ true → shares_address a b ≡ true
shared a b addr in_a in_b = grind (arith, nat_tests)

-- a test holds or not
pub true_or_false : (test : Bool) → (test ≡ true) ⊎ (test ≡ false)
true_or_false true = inl refl
true_or_false false = inr refl

-- of a well-formed file no other header has a byte for an address
pub others_have_none : (file : List ℕ) (i j addr : ℕ) → first_below (first_overlap file) (e_phnum file) ≡ None
    → i < e_phnum file → j < i → places (program_header file i) addr ≡ true
    → places (program_header file j) addr ≡ true → ⊥
unfolding first_overlap overlap_fault
others_have_none file i j addr none less before at_i at_j =
    let of_j = first_below-empty (first_overlap file) (e_phnum file) j none (omega arith) in
    let of_pair = first_below-empty (overlap_fault file j) (e_phnum file) i of_j less in
    let apart = only_if-none _ _ of_pair in
    let meet = shared (program_header file j) (program_header file i) addr at_j at_i in
    grind (arith, nat_tests)

-- a header without a byte for an address places none
pub not_placed : (file : List ℕ) (addr j : ℕ) → places (program_header file j) addr ≡ false
    → placed_by file addr j ≡ None
unfolding placed_by
not_placed file addr j has_none = rw has_none refl

-- one segment's byte
only_if-same : (test : Bool) (x y : ℕ) → (test ≡ true → x ≡ y) → option_or (only_if test x) None ≡ only_if test y
only_if-same true x y same = ap Some (same refl)
only_if-same false x y same = refl

-- the byte that one segment, taken from the file, has for an address
one_segment : (file : List ℕ) (load : Bool) (addr start offset count : ℕ)
    → (load ≡ true → length (take count (drop offset file)) ≡ count)
    → first_of (map (loaded_byte addr)
    (if load then record { addr = start; bytes = take count (drop offset file) } ∷ [] else []))
    ≡ only_if (load && nat_le start addr && nat_lt addr (start + count)) (slice_index file (offset + (addr - start)))
one_segment file false addr start offset count whole = refl
one_segment file true addr start offset count whole =
    rw (whole refl)
    (only_if-same (nat_le start addr && nat_lt addr (start + count)) _ _
    (λ has.
    let below : addr - start < count = grind (arith, nat_tests) in
    get_or-take count (drop offset file) (addr - start) 0 below ∙ get_or-drop offset file (addr - start) 0))

-- as many file bytes as the header says are left from its offset on
whole_count : (count offset bytes : ℕ) → (count ≡ 0) ⊎ (offset + count ≤ bytes) → min count (bytes - offset) ≡ count
whole_count count offset bytes (inl none) = omega arith
whole_count count offset bytes (inr within) = omega arith

-- the file bytes of a segment that doesn't overrun are all there
whole_segment : (file : List ℕ) (header : ProgramHeader) → overruns (length file) header ≡ false
    → is_load header ≡ true → length (take header.p_filesz (drop header.p_offset file)) ≡ header.p_filesz
whole_segment file header fits load =
    let within : (header.p_filesz ≡ 0) ⊎ (header.p_offset + header.p_filesz ≤ length file) =
    grind (arith, nat_tests) in
    simp (length-take, length-drop) (whole_count header.p_filesz header.p_offset (length file) within)

-- the first answer of two lists
first_of-append : {A : Type 0} (xs ys : List (Option A)) → first_of (xs ++ ys) ≡ option_or (first_of xs) (first_of ys)
first_of-append [] ys = refl
first_of-append (None ∷ xs) ys = first_of-append xs ys
first_of-append (Some x ∷ xs) ys = refl

-- what the segments have for an address is what the headers place there
placed_among : (file : List ℕ) (addr n : ℕ) → ((i : ℕ) → i < n → segment_fault file i ≡ None)
    → first_of (map (loaded_byte addr) (segments_below file n)) ≡ first_below (placed_by file addr) n
unfolding segments_below first_below segment_fault placed_by
placed_among file addr zero none = refl
placed_among file addr (suc n) none =
    let fits : overruns (length file) (program_header file n) ≡ false = only_if-none _ _ (none n (omega arith)) in
    let header = program_header file n in
    let last = one_segment file (is_load header) addr header.p_paddr header.p_offset header.p_filesz
    (whole_segment file header fits) in
    let before = placed_among file addr n (λ i below. none i (omega arith)) in
    rw (map-append (loaded_byte addr) (segments_below file n) (segment_of file header))
    (let have = map (loaded_byte addr) (segments_below file n) in
    let here = map (loaded_byte addr) (segment_of file header) in
    first_of-append have here ∙ ap (λ o. option_or o (first_of here)) before
    ∙ ap (option_or (first_below (placed_by file addr) n)) last)

-- a byte of the image is the one that a header places there, or 0
pub byte_of-image_of : (file : List ℕ) (ram : Ram) (addr : ℕ) → IsReadable file
    → image_byte (image_of file ram) addr ≡ placed_byte file addr
unfolding image_byte placed_byte
byte_of-image_of file ram addr read =
    ap (λ o. unwrap_or o 0)
    (placed_among file addr (e_phnum file)
    (λ i less. first_below-empty (segment_fault file) (e_phnum file) i read.segments less))

-- the header's own byte
placed_here : (file : List ℕ) (i k : ℕ) → is_load (program_header file i) ≡ true → k < (program_header file i).p_filesz
    → placed_by file ((program_header file i).p_paddr + k) i
    ≡ Some (slice_index file ((program_header file i).p_offset + k))
unfolding placed_by
placed_here file i k load inside =
    let has : places (program_header file i) ((program_header file i).p_paddr + k) ≡ true = grind (arith, nat_tests) in
    let back : (program_header file i).p_paddr + k - (program_header file i).p_paddr ≡ k = omega arith in
    rw (has, back) refl

-- byte k of a segment's file bytes is the one that is placed at its address
placed_byte-segment : (file : List ℕ) (ram : Ram) → IsWellFormed file ram → (i k : ℕ) → i < e_phnum file
    → is_load (program_header file i) ≡ true → k < (program_header file i).p_filesz
    → placed_byte file ((program_header file i).p_paddr + k) ≡ slice_index file ((program_header file i).p_offset + k)
unfolding placed_byte
placed_byte-segment file ram well i k less load inside =
    let addr = (program_header file i).p_paddr + k in
    let has : places (program_header file i) addr ≡ true = grind (arith, nat_tests) in
    let overlaps = (no_fault file ram well).overlaps in
    let before = first_below-none (placed_by file addr) i
    (λ j below.
    elim (true_or_false (places (program_header file j) addr)) as (λ _. placed_by file addr j ≡ None) [
      | inl also ↦ absurd (others_have_none file i j addr overlaps less below has also)
      | inr not_here ↦ not_placed file addr j not_here
    ]) in
    let found =
    first_below-found (placed_by file addr) i (e_phnum file) _ less before (placed_here file i k load inside) in
    ap (λ o. unwrap_or o 0) found

-- the image has each segment's file bytes
pub holds_segments : (file : List ℕ) (ram : Ram) → IsWellFormed file ram → HoldsSegments file (image_of file ram)
holds_segments file ram well i k less load inside =
    byte_of-image_of file ram _ (readable file ram well) ∙ placed_byte-segment file ram well i k less load inside

-- where no header places a byte there is 0, in the placed bytes and in the image
placed_byte-elsewhere : (file : List ℕ) (addr : ℕ)
    → ((i : ℕ) → i < e_phnum file → places (program_header file i) addr ≡ false) → placed_byte file addr ≡ 0
unfolding placed_byte
placed_byte-elsewhere file addr nowhere =
    ap (λ o. unwrap_or o 0)
    (first_below-none (placed_by file addr) (e_phnum file) (λ i less. not_placed file addr i (nowhere i less)))

-- so the image of a well-formed file is 0 at each address for which no segment has a file byte
pub is_zero_elsewhere : (file : List ℕ) (ram : Ram) → IsWellFormed file ram → IsZeroElsewhere file (image_of file ram)
is_zero_elsewhere file ram well addr nowhere =
    byte_of-image_of file ram addr (readable file ram well) ∙ placed_byte-elsewhere file addr nowhere

-- the entry of a well-formed file passes its test, and so is even and in RAM
pub good_entry : (file : List ℕ) (ram : Ram) → IsWellFormed file ram → is_bad_entry ram (e_entry file) ≡ false
unfolding entry_fault
good_entry file ram well = only_if-none _ _ (no_fault file ram well).entry

-- an entry that passes the test is even, as an instruction's address is
pub entry-even : (ram : Ram) (entry : ℕ) → is_bad_entry ram entry ≡ false → entry % 2 ≡ 0
entry-even ram entry good = grind (arith, nat_tests)

-- the first instruction of an entry that passes the test begins in RAM
pub entry_in_ram : (ram : Ram) (entry : ℕ) → is_bad_entry ram entry ≡ false → IsInRam ram entry
entry_in_ram ram entry good = record { from_base = grind (arith, nat_tests); before_end = grind (arith, nat_tests) }
