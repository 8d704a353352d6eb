-- The fault of a pair is looked for only among later headers, and headers in ascending order have none.
use Rattle.std.proofs.Common.{◌≡◌, ℕ, ◌+◌, ◌<◌, ◌≤◌, true, false, List, None, inl, inr, refl, ap, ◌∙◌, arith, le-ltb}
use Rattle.std.proofs.lemmas.Bool.Decides.{nat_tests}
use Rattle.std.proofs.lemmas.Bool.{cases_lt, lt-ltb}
use Rattle.ibx_elf.specs.declared.fields.ProgramHeader.{ProgramHeader}
use Rattle.ibx_elf.specs.Faults.{AreAscending, end_after, first_overlap, overlap_fault, precedes, shares_address}
use Rattle.ibx_elf.specs.Fields.{e_phnum, has_file_bytes, program_header}
use Rattle.ibx_elf.specs.Search.{first_below}
use Rattle.ibx_elf.proofs.Searching.{first_below-none}

-- a header has no such fault with itself or an earlier one
overlap_fault-earlier : (file : List ℕ) (i j : ℕ) → j ≤ i → overlap_fault file i j ≡ None
unfolding overlap_fault
overlap_fault-earlier file i j earlier = rw (le-ltb i j earlier) refl

-- so the search for a header's overlaps may begin with the header behind it
pub no_overlap_up_to : (file : List ℕ) (i : ℕ) → first_below (overlap_fault file i) (i + 1) ≡ None
no_overlap_up_to file i =
    first_below-none (overlap_fault file i) (i + 1) (λ k less. overlap_fault-earlier file i k (omega arith))

-- segments of which one precedes the other share no address
apart : (a b : ProgramHeader) → precedes a b ≡ true → shares_address a b ≡ false
apart a b before = grind (arith, nat_tests)

-- a segment without file bytes shares no address
empty_apart : (a b : ProgramHeader) → has_file_bytes a ≡ false → shares_address a b ≡ false
empty_apart a b none = grind (arith, nat_tests)

-- a pair that shares no address has no fault
no_fault_of : (file : List ℕ) (i j : ℕ)
    → (i < j → shares_address (program_header file i) (program_header file j) ≡ false) → overlap_fault file i j ≡ None
unfolding overlap_fault
no_fault_of file i j apart =
    elim (cases_lt i j) as (λ _. overlap_fault file i j ≡ None) [
      | inl less ↦ rw (lt-ltb i j less, apart less) refl
      | inr from ↦ rw (le-ltb i j from) refl
    ]

-- no two of ascending headers share an address
pub ascending_apart : (file : List ℕ) → AreAscending file → first_below (first_overlap file) (e_phnum file) ≡ None
unfolding first_overlap
ascending_apart file up =
    first_below-none (first_overlap file) (e_phnum file)
    (λ i within. first_below-none (overlap_fault file i) (e_phnum file)
    (λ j below. no_fault_of file i j (λ less. apart (program_header file i) (program_header file j)
    (up i j less below))))

-- a header without file bytes overlaps with none
pub empty_has_none : (file : List ℕ) (i : ℕ) → has_file_bytes (program_header file i) ≡ false
    → first_overlap file i ≡ None
unfolding first_overlap
empty_has_none file i none =
    first_below-none (overlap_fault file i) (e_phnum file)
    (λ j below. no_fault_of file i j (λ less. empty_apart (program_header file i) (program_header file j) none))

-- the headers below n are ascending, and their file bytes end at `end`
pub record Ascends (file : List ℕ) (n end : ℕ) : Type 0 where
  pub before : (i j : ℕ) → i < j → j < n → precedes (program_header file i) (program_header file j) ≡ true
  pub within : (i : ℕ) → i < n → has_file_bytes (program_header file i) ≡ true
      → (program_header file i).p_paddr + (program_header file i).p_filesz ≤ end
  pub reached : 0 < end → (i : ℕ) × ((i < n)
      × ((has_file_bytes (program_header file i) ≡ true)
      × ((program_header file i).p_paddr + (program_header file i).p_filesz ≡ end)))

-- a header that has no end after the bytes before it has bytes that begin before their end
too_early : (header : ProgramHeader) (end : ℕ) → end_after header end ≡ None
    → (has_file_bytes header ≡ true) × (header.p_paddr < end)
too_early header end none = (grind (arith, nat_tests), grind (arith, nat_tests))

-- such a header isn't preceded by one that ends there
not_behind : (a b : ProgramHeader) (end : ℕ) → has_file_bytes a ≡ true → a.p_paddr + a.p_filesz ≡ end
    → has_file_bytes b ≡ true → b.p_paddr < end → precedes a b ≡ true → ⊥
not_behind a b end some_a ends some_b early before = grind (arith, nat_tests)

-- file bytes that begin before the end of those before them don't ascend
pub not_ascending : (file : List ℕ) (n end : ℕ) (header : ProgramHeader) → Ascends file n end → n < e_phnum file
    → header ≡ program_header file n → end_after header end ≡ None → AreAscending file → ⊥
not_ascending file n end header up less is none all =
    let early = too_early header end none in
    let (i, (below, (some, ends))) = up.reached (omega (arith, early.1)) in
    not_behind (program_header file i) header end some ends early.0 early.1
    (ap (precedes (program_header file i)) is ∙ all i n below less)

-- all of them ascend
pub all_ascend : (file : List ℕ) (n end : ℕ) → Ascends file n end → n ≡ e_phnum file → AreAscending file
all_ascend file n end up all i j less below = up.before i j less (omega arith)
