-- The loadable segments, one program header at a time.
use Rattle.std.proofs.Common.{◌≡◌, ℕ, zero, suc, ◌+◌, ◌-◌, ◌<◌, ◌≤◌, true, false, List, [], ◌∷◌, ◌++◌, length, take}
use Rattle.std.proofs.Common.{drop, Option, Some, None, refl, sym, ap, ◌∙◌, arith, add-one, add-zero, add-suc}
use Rattle.std.proofs.Common.{append-nil, length-append}
use Rattle.std.specs.List.{slice_get}
use Rattle.ibx_elf.specs.declared.fields.ProgramHeader.{ProgramHeader}
use Rattle.ibx_elf.specs.Faults.{overruns, segment_fault}
use Rattle.ibx_elf.specs.Fields.{program_header, is_load, e_phnum}
use Rattle.ibx_elf.specs.Image.{LoadedBytes, IsReadable, segment_of, segments_below}
use Rattle.ibx_elf.proofs.Laws.{only_if-none}
use Rattle.ibx_elf.proofs.Searching.{first_below-empty}

-- no header, no segment
pub no_segments : (file : List ℕ) → segments_below file 0 ≡ []
unfolding segments_below
no_segments file = refl

-- a loadable header adds its segment, and another adds none
pub one_more : (file : List ℕ) (n : ℕ) → is_load (program_header file n) ≡ true
    → segments_below file (n + 1) ≡ segments_below file n ++ record {
      addr = (program_header file n).p_paddr;
      bytes =
          take (program_header file n).p_filesz (drop (program_header file n).p_offset file);
    } ∷ []
unfolding segments_below
one_more file n h = rw (add-one n, h) refl

-- a header of another type leaves the segments as they are
pub none_more : (file : List ℕ) (n : ℕ) → is_load (program_header file n) ≡ false → segments_below file (n + 1) ≡
    segments_below file n
unfolding segments_below
none_more file n h = rw (add-one n, h) (append-nil (segments_below file n))

-- a loadable header makes one segment more
pub count_more : (file : List ℕ) (n : ℕ) → is_load (program_header file n) ≡ true → length
    (segments_below file (n + 1)) ≡ length (segments_below file n) + 1
count_more file n h = rw (one_more file n h) (length-append (segments_below file n) _)

-- an element keeps its index where more elements are put behind its list
got_left : {X : Type 0} (xs ys : List X) (i : ℕ) (x : X) → slice_get xs i ≡ Some x → slice_get (xs ++ ys) i ≡ Some x
got_left [] ys i x h = cc
got_left (y ∷ xs) ys zero x h = h
got_left (y ∷ xs) ys (suc i) x h = got_left xs ys i x h

-- the element that is put behind a list has the length of the list as its index
got_last : {X : Type 0} (xs : List X) (x : X) → slice_get (xs ++ x ∷ []) (length xs) ≡ Some x
got_last [] x = refl
got_last (y ∷ xs) x = got_last xs x

-- a segment keeps its place
kept : (file : List ℕ) (n d i : ℕ) (s : LoadedBytes) → slice_get (segments_below file n) i ≡ Some s → slice_get
    (segments_below file (n + d)) i ≡ Some s
unfolding segments_below
kept file n zero i s h = rw (add-zero n) h
kept file n (suc d) i s h = rw (add-suc n d) (got_left (segments_below file (n + d))
    (segment_of file (program_header file (n + d))) i s (kept file n d i s h))

-- the segment of header n, before which there are so many
pub segment_here : (file : List ℕ) (n i : ℕ) → n < e_phnum file → is_load (program_header file n) ≡ true → i ≡ length
    (segments_below file n)
    → slice_get (segments_below file (e_phnum file)) i ≡ Some
    (record {
      addr = (program_header file n).p_paddr;
      bytes = take (program_header file n).p_filesz
          (drop (program_header file n).p_offset file);
    })
segment_here file n i below h at =
    let here = got_last (segments_below file n) (record {
      addr = (program_header file n).p_paddr;
      bytes = take
          (program_header file n).p_filesz (drop (program_header file n).p_offset file);
    }) in
    let split : e_phnum file ≡ n + 1 + (e_phnum file - (n + 1)) = omega (arith, below) in
    rw (at, split) (kept file (n + 1) (e_phnum file - (n + 1)) (length (segments_below file n)) _
    (rw (one_more file n h) here))

-- a segment of a readable file lies within it
pub within_file : (file : List ℕ) (n : ℕ) → IsReadable file → n < e_phnum file → overruns (length file)
    (program_header file n) ≡ false
unfolding segment_fault
within_file file n read below = only_if-none _ _ (first_below-empty (segment_fault file) (e_phnum file) n read.segments
    below)
