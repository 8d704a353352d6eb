-- The lines of some code, one at a time.
use Rattle.std.proofs.Common.{◌≡◌, ℕ, zero, suc, ◌+◌, ◌-◌, ◌<◌, Bool, true, false, cond, List, [], ◌∷◌, ◌++◌, length}
use Rattle.std.proofs.Common.{drop}
use Rattle.std.proofs.Common.{codes, Some, refl, add-one, sym, ◌∙◌, ap, arith, lit<}
use Rattle.std.specs.Prelude.{flat_map}
use Rattle.std.specs.List.{slice_get}
use Rattle.ibx_elf.specs.Image.{LoadedBytes, Placed}
use Rattle.ibx_dis.specs.Listing.{first_size, first_text, lines_after, lines_of, segment_text, listing_of}

-- one of these sizes is never 0
some_of : (short whole : Bool) → 0 < cond short 1 (cond whole 4 2)
some_of true whole = lit< tt
some_of false true = lit< tt
some_of false false = lit< tt

-- an instruction has a byte
pub some_size : (code : List ℕ) → 0 < first_size code
unfolding first_size
some_size code = some_of _ _

-- what is left after some bytes, of which the first is one
pub drop_first : (n x : ℕ) (code : List ℕ) → 0 < n → drop n (x ∷ code) ≡ drop (n - 1) code
drop_first zero x code h = absurd (omega (arith, h))
drop_first (suc n) x code h =
    let one : suc n - 1 ≡ n = omega arith in
    rw one refl

-- the lines after some bytes are those of what is left
skipped : (n : ℕ) (code : List ℕ) → lines_after n code ≡ lines_after 0 (drop n code)
unfolding lines_after
skipped zero code = refl
skipped (suc n) [] = refl
skipped (suc n) (x ∷ code) = skipped n code

-- the first line, and those of what is left
pub first_line : (code : List ℕ) → 0 < length code
    → lines_of code ≡ (first_text code ++ codes "\n") ++ lines_of (drop (first_size code) code)
unfolding lines_after
first_line [] h = absurd (omega (arith, h))
first_line (x ∷ code) h =
    let n : ℕ = first_size (x ∷ code) in
    let left : lines_after (n - 1) code ≡ lines_after 0 (drop n (x ∷ code)) =
    skipped (n - 1) code ∙ ap (lines_after 0) (sym (drop_first n x code (some_size (x ∷ code)))) in
    rw left refl

-- no code has no lines
pub no_code : (code : List ℕ) → length code ≡ 0 → lines_of code ≡ []
unfolding lines_after
no_code [] h = refl
no_code (x ∷ code) h = absurd (omega (arith, h))

-- a segment and those after it
next : (segments : List LoadedBytes) (i : ℕ) (segment : LoadedBytes) → slice_get segments i ≡ Some segment
    → drop i segments ≡ segment ∷ drop (suc i) segments
next [] i segment h = cc
next (s ∷ segments) zero segment h = cc
next (s ∷ segments) (suc i) segment h = next segments i segment h

-- their texts
pub one_segment : (segments : List LoadedBytes) (i : ℕ) (segment : LoadedBytes) → slice_get segments i ≡ Some segment
    → flat_map segment_text (drop i segments) ≡ segment_text segment ++ flat_map segment_text (drop (i + 1) segments)
one_segment segments i segment h = rw (add-one i, next segments i segment h) refl

-- the text of an image, of which nothing is written
pub all_segments : (image : Placed) → flat_map segment_text (drop 0 image.segments) ≡ listing_of image
unfolding listing_of
all_segments image = refl
