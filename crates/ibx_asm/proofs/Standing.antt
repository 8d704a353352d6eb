-- Lines that stand for the same code wherever they are.
use Rattle.std.proofs.Common.{◌≡◌, ℕ, zero, suc, ◌+◌, ◌-◌, ◌<◌, Bool, true, false, cond, not, nat_eq, nat_lt, List, []}
use Rattle.std.proofs.Common.{◌∷◌, ◌++◌}
use Rattle.std.proofs.Common.{length, take, drop, Some, None, Ok, refl, ◌∙◌, ap, arith, append-nil, add-one}
use Rattle.std.proofs.Common.{length-append}
use Rattle.std.specs.Prelude.{slice_index}
use Rattle.std.specs.List.{list_all, position, position_or_len}
use Rattle.std.specs.Str.Lines.{lines, strip_carriage_return}
use Rattle.std.proofs.lemmas.Bool.{and_parts}
use Rattle.ibx_asm.specs.Denote.{label_of, placed, labels_of, code_of, code_of_all, denoted}
use Rattle.ibx_asm.specs.Text.{tokens, without_comment}
use Rattle.ibx_asm.proofs.Lines.{is_feed, first_of, only_line}

-- ---- texts without the end of a line

-- a byte above the line feed and the carriage return
abbrev pub is_late : ℕ → Bool
is_late byte = nat_lt 13 byte

-- a test that follows from another
pub weaker : (s t : ℕ → Bool) (xs : List ℕ) → ((x : ℕ) → s x ≡ true → t x ≡ true) → list_all s xs ≡ true → list_all t
    xs ≡ true
weaker s t [] to h = refl
weaker s t (x ∷ xs) to h = let p = and_parts (s x) (list_all s xs) h in rw (to x p.0, weaker s t xs to p.1) refl

-- where no element passes, the search ends at the end
pub all_passed : (p : ℕ → Bool) (xs : List ℕ) → list_all (λ x. not (p x)) xs ≡ true → position_or_len p xs ≡ length xs
all_passed p [] h = refl
all_passed p (x ∷ xs) h = let q = and_parts (not (p x)) (list_all (λ x. not (p x)) xs) h in rw
    (q.0, all_passed p xs q.1) (omega arith)

-- a search that ends at the end finds nothing
nowhere : (n m : ℕ) → n ≡ m → cond (nat_lt n m) (Some n) None ≡ None
nowhere n m h = grind arith

-- one that ends before the end finds its place
somewhere : (n m end : ℕ) → n ≡ end → end < m → cond (nat_lt n m) (Some n) None ≡ Some end
somewhere n m end h below = grind arith

-- such a byte is no line feed
no_feed : (x : ℕ) → is_late x ≡ true → not (is_feed x) ≡ true
no_feed x h = grind (arith, h)

-- nor a carriage return
no_return : (x : ℕ) → is_late x ≡ true → nat_eq x 13 ≡ false
no_return x h = grind (arith, h)

-- no byte of such a text is one
none_return : (xs : List ℕ) (i : ℕ) → list_all is_late xs ≡ true → nat_eq (slice_index xs i) 13 ≡ false
none_return [] i h = refl
none_return (x ∷ xs) zero h = no_return x (and_parts (is_late x) (list_all is_late xs) h).0
none_return (x ∷ xs) (suc i) h = none_return xs i (and_parts (is_late x) (list_all is_late xs) h).1

-- a text loses no carriage return
keeps : (xs : List ℕ) → list_all is_late xs ≡ true → strip_carriage_return xs ≡ xs
keeps xs h = rw (none_return xs (length xs - 1) h) refl

-- the line feed after a text is the first
feed_at : (xs rest : List ℕ) → list_all is_late xs ≡ true → position_or_len is_feed (xs ++ 10 ∷ rest) ≡ length xs
feed_at [] rest h = refl
feed_at (x ∷ xs) rest h =
    let p = and_parts (is_late x) (list_all is_late xs) h in
    rw (no_feed x p.0, feed_at xs rest p.1) (omega arith)

-- what stands before other elements
pub take_front : (xs ys : List ℕ) → take (length xs) (xs ++ ys) ≡ xs
take_front [] ys = refl
take_front (x ∷ xs) ys = ap (λ (zs : List ℕ). x ∷ zs) (take_front xs ys)

-- what stands after an element after them
drop_feed : (xs ys : List ℕ) → drop (suc (length xs)) (xs ++ 10 ∷ ys) ≡ ys
drop_feed [] ys = refl
drop_feed (x ∷ xs) ys = drop_feed xs ys

-- a text and the line feed after it are the first line
first_line : (xs rest : List ℕ) → list_all is_late xs ≡ true → lines (xs ++ 10 ∷ rest) ≡ xs ∷ lines rest
first_line xs rest h =
    let at : position is_feed (xs ++ 10 ∷ rest) ≡ Some (length xs) =
    somewhere _ _ (length xs) (feed_at xs rest h) (omega (arith, length-append xs (10 ∷ rest))) in
    first_of (xs ++ 10 ∷ rest) (length xs) at ∙ rw (
      take_front xs (10 ∷ rest),
      add-one (length xs),
      drop_feed xs rest,
      keeps xs h,
    ) refl

-- a text alone is one line
only : (xs : List ℕ) → 0 < length xs → list_all is_late xs ≡ true → lines xs ≡ xs ∷ []
only xs some h = only_line xs some (nowhere (position_or_len is_feed xs) (length xs) (all_passed is_feed xs
    (weaker is_late (λ b. not (is_feed b)) xs no_feed h)))

-- ---- lines

-- a text is one line that defines no label, and stands for this code wherever it is
pub record IsLineOf (text bytes : List ℕ) : Type 0 where
  pub some : 0 < length text
  pub late : list_all is_late text ≡ true
  pub unlabelled : label_of (tokens (without_comment text)) ≡ None
  pub code : (number address : ℕ)
      → code_of [] (record { number = number; address = address; line = tokens (without_comment text) }) ≡ Ok bytes

-- the lines of a text define no labels, and stand for this code wherever they are
pub record AreLinesOf (text bytes : List ℕ) : Type 0 where
  pub unlabelled : (number address : ℕ) → labels_of (placed number address (lines text)) ≡ []
  pub code : (number address : ℕ) → code_of_all [] (placed number address (lines text)) ≡ Ok bytes

-- a line alone assembles to its code
pub alone : (text code : List ℕ) → IsLineOf text code → denoted text ≡ Ok code
unfolding denoted placed code_of_all
alone text code line = rw (only text line.some line.late, line.unlabelled, line.code 1 0x100080)
    (ap Ok (append-nil code))

-- no lines stand for no code
pub no_lines : AreLinesOf [] []
unfolding placed code_of_all
no_lines = record { unlabelled = λ number address. refl; code = λ number address. refl }

-- a line before others
pub with_line : (text code rest more : List ℕ) → IsLineOf text code → AreLinesOf rest more
    → AreLinesOf (text ++ 10 ∷ rest) (code ++ more)
unfolding placed code_of_all
with_line text code rest more line others = record {
  unlabelled = λ number address. rw (first_line text rest line.late, line.unlabelled) (others.unlabelled (number + 1)
      _);
  code = λ number address. rw (first_line text rest line.late, line.code number address, others.code (number + 1) _)
      refl;
}

-- lines alone assemble to their code
pub all_alone : (text code : List ℕ) → AreLinesOf text code → denoted text ≡ Ok code
unfolding denoted
all_alone text code h = rw (h.unlabelled 1 0x100080) (h.code 1 0x100080)
