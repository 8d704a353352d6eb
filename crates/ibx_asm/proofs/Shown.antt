-- The line of a mnemonic and one operand, and what it stands for.
use Rattle.std.proofs.Common.{◌≡◌, ℕ, Bool, true, not, nat_eq, ◌&&◌, List, [], ◌∷◌, ◌++◌, length}
use Rattle.std.proofs.Common.{drop, Some, None, refl, ◌∙◌, ap, arith}
use Rattle.std.specs.Prelude.{bit_or}
use Rattle.std.specs.Int.{bytes_low_first}
use Rattle.std.specs.List.{list_all, position_or_len}
use Rattle.std.proofs.lemmas.Bool.{and_parts}
use Rattle.std.proofs.lemmas.List.Folds.{list_all-append}
use Rattle.std.proofs.Math.ListN.{drop_of_length-le}
use Rattle.std.proofs.lemmas.List.{take_all}
use Rattle.ibx_asm.specs.declared.fields.Field.{Field}
use Rattle.ibx_asm.specs.declared.operand.Signed.{Signed}
use Rattle.ibx_asm.specs.declared.rows.Encoding.{Encoding}
use Rattle.ibx_asm.specs.declared.slot.Slot.TheVariants as slot
use Rattle.ibx_asm.specs.Denote.{are_operands, instruction_of, label_of, code_with, code_of}
use Rattle.ibx_asm.specs.Fields.{range_of, has, twos_complement, scattered}
use Rattle.ibx_asm.specs.Forms.{slots_of}
use Rattle.ibx_asm.specs.Mnemonics.{encoding_of}
use Rattle.ibx_asm.specs.Operands.{signed_of, fits, value_of, holds, bits_of}
use Rattle.ibx_asm.specs.Text.{is_plain, tokens, without_comment}
use Rattle.ibx_asm.proofs.Standing.{is_late, weaker, all_passed, take_front, IsLineOf}
use Rattle.ibx_asm.proofs.Tokens.{run}

-- a plain byte that has no part in the end of a line, and begins no comment
abbrev pub is_fine : ℕ → Bool
is_fine byte = is_plain byte && (is_late byte && not (nat_eq byte 35))

-- a text without `#` has no comment
pub no_comment : (text : List ℕ) → list_all (λ byte. not (nat_eq byte 35)) text ≡ true → without_comment text ≡ text
no_comment text h = rw (all_passed (λ byte. nat_eq byte 35) text h) (take_all (length text) text (omega arith))

-- a run of plain bytes ends at a space
plain_run : (xs rest : List ℕ) → list_all is_plain xs ≡ true → position_or_len (λ byte. not (is_plain byte))
    (xs ++ 32 ∷ rest) ≡ length xs
plain_run [] rest h = refl
plain_run (x ∷ xs) rest h = let p = and_parts (is_plain x) (list_all is_plain xs) h in rw (p.0, plain_run xs rest p.1)
    (omega arith)

-- or at the end
plain_end : (xs : List ℕ) → list_all is_plain xs ≡ true → position_or_len (λ byte. not (is_plain byte)) xs ≡ length xs
plain_end [] h = refl
plain_end (x ∷ xs) h = let p = and_parts (is_plain x) (list_all is_plain xs) h in rw (p.0, plain_end xs p.1)
    (omega arith)

-- what stands after other elements
pub drop_front : (xs ys : List ℕ) → drop (length xs) (xs ++ ys) ≡ ys
drop_front [] ys = refl
drop_front (x ∷ xs) ys = drop_front xs ys

-- a line of plain bytes is one token
last_token : (y : ℕ) (ys : List ℕ) → list_all is_plain (y ∷ ys) ≡ true → tokens (y ∷ ys) ≡ (y ∷ ys) ∷ []
unfolding tokens
last_token y ys h =
    let p = and_parts (is_plain y) (list_all is_plain ys) h in
    run y ys p.0 ∙ rw (
      plain_end ys p.1,
      take_all (length ys) ys (omega arith),
      drop_of_length-le ys {i = length ys}
          (omega arith),
    ) refl

-- a space before a token says nothing
after_space : (y : ℕ) (ys : List ℕ) → tokens (32 ∷ y ∷ ys) ≡ tokens (y ∷ ys)
unfolding tokens
after_space y ys = refl

-- two words of plain bytes are two tokens
pub two_tokens : (x y : ℕ) (xs ys : List ℕ) → list_all is_plain (x ∷ xs) ≡ true → list_all is_plain (y ∷ ys) ≡ true
    → tokens ((x ∷ xs) ++ 32 ∷ y ∷ ys) ≡ (x ∷ xs) ∷ (y ∷ ys) ∷ []
two_tokens x y xs ys h k =
    let p = and_parts (is_plain x) (list_all is_plain xs) h in
    run x (xs ++ 32 ∷ y ∷ ys) p.0
    ∙ rw (plain_run xs (y ∷ ys) p.1, take_front xs (32 ∷ y ∷ ys), drop_front xs (32 ∷ y ∷ ys))
    (ap (λ (ts : List (List ℕ)). (x ∷ xs) ∷ ts) (after_space y ys ∙ last_token y ys k))

-- what a fine byte is
is_plain_of : (x : ℕ) → is_fine x ≡ true → is_plain x ≡ true
is_plain_of x h = (and_parts (is_plain x) (is_late x && not (nat_eq x 35)) h).0

-- it ends no line
pub is_late_of : (x : ℕ) → is_fine x ≡ true → is_late x ≡ true
is_late_of x h = (and_parts (is_late x) (not (nat_eq x 35))
    (and_parts (is_plain x) (is_late x && not (nat_eq x 35)) h).1).0

-- it begins no comment
no_hash_of : (x : ℕ) → is_fine x ≡ true → not (nat_eq x 35) ≡ true
no_hash_of x h = (and_parts (is_late x) (not (nat_eq x 35))
    (and_parts (is_plain x) (is_late x && not (nat_eq x 35)) h).1).1

-- a test that two words and the space between them pass
joined_all : (t : ℕ → Bool) (xs ys : List ℕ) → t 32 ≡ true → list_all t xs ≡ true → list_all t ys ≡ true → list_all t
    (xs ++ 32 ∷ ys) ≡ true
joined_all t xs ys space h k = list_all-append t xs (32 ∷ ys) ∙ rw (h, space, k) refl

-- the line of a mnemonic whose one operand is a number
pub shown_number : (x y : ℕ) (xs ys : List ℕ) (e : Encoding) (f : Field) (v : Signed)
    → list_all is_fine (x ∷ xs) ≡ true → list_all is_fine (y ∷ ys) ≡ true
    → label_of ((x ∷ xs) ∷ (y ∷ ys) ∷ []) ≡ None → encoding_of (x ∷ xs) ≡ Some e → slots_of e.form ≡ slot.Number f ∷ []
    → signed_of (y ∷ ys) ≡ Some v → has (range_of f) v ≡ true
    → IsLineOf ((x ∷ xs) ++ 32 ∷ y ∷ ys) (bytes_low_first 0 e.size (bit_or e.word (scattered f (twos_complement v))))
unfolding code_of code_with instruction_of are_operands fits value_of holds bits_of
shown_number x y xs ys e f v h k no_label row form number fit =
    let text : List ℕ = (x ∷ xs) ++ 32 ∷ y ∷ ys in
    let said : without_comment text ≡ text = no_comment text (joined_all (λ b. not (nat_eq b 35)) (x ∷ xs) (y ∷ ys)
    refl (weaker is_fine (λ b. not (nat_eq b 35)) (x ∷ xs) no_hash_of h) (weaker is_fine (λ b. not (nat_eq b 35))
    (y ∷ ys) no_hash_of k)) in
    let ts : tokens text ≡ (x ∷ xs) ∷ (y ∷ ys) ∷ [] = two_tokens x y xs ys (weaker is_fine is_plain (x ∷ xs)
    is_plain_of h) (weaker is_fine is_plain (y ∷ ys) is_plain_of k) in
    record {
      some = omega arith;
      late = joined_all is_late (x ∷ xs) (y ∷ ys) refl (weaker is_fine is_late (x ∷ xs) is_late_of h)
          (weaker is_fine is_late (y ∷ ys) is_late_of k);
      unlabelled = rw (said, ts) no_label;
      code = λ number_of_line address. rw (said, ts, no_label, row, form, number, form, number, fit) refl;
    }
