-- The text of a word assembles to its bytes.
use Rattle.std.proofs.Common.{◌≡◌, ℕ, ◌-◌, ◌%◌, ◌^◌, ◌<◌, Bool, true, false, cond, eqb, ◌&&◌, ◌||◌, List, [], ◌∷◌}
use Rattle.std.proofs.Common.{◌++◌}
use Rattle.std.proofs.Common.{length, map, Option, Some, None, Ok, IfSome, refl, sym, subst, ◌∙◌, ap, inl, inr, arith}
use Rattle.std.proofs.Common.{lit<}
use Rattle.std.specs.Prelude.{bit_and, bit_or, ◌==◌}
use Rattle.std.specs.Int.{bytes_low_first}
use Rattle.std.specs.List.{find, fold, list_all, zip}
use Rattle.std.specs.Option.{option_map}
use Rattle.std.proofs.Math.Nat.{mod-eq_of_lt, mod-lt}
use Rattle.std.proofs.lemmas.Bool.{and_parts, cases_Bool, or_cases, eqb-true, false≢true}
use Rattle.std.proofs.lemmas.Nat.{and_mask, and_mod}
use Rattle.ibx_decoder.specs.Table.{none_holds}
use Rattle.ibx_isa.specs.Lengths.{is_long, IsWordOrHalf}
use Rattle.ibx_asm.specs.declared.rows.Encoding.{Encoding}
use Rattle.ibx_asm.specs.declared.slot.Slot.{Slot}
use Rattle.ibx_asm.specs.Denote.{are_operands, instruction_of, label_of, in_range, known}
use Rattle.ibx_asm.specs.Denote.{with_operand, code_with, code_of, denoted}
use Rattle.ibx_asm.specs.Dis.{Pattern, patterns, suits, mnemonic_of, operands_text, is_fence, is_other_fence}
use Rattle.ibx_asm.specs.Dis.{instruction_text, dis_of, word_bytes}
use Rattle.ibx_asm.specs.Fields.{places_of, range_of, united}
use Rattle.ibx_asm.specs.Forms.{slots_of}
use Rattle.ibx_asm.specs.Mnemonics.{instructions, encoding_of}
use Rattle.ibx_asm.specs.Operands.{low_of}
use Rattle.ibx_asm.specs.Text.{tokens, without_comment}
use Rattle.ibx_asm.proofs.DataLines.{data_assembles}
use Rattle.ibx_asm.proofs.Fitting.{field_mask, is_excused, slot_holds, slot_mask, slot_bits}
use Rattle.ibx_asm.proofs.Masks.{and_spread}
use Rattle.ibx_asm.proofs.Operands.{value_in_range, value_known, value_word}
use Rattle.ibx_asm.proofs.Slots.{slot_token, alternates, mnemonic_reads}
use Rattle.ibx_asm.proofs.Standing.{IsLineOf, alone}
use Rattle.ibx_asm.proofs.Values.{slot_value, slot_fits, slot_reads}
use Rattle.ibx_asm.proofs.Written.{is_fine_word, some_text, text_late, text_uncommented, text_tokens, no_label}

-- ---- the operands of a word's text

-- they are those of the form
slots_fit : (w : ℕ) (slots : List Slot) → are_operands slots (map (slot_token w) slots) ≡ true
unfolding are_operands
slots_fit w [] = refl
slots_fit w (s ∷ slots) = rw (slot_fits w s, slots_fit w slots) refl

-- each is in range
slots_in_range : (w address : ℕ) (es : List (ℕ × ℕ)) (slots : List Slot)
    → list_all (is_excused es) slots ≡ true → none_holds w es ≡ true
    → in_range [] address (zip slots (map (slot_token w) slots)) ≡ true
slots_in_range w address es [] h k = refl
slots_in_range w address es (s ∷ slots) h k =
    let p = and_parts (is_excused es s) (list_all (is_excused es) slots) h in
    let more = zip slots (map (slot_token w) slots) in
    value_in_range [] address true s (slot_token w s) (slot_value w s) more (slot_reads address w s)
    ∙ rw (slot_holds w s es p.0 k, slots_in_range w address es slots p.1 k) refl

-- and known
slots_known : (w address : ℕ) (slots : List Slot) → known [] address (zip slots (map (slot_token w) slots)) ≡ true
slots_known w address [] = refl
slots_known w address (s ∷ slots) =
    let more = zip slots (map (slot_token w) slots) in
    value_known [] address true s (slot_token w s) (slot_value w s) more (slot_reads address w s) ∙ slots_known w
    address slots

-- a mask with one more slot
abbrev with_slot : ℕ → Slot → ℕ
with_slot mask s = bit_or mask (slot_mask s)

-- together they give back the word's bits
slots_word : (w address mask : ℕ) (slots : List Slot)
    → fold (with_operand [] address) (bit_and w mask) (zip slots (map (slot_token w) slots)) ≡ bit_and w
    (fold with_slot mask slots)
slots_word w address mask [] = refl
slots_word w address mask (s ∷ slots) =
    let more = zip slots (map (slot_token w) slots) in
    let one = ap (bit_or (bit_and w mask)) (slot_bits w s) ∙ and_spread w mask (slot_mask s) in
    value_word [] address (bit_and w mask) s (slot_token w s) (slot_value w s) more (slot_reads address w s)
    ∙ ap (λ (n : ℕ). fold (with_operand [] address) n more) one
    ∙ slots_word w address (bit_or mask (slot_mask s)) slots

-- ---- the line

-- the word with these operands
abbrev word_with : ℕ → Encoding → List (List ℕ) → ℕ
word_with address e ts = fold (with_operand [] address) e.word (zip (slots_of e.form) ts)

-- the tokens of a word's operands
abbrev operand_tokens : ℕ → Encoding → List (List ℕ)
operand_tokens w e = map (slot_token w) (slots_of e.form)

-- the code of a line of a mnemonic and operands that are in range and known
line_denotes : (name : List ℕ) (ts : List (List ℕ)) (e : Encoding) (number address : ℕ)
    → label_of (name ∷ ts) ≡ None → encoding_of name ≡ Some e → are_operands (slots_of e.form) ts ≡ true
    → in_range [] address (zip (slots_of e.form) ts) ≡ true → known [] address (zip (slots_of e.form) ts) ≡ true
    → code_of [] (record { number = number; address = address; line = name ∷ ts })
    ≡ Ok (bytes_low_first 0 e.size (word_with address e ts))
unfolding code_of code_with instruction_of
line_denotes name ts e number address label row fit range all =
    let some : (length (name ∷ ts) == 0) ≡ false = grind arith in
    rw (label, some, row, fit, range, all) refl

-- the line of the text of a word, where each word with its operands is this one
shown_denotes : (w n : ℕ) (name : List ℕ) (e : Encoding) (es : List (ℕ × ℕ)) → is_fine_word name ≡ true
    → encoding_of name ≡ Some e → alternates (slots_of e.form) ≡ true
    → list_all (is_excused es) (slots_of e.form) ≡ true → none_holds w es ≡ true
    → ((address : ℕ) → word_with address e (operand_tokens w e) ≡ n)
    → IsLineOf (name ++ operands_text w (slots_of e.form)) (bytes_low_first 0 e.size n)
shown_denotes w n name e es fine row marks excused none whole =
    let slots : List Slot = slots_of e.form in
    let said : without_comment (name ++ operands_text w slots) ≡ name ++ operands_text w slots =
    text_uncommented w name slots fine in
    let ts : tokens (name ++ operands_text w slots) ≡ name ∷ operand_tokens w e =
    text_tokens w name slots fine marks in
    record {
      some = some_text name (operands_text w slots) fine;
      late = text_late w name slots fine;
      unlabelled = rw (said, ts) (no_label w name slots);
      code = λ number address. rw (said, ts) (line_denotes name (operand_tokens w e) e number address
          (no_label w name slots) row (slots_fit w slots) (slots_in_range w address es slots excused none)
          (slots_known w address slots)
          ∙ ap (λ (n : ℕ). Ok (bytes_low_first 0 e.size n)) (whole address));
    }

-- ---- the rows

-- the length of an instruction with this match, or with this word
abbrev size_by : ℕ → ℕ
size_by matches = cond (eqb (matches % 4) 3) 4 2

-- and a mask of all its bits
abbrev all_by : ℕ → ℕ
all_by matches = cond (eqb (matches % 4) 3) (2 ^ 32 - 1) (2 ^ 16 - 1)

-- a row without operands whose other bits are ignored
abbrev is_ignoring : Encoding → Bool
is_ignoring e = is_fence e.form && eqb (length (slots_of e.form)) 0

-- the masks of a row and of its slots unite to the whole word
abbrev is_whole : Pattern → Encoding → Bool
is_whole p e = eqb e.word p.matches && eqb (fold with_slot p.mask (slots_of e.form)) (all_by p.matches)

-- a row's operands stand between marks, its exceptions are those of its operands, and its length is that of its words
abbrev is_formed : Pattern → Encoding → Bool
is_formed p e =
    alternates (slots_of e.form) && (list_all (is_excused p.unless) (slots_of e.form)
    && (eqb (p.mask % 4) 3 && eqb e.size (size_by p.matches)))

-- what the law needs of a row
abbrev is_sound : Pattern × (List ℕ × Encoding) → Bool
is_sound r = is_fine_word r.1.0 && (is_formed r.0 r.1.1 && (is_ignoring r.1.1 || is_whole r.0 r.1.1))

-- each row has it
all_sound : list_all is_sound (zip patterns instructions) ≡ true
unfolding slots_of range_of places_of united low_of field_mask slot_mask
all_sound = refl

-- the lowest bits of a word that fits a row
lowest : (w mask matches : ℕ) → bit_and w mask ≡ matches → mask % 4 ≡ 3 → w % 4 ≡ matches % 4
lowest w mask matches h k =
    let under : bit_and (w % 2 ^ 2) 3 ≡ w % 4 = and_mask (w % 2 ^ 2) 2 ∙ mod-eq_of_lt (mod-lt w (lit< tt)) in
    sym (ap (λ (n : ℕ). n % 2 ^ 2) (sym h) ∙ and_mod w mask 2 ∙ ap (bit_and (w % 2 ^ 2)) k ∙ under)

-- all bits of a word or halfword
all_bits : (w : ℕ) → w < 2 ^ 32 → IsWordOrHalf w → bit_and w (all_by w) ≡ w
all_bits w h short = elim (cases_Bool (is_long w)) [
  | inl f ↦ rw f (and_mask w 32 ∙ mod-eq_of_lt h)
  | inr f ↦ rw f (and_mask w 16 ∙ mod-eq_of_lt (short f))
]

-- an empty list
empty : {X : Type 0} (xs : List X) → eqb (length xs) 0 ≡ true → xs ≡ []
empty [] h = refl
empty (x ∷ xs) h = absurd (grind (arith, h))

-- another word isn't found to be no other fence
unlike : (w : ℕ) (e : Encoding) → eqb w e.word ≡ false → is_fence e.form ≡ true → is_other_fence w e ≡ false → ⊥
unlike w e differs fence other = false≢true (sym other ∙ rw (differs, fence) refl)

-- what isn't another fence is the row's own word
own_word : (w : ℕ) (e : Encoding) → is_other_fence w e ≡ false → is_fence e.form ≡ true → w ≡ e.word
own_word w e other fence = elim (cases_Bool (eqb w e.word)) [
  | inl f ↦ eqb-true w e.word f
  | inr f ↦ absurd (unlike w e f fence other)
]

-- the operands of a row that is ignoring
ignoring_word : (w address : ℕ) (e : Encoding) → slots_of e.form ≡ [] → w ≡ e.word
    → word_with address e (operand_tokens w e) ≡ w
ignoring_word w address e none same = rw none (sym same)

-- the operands of a row that is whole
whole_word : (w address : ℕ) (p : Pattern) (e : Encoding) → w < 2 ^ 32 → IsWordOrHalf w
    → bit_and w p.mask ≡ p.matches → w % 4 ≡ p.matches % 4 → is_whole p e ≡ true
    → word_with address e (operand_tokens w e) ≡ w
whole_word w address p e h short match low whole =
    let q =
    and_parts (eqb e.word p.matches) (eqb (fold with_slot p.mask (slots_of e.form)) (all_by p.matches)) whole in
    let begin : e.word ≡ bit_and w p.mask = eqb-true e.word p.matches q.0 ∙ sym match in
    let slots : List Slot = slots_of e.form in
    let same : all_by p.matches ≡ all_by w = ap (λ (n : ℕ). cond (eqb n 3) (2 ^ 32 - 1) (2 ^ 16 - 1)) (sym low) in
    let all : fold with_slot p.mask slots ≡ all_by w = eqb-true (fold with_slot p.mask slots) (all_by p.matches) q.1 ∙
    same in
    ap (λ (n : ℕ). fold (with_operand [] address) n (zip slots (map (slot_token w) slots))) begin
    ∙ slots_word w address p.mask slots
    ∙ ap (bit_and w) all
    ∙ all_bits w h short

-- the line of a word that fits a sound row
row_assembles : (w : ℕ) (p : Pattern) (name : List ℕ) (e : Encoding) → w < 2 ^ 32 → IsWordOrHalf w → suits w p ≡ true
    → is_sound (p, (name, e)) ≡ true → encoding_of name ≡ Some e → is_other_fence w e ≡ false
    → IsLineOf (name ++ operands_text w (slots_of e.form)) (word_bytes w)
row_assembles w p name e h short suit sound row other =
    let fit = and_parts (eqb (bit_and w p.mask) p.matches) (none_holds w p.unless) suit in
    let s = and_parts (is_fine_word name) (is_formed p e && (is_ignoring e || is_whole p e)) sound in
    let t = and_parts (is_formed p e) (is_ignoring e || is_whole p e) s.1 in
    let slots : List Slot = slots_of e.form in
    let sized : Bool = eqb (p.mask % 4) 3 && eqb e.size (size_by p.matches) in
    let u = and_parts (alternates slots) (list_all (is_excused p.unless) slots && sized) t.0 in
    let v = and_parts (list_all (is_excused p.unless) slots) sized u.1 in
    let x = and_parts (eqb (p.mask % 4) 3) (eqb e.size (size_by p.matches)) v.1 in
    let match : bit_and w p.mask ≡ p.matches = eqb-true (bit_and w p.mask) p.matches fit.0 in
    let low : w % 4 ≡ p.matches % 4 = lowest w p.mask p.matches match (eqb-true (p.mask % 4) 3 x.0) in
    let size : e.size ≡ size_by w = eqb-true e.size (size_by p.matches) x.1 ∙ ap (λ (n : ℕ). cond (eqb n 3) 4 2)
    (sym low) in
    let whole : (address : ℕ) → word_with address e (operand_tokens w e) ≡ w =
    λ address. elim (or_cases (is_ignoring e) (is_whole p e) t.1) [
      | inl i ↦
          let both = and_parts (is_fence e.form) (eqb (length (slots_of e.form)) 0) i in
          ignoring_word w address e (empty (slots_of e.form) both.1) (own_word w e other both.0)
      | inr i ↦ whole_word w address p e h short match low i
    ] in
    subst (λ (n : ℕ). IsLineOf (name ++ operands_text w slots) (bytes_low_first 0 n w)) size
    (shown_denotes w w name e p.unless s.0 row u.0 v.0 fit.1 whole)

-- what is found passes the test by which it was sought, and each test that all elements pass
found_both : {X : Type 0} (p test : X → Bool) (xs : List X) → list_all test xs ≡ true
    → IfSome (find p xs) (λ x. (p x ≡ true) × (test x ≡ true))
found_both p test [] h = tt
found_both p test (x ∷ xs) h =
    let both = and_parts (test x) (list_all test xs) h in
    elim (cases_Bool (p x)) [
      | inl f ↦ rw f (f, both.0)
      | inr f ↦ rw f (found_both p test xs both.1)
    ]

-- the line of a word with what was found for it
found_assembles : (w : ℕ) (o : Option (Pattern × (List ℕ × Encoding))) → w < 2 ^ 32 → IsWordOrHalf w
    → IfSome o (λ r. (suits w r.0 ≡ true) × (is_sound r ≡ true))
    → IfSome (option_map {U = List ℕ × Encoding} (λ r. r.1) o) (λ r. encoding_of r.0 ≡ Some r.1)
    → IsLineOf (instruction_text w (option_map (λ r. r.1) o)) (word_bytes w)
found_assembles w None h short sound row = data_assembles w h short
found_assembles w (Some (p, (name, e))) h short sound row = elim (cases_Bool (is_other_fence w e)) [
  | inl f ↦ rw f (data_assembles w h short)
  | inr f ↦ rw f (row_assembles w p name e h short sound.0 sound.1 row f)
]

-- the text of a word or halfword stands for its bytes
pub dis_stands : (w : ℕ) → w < 2 ^ 32 → IsWordOrHalf w → IsLineOf (dis_of w) (word_bytes w)
unfolding dis_of mnemonic_of
dis_stands w h short =
    let found = found_both (λ r. suits w r.0) is_sound (zip patterns instructions) all_sound in
    found_assembles w (find (λ r. suits w r.0) (zip patterns instructions)) h short found (mnemonic_reads w)

-- the law: it assembles to them
pub round_trip : (w : ℕ) → w < 2 ^ 32 → IsWordOrHalf w → denoted (dis_of w) ≡ Ok (word_bytes w)
round_trip w h short = alone (dis_of w) (word_bytes w) (dis_stands w h short)
