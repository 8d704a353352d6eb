-- The text of a word: a line without a comment, its words and its tokens.
use Rattle.std.proofs.Common.{◌≡◌, ℕ, ◌+◌, ◌^◌, ◌<◌, Bool, true, false, not, nat_eq, ◌&&◌, ◌||◌, List, [], ◌∷◌, ◌++◌}
use Rattle.std.proofs.Common.{length, map, codes, None, refl, sym, ◌∙◌, ap, arith}
use Rattle.std.specs.Prelude.{flat_map}
use Rattle.std.specs.Fmt.{decimal}
use Rattle.std.specs.List.{list_all}
use Rattle.std.specs.Str.{bytes_eq}
use Rattle.std.proofs.lemmas.Bool.{and_parts, and_from, and_right}
use Rattle.std.proofs.lemmas.Fmt.{decimal_nonempty}
use Rattle.std.proofs.lemmas.List.Folds.{list_all-append}
use Rattle.ibx_bits.specs.Bytes.{bits_at}
use Rattle.ibx_asm.specs.declared.fields.Field.{Field}
use Rattle.ibx_asm.specs.declared.fields.Field.TheVariants as field
use Rattle.ibx_asm.specs.declared.operand.Signed.{Signed}
use Rattle.ibx_asm.specs.declared.slot.Slot.{Slot}
use Rattle.ibx_asm.specs.declared.slot.Slot.TheVariants as slot
use Rattle.ibx_asm.specs.Denote.{label_of}
use Rattle.ibx_asm.specs.Dis.{hex_digits, gathered, number_in, signed_text, number_text, register_text, slot_text}
use Rattle.ibx_asm.specs.Dis.{operands_text}
use Rattle.ibx_asm.specs.Operands.{registers, is_name, low_of}
use Rattle.ibx_asm.specs.Text.{is_plain, tokens, without_comment}
use Rattle.ibx_asm.proofs.DataLines.{below, at_below, fine_digits}
use Rattle.ibx_asm.proofs.Decimals.{decimal_reads}
use Rattle.ibx_asm.proofs.Shown.{is_fine, no_comment}
use Rattle.ibx_asm.proofs.Slots.{is_mark_slot, slot_token, alternates, is_word, has_words, word_then, no_tokens}
use Rattle.ibx_asm.proofs.Slots.{tokens_of_slots}
use Rattle.ibx_asm.proofs.Standing.{is_late, weaker}
use Rattle.ibx_asm.proofs.Values.{five_bits, three_bits, small_number}

-- ---- the words of a text

-- a word of fine bytes
abbrev pub is_fine_word : List ℕ → Bool
is_fine_word [] = false
is_fine_word (x ∷ xs) = list_all is_fine (x ∷ xs)

-- where there is a byte, and each is fine
fine_word : (xs : List ℕ) → 0 < length xs → list_all is_fine xs ≡ true → is_fine_word xs ≡ true
fine_word [] some h = absurd (omega (arith, some))
fine_word (x ∷ xs) some h = h

-- then each is fine
fine_bytes : (xs : List ℕ) → is_fine_word xs ≡ true → list_all is_fine xs ≡ true
fine_bytes [] h = refl
fine_bytes (x ∷ xs) h = h

-- the digits of a decimal number are a word
decimal_fine : (n : ℕ) → n < 10 ^ 10 → is_fine_word (decimal n) ≡ true
decimal_fine n h =
    let word : n < 2 ^ 64 = omega (arith, h) in
    fine_word (decimal n) (decimal_nonempty n word) (decimal_reads n word).fine

-- and those of one with this sign
with_sign_fine : (b : Bool) (n : ℕ) → n < 10 ^ 10 → is_fine_word (signed_text (record { minus = b; size = n })) ≡ true
unfolding signed_text
with_sign_fine true n h = rw (decimal_reads n (omega (arith, h))).fine refl
with_sign_fine false n h = decimal_fine n h

-- those of a number, whatever its sign
signed_fine : (v : Signed) → v.size < 10 ^ 10 → is_fine_word (signed_text v) ≡ true
signed_fine v h = with_sign_fine v.minus v.size h

-- `0x` and digits
hex_fine : (k n : ℕ) → is_fine_word (codes "0x" ++ hex_digits k n) ≡ true
hex_fine k n = rw (fine_digits k n) refl

-- a field's signed number
of_field : (f : Field) (w : ℕ) → is_fine_word (signed_text (number_in f (gathered f w))) ≡ true
of_field f w = signed_fine (number_in f (gathered f w)) (small_number f (gathered f w))

-- a field's number is a word
number_fine : (f : Field) (w : ℕ) → is_fine_word (number_text f (gathered f w)) ≡ true
unfolding number_text
number_fine field.I w = of_field field.I w
number_fine field.S w = of_field field.S w
number_fine field.B w = of_field field.B w
number_fine field.U w = hex_fine 5 (gathered field.U w)
number_fine field.J w = of_field field.J w
number_fine field.Shift w = of_field field.Shift w
number_fine field.Csr w = hex_fine 3 (gathered field.Csr w)
number_fine field.Source w = of_field field.Source w
number_fine field.StackAddress w = of_field field.StackAddress w
number_fine field.ShortOffset w = of_field field.ShortOffset w
number_fine field.StackLoad w = of_field field.StackLoad w
number_fine field.StackStore w = of_field field.StackStore w
number_fine field.Six w = of_field field.Six w
number_fine field.Upper w = of_field field.Upper w
number_fine field.StackAdjust w = of_field field.StackAdjust w
number_fine field.ShortShift w = of_field field.ShortShift w
number_fine field.ShortJump w = of_field field.ShortJump w
number_fine field.ShortBranch w = of_field field.ShortBranch w
number_fine field.Word w = of_field field.Word w
number_fine field.Half w = of_field field.Half w
number_fine field.Byte w = of_field field.Byte w

-- a register's name is a word
register_fine : (n : ℕ) → n < 32 → is_fine_word (register_text n) ≡ true
unfolding registers below
register_fine n h = at_below (λ n. is_fine_word (register_text n)) 32 n refl h

-- so is each slot's text that isn't a mark
slot_fine : (w : ℕ) (s : Slot) → (is_mark_slot s || is_fine_word (slot_text w s)) ≡ true
unfolding slot_text
slot_fine w slot.Comma = refl
slot_fine w slot.Opening = refl
slot_fine w slot.Closing = refl
slot_fine w (slot.Register p) = register_fine (bits_at w (low_of p) 5) (five_bits w (low_of p))
slot_fine w (slot.RegisterBut p but) = register_fine (bits_at w (low_of p) 5) (five_bits w (low_of p))
slot_fine w (slot.ShortRegister p) = register_fine (8 + bits_at w (low_of p) 3) (three_bits w (low_of p))
slot_fine w (slot.Number f) = number_fine f w
slot_fine w (slot.Target f) = number_fine f w

-- what a fine byte is
plain_of : (x : ℕ) → is_fine x ≡ true → is_plain x ≡ true
plain_of x h = (and_parts (is_plain x) (is_late x && not (nat_eq x 35)) h).0

-- a byte that has no part in the end of a line, and begins no comment
abbrev is_quiet : ℕ → Bool
is_quiet byte = is_late byte && not (nat_eq byte 35)

-- as each fine byte is
quiet_of : (x : ℕ) → is_fine x ≡ true → is_quiet x ≡ true
quiet_of x h = (and_parts (is_plain x) (is_quiet x) h).1

-- it ends no line
late_of : (x : ℕ) → is_quiet x ≡ true → is_late x ≡ true
late_of x h = (and_parts (is_late x) (not (nat_eq x 35)) h).0

-- it begins no comment
no_hash : (x : ℕ) → is_quiet x ≡ true → not (nat_eq x 35) ≡ true
no_hash x h = (and_parts (is_late x) (not (nat_eq x 35)) h).1

-- a fine word is a word
word_of : (xs : List ℕ) → is_fine_word xs ≡ true → is_word xs ≡ true
word_of [] h = cc
word_of (x ∷ xs) h = weaker is_fine is_plain (x ∷ xs) plain_of h

-- and quiet
quiet_word : (xs : List ℕ) → is_fine_word xs ≡ true → list_all is_quiet xs ≡ true
quiet_word xs h = weaker is_fine is_quiet xs quiet_of (fine_bytes xs h)

-- what is a mark or a fine word is a mark or a word
mark_or_word : (b : Bool) (xs : List ℕ) → (b || is_fine_word xs) ≡ true → (b || is_word xs) ≡ true
mark_or_word true xs h = refl
mark_or_word false xs h = word_of xs h

-- each slot that isn't a mark has a word
words_of : (w : ℕ) (slots : List Slot) → has_words w slots ≡ true
words_of w [] = refl
words_of w (s ∷ slots) =
    and_from (is_mark_slot s || is_word (slot_text w s)) (has_words w slots)
    (mark_or_word (is_mark_slot s) (slot_text w s) (slot_fine w s)) (words_of w slots)

-- the text of a slot that isn't a mark is a word
fine_slot : (w : ℕ) (s : Slot) → is_mark_slot s ≡ false → is_fine_word (slot_text w s) ≡ true
fine_slot w s h =
    let same : (is_mark_slot s || is_fine_word (slot_text w s)) ≡ is_fine_word (slot_text w s) = rw h refl in
    sym same ∙ slot_fine w s

-- and neither ends a line nor begins a comment
quiet_slot : (w : ℕ) (s : Slot) → is_mark_slot s ≡ false → list_all is_quiet (slot_text w s) ≡ true
quiet_slot w s h = quiet_word (slot_text w s) (fine_slot w s h)

-- the text of a slot neither ends a line nor begins a comment
slot_quiet : (w : ℕ) (s : Slot) → list_all is_quiet (slot_text w s) ≡ true
unfolding slot_text
slot_quiet w slot.Comma = refl
slot_quiet w slot.Opening = refl
slot_quiet w slot.Closing = refl
slot_quiet w (slot.Register p) = quiet_slot w (slot.Register p) refl
slot_quiet w (slot.RegisterBut p but) = quiet_slot w (slot.RegisterBut p but) refl
slot_quiet w (slot.ShortRegister p) = quiet_slot w (slot.ShortRegister p) refl
slot_quiet w (slot.Number f) = quiet_slot w (slot.Number f) refl
slot_quiet w (slot.Target f) = quiet_slot w (slot.Target f) refl

-- nor does that of slots
slots_quiet : (w : ℕ) (slots : List Slot) → list_all is_quiet (flat_map (slot_text w) slots) ≡ true
slots_quiet w [] = refl
slots_quiet w (s ∷ slots) =
    list_all-append is_quiet (slot_text w s) (flat_map (slot_text w) slots) ∙ rw (slot_quiet w s, slots_quiet w slots)
    refl

-- nor that of operands
operands_quiet : (w : ℕ) (slots : List Slot) → list_all is_quiet (operands_text w slots) ≡ true
operands_quiet w [] = refl
operands_quiet w (s ∷ slots) = slots_quiet w (s ∷ slots)

-- nor that of a mnemonic and its operands
text_quiet : (w : ℕ) (name : List ℕ) (slots : List Slot) → is_fine_word name ≡ true
    → list_all is_quiet (name ++ operands_text w slots) ≡ true
text_quiet w name slots h =
    list_all-append is_quiet name (operands_text w slots) ∙ rw (quiet_word name h, operands_quiet w slots) refl

-- a text that begins with a word isn't empty
pub some_text : (name rest : List ℕ) → is_fine_word name ≡ true → 0 < length (name ++ rest)
some_text [] rest h = cc
some_text (x ∷ xs) rest h = omega arith

-- the text of an instruction has no byte of a line's end
pub text_late : (w : ℕ) (name : List ℕ) (slots : List Slot) → is_fine_word name ≡ true
    → list_all is_late (name ++ operands_text w slots) ≡ true
text_late w name slots h = weaker is_quiet is_late (name ++ operands_text w slots) late_of (text_quiet w name slots h)

-- and no comment
pub text_uncommented : (w : ℕ) (name : List ℕ) (slots : List Slot) → is_fine_word name ≡ true
    → without_comment (name ++ operands_text w slots) ≡ name ++ operands_text w slots
text_uncommented w name slots h =
    let text : List ℕ = name ++ operands_text w slots in
    no_comment text (weaker is_quiet (λ b. not (nat_eq b 35)) text no_hash (text_quiet w name slots h))

-- ---- its tokens

-- a space before a text says nothing
space_first : (rest : List ℕ) → tokens (32 ∷ rest) ≡ tokens rest
unfolding tokens
space_first rest = refl

-- the tokens of a mnemonic and its operands
pub text_tokens : (w : ℕ) (name : List ℕ) (slots : List Slot) → is_fine_word name ≡ true → alternates slots ≡ true
    → tokens (name ++ operands_text w slots) ≡ name ∷ map (slot_token w) slots
text_tokens w name [] h a =
    word_then name [] (word_of name h) refl ∙ ap (λ (ts : List (List ℕ)). name ∷ ts) no_tokens
text_tokens w name (s ∷ slots) h a =
    let rest : List ℕ = flat_map (slot_text w) (s ∷ slots) in
    word_then name (32 ∷ rest) (word_of name h) refl
    ∙ ap (λ (ts : List (List ℕ)). name ∷ ts) (space_first rest ∙ tokens_of_slots w (s ∷ slots) a
    (words_of w (s ∷ slots)))

-- no word is a colon
no_colon : (xs : List ℕ) → is_word xs ≡ true → bytes_eq xs (codes ":") ≡ false
no_colon [] h = cc
no_colon (x ∷ xs) h =
    let p = and_parts (is_plain x) (list_all is_plain xs) h in
    let other : nat_eq x 58 ≡ false = grind (arith, p.0) in
    rw other refl

-- nor is that of a slot that isn't a mark
word_no_colon : (w : ℕ) (s : Slot) → is_mark_slot s ≡ false → bytes_eq (slot_text w s) (codes ":") ≡ false
word_no_colon w s h = no_colon (slot_text w s) (word_of (slot_text w s) (fine_slot w s h))

-- nor is a slot's token
slot_no_colon : (w : ℕ) (s : Slot) → bytes_eq (slot_token w s) (codes ":") ≡ false
slot_no_colon w slot.Comma = refl
slot_no_colon w slot.Opening = refl
slot_no_colon w slot.Closing = refl
slot_no_colon w (slot.Register p) = word_no_colon w (slot.Register p) refl
slot_no_colon w (slot.RegisterBut p but) = word_no_colon w (slot.RegisterBut p but) refl
slot_no_colon w (slot.ShortRegister p) = word_no_colon w (slot.ShortRegister p) refl
slot_no_colon w (slot.Number f) = word_no_colon w (slot.Number f) refl
slot_no_colon w (slot.Target f) = word_no_colon w (slot.Target f) refl

-- so the line defines no label
pub no_label : (w : ℕ) (name : List ℕ) (slots : List Slot) → label_of (name ∷ map (slot_token w) slots) ≡ None
unfolding label_of
no_label w name [] = refl
no_label w name (s ∷ []) = rw (slot_no_colon w s, and_right (is_name name) false refl) refl
no_label w name (s ∷ t ∷ slots) = refl
