-- The tokens of a text of operands, and what its registers and its mnemonic are read as.
use Rattle.std.proofs.Common.{◌≡◌, ℕ, ◌<◌, Bool, true, false, not, eqb, ◌||◌, ◌&&◌, List, [], ◌∷◌, ◌++◌, length, map}
use Rattle.std.proofs.Common.{codes, Option, Some, None, IfSome, refl, ◌∙◌, ap, inl, inr, arith}
use Rattle.std.specs.Prelude.{flat_map}
use Rattle.std.specs.List.{find, list_all, position_or_len, zip}
use Rattle.std.specs.Option.{option_map, option_map_or}
use Rattle.std.specs.Str.{bytes_eq}
use Rattle.std.proofs.lemmas.Bool.{and_parts, cases_Bool, eqb-true, eq-eqb}
use Rattle.ibx_asm.specs.declared.rows.Encoding.{Encoding}
use Rattle.ibx_asm.specs.declared.slot.Slot.{Slot}
use Rattle.ibx_asm.specs.declared.slot.Slot.TheVariants as slot
use Rattle.ibx_asm.specs.Dis.{Pattern, patterns, suits, mnemonic_of, slot_text, register_text}
use Rattle.ibx_asm.specs.Mnemonics.{instructions, directives, rows, encoding_of}
use Rattle.ibx_asm.specs.Operands.{registers, register_of}
use Rattle.ibx_asm.specs.Text.{is_plain, tokens}
use Rattle.ibx_asm.proofs.DataLines.{below, at_below}
use Rattle.ibx_asm.proofs.Finding.{found_passes}
use Rattle.ibx_asm.proofs.Shown.{drop_front}
use Rattle.ibx_asm.proofs.Standing.{take_front}
use Rattle.ibx_asm.proofs.Tokens.{run}

-- a slot that is a comma or a parenthesis
abbrev pub is_mark_slot : Slot → Bool
is_mark_slot slot.Comma = true
is_mark_slot slot.Opening = true
is_mark_slot slot.Closing = true
is_mark_slot (slot.Register p) = false
is_mark_slot (slot.RegisterBut p but) = false
is_mark_slot (slot.ShortRegister p) = false
is_mark_slot (slot.Number f) = false
is_mark_slot (slot.Target f) = false

-- the token of a slot's text
abbrev pub slot_token : ℕ → Slot → List ℕ
slot_token w slot.Comma = codes ","
slot_token w slot.Opening = codes "("
slot_token w slot.Closing = codes ")"
slot_token w (slot.Register p) = slot_text w (slot.Register p)
slot_token w (slot.RegisterBut p but) = slot_text w (slot.RegisterBut p but)
slot_token w (slot.ShortRegister p) = slot_text w (slot.ShortRegister p)
slot_token w (slot.Number f) = slot_text w (slot.Number f)
slot_token w (slot.Target f) = slot_text w (slot.Target f)

-- slots begin with a mark, or there are none
abbrev pub begins_with_mark : List Slot → Bool
begins_with_mark [] = true
begins_with_mark (s ∷ slots) = is_mark_slot s

-- after each word stands a mark, or nothing
abbrev pub alternates : List Slot → Bool
alternates [] = true
alternates (s ∷ slots) = (is_mark_slot s || begins_with_mark slots) && alternates slots

-- words of fine bytes
abbrev pub is_word : List ℕ → Bool
is_word [] = false
is_word (x ∷ xs) = list_all is_plain (x ∷ xs)

-- each slot that isn't a mark has a word
abbrev pub has_words : ℕ → List Slot → Bool
has_words w [] = true
has_words w (s ∷ slots) = (is_mark_slot s || is_word (slot_text w s)) && has_words w slots

-- bytes at which a word ends
abbrev pub stops : List ℕ → Bool
stops [] = true
stops (x ∷ xs) = not (is_plain x)

-- a run of plain bytes ends there
run_stops : (xs rest : List ℕ) → list_all is_plain xs ≡ true → stops rest ≡ true → position_or_len
    (λ byte. not (is_plain byte)) (xs ++ rest) ≡ length xs
run_stops [] [] h k = refl
run_stops [] (x ∷ rest) h k = rw k refl
run_stops (x ∷ xs) rest h k = let p = and_parts (is_plain x) (list_all is_plain xs) h in rw
    (p.0, run_stops xs rest p.1 k) (omega arith)

-- a word before its end is one token
pub word_then : (xs rest : List ℕ) → is_word xs ≡ true → stops rest ≡ true → tokens (xs ++ rest) ≡ xs ∷ tokens rest
word_then [] rest h k = cc
word_then (x ∷ xs) rest h k =
    let p = and_parts (is_plain x) (list_all is_plain xs) h in
    run x (xs ++ rest) p.0 ∙ rw (run_stops xs rest p.1 k, take_front xs rest, drop_front xs rest) refl

-- a text of slots ends the word before it where it begins with a mark
stops_at : (w : ℕ) (slots : List Slot) → begins_with_mark slots ≡ true → stops (flat_map (slot_text w) slots) ≡ true
unfolding slot_text
stops_at w [] h = refl
stops_at w (slot.Comma ∷ slots) h = refl
stops_at w (slot.Opening ∷ slots) h = refl
stops_at w (slot.Closing ∷ slots) h = refl
stops_at w (slot.Register p ∷ slots) h = cc
stops_at w (slot.RegisterBut p but ∷ slots) h = cc
stops_at w (slot.ShortRegister p ∷ slots) h = cc
stops_at w (slot.Number f ∷ slots) h = cc
stops_at w (slot.Target f ∷ slots) h = cc

-- a word and the slots after it
word_slot : (w : ℕ) (s : Slot) (slots : List Slot) → is_word (slot_text w s) ≡ true → begins_with_mark slots ≡ true →
    tokens (flat_map (slot_text w) slots) ≡ map (slot_token w) slots
    → tokens (slot_text w s ++ flat_map (slot_text w) slots) ≡ slot_text w s ∷ map (slot_token w) slots
word_slot w s slots word mark more = word_then (slot_text w s) (flat_map (slot_text w) slots) word
    (stops_at w slots mark) ∙ ap (λ (ts : List (List ℕ)). slot_text w s ∷ ts) more

-- a comma and the slots after it
comma_slot : (w : ℕ) (rest : List ℕ) (ts : List (List ℕ)) → tokens rest ≡ ts → tokens (slot_text w slot.Comma ++ rest)
    ≡ codes "," ∷ ts
unfolding tokens slot_text
comma_slot w rest ts h = ap (λ (ts : List (List ℕ)). codes "," ∷ ts) h

-- an opening parenthesis and the slots after it
opening_slot : (w : ℕ) (rest : List ℕ) (ts : List (List ℕ)) → tokens rest ≡ ts → tokens
    (slot_text w slot.Opening ++ rest) ≡ codes "(" ∷ ts
unfolding tokens slot_text
opening_slot w rest ts h = ap (λ (ts : List (List ℕ)). codes "(" ∷ ts) h

-- a closing one and the slots after it
closing_slot : (w : ℕ) (rest : List ℕ) (ts : List (List ℕ)) → tokens rest ≡ ts → tokens
    (slot_text w slot.Closing ++ rest) ≡ codes ")" ∷ ts
unfolding tokens slot_text
closing_slot w rest ts h = ap (λ (ts : List (List ℕ)). codes ")" ∷ ts) h

-- no text has no tokens
pub no_tokens : tokens [] ≡ []
unfolding tokens
no_tokens = refl

-- the tokens of a text of slots are those of the slots
pub tokens_of_slots : (w : ℕ) (slots : List Slot) → alternates slots ≡ true → has_words w slots ≡ true → tokens
    (flat_map (slot_text w) slots) ≡ map (slot_token w) slots
tokens_of_slots w [] a h = no_tokens
tokens_of_slots w (slot.Comma ∷ slots) a h =
    comma_slot w (flat_map (slot_text w) slots) _ (tokens_of_slots w slots a h)
tokens_of_slots w (slot.Opening ∷ slots) a h = opening_slot w (flat_map (slot_text w) slots) _
    (tokens_of_slots w slots a h)
tokens_of_slots w (slot.Closing ∷ slots) a h = closing_slot w (flat_map (slot_text w) slots) _
    (tokens_of_slots w slots a h)
tokens_of_slots w (slot.Register p ∷ slots) a h =
    let q = and_parts (begins_with_mark slots) (alternates slots) a in
    let k = and_parts (is_word (slot_text w (slot.Register p))) (has_words w slots) h in
    word_slot w (slot.Register p) slots k.0 q.0 (tokens_of_slots w slots q.1 k.1)
tokens_of_slots w (slot.RegisterBut p but ∷ slots) a h =
    let q = and_parts (begins_with_mark slots) (alternates slots) a in
    let k = and_parts (is_word (slot_text w (slot.RegisterBut p but))) (has_words w slots) h in
    word_slot w (slot.RegisterBut p but) slots k.0 q.0 (tokens_of_slots w slots q.1 k.1)
tokens_of_slots w (slot.ShortRegister p ∷ slots) a h =
    let q = and_parts (begins_with_mark slots) (alternates slots) a in
    let k = and_parts (is_word (slot_text w (slot.ShortRegister p))) (has_words w slots) h in
    word_slot w (slot.ShortRegister p) slots k.0 q.0 (tokens_of_slots w slots q.1 k.1)
tokens_of_slots w (slot.Number f ∷ slots) a h =
    let q = and_parts (begins_with_mark slots) (alternates slots) a in
    let k = and_parts (is_word (slot_text w (slot.Number f))) (has_words w slots) h in
    word_slot w (slot.Number f) slots k.0 q.0 (tokens_of_slots w slots q.1 k.1)
tokens_of_slots w (slot.Target f ∷ slots) a h =
    let q = and_parts (begins_with_mark slots) (alternates slots) a in
    let k = and_parts (is_word (slot_text w (slot.Target f))) (has_words w slots) h in
    word_slot w (slot.Target f) slots k.0 q.0 (tokens_of_slots w slots q.1 k.1)

-- what is found equal to a number is that number
some_is : (o : Option ℕ) (n : ℕ) → option_map_or (λ m. eqb m n) o false ≡ true → o ≡ Some n
some_is None n h = cc
some_is (Some m) n h = ap Some (eqb-true m n h)

-- the name of a register is read as its number
pub register_reads : (n : ℕ) → n < 32 → register_of (register_text n) ≡ Some n
unfolding registers below
register_reads n h = some_is (register_of (register_text n)) n
    (at_below (λ n. option_map_or (λ m. eqb m n) (register_of (register_text n)) false) 32 n refl h)

-- a name is itself
is_itself : (name : List ℕ) → bytes_eq name name ≡ true
is_itself [] = refl
is_itself (x ∷ xs) = rw (eq-eqb x x refl, is_itself xs) refl

-- a test that fails
fails : (b : Bool) → not b ≡ true → b ≡ false
fails true h = cc
fails false h = refl

-- no mnemonic of these rows stands twice
abbrev are_distinct : List (Pattern × (List ℕ × Encoding)) → Bool
are_distinct [] = true
are_distinct (r ∷ rows) = list_all (λ (s : Pattern × (List ℕ × Encoding)). not (bytes_eq r.1.0 s.1.0)) rows &&
    are_distinct rows

-- what is found by its mnemonic is found after a row with another one
after_another : (r : Pattern × (List ℕ × Encoding)) (all : List (List ℕ × Encoding))
    (o : Option (Pattern × (List ℕ × Encoding)))
    → IfSome o (λ s. not (bytes_eq r.1.0 s.1.0) ≡ true)
    → IfSome o (λ s. find (λ row. bytes_eq row.0 s.1.0) all ≡ Some s.1)
    → IfSome o (λ s. find (λ row. bytes_eq row.0 s.1.0) (r.1 ∷ all) ≡ Some s.1)
after_another r all None h k = tt
after_another r all (Some s) h k = rw (fails (bytes_eq r.1.0 s.1.0) h) k

-- what is found among such rows is found by its mnemonic, whatever rows follow
found_read : (p : Pattern × (List ℕ × Encoding) → Bool) (rows : List (Pattern × (List ℕ × Encoding)))
    (more : List (List ℕ × Encoding))
    → are_distinct rows ≡ true
    → IfSome (find p rows) (λ s. find (λ row. bytes_eq row.0 s.1.0) (map (λ r. r.1) rows ++ more) ≡ Some s.1)
found_read p [] more h = tt
found_read p (r ∷ rows) more h =
    let q = and_parts (list_all (λ (s : Pattern × (List ℕ × Encoding)). not (bytes_eq r.1.0 s.1.0)) rows)
    (are_distinct rows) h in
    elim (cases_Bool (p r)) [
      | inl f ↦ rw f (rw (is_itself r.1.0) refl)
      | inr f ↦ rw f (after_another r (map (λ r. r.1) rows ++ more) (find p rows)
          (found_passes p (λ s. not (bytes_eq r.1.0 s.1.0)) rows q.0) (found_read p rows more q.1))
    ]

-- each mnemonic is that of one instruction
all_distinct : are_distinct (zip patterns instructions) ≡ true
all_distinct = refl

-- a row that is found by its mnemonic
read_as : (o : Option (Pattern × (List ℕ × Encoding)))
    → IfSome o (λ s. find (λ row. bytes_eq row.0 s.1.0) rows ≡ Some s.1)
    → IfSome (option_map {U = List ℕ × Encoding} (λ r. r.1) o) (λ r. encoding_of r.0 ≡ Some r.1)
unfolding encoding_of
read_as None h = tt
read_as (Some s) h = rw h refl

-- the mnemonic of a word is read as its instruction
pub mnemonic_reads : (w : ℕ) → IfSome (mnemonic_of w) (λ r. encoding_of r.0 ≡ Some r.1)
unfolding mnemonic_of
mnemonic_reads w = read_as (find (λ r. suits w r.0) (zip patterns instructions))
    (found_read (λ r. suits w r.0) (zip patterns instructions) directives all_distinct)
