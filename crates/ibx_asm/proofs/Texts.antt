-- The mnemonic of a word, and how long its text is.
use Rattle.std.proofs.Common.{◌≡◌, ℕ, ◌+◌, ◌≤◌, ◌<◌, zero, suc, Bool, true, not, nat_le, List, [], ◌∷◌, ◌++◌, length}
use Rattle.std.proofs.Common.{map, drop, get_or, Option, Some, None, IfSome, Bor, refl, sym, ap, ◌∙◌, subst, arith}
use Rattle.std.proofs.Common.{lit≤}
use Rattle.std.specs.Prelude.{bit_and, ◌==◌, ◌&&◌, sum_by, flat_map, codes, unwrap_or}
use Rattle.std.specs.List.{find, list_all, slice_get, zip}
use Rattle.std.specs.Option.{option_map}
use Rattle.std.proofs.lemmas.Bool.{and_parts}
use Rattle.std.proofs.lemmas.List.Sums.{sum_by-cons}
use Rattle.ibx_decoder.specs.Table.{none_holds}
use Rattle.ibx_asm.specs.declared.rows.Encoding.{Encoding}
use Rattle.ibx_asm.specs.declared.rows.Row.{Row}
use Rattle.ibx_asm.specs.declared.slot.Form.{Form}
use Rattle.ibx_asm.specs.declared.slot.Form.TheVariants as form
use Rattle.ibx_asm.specs.declared.slot.Slot.{Slot}
use Rattle.ibx_asm.specs.declared.slot.Slot.TheVariants as slot
use Rattle.ibx_asm.specs.Dis.{Pattern, patterns, suits, mnemonic_of, slot_text, operands_text, register_text}
use Rattle.ibx_asm.specs.Forms.{slots_of}
use Rattle.ibx_asm.specs.Held.{pattern_meant, row_meant, both_meant, room_of}
use Rattle.ibx_asm.specs.Mnemonics.{instructions}
use Rattle.ibx_asm.specs.Operands.{registers}
use Rattle.ibx_asm.proofs.Finding.{find_mapped, found_passes}
use Rattle.ibx_asm.proofs.Operands.{these_slots}

-- no exception holds where each fails
pub none_is_all : (w : ℕ) (es : List (ℕ × ℕ)) → list_all (λ e. not (bit_and w e.0 == e.1)) es ≡ none_holds w es
none_is_all w [] = refl
none_is_all w (e ∷ es) = ap (λ (rest : Bool). not (bit_and w e.0 == e.1) && rest) (none_is_all w es)

-- the mnemonic of a row
second_of : (o : Option Row) → option_map {U = List ℕ × Encoding} (λ r. r.1) (option_map both_meant o) ≡ option_map
    row_meant o
second_of None = refl
second_of (Some row) = refl

-- the same behind a reference
behind : (o : Option (Bor Row)) → option_map (λ row. row_meant row.now) o ≡ option_map row_meant
    (option_map (λ row. row.now) o)
behind None = refl
behind (Some row) = refl

-- what is found among rows stands for what is found among their words and mnemonics
pub suited : (rows : List Row) (w : ℕ) (o : Option (Bor Row)) → option_map (λ row. row.now) o ≡ find
    (λ row. suits w (pattern_meant row)) rows
    → option_map (λ row. row_meant row.now) o ≡ option_map (λ r. r.1) (find (λ r. suits w r.0) (map both_meant rows))
suited rows w o h =
    behind o ∙ ap (option_map row_meant) h ∙ sym (second_of (find (λ row. suits w (pattern_meant row)) rows))
    ∙ ap (option_map {U = List ℕ × Encoding} (λ r. r.1)) (find_mapped both_meant (λ r. suits w r.0) rows)

-- the name of a row with a short name
name_of : (o : Option (Pattern × (List ℕ × Encoding))) → IfSome o (λ r. nat_le (length r.1.0) 10 ≡ true) → IfSome
    (option_map {U = List ℕ × Encoding} (λ r. r.1) o) (λ r. length r.0 ≤ 10)
name_of None h = tt
name_of (Some r) h = grind (arith, h)

-- no mnemonic is longer than 10 bytes
short_name : (w : ℕ) → IfSome (mnemonic_of w) (λ r. length r.0 ≤ 10)
unfolding mnemonic_of
short_name w = name_of (find (λ r. suits w r.0) (zip patterns instructions)) (found_passes (λ r. suits w r.0)
    (λ r. nat_le (length r.1.0) 10) (zip patterns instructions) refl)

-- of a row whose mnemonic is short
of_row : (o : Option (Bor Row)) (m : Option (List ℕ × Encoding)) → option_map (λ row. row_meant row.now) o ≡ m → IfSome
    m (λ r. length r.0 ≤ 10) → IfSome o (λ row. length row.now.0.now ≤ 10)
of_row None m e h = tt
of_row (Some row) m e h = subst (λ (m : Option (List ℕ × Encoding)). IfSome m (λ r. length r.0 ≤ 10)) (sym e) h

-- the mnemonic of a found row is short
pub short_row : (o : Option (Bor Row)) (w : ℕ) → option_map (λ row. row_meant row.now) o ≡ mnemonic_of w → IfSome o
    (λ row. length row.now.0.now ≤ 10)
short_row o w e = of_row o (mnemonic_of w) e (short_name w)

-- an entry of what a list stands for
pub got_mapped : {X Y : Type 0} (h : X → Y) (xs : List X) (i : ℕ) → slice_get (map h xs) i ≡ option_map h
    (slice_get xs i)
got_mapped h [] i = refl
got_mapped h (x ∷ xs) zero = refl
got_mapped h (x ∷ xs) (suc i) = got_mapped h xs i

-- an entry that is there
pub got_at : {X : Type 0} (xs : List X) (i : ℕ) (x : X) → i < length xs → ((d : X) → x ≡ get_or xs i d) → slice_get xs
    i ≡ Some x
got_at [] i x below h = absurd (omega (arith, below))
got_at (y ∷ xs) zero x below h = ap Some (sym (h y))
got_at (y ∷ xs) (suc i) x below h = got_at xs i x (omega (arith, below)) h

-- an entry of a list of short names
short_entry : (names : List (List ℕ)) (i : ℕ) → list_all (λ name. nat_le (length name) 3) names ≡ true → length
    (unwrap_or (slice_get names i) []) ≤ 3
short_entry [] i h = lit≤ tt
short_entry (name ∷ names) zero h = let p = and_parts (nat_le (length name) 3)
    (list_all (λ name. nat_le (length name) 3) names) h in grind (arith, p.0)
short_entry (name ∷ names) (suc i) h = short_entry names i (and_parts (nat_le (length name) 3)
    (list_all (λ name. nat_le (length name) 3) names) h).1

-- no register's name is longer than 3 bytes
pub short_register : (n : ℕ) → length (register_text n) ≤ 3
unfolding registers
short_register n = short_entry registers n refl

-- the text of a slot before that of the slots after it
pub one_text : (w i : ℕ) (slots : List Slot) → i < length slots → flat_map (slot_text w) (drop i slots) ≡ slot_text w
    (get_or slots i slot.Comma) ++ flat_map (slot_text w) (drop (i + 1) slots)
one_text w i slots below = rw (these_slots slots i slot.Comma below) refl

-- and the room that it takes
pub one_room : (i : ℕ) (slots : List Slot) → i < length slots → sum_by room_of (drop i slots) ≡ room_of
    (get_or slots i slot.Comma) + sum_by room_of (drop (i + 1) slots)
one_room i slots below = rw (these_slots slots i slot.Comma below) (sum_by-cons room_of (get_or slots i slot.Comma)
    (drop (i + 1) slots))

-- operands stand after a space
pub after_space : (w : ℕ) (slots : List Slot) → 0 < length slots → operands_text w slots ≡ codes " " ++ flat_map
    (slot_text w) slots
after_space w [] h = absurd (omega arith)
after_space w (s ∷ slots) h = refl

-- no form's operands take more than 29 bytes
pub short_form : (f : Form) → sum_by room_of (slots_of f) ≤ 29
unfolding slots_of room_of
short_form form.Bare = lit≤ tt
short_form form.ShortBare = lit≤ tt
short_form form.Fence = lit≤ tt
short_form form.Upper = lit≤ tt
short_form form.Jump = lit≤ tt
short_form form.Load = lit≤ tt
short_form form.Store = lit≤ tt
short_form form.Branch = lit≤ tt
short_form form.Immediate = lit≤ tt
short_form form.Shift = lit≤ tt
short_form form.Registers = lit≤ tt
short_form form.Csr = lit≤ tt
short_form form.CsrNumber = lit≤ tt
short_form form.StackAddress = lit≤ tt
short_form form.ShortAccess = lit≤ tt
short_form form.Six = lit≤ tt
short_form form.ShortUpper = lit≤ tt
short_form form.WideShift = lit≤ tt
short_form form.StackLoad = lit≤ tt
short_form form.StackStore = lit≤ tt
short_form form.HighShift = lit≤ tt
short_form form.HighSix = lit≤ tt
short_form form.HighLow = lit≤ tt
short_form form.ShortBranch = lit≤ tt
short_form form.ShortJump = lit≤ tt
short_form form.StackAdjust = lit≤ tt
short_form form.JumpRegister = lit≤ tt
short_form form.Pair = lit≤ tt
short_form form.Word = lit≤ tt
short_form form.Half = lit≤ tt
short_form form.Byte = lit≤ tt
