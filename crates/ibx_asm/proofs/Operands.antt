-- The operands of a line, one at a time.
use Rattle.std.proofs.Common.{◌≡◌, ℕ, ◌+◌, ◌<◌, Bool, true, false, ◌&&◌, List, [], ◌∷◌, length, drop, get_or, Some}
use Rattle.std.proofs.Common.{None, refl, sym, add-one, drop-cons}
use Rattle.std.specs.Prelude.{bit_or}
use Rattle.std.specs.Int.Bits.{or_zero_r}
use Rattle.std.specs.List.{fold, zip}
use Rattle.std.proofs.Math.Bool.{and_assoc}
use Rattle.ibx_asm.specs.declared.operand.Signed.{Signed}
use Rattle.ibx_asm.specs.declared.slot.Slot.{Slot}
use Rattle.ibx_asm.specs.Denote.{are_operands, in_range, known, with_operand}
use Rattle.ibx_asm.specs.Operands.{Defined, value_of, holds, bits_of}
use Rattle.ibx_asm.specs.Text.{tokens}

-- the slots from one on
pub these_slots : (slots : List Slot) (i : ℕ) (d : Slot) → i < length slots → drop i slots ≡ get_or slots i d ∷ drop
    (i + 1) slots
these_slots slots i d below = rw (add-one) (drop-cons slots i d below)

-- a slot and its token, and those after them
pub one_pair : (slots : List Slot) (i : ℕ) (d : Slot) (rest after token : List ℕ) → i < length slots → tokens rest ≡
    token ∷ tokens after
    → zip (drop i slots) (tokens rest) ≡ (get_or slots i d, token) ∷ zip (drop (i + 1) slots) (tokens after)
one_pair slots i d rest after token below cut = rw (these_slots slots i d below, cut) refl

-- where there are no slots or no tokens, there are no pairs
pub no_pair : (slots : List Slot) → zip slots (let none : List (List ℕ) = [] in none) ≡ []
no_pair [] = refl
no_pair (s ∷ slots) = refl

-- laws of `&&`
and_true : (b : Bool) → (b && true) ≡ b
and_true true = refl
and_true false = refl

-- and of false
and_false : (b : Bool) → (b && false) ≡ false
and_false true = refl
and_false false = refl

-- one more operand that has a value
pub value_in_range : (labels : List Defined) (address : ℕ) (so_far : Bool) (s : Slot) (token : List ℕ) (v : Signed)
    (more : List (Slot × List ℕ)) → value_of labels address s token ≡ Some v
    → (so_far && in_range labels address ((s, token) ∷ more)) ≡ ((so_far && holds s v) && in_range labels address more)
value_in_range labels address so_far s token v more h = rw h
    (sym (and_assoc so_far (holds s v) (in_range labels address more)))

-- the same of whether all are known
pub value_known : (labels : List Defined) (address : ℕ) (so_far : Bool) (s : Slot) (token : List ℕ) (v : Signed)
    (more : List (Slot × List ℕ)) → value_of labels address s token ≡ Some v
    → (so_far && known labels address ((s, token) ∷ more)) ≡ (so_far && known labels address more)
value_known labels address so_far s token v more h = rw h refl

-- and of the word
pub value_word : (labels : List Defined) (address word : ℕ) (s : Slot) (token : List ℕ) (v : Signed)
    (more : List (Slot × List ℕ)) → value_of labels address s token ≡ Some v
    → fold (with_operand labels address) word ((s, token) ∷ more) ≡ fold (with_operand labels address)
    (bit_or word (bits_of s v)) more
value_word labels address word s token v more h = rw h refl

-- one more operand that has none
pub missing_in_range : (labels : List Defined) (address : ℕ) (so_far : Bool) (s : Slot) (token : List ℕ)
    (more : List (Slot × List ℕ)) → value_of labels address s token ≡ None
    → (so_far && in_range labels address ((s, token) ∷ more)) ≡ (so_far && in_range labels address more)
missing_in_range labels address so_far s token more h = rw h refl

-- then not all are known
pub missing_known : (labels : List Defined) (address : ℕ) (so_far : Bool) (s : Slot) (token : List ℕ)
    (more : List (Slot × List ℕ)) → value_of labels address s token ≡ None
    → (so_far && known labels address ((s, token) ∷ more)) ≡ false
missing_known labels address so_far s token more h = rw h (and_false so_far)

-- and the word stays
pub missing_word : (labels : List Defined) (address word : ℕ) (s : Slot) (token : List ℕ) (more : List (Slot × List ℕ))
    → value_of labels address s token ≡ None
    → fold (with_operand labels address) word ((s, token) ∷ more) ≡ fold (with_operand labels address) word more
missing_word labels address word s token more h = rw (h, or_zero_r word) refl

-- where no token is left
pub end_in_range : (labels : List Defined) (address : ℕ) (so_far : Bool) (slots : List Slot) (ts : List (List ℕ)) → ts
    ≡ [] → (so_far && in_range labels address (zip slots ts)) ≡ so_far
end_in_range labels address so_far slots ts h = rw (h, no_pair slots) (and_true so_far)

-- the same of whether all are known
pub end_known : (labels : List Defined) (address : ℕ) (so_far : Bool) (slots : List Slot) (ts : List (List ℕ)) → ts ≡
    [] → (so_far && known labels address (zip slots ts)) ≡ so_far
end_known labels address so_far slots ts h = rw (h, no_pair slots) (and_true so_far)

-- and of the word
pub end_word : (labels : List Defined) (address word : ℕ) (slots : List Slot) (ts : List (List ℕ)) → ts ≡ [] → fold
    (with_operand labels address) word (zip slots ts) ≡ word
end_word labels address word slots ts h = rw (h, no_pair slots) refl

-- slots without tokens
pub short_of_tokens : (slots : List Slot) (i : ℕ) (d : Slot) (ts : List (List ℕ)) → i < length slots → ts ≡ [] →
    are_operands (drop i slots) ts ≡ false
unfolding are_operands
short_of_tokens slots i d ts below h = rw (these_slots slots i d below, h) refl
