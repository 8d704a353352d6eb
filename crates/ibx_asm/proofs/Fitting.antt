-- The operands of a word's text fit their slots, and give back the word's bits there.
use Rattle.std.proofs.Common.{◌≡◌, ℕ, ◌+◌, ◌*◌, ◌/◌, ◌%◌, ◌^◌, ◌<◌, Bool, true, false, not, eqb, nat_le, ◌&&◌, ◌||◌}
use Rattle.std.proofs.Common.{List, [], ◌∷◌, map, refl, sym, ◌∙◌, ap, inl, inr, arith, lit<}
use Rattle.std.specs.Prelude.{bit_and}
use Rattle.std.specs.List.{list_all}
use Rattle.std.specs.Int.Bits.{and_zero_r}
use Rattle.std.proofs.Math.Nat.{mod-eq_of_lt, mod-lt}
use Rattle.std.proofs.lemmas.Bool.{and_parts, cases_Bool, or_cases, or_right, eqb-true}
use Rattle.std.proofs.lemmas.Nat.Bits.{and_high}
use Rattle.ibx_bits.specs.Bytes.{bits_at}
use Rattle.ibx_decoder.specs.Table.{none_holds}
use Rattle.ibx_asm.specs.declared.fields.Field.{Field}
use Rattle.ibx_asm.specs.declared.fields.Field.TheVariants as field
use Rattle.ibx_asm.specs.declared.slot.Slot.{Slot}
use Rattle.ibx_asm.specs.declared.slot.Slot.TheVariants as slot
use Rattle.ibx_asm.specs.Dis.{taken_part, gathered, number_in}
use Rattle.ibx_asm.specs.Fields.{range_of, places_of, has, twos_complement, united, scattered}
use Rattle.ibx_asm.specs.Operands.{holds, bits_of, low_of}
use Rattle.ibx_asm.proofs.Masks.{ones_at, once, united_less, united_multiple, placed_back}
use Rattle.ibx_asm.proofs.Values.{slot_value}

-- how many bits a field's number has
pub width_of : Field → ℕ
width_of field.I = 12
width_of field.S = 12
width_of field.B = 13
width_of field.U = 20
width_of field.J = 21
width_of field.Shift = 5
width_of field.Csr = 12
width_of field.Source = 5
width_of field.StackAddress = 10
width_of field.ShortOffset = 7
width_of field.StackLoad = 8
width_of field.StackStore = 8
width_of field.Six = 6
width_of field.Upper = 6
width_of field.StackAdjust = 10
width_of field.ShortShift = 5
width_of field.ShortJump = 12
width_of field.ShortBranch = 9
width_of field.Word = 32
width_of field.Half = 16
width_of field.Byte = 8

-- and how many of its lowest are 0
pub zeros_of : Field → ℕ
zeros_of field.I = 0
zeros_of field.S = 0
zeros_of field.B = 1
zeros_of field.U = 0
zeros_of field.J = 1
zeros_of field.Shift = 0
zeros_of field.Csr = 0
zeros_of field.Source = 0
zeros_of field.StackAddress = 2
zeros_of field.ShortOffset = 2
zeros_of field.StackLoad = 2
zeros_of field.StackStore = 2
zeros_of field.Six = 0
zeros_of field.Upper = 0
zeros_of field.StackAdjust = 4
zeros_of field.ShortShift = 0
zeros_of field.ShortJump = 1
zeros_of field.ShortBranch = 1
zeros_of field.Word = 0
zeros_of field.Half = 0
zeros_of field.Byte = 0

-- a field's bits of the instruction
unfoldable pub field_mask : Field → ℕ
field_mask f = united (map (λ p. ones_at p.2 p.1) (places_of f))

-- the number of a field's bits is in range, save for 0 where the range has none, and its lowest bits are they
abbrev pub Fitting : Field → ℕ → Type 0
Fitting f bits =
    (((range_of f).zero || not (eqb bits 0)) ≡ true → has (range_of f) (number_in f bits) ≡ true)
    × (twos_complement (number_in f bits) % 2 ^ width_of f ≡ bits % 2 ^ width_of f)

-- a field's parts share no bit of the number, and lie between its ends
parts : (f : Field)
    → (list_all (λ p. once p (places_of f)) (places_of f) ≡ true)
    × (list_all (λ p. nat_le (p.0 + p.1) (width_of f)) (places_of f) ≡ true)
    × (list_all (λ p. nat_le (zeros_of f) p.0) (places_of f) ≡ true)
unfolding places_of width_of zeros_of
parts field.I = (refl, refl, refl)
parts field.S = (refl, refl, refl)
parts field.B = (refl, refl, refl)
parts field.U = (refl, refl, refl)
parts field.J = (refl, refl, refl)
parts field.Shift = (refl, refl, refl)
parts field.Csr = (refl, refl, refl)
parts field.Source = (refl, refl, refl)
parts field.StackAddress = (refl, refl, refl)
parts field.ShortOffset = (refl, refl, refl)
parts field.StackLoad = (refl, refl, refl)
parts field.StackStore = (refl, refl, refl)
parts field.Six = (refl, refl, refl)
parts field.Upper = (refl, refl, refl)
parts field.StackAdjust = (refl, refl, refl)
parts field.ShortShift = (refl, refl, refl)
parts field.ShortJump = (refl, refl, refl)
parts field.ShortBranch = (refl, refl, refl)
parts field.Word = (refl, refl, refl)
parts field.Half = (refl, refl, refl)
parts field.Byte = (refl, refl, refl)

-- a number within its ends is fitting
fitting : (f : Field) (bits : ℕ) → bits < 2 ^ width_of f → bits % 2 ^ zeros_of f ≡ 0 → Fitting f bits
unfolding width_of zeros_of range_of has number_in twos_complement
fitting field.I bits h k = (grind (arith, h, k), grind (arith, h, k))
fitting field.S bits h k = (grind (arith, h, k), grind (arith, h, k))
fitting field.B bits h k = (grind (arith, h, k), grind (arith, h, k))
fitting field.U bits h k = (grind (arith, h, k), grind (arith, h, k))
fitting field.J bits h k = (grind (arith, h, k), grind (arith, h, k))
fitting field.Shift bits h k = (grind (arith, h, k), grind (arith, h, k))
fitting field.Csr bits h k = (grind (arith, h, k), grind (arith, h, k))
fitting field.Source bits h k = (grind (arith, h, k), grind (arith, h, k))
fitting field.StackAddress bits h k = (grind (arith, h, k), grind (arith, h, k))
fitting field.ShortOffset bits h k = (grind (arith, h, k), grind (arith, h, k))
fitting field.StackLoad bits h k = (grind (arith, h, k), grind (arith, h, k))
fitting field.StackStore bits h k = (grind (arith, h, k), grind (arith, h, k))
fitting field.Six bits h k = (grind (arith, h, k), grind (arith, h, k))
fitting field.Upper bits h k = (grind (arith, h, k), grind (arith, h, k))
fitting field.StackAdjust bits h k = (grind (arith, h, k), grind (arith, h, k))
fitting field.ShortShift bits h k = (grind (arith, h, k), grind (arith, h, k))
fitting field.ShortJump bits h k = (grind (arith, h, k), grind (arith, h, k))
fitting field.ShortBranch bits h k = (grind (arith, h, k), grind (arith, h, k))
fitting field.Word bits h k = (grind (arith, h, k), grind (arith, h, k))
fitting field.Half bits h k = (grind (arith, h, k), grind (arith, h, k))
fitting field.Byte bits h k = (grind (arith, h, k), grind (arith, h, k))

-- the number of a field is fitting
field_fitting : (f : Field) (w : ℕ) → Fitting f (gathered f w)
unfolding gathered
field_fitting f w =
    let p = parts f in
    fitting f (united (map (taken_part w) (places_of f)))
    (united_less w (width_of f) (places_of f) p.1) (united_multiple w (zeros_of f) (places_of f) p.2)

-- numbers that agree with a field's bits give back the word's
scattered_back : (f : Field) (w v : ℕ) → v % 2 ^ width_of f ≡ gathered f w % 2 ^ width_of f
    → scattered f v ≡ bit_and w (field_mask f)
unfolding gathered scattered field_mask
scattered_back f w v e = let p = parts f in placed_back w v (width_of f) (places_of f) (places_of f) e p.0 p.1

-- the number of a field gives back the word's bits
pub field_bits : (f : Field) (w : ℕ) → scattered f (twos_complement (number_in f (gathered f w))) ≡ bit_and w
    (field_mask f)
field_bits f w = scattered_back f w (twos_complement (number_in f (gathered f w))) (field_fitting f w).1

-- nothing is placed of 0
scattered_zero : (f : Field) → scattered f 0 ≡ 0
unfolding scattered places_of united
scattered_zero field.I = refl
scattered_zero field.S = refl
scattered_zero field.B = refl
scattered_zero field.U = refl
scattered_zero field.J = refl
scattered_zero field.Shift = refl
scattered_zero field.Csr = refl
scattered_zero field.Source = refl
scattered_zero field.StackAddress = refl
scattered_zero field.ShortOffset = refl
scattered_zero field.StackLoad = refl
scattered_zero field.StackStore = refl
scattered_zero field.Six = refl
scattered_zero field.Upper = refl
scattered_zero field.StackAdjust = refl
scattered_zero field.ShortShift = refl
scattered_zero field.ShortJump = refl
scattered_zero field.ShortBranch = refl
scattered_zero field.Word = refl
scattered_zero field.Half = refl
scattered_zero field.Byte = refl

-- a field of 0 has none of the word's bits
field_of_zero : (f : Field) (w : ℕ) → gathered f w ≡ 0 → bit_and w (field_mask f) ≡ 0
field_of_zero f w e = sym (scattered_back f w (gathered f w) refl) ∙ ap (scattered f) e ∙ scattered_zero f

-- ---- exceptions

-- what `not` makes true
is_false : (b : Bool) → not b ≡ true → b ≡ false
is_false true h = cc
is_false false h = refl

-- this mask and match are among these
abbrev pub is_among : ℕ → ℕ → List (ℕ × ℕ) → Bool
is_among mask matches [] = false
is_among mask matches (e ∷ es) = (eqb e.0 mask && eqb e.1 matches) || is_among mask matches es

-- then the word's bits under the mask aren't the match
not_excepted : (w mask matches : ℕ) (es : List (ℕ × ℕ)) → is_among mask matches es ≡ true → none_holds w es ≡ true
    → eqb (bit_and w mask) matches ≡ false
not_excepted w mask matches [] h k = cc
not_excepted w mask matches (e ∷ es) h k =
    let none = and_parts (not (eqb (bit_and w e.0) e.1)) (none_holds w es) k in
    elim (or_cases (eqb e.0 mask && eqb e.1 matches) (is_among mask matches es) h) [
      | inl here ↦
          let same = and_parts (eqb e.0 mask) (eqb e.1 matches) here in
          rw (← eqb-true e.0 mask same.0, ← eqb-true e.1 matches same.1) (is_false (eqb (bit_and w e.0) e.1) none.0)
      | inr there ↦ not_excepted w mask matches es there none.1
    ]

-- a slot that can't hold each value has its exception among these
abbrev pub is_excused : List (ℕ × ℕ) → Slot → Bool
is_excused es slot.Comma = true
is_excused es slot.Opening = true
is_excused es slot.Closing = true
is_excused es (slot.Register p) = true
is_excused es (slot.RegisterBut p but) = is_among (ones_at (low_of p) 5) (but * 2 ^ low_of p) es
is_excused es (slot.ShortRegister p) = true
is_excused es (slot.Number f) = (range_of f).zero || is_among (field_mask f) 0 es
is_excused es (slot.Target f) = (range_of f).zero || is_among (field_mask f) 0 es

-- equal numbers aren't found to differ
unequal : (n m : ℕ) → n ≡ m → eqb n m ≡ false → ⊥
unequal n m e h = grind (arith, e, h)

-- a field that has an exception of 0 isn't 0
field_holds : (w : ℕ) (f : Field) (es : List (ℕ × ℕ))
    → ((range_of f).zero || is_among (field_mask f) 0 es) ≡ true → none_holds w es ≡ true
    → has (range_of f) (number_in f (gathered f w)) ≡ true
field_holds w f es h k =
    let either = or_cases (range_of f).zero (is_among (field_mask f) 0 es) h in
    (field_fitting f w).0 (elim either as (λ _. ((range_of f).zero || not (eqb (gathered f w) 0)) ≡ true) [
      | inl zero ↦ rw zero refl
      | inr among ↦
          let other = not_excepted w (field_mask f) 0 es among k in
          elim (cases_Bool (eqb (gathered f w) 0)) [
            | inl e ↦ absurd (unequal (bit_and w (field_mask f)) 0 (field_of_zero f w (eqb-true (gathered f w) 0 e))
                other)
            | inr e ↦ rw e (or_right (range_of f).zero true refl)
          ]
    ])

-- the five bits of a register, under their mask
five_back : (w low : ℕ) → bits_at w low 5 % 32 * 2 ^ low ≡ bit_and w (ones_at low 5)
five_back w low = rw (and_high w 5 low) (ap (λ (n : ℕ). n * 2 ^ low) (mod-eq_of_lt (mod-lt (w / 2 ^ low) (lit< tt))))

-- and the three bits of one
three_back : (w low : ℕ) → (8 + bits_at w low 3) % 8 * 2 ^ low ≡ bit_and w (ones_at low 3)
three_back w low =
    let less : bits_at w low 3 < 8 = mod-lt (w / 2 ^ low) (lit< tt) in
    let same : (8 + bits_at w low 3) % 8 ≡ bits_at w low 3 = omega (arith, less) in
    rw (and_high w 3 low) (ap (λ (n : ℕ). n * 2 ^ low) same)

-- a register that has an exception isn't that one
register_holds : (w low but : ℕ) (es : List (ℕ × ℕ))
    → is_among (ones_at low 5) (but * 2 ^ low) es ≡ true → none_holds w es ≡ true
    → not (eqb (bits_at w low 5) but) ≡ true
register_holds w low but es h k =
    let other = not_excepted w (ones_at low 5) (but * 2 ^ low) es h k in
    elim (cases_Bool (eqb (bits_at w low 5) but)) [
      | inl e ↦
          let match = and_high w 5 low ∙ ap (λ (n : ℕ). n * 2 ^ low) (eqb-true (bits_at w low 5) but e) in
          absurd (unequal (bit_and w (ones_at low 5)) (but * 2 ^ low) match other)
      | inr e ↦ rw e refl
    ]

-- a slot holds what the word has there
pub slot_holds : (w : ℕ) (s : Slot) (es : List (ℕ × ℕ)) → is_excused es s ≡ true → none_holds w es ≡ true
    → holds s (slot_value w s) ≡ true
unfolding holds
slot_holds w slot.Comma es h k = refl
slot_holds w slot.Opening es h k = refl
slot_holds w slot.Closing es h k = refl
slot_holds w (slot.Register p) es h k = refl
slot_holds w (slot.RegisterBut p but) es h k = register_holds w (low_of p) but es h k
slot_holds w (slot.ShortRegister p) es h k =
    let less : bits_at w (low_of p) 3 < 8 = mod-lt (w / 2 ^ low_of p) (lit< tt) in
    grind (arith, less)
slot_holds w (slot.Number f) es h k = field_holds w f es h k
slot_holds w (slot.Target f) es h k = field_holds w f es h k

-- the bits of a slot
unfoldable pub slot_mask : Slot → ℕ
slot_mask slot.Comma = 0
slot_mask slot.Opening = 0
slot_mask slot.Closing = 0
slot_mask (slot.Register p) = ones_at (low_of p) 5
slot_mask (slot.RegisterBut p but) = ones_at (low_of p) 5
slot_mask (slot.ShortRegister p) = ones_at (low_of p) 3
slot_mask (slot.Number f) = field_mask f
slot_mask (slot.Target f) = field_mask f

-- and the value gives them back
pub slot_bits : (w : ℕ) (s : Slot) → bits_of s (slot_value w s) ≡ bit_and w (slot_mask s)
unfolding bits_of slot_mask
slot_bits w slot.Comma = sym (and_zero_r w)
slot_bits w slot.Opening = sym (and_zero_r w)
slot_bits w slot.Closing = sym (and_zero_r w)
slot_bits w (slot.Register p) = five_back w (low_of p)
slot_bits w (slot.RegisterBut p but) = five_back w (low_of p)
slot_bits w (slot.ShortRegister p) = three_back w (low_of p)
slot_bits w (slot.Number f) = field_bits f w
slot_bits w (slot.Target f) = field_bits f w
