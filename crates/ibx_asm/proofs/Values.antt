-- The operands of a word's text are read as the values of its fields.
use Rattle.std.proofs.Common.{◌≡◌, ℕ, ◌+◌, ◌-◌, ◌*◌, ◌/◌, ◌^◌, ◌<◌, Bool, true, false, cond, nat_le, [], Some, refl}
use Rattle.std.proofs.Common.{◌∙◌, ap, arith, lit<}
use Rattle.std.proofs.Math.Nat.{mod-eq_of_lt, mod-lt}
use Rattle.ibx_bits.specs.Bytes.{bits_at}
use Rattle.ibx_asm.specs.declared.fields.Field.{Field}
use Rattle.ibx_asm.specs.declared.fields.Field.TheVariants as field
use Rattle.ibx_asm.specs.declared.operand.Signed.{Signed}
use Rattle.ibx_asm.specs.declared.slot.Slot.{Slot}
use Rattle.ibx_asm.specs.declared.slot.Slot.TheVariants as slot
use Rattle.ibx_asm.specs.Dis.{gathered, number_in, number_text, slot_text}
use Rattle.ibx_asm.specs.Fields.{range_of, places_of, united}
use Rattle.ibx_asm.specs.Operands.{plus, minus, signed_of, fits, value_of, low_of}
use Rattle.ibx_asm.proofs.DataLines.{hex_number}
use Rattle.ibx_asm.proofs.Decimals.{signed_reads}
use Rattle.ibx_asm.proofs.Slots.{slot_token, register_reads}

-- what a word has in a slot
abbrev pub slot_value : ℕ → Slot → Signed
slot_value w slot.Comma = plus 0
slot_value w slot.Opening = plus 0
slot_value w slot.Closing = plus 0
slot_value w (slot.Register p) = plus (bits_at w (low_of p) 5)
slot_value w (slot.RegisterBut p but) = plus (bits_at w (low_of p) 5)
slot_value w (slot.ShortRegister p) = plus (8 + bits_at w (low_of p) 3)
slot_value w (slot.Number f) = number_in f (gathered f w)
slot_value w (slot.Target f) = number_in f (gathered f w)

-- the ends of a field's range have at most 10 digits
limits : (f : Field) → ((range_of f).highest < 10 ^ 10) × (2 * (range_of f).lowest < 10 ^ 10)
unfolding range_of
limits field.I = (lit< tt, lit< tt)
limits field.S = (lit< tt, lit< tt)
limits field.B = (lit< tt, lit< tt)
limits field.U = (lit< tt, lit< tt)
limits field.J = (lit< tt, lit< tt)
limits field.Shift = (lit< tt, lit< tt)
limits field.Csr = (lit< tt, lit< tt)
limits field.Source = (lit< tt, lit< tt)
limits field.StackAddress = (lit< tt, lit< tt)
limits field.ShortOffset = (lit< tt, lit< tt)
limits field.StackLoad = (lit< tt, lit< tt)
limits field.StackStore = (lit< tt, lit< tt)
limits field.Six = (lit< tt, lit< tt)
limits field.Upper = (lit< tt, lit< tt)
limits field.StackAdjust = (lit< tt, lit< tt)
limits field.ShortShift = (lit< tt, lit< tt)
limits field.ShortJump = (lit< tt, lit< tt)
limits field.ShortBranch = (lit< tt, lit< tt)
limits field.Word = (lit< tt, lit< tt)
limits field.Half = (lit< tt, lit< tt)
limits field.Byte = (lit< tt, lit< tt)

-- a number within such ends is as small
sized : (b : Bool) (bits low high : ℕ) → nat_le bits high ≡ b → high < 10 ^ 10 → 2 * low < 10 ^ 10 →
    (cond b (plus bits) (minus (2 * low - bits))).size < 10 ^ 10
sized true bits low high e h k = grind (arith, e)
sized false bits low high e h k = omega (arith, k)

-- the number of a field has at most 10 digits
pub small_number : (f : Field) (bits : ℕ) → (number_in f bits).size < 10 ^ 10
unfolding number_in
small_number f bits = sized (nat_le bits (range_of f).highest) bits (range_of f).lowest (range_of f).highest refl
    (limits f).0 (limits f).1

-- the upper 20 bits of LUI and AUIPC are read as what was written
upper_reads : (w : ℕ) → signed_of (number_text field.U (gathered field.U w)) ≡ Some
    (number_in field.U (gathered field.U w))
unfolding number_text gathered places_of united number_in range_of
upper_reads w =
    let bits : ℕ = bits_at w 12 20 * 2 ^ 0 in
    let less : bits < 2 ^ 20 = omega arith in
    let low : nat_le bits 0xfffff ≡ true = grind arith in
    rw low (hex_number 5 bits (lit< tt) (omega arith) ∙ ap (λ (n : ℕ). Some (plus n)) (mod-eq_of_lt less))

-- and the address of a CSR
csr_reads : (w : ℕ) → signed_of (number_text field.Csr (gathered field.Csr w)) ≡ Some
    (number_in field.Csr (gathered field.Csr w))
unfolding number_text gathered places_of united number_in range_of
csr_reads w =
    let bits : ℕ = bits_at w 20 12 * 2 ^ 0 in
    let less : bits < 2 ^ 12 = omega arith in
    let low : nat_le bits 4095 ≡ true = grind arith in
    rw low (hex_number 3 bits (lit< tt) (omega arith) ∙ ap (λ (n : ℕ). Some (plus n)) (mod-eq_of_lt less))

-- a field's number is read as what was written
pub field_reads : (f : Field) (w : ℕ) → signed_of (number_text f (gathered f w)) ≡ Some (number_in f (gathered f w))
unfolding number_text
field_reads field.I w = signed_reads (number_in field.I (gathered field.I w))
    (small_number field.I (gathered field.I w))
field_reads field.S w = signed_reads (number_in field.S (gathered field.S w))
    (small_number field.S (gathered field.S w))
field_reads field.B w = signed_reads (number_in field.B (gathered field.B w))
    (small_number field.B (gathered field.B w))
field_reads field.U w = upper_reads w
field_reads field.J w = signed_reads (number_in field.J (gathered field.J w))
    (small_number field.J (gathered field.J w))
field_reads field.Shift w = signed_reads (number_in field.Shift (gathered field.Shift w))
    (small_number field.Shift (gathered field.Shift w))
field_reads field.Csr w = csr_reads w
field_reads field.Source w = signed_reads (number_in field.Source (gathered field.Source w))
    (small_number field.Source (gathered field.Source w))
field_reads field.StackAddress w = signed_reads (number_in field.StackAddress (gathered field.StackAddress w))
    (small_number field.StackAddress (gathered field.StackAddress w))
field_reads field.ShortOffset w = signed_reads (number_in field.ShortOffset (gathered field.ShortOffset w))
    (small_number field.ShortOffset (gathered field.ShortOffset w))
field_reads field.StackLoad w = signed_reads (number_in field.StackLoad (gathered field.StackLoad w))
    (small_number field.StackLoad (gathered field.StackLoad w))
field_reads field.StackStore w = signed_reads (number_in field.StackStore (gathered field.StackStore w))
    (small_number field.StackStore (gathered field.StackStore w))
field_reads field.Six w = signed_reads (number_in field.Six (gathered field.Six w))
    (small_number field.Six (gathered field.Six w))
field_reads field.Upper w = signed_reads (number_in field.Upper (gathered field.Upper w))
    (small_number field.Upper (gathered field.Upper w))
field_reads field.StackAdjust w = signed_reads (number_in field.StackAdjust (gathered field.StackAdjust w))
    (small_number field.StackAdjust (gathered field.StackAdjust w))
field_reads field.ShortShift w = signed_reads (number_in field.ShortShift (gathered field.ShortShift w))
    (small_number field.ShortShift (gathered field.ShortShift w))
field_reads field.ShortJump w = signed_reads (number_in field.ShortJump (gathered field.ShortJump w))
    (small_number field.ShortJump (gathered field.ShortJump w))
field_reads field.ShortBranch w = signed_reads (number_in field.ShortBranch (gathered field.ShortBranch w))
    (small_number field.ShortBranch (gathered field.ShortBranch w))
field_reads field.Word w = signed_reads (number_in field.Word (gathered field.Word w))
    (small_number field.Word (gathered field.Word w))
field_reads field.Half w = signed_reads (number_in field.Half (gathered field.Half w))
    (small_number field.Half (gathered field.Half w))
field_reads field.Byte w = signed_reads (number_in field.Byte (gathered field.Byte w))
    (small_number field.Byte (gathered field.Byte w))

-- the five bits of a register are its number
pub five_bits : (w low : ℕ) → bits_at w low 5 < 32
five_bits w low = mod-lt (w / 2 ^ low) (lit< tt)

-- and three bits say one from 8 on
pub three_bits : (w low : ℕ) → 8 + bits_at w low 3 < 32
three_bits w low = let less : bits_at w low 3 < 8 = mod-lt (w / 2 ^ low) (lit< tt) in omega (arith, less)

-- each token of a word's text may stand in its slot
pub slot_fits : (w : ℕ) (s : Slot) → fits s (slot_token w s) ≡ true
unfolding fits slot_text
slot_fits w slot.Comma = refl
slot_fits w slot.Opening = refl
slot_fits w slot.Closing = refl
slot_fits w (slot.Register p) = rw (register_reads (bits_at w (low_of p) 5) (five_bits w (low_of p))) refl
slot_fits w (slot.RegisterBut p but) = rw (register_reads (bits_at w (low_of p) 5) (five_bits w (low_of p))) refl
slot_fits w (slot.ShortRegister p) = rw (register_reads (8 + bits_at w (low_of p) 3) (three_bits w (low_of p))) refl
slot_fits w (slot.Number f) = rw (field_reads f w) refl
slot_fits w (slot.Target f) = rw (field_reads f w) refl

-- and is read as what the word has there
pub slot_reads : (address w : ℕ) (s : Slot) → value_of [] address s (slot_token w s) ≡ Some (slot_value w s)
unfolding value_of slot_text
slot_reads address w slot.Comma = refl
slot_reads address w slot.Opening = refl
slot_reads address w slot.Closing = refl
slot_reads address w (slot.Register p) = rw (register_reads (bits_at w (low_of p) 5) (five_bits w (low_of p))) refl
slot_reads address w (slot.RegisterBut p but) = rw (register_reads (bits_at w (low_of p) 5) (five_bits w (low_of p)))
    refl
slot_reads address w (slot.ShortRegister p) = rw (register_reads (8 + bits_at w (low_of p) 3)
    (three_bits w (low_of p))) refl
slot_reads address w (slot.Number f) = field_reads f w
slot_reads address w (slot.Target f) = rw (field_reads f w) refl
