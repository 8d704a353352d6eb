-- The text of an instruction: our own syntax, that of the assembler.
-- Rows and fields: RISC-V Unprivileged ISA, 2, 16 and 24.
use Rattle.std.specs.Prelude.{ℕ, ◌+◌, ◌-◌, ◌*◌, ◌^◌, Bool, true, false, not, ◌==◌, ◌&&◌, nat_le}
use Rattle.std.specs.Prelude.{List, [], ◌∷◌, ◌++◌, map, flat_map, codes, Option, Some, None, unwrap_or, if◌then◌else◌}
use Rattle.std.specs.Fmt.{decimal}
use Rattle.std.specs.List.{find, zip, slice_get}
use Rattle.std.specs.Int.{bytes_low_first}
use Rattle.std.specs.Option.{option_map}
unfoldable pub use Rattle.ibx_text.specs.Digits.{hex_digits}
use Rattle.ibx_isa.specs.Lengths.{is_long}
use Rattle.ibx_bits.specs.Bytes.{bits_at}
use Rattle.ibx_decoder.specs.Compressed as compressed
use Rattle.ibx_decoder.specs.Rows as long
use Rattle.ibx_decoder.specs.Table.{Row, none_holds}
use Rattle.std.specs.Prelude.{bit_and}
use Rattle.ibx_asm.specs.declared.fields.Field.{Field}
use Rattle.ibx_asm.specs.declared.fields.Field.TheVariants as field
use Rattle.ibx_asm.specs.declared.operand.Signed.{Signed}
use Rattle.ibx_asm.specs.declared.rows.Encoding.{Encoding}
use Rattle.ibx_asm.specs.declared.slot.Form.{Form}
use Rattle.ibx_asm.specs.declared.slot.Form.TheVariants as form
use Rattle.ibx_asm.specs.declared.slot.Slot.{Slot}
use Rattle.ibx_asm.specs.declared.slot.Slot.TheVariants as slot
use Rattle.ibx_asm.specs.Fields.{range_of, places_of, united}
use Rattle.ibx_asm.specs.Forms.{slots_of}
use Rattle.ibx_asm.specs.Mnemonics.{instructions}
use Rattle.ibx_asm.specs.Operands.{registers, plus, minus, low_of}

-- ---- the mnemonic of a word

-- which words a row of the instruction set has: mask, match, and the exceptions as masks and matches
pub record Pattern : Type 0 where
  pub mask : ℕ
  pub matches : ℕ
  pub unless : List (ℕ × ℕ)

-- which words a row of the decoder has
abbrev pub pattern_of : {A : Type 0} → Row A → Pattern
pattern_of row = record { mask = row.mask; matches = row.matches; unless = row.unless }

-- the rows of the decoder, 32-bit ones first
abbrev pub patterns : List Pattern
patterns = map pattern_of long.rows ++ map pattern_of compressed.rows

-- a word fits a pattern where its bits under the mask are the match, and no exception holds
abbrev pub suits : ℕ → Pattern → Bool
suits w p = bit_and w p.mask == p.matches && none_holds w p.unless

-- the mnemonic beside the first row that a word fits
unfoldable pub mnemonic_of : ℕ → Option (List ℕ × Encoding)
mnemonic_of w = option_map (λ r. r.1) (find (λ r. suits w r.0) (zip patterns instructions))

-- ---- operands

-- one part of a number, from its place
abbrev pub taken_part : ℕ → ℕ × ℕ × ℕ → ℕ
taken_part w p = bits_at w p.2 p.1 * 2 ^ p.0

-- a field's bits
unfoldable pub gathered : Field → ℕ → ℕ
gathered f w = united (map (taken_part w) (places_of f))

-- the number of a field with these bits: above the highest they stand for a negative one, in two's complement
unfoldable pub number_in : Field → ℕ → Signed
number_in f bits = if nat_le bits (range_of f).highest then plus bits else minus (2 * (range_of f).lowest - bits)

-- a decimal number with its sign
unfoldable pub signed_text : Signed → List ℕ
signed_text n = if n.minus then codes "-" ++ decimal n.size else decimal n.size

-- a number: LUI's and AUIPC's by 5 hexadecimal digits, the address of a CSR by 3, others decimal
unfoldable pub number_text : Field → ℕ → List ℕ
number_text field.U bits = codes "0x" ++ hex_digits 5 bits
number_text field.Csr bits = codes "0x" ++ hex_digits 3 bits
number_text f bits = signed_text (number_in f bits)

-- the name of a register
abbrev pub register_text : ℕ → List ℕ
register_text n = unwrap_or (slice_get registers n) []

-- what stands in a slot: a comma is followed by a space
unfoldable pub slot_text : ℕ → Slot → List ℕ
slot_text w slot.Comma = codes ", "
slot_text w slot.Opening = codes "("
slot_text w slot.Closing = codes ")"
slot_text w (slot.Register p) = register_text (bits_at w (low_of p) 5)
slot_text w (slot.RegisterBut p but) = register_text (bits_at w (low_of p) 5)
slot_text w (slot.ShortRegister p) = register_text (8 + bits_at w (low_of p) 3)
slot_text w (slot.Number f) = number_text f (gathered f w)
slot_text w (slot.Target f) = number_text f (gathered f w)

-- the operands, after a space
abbrev pub operands_text : ℕ → List Slot → List ℕ
operands_text w [] = []
operands_text w (s ∷ slots) = codes " " ++ flat_map (slot_text w) (s ∷ slots)

-- ---- the whole

-- a word or halfword as data
abbrev pub data_text : ℕ → List ℕ
data_text w = if is_long w then codes ".word 0x" ++ hex_digits 8 w else codes ".half 0x" ++ hex_digits 4 w

-- a form of FENCE and FENCE.I, whose other fields the decoder ignores
abbrev pub is_fence : Form → Bool
is_fence form.Fence = true
is_fence _ = false

-- one of them with other fields
abbrev pub is_other_fence : ℕ → Encoding → Bool
is_other_fence w e = not (w == e.word) && is_fence e.form

-- the text of a word with this mnemonic, or with none
abbrev pub instruction_text : ℕ → Option (List ℕ × Encoding) → List ℕ
instruction_text w None = data_text w
instruction_text w (Some (name, e)) =
    if is_other_fence w e then data_text w else name ++ operands_text w (slots_of e.form)

-- the text of a 32-bit word, or of a short halfword that is zero-extended
unfoldable pub dis_of : ℕ → List ℕ
dis_of w = instruction_text w (mnemonic_of w)

-- the bytes of a word or halfword, the lowest first
abbrev pub word_bytes : ℕ → List ℕ
word_bytes w = bytes_low_first 0 (if is_long w then 4 else 2) w
