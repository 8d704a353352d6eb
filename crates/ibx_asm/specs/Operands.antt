-- What a token says as an operand: our own syntax, after the usual RISC-V assembly.
use Rattle.std.specs.Prelude.{ℕ, ◌-◌, ◌*◌, ◌%◌, ◌^◌, Bool, true, false, not, ◌==◌, ◌&&◌, ◌||◌, nat_eq, nat_lt, nat_le}
use Rattle.std.specs.Prelude.{List, [], ◌∷◌, drop, codes, Option, Some, is_some, if◌then◌else◌}
use Rattle.std.specs.List.{find, list_all, position, starts_with}
use Rattle.std.specs.Option.{option_map}
use Rattle.std.specs.Str.{bytes_eq}
use Rattle.ibx_text.specs.Number.{number_of}
use Rattle.ibx_asm.specs.declared.operand.Signed.{Signed}
use Rattle.ibx_asm.specs.declared.slot.Place.{Place}
use Rattle.ibx_asm.specs.declared.slot.Place.TheVariants as place
use Rattle.ibx_asm.specs.declared.slot.Slot.{Slot}
use Rattle.ibx_asm.specs.declared.slot.Slot.TheVariants as slot
use Rattle.ibx_asm.specs.Fields.{range_of, has, twos_complement, scattered}

-- the registers by number
unfoldable pub registers : List (List ℕ)
registers =
    codes "x0" ∷ codes "x1" ∷ codes "x2" ∷ codes "x3" ∷ codes "x4" ∷ codes "x5" ∷ codes "x6" ∷ codes "x7" ∷
    codes "x8" ∷ codes "x9" ∷ codes "x10" ∷ codes "x11" ∷ codes "x12" ∷ codes "x13" ∷ codes "x14" ∷ codes "x15" ∷
    codes "x16" ∷ codes "x17" ∷ codes "x18" ∷ codes "x19" ∷ codes "x20" ∷ codes "x21" ∷ codes "x22" ∷ codes "x23" ∷
    codes "x24" ∷ codes "x25" ∷ codes "x26" ∷ codes "x27" ∷ codes "x28" ∷ codes "x29" ∷ codes "x30" ∷ codes "x31" ∷ []

-- the register of a name
abbrev pub register_of : List ℕ → Option ℕ
register_of token = position (λ name. bytes_eq name token) registers

-- a number that isn't negative, and one with a minus sign
abbrev pub plus : ℕ → Signed
plus n = record { minus = false; size = n }

-- a number with a minus sign, by its size; `-0` is one too
abbrev pub minus : ℕ → Signed
minus n = record { minus = true; size = n }

-- a number, with or without a `-` right before it
unfoldable pub signed_of : List ℕ → Option Signed
signed_of token = if starts_with nat_eq token (codes "-")
    then option_map minus (number_of (drop 1 token))
    else option_map plus (number_of token)

-- an ASCII letter, `.` or `_`, with which a name begins
abbrev pub is_initial : ℕ → Bool
is_initial byte =
    (nat_le 65 byte && nat_le byte 90) || (nat_le 97 byte && nat_le byte 122) || (byte == 46) || (byte == 95)

-- a byte of a name: one of these, or a digit
abbrev pub is_name_byte : ℕ → Bool
is_name_byte byte = is_initial byte || (nat_le 48 byte && nat_le byte 57)

-- a name: an initial byte and bytes of a name
unfoldable pub is_name : List ℕ → Bool
is_name [] = false
is_name (first ∷ more) = is_initial first && list_all is_name_byte more

-- a label, the line that defines it and its address in bytes
pub record Defined : Type 0 where
  pub name : List ℕ
  pub line : ℕ
  pub address : ℕ

-- the first definition of a name
abbrev pub definition_of : List Defined → List ℕ → Option Defined
definition_of labels name = find (λ label. bytes_eq label.name name) labels

-- one address minus another
unfoldable pub difference : ℕ → ℕ → Signed
difference to from = if nat_lt to from then minus (from - to) else plus (to - from)

-- whether a token may stand in a slot, whatever its value
unfoldable pub fits : Slot → List ℕ → Bool
fits slot.Comma token = bytes_eq token (codes ",")
fits slot.Opening token = bytes_eq token (codes "(")
fits slot.Closing token = bytes_eq token (codes ")")
fits (slot.Register p) token = is_some (register_of token)
fits (slot.RegisterBut p but) token = is_some (register_of token)
fits (slot.ShortRegister p) token = is_some (register_of token)
fits (slot.Number f) token = is_some (signed_of token)
fits (slot.Target f) token = is_some (signed_of token) || is_name token

-- the offset of a target from an instruction's address
abbrev pub offset_of : List Defined → ℕ → List ℕ → Option Signed
offset_of labels address token = if is_some (signed_of token)
    then signed_of token
    else option_map (λ label. difference label.address address) (definition_of labels token)

-- the value of a token that fits its slot: none of a label that is nowhere defined
unfoldable pub value_of : List Defined → ℕ → Slot → List ℕ → Option Signed
value_of labels address slot.Comma token = Some (plus 0)
value_of labels address slot.Opening token = Some (plus 0)
value_of labels address slot.Closing token = Some (plus 0)
value_of labels address (slot.Register p) token = option_map plus (register_of token)
value_of labels address (slot.RegisterBut p but) token = option_map plus (register_of token)
value_of labels address (slot.ShortRegister p) token = option_map plus (register_of token)
value_of labels address (slot.Number f) token = signed_of token
value_of labels address (slot.Target f) token = offset_of labels address token

-- whether a slot can hold a value
unfoldable pub holds : Slot → Signed → Bool
holds slot.Comma value = true
holds slot.Opening value = true
holds slot.Closing value = true
holds (slot.Register p) value = true
holds (slot.RegisterBut p but) value = not (value.size == but)
holds (slot.ShortRegister p) value = nat_le 8 value.size && nat_le value.size 15
holds (slot.Number f) value = has (range_of f) value
holds (slot.Target f) value = has (range_of f) value

-- the lowest bit of a register's place
unfoldable pub low_of : Place → ℕ
low_of place.Rd = 7
low_of place.Rs1 = 15
low_of place.Rs2 = 20
low_of place.ShortRs2 = 2

-- the bits that a value gives to the instruction: a register number of five bits, of three bits, or a field
unfoldable pub bits_of : Slot → Signed → ℕ
bits_of slot.Comma value = 0
bits_of slot.Opening value = 0
bits_of slot.Closing value = 0
bits_of (slot.Register p) value = value.size % 32 * 2 ^ low_of p
bits_of (slot.RegisterBut p but) value = value.size % 32 * 2 ^ low_of p
bits_of (slot.ShortRegister p) value = value.size % 8 * 2 ^ low_of p
bits_of (slot.Number f) value = scattered f (twos_complement value)
bits_of (slot.Target f) value = scattered f (twos_complement value)
