-- What the code holds stands for.
use Rattle.std.specs.Prelude.{◌≡◌, ℕ, bit_and, List, [], ◌∷◌, Option, Result, Ok, Err}
use Rattle.std.specs.Borrow.{Bor}
use Rattle.std.specs.BTreeMap.{BTreeMap, get_by}
use Rattle.std.specs.Cmp.Lexicographic.{slice_cmp}
use Rattle.std.specs.Int.{bytes_low_first}
use Rattle.std.specs.List.{position}
use Rattle.std.specs.Ordering.{nat_cmp}
use Rattle.std.specs.Str.{bytes_eq}
use Rattle.ibx_asm.specs.declared.fault.AsmKind.{AsmKind}
use Rattle.ibx_asm.specs.declared.labels.Label.{Label}
use Rattle.ibx_asm.specs.declared.line.Code.{Code}
use Rattle.ibx_asm.specs.declared.line.Line.{Line}
use Rattle.ibx_asm.specs.declared.rows.Encoding.{Encoding}
use Rattle.ibx_asm.specs.declared.rows.Row.{Row}
use Rattle.ibx_asm.specs.declared.slot.Form.{Form}
use Rattle.ibx_asm.specs.declared.slot.Form.TheVariants as form
use Rattle.ibx_asm.specs.declared.slot.Slot.{Slot}
use Rattle.ibx_asm.specs.declared.slot.Slot.TheVariants as slot
use Rattle.ibx_asm.specs.Denote.{Placed}
use Rattle.ibx_asm.specs.Dis.{Pattern}
use Rattle.ibx_asm.specs.Operands.{Defined}
use Rattle.ibx_asm.specs.Text.{tokens}

-- the definition of a label
abbrev pub meant : Label → Defined
meant label = record { name = label.name.now; line = label.line; address = label.address }

-- a line as its tokens
abbrev pub stands : Line → Placed
stands line = record { number = line.number; address = line.address; line = tokens line.text.now }

-- the place that an index gives for a name
abbrev pub place_in : BTreeMap (Bor (List ℕ)) ℕ → List ℕ → Option ℕ
place_in index name = get_by (λ key. slice_cmp nat_cmp name key.now) index

-- an index gives for each name the place of its first definition
abbrev pub IsIndexOf : BTreeMap (Bor (List ℕ)) ℕ → List Label → Type 0
IsIndexOf index labels = (name : List ℕ) → place_in index name ≡ position (λ label. bytes_eq label.name.now name) labels

-- the bytes of a line's code
abbrev pub bytes_of : Code → List ℕ
bytes_of code = bytes_low_first 0 code.size code.word

-- the same of a line that may be refused
abbrev pub coded : Result Code AsmKind → Result (List ℕ) AsmKind
coded (Ok code) = Ok (bytes_of code)
coded (Err k) = Err k

-- a row of mnemonics
abbrev pub row_meant : Row → List ℕ × Encoding
row_meant row = (row.0.now, record { word = row.2; size = row.1; form = row.3 })

-- the bits that tell a form's instructions from all others
unfoldable pub mask_of : Form → ℕ
mask_of form.Bare = 0xffffffff
mask_of form.ShortBare = 0xffff
mask_of form.Fence = 0x707f
mask_of form.Upper = 0x7f
mask_of form.Jump = 0x7f
mask_of form.Load = 0x707f
mask_of form.Store = 0x707f
mask_of form.Branch = 0x707f
mask_of form.Immediate = 0x707f
mask_of form.Shift = 0xfe00707f
mask_of form.Registers = 0xfe00707f
mask_of form.Csr = 0x707f
mask_of form.CsrNumber = 0x707f
mask_of form.StackAddress = 0xe003
mask_of form.ShortAccess = 0xe003
mask_of form.Six = 0xe003
mask_of form.ShortUpper = 0xe003
mask_of form.WideShift = 0xf003
mask_of form.StackLoad = 0xe003
mask_of form.StackStore = 0xe003
mask_of form.HighShift = 0xfc03
mask_of form.HighSix = 0xec03
mask_of form.HighLow = 0xfc63
mask_of form.ShortBranch = 0xe003
mask_of form.ShortJump = 0xe003
mask_of form.StackAdjust = 0xef83
mask_of form.JumpRegister = 0xf07f
mask_of form.Pair = 0xf003
mask_of form.Word = 0xffffffff
mask_of form.Half = 0xffffffff
mask_of form.Byte = 0xffffffff

-- what an instruction of a form mustn't be, as masks and matches
unfoldable pub exceptions_of : Form → List (ℕ × ℕ)
exceptions_of form.StackAddress = (0x1fe0, 0) ∷ []
exceptions_of form.StackAdjust = (0x107c, 0) ∷ []
exceptions_of form.ShortUpper = (0x0f80, 0x0100) ∷ (0x107c, 0) ∷ []
exceptions_of form.StackLoad = (0x0f80, 0) ∷ []
exceptions_of form.JumpRegister = (0x0f80, 0) ∷ []
exceptions_of form.Pair = (0x007c, 0) ∷ []
exceptions_of _ = []

-- the words of a row, and with them its mnemonic
unfoldable pub pattern_meant : Row → Pattern
pattern_meant row = record {
  mask = mask_of row.3;
  matches = bit_and row.2 (mask_of row.3);
  unless = exceptions_of row.3;
}

-- a row as its words and its mnemonic
abbrev pub both_meant : Row → Pattern × (List ℕ × Encoding)
both_meant row = (pattern_meant row, row_meant row)

-- the most bytes that the text of a slot has
unfoldable pub room_of : Slot → ℕ
room_of slot.Comma = 2
room_of slot.Opening = 2
room_of slot.Closing = 2
room_of (slot.Register p) = 3
room_of (slot.RegisterBut p but) = 3
room_of (slot.ShortRegister p) = 3
room_of (slot.Number f) = 11
room_of (slot.Target f) = 11
