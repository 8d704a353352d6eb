-- What a text assembles to, and which of its lines are refused: our own rules.
use Rattle.std.specs.Prelude.{◌≡◌, ℕ, ◌+◌, Bool, true, false, not, ◌&&◌, ◌==◌, nat_lt, List, [], ◌∷◌, ◌++◌, length}
use Rattle.std.specs.Prelude.{drop, codes, Option, Some, None, is_some, Result, Ok, Err, bit_or, if◌then◌else◌}
use Rattle.std.specs.List.{filter_map, fold, list_all, zip}
use Rattle.std.specs.Option.{option_map, option_map_or}
use Rattle.std.specs.Str.{bytes_eq}
use Rattle.std.specs.Str.Lines.{lines}
use Rattle.std.specs.Global.{Vec}
use Rattle.std.specs.Int.{bytes_low_first}
use Rattle.ibx_asm.specs.declared.fault.AsmFault.{AsmFault}
use Rattle.ibx_asm.specs.declared.fault.AsmFault.TheVariants as fault
use Rattle.ibx_asm.specs.declared.fault.AsmKind.{AsmKind}
use Rattle.ibx_asm.specs.declared.fault.AsmKind.TheVariants as kind
use Rattle.ibx_asm.specs.declared.rows.Encoding.{Encoding}
use Rattle.ibx_asm.specs.declared.slot.Slot.{Slot}
use Rattle.ibx_asm.specs.Forms.{slots_of}
use Rattle.ibx_asm.specs.Mnemonics.{encoding_of}
use Rattle.ibx_asm.specs.Operands.{Defined, definition_of, is_name, fits, value_of, holds, bits_of}
use Rattle.ibx_asm.specs.Text.{tokens, without_comment}

-- the byte address of the code's first line
abbrev pub code_base : ℕ
code_base = 0x100080

-- ---- one line by itself

-- whether tokens are the operands of a form: one fits each slot, and none is left
unfoldable pub are_operands : List Slot → List (List ℕ) → Bool
are_operands [] [] = true
are_operands [] (token ∷ more) = false
are_operands (s ∷ slots) [] = false
are_operands (s ∷ slots) (token ∷ more) = fits s token && are_operands slots more

-- the instruction of a mnemonic, where these are operands of its form
abbrev pub of_form : List (List ℕ) → Option Encoding → Option Encoding
of_form operands None = None
of_form operands (Some e) = if are_operands (slots_of e.form) operands then Some e else None

-- the instruction or directive of a line's tokens, none where they aren't of its form
unfoldable pub instruction_of : List (List ℕ) → Option Encoding
instruction_of [] = None
instruction_of (mnemonic ∷ operands) = of_form operands (encoding_of mnemonic)

-- the label that a line defines: a name and a colon
unfoldable pub label_of : List (List ℕ) → Option (List ℕ)
label_of [] = None
label_of (name ∷ []) = None
label_of (name ∷ mark ∷ []) = if is_name name && bytes_eq mark (codes ":") then Some name else None
label_of (name ∷ mark ∷ token ∷ more) = None

-- how many bytes of code a line has: none where it is empty, defines a label or isn't of a form
abbrev pub size_of : List (List ℕ) → ℕ
size_of line = if is_some (label_of line) then 0 else option_map_or (λ e. e.size) (instruction_of line) 0

-- ---- lines at their addresses

-- a line's number, the address of its code and its tokens
pub record Placed : Type 0 where
  pub number : ℕ
  pub address : ℕ
  pub line : List (List ℕ)

-- a text's lines from one number and address on: each follows the code of the one before
unfoldable pub placed : ℕ → ℕ → List (List ℕ) → List Placed
placed number address [] = []
placed number address (text ∷ more) =
    let line = tokens (without_comment text) in
    record { number = number; address = address; line = line } ∷ placed (number + 1) (address + size_of line) more

-- what a line defines
abbrev pub defined : Placed → Option Defined
defined p = option_map (λ name. record { name = name; line = p.number; address = p.address }) (label_of p.line)

-- the labels of a text, in the order of their definitions
abbrev pub labels_of : List Placed → List Defined
labels_of text = filter_map defined text

-- ---- the code of a line

-- each slot holds the value of its operand, as far as the operand has one
abbrev pub in_range : List Defined → ℕ → List (Slot × List ℕ) → Bool
in_range labels address operands =
    list_all (λ o. option_map_or (holds o.0) (value_of labels address o.0 o.1) true) operands

-- each operand has a value: no label is missing
abbrev pub known : List Defined → ℕ → List (Slot × List ℕ) → Bool
known labels address operands = list_all (λ o. is_some (value_of labels address o.0 o.1)) operands

-- a word with one more operand
abbrev pub with_operand : List Defined → ℕ → ℕ → Slot × List ℕ → ℕ
with_operand labels address word o = bit_or word (option_map_or (bits_of o.0) (value_of labels address o.0 o.1) 0)

-- the code of an instruction with these operands: the lowest bytes of its word, the least significant first
unfoldable pub code_with : List Defined → ℕ → Encoding → List (Slot × List ℕ) → Result (List ℕ) AsmKind
code_with labels address e operands = if not (in_range labels address operands)
    then Err kind.Range
    else (if not (known labels address operands)
    then Err kind.Label
    else Ok (bytes_low_first 0 e.size (fold (with_operand labels address) e.word operands)))

-- a line that defines a label has no code, and is refused where the label was defined before
abbrev pub code_of_label : List Defined → ℕ → List ℕ → Result (List ℕ) AsmKind
code_of_label labels number name =
    if option_map_or (λ label. nat_lt label.line number) (definition_of labels name) false
    then Err kind.Label
    else Ok []

-- the code of a line that defines no label and isn't empty
abbrev pub code_of_instruction : List Defined → ℕ → List (List ℕ) → Option Encoding → Result (List ℕ) AsmKind
code_of_instruction labels address operands None = Err kind.Word
code_of_instruction labels address operands (Some e) = code_with labels address e (zip (slots_of e.form) operands)

-- the same of a line, which defines this label or none
abbrev pub code_of_operation : List Defined → Placed → Option (List ℕ) → Result (List ℕ) AsmKind
code_of_operation labels p (Some name) = code_of_label labels p.number name
code_of_operation labels p None = if length p.line == 0
    then Ok []
    else code_of_instruction labels p.address (drop 1 p.line) (instruction_of p.line)

-- the code of a line, or the first kind of refusal that holds
unfoldable pub code_of : List Defined → Placed → Result (List ℕ) AsmKind
code_of labels p = code_of_operation labels p (label_of p.line)

-- ---- the whole text

-- the code of a line before that of the later lines: the first line that is refused decides
abbrev pub before : ℕ → Result (List ℕ) AsmKind → Result (List ℕ) AsmFault → Result (List ℕ) AsmFault
before number (Err k) later = Err (fault.Line number k)
before number (Ok code) (Err f) = Err f
before number (Ok code) (Ok more) = Ok (code ++ more)

-- the code of lines, one after the other
unfoldable pub code_of_all : List Defined → List Placed → Result (List ℕ) AsmFault
code_of_all labels [] = Ok []
code_of_all labels (p ∷ more) = before p.number (code_of labels p) (code_of_all labels more)

-- the code that a text stands for, or its first refused line with the first kind that holds; lines are counted from 1
unfoldable pub denoted : List ℕ → Result (List ℕ) AsmFault
denoted text = let all = placed 1 code_base (lines text) in code_of_all (labels_of all) all

-- an answer is the one that is wanted; want of memory may come at any time
abbrev pub Assembles : Result (Vec ℕ) AsmFault → Result (List ℕ) AsmFault → Type 0
Assembles (Ok code) wanted = wanted ≡ Ok code.items
Assembles (Err fault.Memory) wanted = Unit {0}
Assembles (Err (fault.Line number k)) wanted = wanted ≡ Err (fault.Line number k)
