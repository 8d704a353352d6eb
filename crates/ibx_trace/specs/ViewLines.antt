-- The lines of views, each as its bytes with the line feed. The format is our own.
use Rattle.std.specs.Prelude.{ℕ, ◌==◌, ◌||◌, Bool, if◌then◌else◌, List, [], ◌++◌, Option, Some, None, codes}
use Rattle.std.specs.Fmt.{decimal}
use Rattle.ibx_isa.specs.declared.event.View.{View}
use Rattle.ibx_text.specs.Digits.{hex_digits}
use Rattle.ibx_trace.specs.Digits.{word_digits}

-- the kind of a view and the address of its instruction
unfoldable pub view_heading : List ℕ → ℕ → List ℕ
view_heading kind pc = kind ++ hex_digits 8 pc

-- a part that a view may lack
unfoldable pub part_text : List ℕ → Option ℕ → List ℕ
part_text name None = []
part_text name (Some value) = name ++ hex_digits 8 value

-- the values of rs1 and rs2, where a view has them
unfoldable pub operands_text : Option (ℕ × ℕ) → List ℕ
operands_text None = []
operands_text (Some operands) = codes " op=" ++ hex_digits 8 operands.0 ++ codes "," ++ hex_digits 8 operands.1

-- load and store access faults, whose views carry the address (Privileged Architecture, 3.1.15)
abbrev pub is_access_fault : ℕ → Bool
is_access_fault cause = (cause == 5) || (cause == 7)

-- an instruction that retired: its address and word, then the address of its access, the value that it handed to a
-- control register, and its operands, where it has them
unfoldable pub retirement_text : View → List ℕ
retirement_text v = view_heading (codes "R ") v.pc ++ codes " " ++ word_digits v.word
    ++ part_text (codes " a=") v.addr ++ part_text (codes " c=") v.ctl ++ operands_text v.ops ++ codes "\n"

-- an exception: the instruction's address and word, the cause and the value of mtval, and the address of an access
-- fault
unfoldable pub trap_text : View → List ℕ
trap_text v = view_heading (codes "T ") v.pc ++ codes " " ++ word_digits v.word
    ++ codes " cause=" ++ decimal v.cause ++ codes " tval=" ++ hex_digits 8 v.tval
    ++ (if is_access_fault v.cause then part_text (codes " a=") v.addr else []) ++ codes "\n"

-- an interrupt that was taken: the address of the instruction that it came before, and the cause
unfoldable pub interrupt_text : View → List ℕ
interrupt_text v = view_heading (codes "I ") v.pc ++ codes " cause=" ++ decimal v.cause ++ codes "\n"

-- the line of a view, by its kind: 0 for a retirement, 1 for a trap, 2 for an interrupt
unfoldable pub view_line_of : View → List ℕ
view_line_of v = if v.kind == 0 then retirement_text v else (if v.kind == 1 then trap_text v else interrupt_text v)
