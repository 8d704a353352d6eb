-- The lines on the error output, each as its bytes with the line feed (our own rule).
use Rattle.std.specs.Prelude.{ℕ, List, [], ◌∷◌, ◌++◌, codes, flat_map}
use Rattle.std.specs.Fmt.{decimal}
use Rattle.ibx_plan.specs.declared.bounds.LineKind.{LineKind}
use Rattle.ibx_plan.specs.declared.bounds.LineKind.TheVariants as kind
use Rattle.ibx_plan.specs.declared.bounds.PlanFault.{PlanFault}
use Rattle.ibx_plan.specs.declared.bounds.PlanFault.TheVariants as plan
use Rattle.ibx_asm.specs.declared.fault.AsmFault.{AsmFault}
use Rattle.ibx_asm.specs.declared.fault.AsmFault.TheVariants as asm
use Rattle.ibx_asm.specs.declared.fault.AsmKind.{AsmKind}
use Rattle.ibx_asm.specs.declared.fault.AsmKind.TheVariants as asm_kind
use Rattle.ibx_elf.specs.declared.fault.ElfFault.{ElfFault}
use Rattle.ibx_elf.specs.declared.fault.ElfFault.TheVariants.{Short, Magic, Class, Order, Version, Kind, Machine}
use Rattle.ibx_elf.specs.declared.fault.ElfFault.TheVariants.{Headers, TooMany, Segment, OutsideRam, Overlap, Entry}

-- status 2: the words don't fit
abbrev pub bad_words_line : List ℕ
bad_words_line = codes "ibex: bad words\n"

-- status 3: the file of this name can't be read
abbrev pub cannot_read_line : List ℕ → List ℕ
cannot_read_line name = codes "ibex: cannot read " ++ name ++ codes "\n"

-- status 4: standard output can't be written
abbrev pub cannot_write_line : List ℕ
cannot_write_line = codes "ibex: cannot write\n"

-- status 5 for a file and 6 for a plan: it has more bytes than its limit
abbrev pub too_long_line : List ℕ → List ℕ
too_long_line name = codes "ibex: " ++ name ++ codes ": too long\n"

-- status 7: memory ran out
abbrev pub out_of_memory_line : List ℕ
out_of_memory_line = codes "ibex: out of memory\n"

-- the number of a fault, in the order in which they are looked for
unfoldable pub fault_number : ElfFault → ℕ
fault_number Short = 1
fault_number Magic = 2
fault_number Class = 3
fault_number Order = 4
fault_number Version = 5
fault_number Kind = 6
fault_number Machine = 7
fault_number Headers = 8
fault_number TooMany = 9
fault_number (Segment i) = 10
fault_number (OutsideRam i) = 11
fault_number (Overlap i j) = 12
fault_number Entry = 13

-- the program headers that a fault names
unfoldable pub fault_indices : ElfFault → List ℕ
fault_indices (Segment i) = i ∷ []
fault_indices (OutsideRam i) = i ∷ []
fault_indices (Overlap i j) = i ∷ j ∷ []
fault_indices _ = []

-- a number after a space
abbrev pub spaced : ℕ → List ℕ
spaced n = codes " " ++ decimal n

-- what the line of a fault has after the file's name
unfoldable pub fault_text : ElfFault → List ℕ
fault_text fault = codes ": elf fault" ++ spaced (fault_number fault) ++ flat_map spaced (fault_indices fault) ++ codes
    "\n"

-- status 5: the first fault of an ELF file, by its number and the program headers it names
abbrev pub fault_line : List ℕ → ElfFault → List ℕ
fault_line name fault = codes "ibex: " ++ name ++ fault_text fault

-- what a line of a plan is refused for, after a space
unfoldable pub kind_text : LineKind → List ℕ
kind_text kind.Word = codes " word\n"
kind_text kind.Number = codes " number\n"
kind_text kind.Range = codes " range\n"
kind_text kind.Order = codes " order\n"
kind_text kind.Flip = codes " flip\n"

-- what the line of a plan's fault has after the plan's name; want of memory is no fault of a plan, and isn't printed
unfoldable pub plan_fault_text : PlanFault → List ℕ
plan_fault_text (plan.Line line kind) = codes ": plan line" ++ spaced line ++ kind_text kind
plan_fault_text (plan.TooMany line) = codes ": plan line" ++ spaced line ++ codes " too many\n"
plan_fault_text plan.NoFlip = codes ": no flip\n"
plan_fault_text plan.Memory = codes ": no memory\n"

-- status 6: the first fault of a plan, by its line where it has one
abbrev pub plan_fault_line : List ℕ → PlanFault → List ℕ
plan_fault_line name fault = codes "ibex: " ++ name ++ plan_fault_text fault

-- status 12: the text for `asm` has more bytes than its limit
abbrev pub text_too_long_line : List ℕ → List ℕ
text_too_long_line name = codes "ibex: " ++ name ++ codes ": text too long\n"

-- what a line of a text is refused for, after a space
unfoldable pub asm_kind_text : AsmKind → List ℕ
asm_kind_text asm_kind.Word = codes " word\n"
asm_kind_text asm_kind.Range = codes " range\n"
asm_kind_text asm_kind.Label = codes " label\n"

-- what the line of a text's fault has after the text's name; want of memory is no fault of a text, and isn't printed
unfoldable pub asm_fault_text : AsmFault → List ℕ
asm_fault_text (asm.Line line kind) = codes ": asm line" ++ spaced line ++ asm_kind_text kind
asm_fault_text asm.Memory = codes ": no memory\n"

-- status 12: the first refused line of the text for `asm`, by its number
abbrev pub asm_fault_line : List ℕ → AsmFault → List ℕ
asm_fault_line name fault = codes "ibex: " ++ name ++ asm_fault_text fault
