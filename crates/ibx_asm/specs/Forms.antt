-- The operands of each form of instruction, in the order in which they are written: our own syntax, after the usual
-- RISC-V assembly.
use Rattle.std.specs.Prelude.{List, [], ◌∷◌}
use Rattle.ibx_asm.specs.declared.fields.Field.TheVariants as field
use Rattle.ibx_asm.specs.declared.slot.Form.{Form}
use Rattle.ibx_asm.specs.declared.slot.Form.TheVariants as form
use Rattle.ibx_asm.specs.declared.slot.Place.TheVariants as place
use Rattle.ibx_asm.specs.declared.slot.Slot.{Slot}
use Rattle.ibx_asm.specs.declared.slot.Slot.TheVariants as slot

-- `,`, `(` and `)`
abbrev pub comma : Slot
comma = slot.Comma

-- `(`, before the base register of an access
abbrev pub opening : Slot
opening = slot.Opening

-- `)`, after the base register
abbrev pub closing : Slot
closing = slot.Closing

-- registers of a 32-bit instruction, at bits 11:7, 19:15 and 24:20
abbrev pub rd : Slot
rd = slot.Register place.Rd

-- the first source register, at bits 19:15
abbrev pub rs1 : Slot
rs1 = slot.Register place.Rs1

-- the second source register, at bits 24:20
abbrev pub rs2 : Slot
rs2 = slot.Register place.Rs2

-- registers of a compressed instruction, at bits 11:7 and 6:2, and x8 to x15 at bits 9:7 and 4:2
abbrev pub wide : Slot
wide = slot.Register place.Rd

-- any of the 32 registers at bits 6:2, which C.SWSP stores
abbrev pub source : Slot
source = slot.Register place.ShortRs2

-- x8 to x15 at bits 9:7, the higher of the two short places
abbrev pub high : Slot
high = slot.ShortRegister place.Rd

-- x8 to x15 at bits 4:2, the lower one
abbrev pub low : Slot
low = slot.ShortRegister place.ShortRs2

-- the operands of a form
unfoldable pub slots_of : Form → List Slot
slots_of form.Bare = []
slots_of form.ShortBare = []
slots_of form.Fence = []
slots_of form.Upper = rd ∷ comma ∷ slot.Number field.U ∷ []
slots_of form.Jump = rd ∷ comma ∷ slot.Target field.J ∷ []
slots_of form.Load = rd ∷ comma ∷ slot.Number field.I ∷ opening ∷ rs1 ∷ closing ∷ []
slots_of form.Store = rs2 ∷ comma ∷ slot.Number field.S ∷ opening ∷ rs1 ∷ closing ∷ []
slots_of form.Branch = rs1 ∷ comma ∷ rs2 ∷ comma ∷ slot.Target field.B ∷ []
slots_of form.Immediate = rd ∷ comma ∷ rs1 ∷ comma ∷ slot.Number field.I ∷ []
slots_of form.Shift = rd ∷ comma ∷ rs1 ∷ comma ∷ slot.Number field.Shift ∷ []
slots_of form.Registers = rd ∷ comma ∷ rs1 ∷ comma ∷ rs2 ∷ []
slots_of form.Csr = rd ∷ comma ∷ slot.Number field.Csr ∷ comma ∷ rs1 ∷ []
slots_of form.CsrNumber = rd ∷ comma ∷ slot.Number field.Csr ∷ comma ∷ slot.Number field.Source ∷ []
slots_of form.StackAddress = low ∷ comma ∷ slot.Number field.StackAddress ∷ []
slots_of form.ShortAccess = low ∷ comma ∷ slot.Number field.ShortOffset ∷ opening ∷ high ∷ closing ∷ []
slots_of form.Six = wide ∷ comma ∷ slot.Number field.Six ∷ []
slots_of form.ShortUpper = slot.RegisterBut place.Rd 2 ∷ comma ∷ slot.Number field.Upper ∷ []
slots_of form.WideShift = wide ∷ comma ∷ slot.Number field.ShortShift ∷ []
slots_of form.StackLoad = slot.RegisterBut place.Rd 0 ∷ comma ∷ slot.Number field.StackLoad ∷ []
slots_of form.StackStore = source ∷ comma ∷ slot.Number field.StackStore ∷ []
slots_of form.HighShift = high ∷ comma ∷ slot.Number field.ShortShift ∷ []
slots_of form.HighSix = high ∷ comma ∷ slot.Number field.Six ∷ []
slots_of form.HighLow = high ∷ comma ∷ low ∷ []
slots_of form.ShortBranch = high ∷ comma ∷ slot.Target field.ShortBranch ∷ []
slots_of form.ShortJump = slot.Target field.ShortJump ∷ []
slots_of form.StackAdjust = slot.Number field.StackAdjust ∷ []
slots_of form.JumpRegister = slot.RegisterBut place.Rd 0 ∷ []
slots_of form.Pair = wide ∷ comma ∷ slot.RegisterBut place.ShortRs2 0 ∷ []
slots_of form.Word = slot.Number field.Word ∷ []
slots_of form.Half = slot.Number field.Half ∷ []
slots_of form.Byte = slot.Number field.Byte ∷ []
