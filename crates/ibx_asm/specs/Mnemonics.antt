-- The mnemonics beside the rows of the instruction set: each instruction's word with all its operands 0, its length and
-- its form.
-- 32-bit instructions: RISC-V Unprivileged ISA, 24, and Privileged ISA, 3.3; compressed ones: 16.8. The directives are
-- our own.
use Rattle.std.specs.Prelude.{ℕ, List, [], ◌∷◌, ◌++◌, codes, Option}
use Rattle.std.specs.List.{find}
use Rattle.std.specs.Option.{option_map}
use Rattle.std.specs.Str.{bytes_eq}
use Rattle.ibx_asm.specs.declared.rows.Encoding.{Encoding}
use Rattle.ibx_asm.specs.declared.slot.Form.{Form}
use Rattle.ibx_asm.specs.declared.slot.Form.TheVariants as form

-- an instruction of 4 bytes, and one of 2
abbrev pub long : ℕ → Form → Encoding
long word f = record { word = word; size = 4; form = f }

-- an encoding of 2 bytes: a compressed instruction, or a halfword of data
abbrev pub short : ℕ → Form → Encoding
short half f = record { word = half; size = 2; form = f }

-- in the order of the decoder's rows
abbrev pub instructions : List (List ℕ × Encoding)
instructions =
    -- LUI, AUIPC, JAL, JALR
    (codes "lui", long 0x00000037 form.Upper) ∷ (codes "auipc", long 0x00000017 form.Upper) ∷
    (codes "jal", long 0x0000006f form.Jump) ∷ (codes "jalr", long 0x00000067 form.Load) ∷
    -- branches
    (codes "beq", long 0x00000063 form.Branch) ∷ (codes "bne", long 0x00001063 form.Branch) ∷
    (codes "blt", long 0x00004063 form.Branch) ∷ (codes "bge", long 0x00005063 form.Branch) ∷
    (codes "bltu", long 0x00006063 form.Branch) ∷ (codes "bgeu", long 0x00007063 form.Branch) ∷
    -- loads and stores
    (codes "lb", long 0x00000003 form.Load) ∷ (codes "lh", long 0x00001003 form.Load) ∷
    (codes "lw", long 0x00002003 form.Load) ∷ (codes "lbu", long 0x00004003 form.Load) ∷
    (codes "lhu", long 0x00005003 form.Load) ∷ (codes "sb", long 0x00000023 form.Store) ∷
    (codes "sh", long 0x00001023 form.Store) ∷ (codes "sw", long 0x00002023 form.Store) ∷
    -- operations with an immediate
    (codes "addi", long 0x00000013 form.Immediate) ∷ (codes "slti", long 0x00002013 form.Immediate) ∷
    (codes "sltiu", long 0x00003013 form.Immediate) ∷ (codes "xori", long 0x00004013 form.Immediate) ∷
    (codes "ori", long 0x00006013 form.Immediate) ∷ (codes "andi", long 0x00007013 form.Immediate) ∷
    (codes "slli", long 0x00001013 form.Shift) ∷ (codes "srli", long 0x00005013 form.Shift) ∷
    (codes "srai", long 0x40005013 form.Shift) ∷
    -- operations with registers
    (codes "add", long 0x00000033 form.Registers) ∷ (codes "sub", long 0x40000033 form.Registers) ∷
    (codes "sll", long 0x00001033 form.Registers) ∷ (codes "slt", long 0x00002033 form.Registers) ∷
    (codes "sltu", long 0x00003033 form.Registers) ∷ (codes "xor", long 0x00004033 form.Registers) ∷
    (codes "srl", long 0x00005033 form.Registers) ∷ (codes "sra", long 0x40005033 form.Registers) ∷
    (codes "or", long 0x00006033 form.Registers) ∷ (codes "and", long 0x00007033 form.Registers) ∷
    -- multiplications and divisions
    (codes "mul", long 0x02000033 form.Registers) ∷ (codes "mulh", long 0x02001033 form.Registers) ∷
    (codes "mulhsu", long 0x02002033 form.Registers) ∷ (codes "mulhu", long 0x02003033 form.Registers) ∷
    (codes "div", long 0x02004033 form.Registers) ∷ (codes "divu", long 0x02005033 form.Registers) ∷
    (codes "rem", long 0x02006033 form.Registers) ∷ (codes "remu", long 0x02007033 form.Registers) ∷
    -- FENCE iorw, iorw and FENCE.I
    (codes "fence", long 0x0ff0000f form.Fence) ∷ (codes "fence.i", long 0x0000100f form.Fence) ∷
    -- CSR instructions
    (codes "csrrw", long 0x00001073 form.Csr) ∷ (codes "csrrs", long 0x00002073 form.Csr) ∷
    (codes "csrrc", long 0x00003073 form.Csr) ∷ (codes "csrrwi", long 0x00005073 form.CsrNumber) ∷
    (codes "csrrsi", long 0x00006073 form.CsrNumber) ∷ (codes "csrrci", long 0x00007073 form.CsrNumber) ∷
    -- ECALL, EBREAK, MRET, WFI
    (codes "ecall", long 0x00000073 form.Bare) ∷ (codes "ebreak", long 0x00100073 form.Bare) ∷
    (codes "mret", long 0x30200073 form.Bare) ∷ (codes "wfi", long 0x10500073 form.Bare) ∷
    -- compressed instructions, in the order of their quadrants and numbers
    (codes "c.addi4spn", short 0x0000 form.StackAddress) ∷ (codes "c.lw", short 0x4000 form.ShortAccess) ∷
    (codes "c.sw", short 0xc000 form.ShortAccess) ∷ (codes "c.addi", short 0x0001 form.Six) ∷
    (codes "c.jal", short 0x2001 form.ShortJump) ∷ (codes "c.li", short 0x4001 form.Six) ∷
    (codes "c.addi16sp", short 0x6101 form.StackAdjust) ∷ (codes "c.lui", short 0x6001 form.ShortUpper) ∷
    (codes "c.srli", short 0x8001 form.HighShift) ∷ (codes "c.srai", short 0x8401 form.HighShift) ∷
    (codes "c.andi", short 0x8801 form.HighSix) ∷ (codes "c.sub", short 0x8c01 form.HighLow) ∷
    (codes "c.xor", short 0x8c21 form.HighLow) ∷ (codes "c.or", short 0x8c41 form.HighLow) ∷
    (codes "c.and", short 0x8c61 form.HighLow) ∷ (codes "c.j", short 0xa001 form.ShortJump) ∷
    (codes "c.beqz", short 0xc001 form.ShortBranch) ∷ (codes "c.bnez", short 0xe001 form.ShortBranch) ∷
    (codes "c.slli", short 0x0002 form.WideShift) ∷ (codes "c.lwsp", short 0x4002 form.StackLoad) ∷
    (codes "c.jr", short 0x8002 form.JumpRegister) ∷ (codes "c.mv", short 0x8002 form.Pair) ∷
    (codes "c.ebreak", short 0x9002 form.ShortBare) ∷ (codes "c.jalr", short 0x9002 form.JumpRegister) ∷
    (codes "c.add", short 0x9002 form.Pair) ∷ (codes "c.swsp", short 0xc002 form.StackStore) ∷ []

-- words, halfwords and bytes of data
abbrev pub directives : List (List ℕ × Encoding)
directives =
    (codes ".word", long 0 form.Word) ∷ (codes ".half", short 0 form.Half) ∷
    (codes ".byte", record { word = 0; size = 1; form = form.Byte }) ∷ []

-- all that a line may begin with
abbrev pub rows : List (List ℕ × Encoding)
rows = instructions ++ directives

-- the instruction of a mnemonic
unfoldable pub encoding_of : List ℕ → Option Encoding
encoding_of name = option_map (λ row. row.1) (find (λ row. bytes_eq row.0 name) rows)
