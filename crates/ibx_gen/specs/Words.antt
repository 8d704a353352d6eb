-- The firmware that a number gives, word by word. Our own rule, in the formats of the Unprivileged ISA, 2.2 and 2.3.
use Rattle.std.specs.Prelude.{ℕ, zero, suc, ◌+◌, ◌*◌, ◌^◌, List, [], ◌∷◌, ◌++◌, slice_index}
use Rattle.std.specs.List.{flat_map}
use Rattle.ibx_bits.specs.Bytes.{bits_at}
use Rattle.ibx_gen.specs.Draws.{draw_of}
use Rattle.ibx_wrap.specs.Wrapped.{word, wrapped}

-- an instruction by its fields, from the highest
abbrev pub r_type : ℕ → ℕ → ℕ → ℕ → ℕ → ℕ → ℕ
r_type funct7 rs2 rs1 funct3 rd opcode =
    funct7 * 2 ^ 25 + rs2 * 2 ^ 20 + rs1 * 2 ^ 15 + funct3 * 2 ^ 12 + rd * 2 ^ 7 + opcode

-- with an immediate of 12 bits
abbrev pub i_type : ℕ → ℕ → ℕ → ℕ → ℕ → ℕ
i_type imm rs1 funct3 rd opcode = imm * 2 ^ 20 + rs1 * 2 ^ 15 + funct3 * 2 ^ 12 + rd * 2 ^ 7 + opcode

-- with one whose bits 11:5 and 4:0 stand apart
abbrev pub s_type : ℕ → ℕ → ℕ → ℕ → ℕ → ℕ
s_type imm rs2 rs1 funct3 opcode = r_type (bits_at imm 5 7) rs2 rs1 funct3 (bits_at imm 0 5) opcode

-- with one of 13 bits, of which bit 0 is 0: bits 12, 10:5, 4:1 and 11 stand in this order
abbrev pub b_type : ℕ → ℕ → ℕ → ℕ → ℕ → ℕ
b_type imm rs2 rs1 funct3 opcode =
    r_type (bits_at imm 12 1 * 2 ^ 6 + bits_at imm 5 6) rs2 rs1 funct3 (bits_at imm 1 4 * 2 + bits_at imm 11 1) opcode

-- with bits 31:12 of an immediate of 32 bits
abbrev pub u_type : ℕ → ℕ → ℕ → ℕ
u_type upper rd opcode = upper * 2 ^ 12 + rd * 2 ^ 7 + opcode

-- what a draw chooses: registers from x8 to x15, an operation, and the offset of an access, below 2,048
abbrev pub result_of : ℕ → ℕ
result_of x = 8 + bits_at x 8 3

-- the first source register, by bits 13:11 of the draw
abbrev pub first_of : ℕ → ℕ
first_of x = 8 + bits_at x 11 3

-- the second source register, by bits 16:14
abbrev pub second_of : ℕ → ℕ
second_of x = 8 + bits_at x 14 3

-- funct3 of an operation with registers, bits 5:3
abbrev pub operation_of : ℕ → ℕ
operation_of x = bits_at x 3 3

-- the offset of a load or store, bits 30:20, so never negative
abbrev pub offset_of : ℕ → ℕ
offset_of x = bits_at x 20 11

-- the body words that a draw can give, by its bits 2:0
abbrev pub choices : ℕ → List ℕ
choices x =
    i_type (bits_at x 20 12) (first_of x) 0 (result_of x) 0x13  -- ADDI rd, a, bits 31:20
    ∷ r_type 1 (second_of x) (first_of x) (operation_of x) (result_of x) 0x33  -- MUL to REMU rd, a, b
    ∷ r_type 0 (second_of x) (first_of x) (operation_of x) (result_of x) 0x33  -- ADD to AND rd, a, b
    ∷ u_type (bits_at x 12 20) (result_of x) 0x37  -- LUI rd, bits 31:12
    ∷ i_type (offset_of x) 5 2 (result_of x) 0x03  -- LW rd, offset(x5)
    ∷ s_type (offset_of x) (second_of x) 5 2 0x23  -- SW b, offset(x5)
    ∷ b_type 8 (second_of x) (first_of x) 1 0x63  -- BNE a, b, 8
    ∷ r_type 0x20 (second_of x) (first_of x) 0 (result_of x) 0x33  -- SUB rd, a, b
    ∷ []

-- the body word of a draw
unfoldable pub body_word : ℕ → ℕ
body_word x = slice_index (choices x) (bits_at x 0 3)

-- the body words of the first n draws
unfoldable pub body : ℕ → ℕ → List ℕ
body seed zero = []
body seed (suc n) = body seed n ++ body_word (draw_of seed (suc n)) ∷ []

-- before the body: the address of its data, and how often it runs
abbrev pub opening : List ℕ
opening =
    0x001102b7  -- lui x5, 0x110
    ∷ 0x01000213  -- addi x4, x0, 16
    ∷ []

-- after it: the next turn, or the end of the run
abbrev pub closing : List ℕ
closing =
    0x00000013  -- addi x0, x0, 0
    ∷ 0xfff20213  -- addi x4, x4, -1
    ∷ 0x00020463  -- beq x4, x0, 8
    ∷ 0xff5fb06f  -- jal x0, -16396
    ∷ 0x00020337  -- lui x6, 0x20
    ∷ 0x00100393  -- addi x7, x0, 1
    ∷ 0x00732423  -- sw x7, 8(x6)
    ∷ []

-- the program's 4,105 words
unfoldable pub program : ℕ → List ℕ
program seed = opening ++ body seed 4096 ++ closing

-- their bytes, the lowest of each first
abbrev pub bytes_of : List ℕ → List ℕ
bytes_of words = flat_map word words

-- the file that a number gives
unfoldable pub generated : ℕ → List ℕ
generated seed = wrapped (bytes_of (program seed))
