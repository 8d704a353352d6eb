-- The named parts of the machine, each with its width in bits. A part's number is its place in its table.
-- The names and the numbers are our own; the names of CSRs are those of the RISC-V Privileged Architecture, 2.2.
use Rattle.std.specs.Prelude.{ℕ, List, [], ◌∷◌, Option, codes, map, slice_index}
use Rattle.std.specs.List.{position}
use Rattle.std.specs.Str.{bytes_eq}

-- the fields of the core
unfoldable pub fields : List (List ℕ × ℕ)
fields =
    (codes "f_busy", 1) ∷ (codes "f_fresh", 1) ∷ (codes "f_drop", 1) ∷ (codes "f_addr", 32) ∷
    (codes "buf0", 33) ∷ (codes "buf1", 33) ∷ (codes "buf2", 33) ∷ (codes "buf_count", 2) ∷
    (codes "head_pc", 32) ∷ (codes "c_state", 4) ∷ (codes "c_addr", 32) ∷ (codes "c_word0", 33) ∷
    (codes "c_word1", 33) ∷ (codes "c_way", 1) ∷ (codes "c_alt", 1) ∷ (codes "c_walk", 9) ∷
    (codes "c_nostore", 1) ∷ (codes "id_valid", 1) ∷ (codes "id_kind", 2) ∷ (codes "id_pc", 32) ∷
    (codes "id_word", 32) ∷ (codes "id_fault", 2) ∷ (codes "id_phase", 3) ∷ (codes "id_count", 6) ∷
    (codes "md_a", 64) ∷ (codes "md_b", 64) ∷ (codes "md_acc", 64) ∷ (codes "ls_state", 3) ∷
    (codes "ls_first", 32) ∷ (codes "lfsr", 32) ∷ (codes "dcount", 5) ∷ (codes "next_pc", 32) ∷
    (codes "priv", 1) ∷ (codes "mstatus", 32) ∷ (codes "mie", 32) ∷ (codes "mtvec", 32) ∷
    (codes "mscratch", 32) ∷ (codes "mepc", 32) ∷ (codes "mcause", 32) ∷ (codes "mtval", 32) ∷
    (codes "cpuctrl", 32) ∷ (codes "mcountinhibit", 32) ∷ (codes "mcycle", 64) ∷ (codes "minstret", 64) ∷
    (codes "pmpcfg0", 32) ∷ (codes "pmpcfg1", 32) ∷ (codes "pmpcfg2", 32) ∷ (codes "pmpcfg3", 32) ∷
    (codes "pmpaddr0", 32) ∷ (codes "pmpaddr1", 32) ∷ (codes "pmpaddr2", 32) ∷ (codes "pmpaddr3", 32) ∷
    (codes "pmpaddr4", 32) ∷ (codes "pmpaddr5", 32) ∷ (codes "pmpaddr6", 32) ∷ (codes "pmpaddr7", 32) ∷
    (codes "pmpaddr8", 32) ∷ (codes "pmpaddr9", 32) ∷ (codes "pmpaddr10", 32) ∷ (codes "pmpaddr11", 32) ∷
    (codes "pmpaddr12", 32) ∷ (codes "pmpaddr13", 32) ∷ (codes "pmpaddr14", 32) ∷ (codes "pmpaddr15", 32) ∷
    (codes "mstatus_n", 32) ∷ (codes "mtvec_n", 32) ∷ (codes "cpuctrl_n", 32) ∷ (codes "pmpcfg0_n", 32) ∷
    (codes "pmpcfg1_n", 32) ∷ (codes "pmpcfg2_n", 32) ∷ (codes "pmpcfg3_n", 32) ∷ (codes "pmpaddr0_n", 32) ∷
    (codes "pmpaddr1_n", 32) ∷ (codes "pmpaddr2_n", 32) ∷ (codes "pmpaddr3_n", 32) ∷ (codes "pmpaddr4_n", 32) ∷
    (codes "pmpaddr5_n", 32) ∷ (codes "pmpaddr6_n", 32) ∷ (codes "pmpaddr7_n", 32) ∷ (codes "pmpaddr8_n", 32) ∷
    (codes "pmpaddr9_n", 32) ∷ (codes "pmpaddr10_n", 32) ∷ (codes "pmpaddr11_n", 32) ∷
    (codes "pmpaddr12_n", 32) ∷ (codes "pmpaddr13_n", 32) ∷ (codes "pmpaddr14_n", 32) ∷
    (codes "pmpaddr15_n", 32) ∷ (codes "mseccfg", 32) ∷ (codes "mseccfg_n", 32) ∷ []

-- the inputs of the core, its outputs, the age of the delayed pairs, and whether the cycle before found a difference
unfoldable pub wires : List (List ℕ × ℕ)
wires =
    (codes "irsp_valid", 1) ∷ (codes "irsp_err", 1) ∷ (codes "irsp_word", 39) ∷ (codes "drsp_valid", 1) ∷
    (codes "drsp_err", 1) ∷ (codes "drsp_word", 39) ∷ (codes "igrant", 1) ∷ (codes "dgrant", 1) ∷
    (codes "rega", 39) ∷ (codes "regb", 39) ∷ (codes "tag0", 28) ∷ (codes "tag1", 28) ∷ (codes "data0", 39) ∷
    (codes "data1", 39) ∷ (codes "lines", 32) ∷ (codes "mul", 2) ∷ (codes "ireq", 1) ∷ (codes "iaddr", 32) ∷
    (codes "dreq", 1) ∷ (codes "dwe", 1) ∷ (codes "dbe", 4) ∷ (codes "daddr", 32) ∷ (codes "dword", 39) ∷
    (codes "ra", 5) ∷ (codes "rb", 5) ∷ (codes "rw", 1) ∷ (codes "rwn", 5) ∷ (codes "rwword", 39) ∷
    (codes "line", 32) ∷ (codes "tways", 2) ∷ (codes "tset", 8) ∷ (codes "tword", 28) ∷ (codes "dways", 2) ∷
    (codes "dw0", 39) ∷ (codes "dw1", 39) ∷ (codes "alerts", 3) ∷ (codes "age", 3) ∷
    (codes "told", 1) ∷ []

-- the words that the register file, the tag rows and the data rows hand to the core
unfoldable pub outputs : List (List ℕ × ℕ)
outputs =
    (codes "rega", 39) ∷ (codes "regb", 39) ∷ (codes "tag0", 28) ∷ (codes "tag1", 28) ∷ (codes "data0", 39) ∷
    (codes "data1", 39) ∷ []

-- the number of the part of this name, none where no part has it
abbrev pub number_named : List (List ℕ × ℕ) → List ℕ → Option ℕ
number_named table name = position (λ row. bytes_eq row.0 name) table

-- the width of the part of this number, 0 past the table
abbrev pub width_in : List (List ℕ × ℕ) → ℕ → ℕ
width_in table number = slice_index (map (λ row. row.1) table) number
