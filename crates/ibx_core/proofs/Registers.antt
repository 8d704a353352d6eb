-- The registers that are read are among the 32, whatever the stage's fields are.
use Rattle.std.proofs.Common.{ℕ, ◌<◌, Bool, true, false, List, [], ◌∷◌, Option, Some, None, cond, arith, lit<}
use Rattle.std.specs.Prelude.{IfSome, ◌&&◌, ◌==◌, nat_lt}
use Rattle.std.specs.Option.{option_and_then}
use Rattle.ibx_isa.specs.declared.insn.Insn.{Insn}
use Rattle.ibx_isa.specs.Lengths.{is_long}
use Rattle.ibx_isa.specs.Sources.{source1, source2}
use Rattle.ibx_decoder.specs.Table.{Row}
use Rattle.ibx_decoder.specs.Rows.{decode_of, rows, rs1, rs2}
use Rattle.ibx_decoder.specs.Compressed.{expand_of}
use Rattle.ibx_decoder.specs.Instructions.{instruction_of}
use Rattle.ibx_decoder.proofs.OneRow.{AllGive, given}
use Rattle.ibx_id.specs.declared.stage.IdState.{IdState}
use Rattle.ibx_core.specs.Sights.{ra_of, rb_of, read_by, row_of, stage_word}

-- both sources of an instruction are registers
abbrev pub AreRegisters : Insn → Type 0
AreRegisters insn = (source1 insn < 32) × (source2 insn < 32)

-- what each row of a table gives for a word
abbrev AllAre : ℕ → (Insn → Type 0) → List (Row Insn) → Type 0
AllAre w P [] = Unit {0}
AllAre w P (r ∷ rs) = P (r.gives w) × AllAre w P rs

-- it is given where the row fits
all_give : (w : ℕ) (P : Insn → Type 0) (rs : List (Row Insn)) → AllAre w P rs → AllGive w P rs
all_give w P [] h = tt
all_give w P (r ∷ rs) h = (λ fits. h.0, all_give w P rs h.1)

-- each row of the table reads registers
rows_are : (w : ℕ) → AllAre w AreRegisters rows
rows_are w =
    let a : rs1 w < 32 = omega arith in
    let b : rs2 w < 32 = omega arith in
    let z : 0 < 32 = lit< tt in
    assumption (a, b, z)

-- so does the instruction of a word
decoded : (w : ℕ) → IfSome (decode_of w) AreRegisters
unfolding decode_of
decoded w = given w AreRegisters rows (all_give w AreRegisters rows (rows_are w))

-- and that of a halfword
expanded : (o : Option ℕ) → IfSome (option_and_then decode_of o) AreRegisters
expanded None = tt
expanded (Some w) = decoded w

-- by the length
by_length : (long : Bool) (w : ℕ)
    → IfSome (cond long (decode_of w) (option_and_then decode_of (expand_of w))) AreRegisters
by_length true w = decoded w
by_length false w = expanded (expand_of w)

-- the instruction as fetched
fetched : (w : ℕ) → IfSome (instruction_of w) AreRegisters
unfolding instruction_of
fetched w = by_length (is_long w) w

-- a row that there may be
row_if : (sound : Bool) (o : Option Insn) → IfSome o AreRegisters → IfSome (cond sound o None) AreRegisters
row_if true o h = h
row_if false o h = tt

-- the row of the stage
row_registers : (st : IdState) → IfSome (row_of st) AreRegisters
unfolding row_of
row_registers st = row_if (st.valid && nat_lt st.kind 2 && st.fault == 0) (instruction_of (stage_word st))
    (fetched (stage_word st))

-- rs1, where the row reads one
first_by : (early : Bool) (o : Option Insn) → IfSome o AreRegisters → read_by source1 early o < 32
first_by true (Some insn) h = h.0
first_by true None h = lit< tt
first_by false o h = lit< tt

-- rs2, where the row reads one
second_by : (early : Bool) (o : Option Insn) → IfSome o AreRegisters → read_by source2 early o < 32
second_by true (Some insn) h = h.1
second_by true None h = lit< tt
second_by false o h = lit< tt

-- the first register that is read
pub first_register : (st : IdState) → ra_of st < 32
unfolding ra_of
first_register st = first_by (nat_lt st.phase 4) (row_of st) (row_registers st)

-- the second register that is read
pub second_register : (st : IdState) → rb_of st < 32
unfolding rb_of
second_register st = second_by (nat_lt st.phase 4) (row_of st) (row_registers st)
