-- Dummy instructions: what cpuctrl tells their unit, what they cost, and what an event leaves of the unit. Our own
-- rule.
use Rattle.std.specs.Prelude.{ℕ, ◌/◌, Bool, true, not, ◌==◌, if◌then◌else◌, Option, Some, bit_and}
use Rattle.ibx_isa.specs.declared.insn.Insn.{Insn}
use Rattle.ibx_isa.specs.declared.insn.Insn.TheVariants.{Csr}
use Rattle.ibx_isa.specs.declared.insn.MdOp.TheVariants.{Mul, Div}
use Rattle.ibx_isa.specs.declared.insn.MulKind.{MulKind}
use Rattle.ibx_isa.specs.declared.event.View.{View}
use Rattle.ibx_isa.specs.Cost.{md_cost_of}
use Rattle.ibx_decoder.specs.Instructions.{instruction_of}
use Rattle.ibx_dummy.specs.declared.unit.Dummy.{Dummy}
use Rattle.ibx_dummy.specs.Dummies.{is_due, counted_by, seeded}
use Rattle.ibx_time.specs.Controls.{Ctl}
use Rattle.ibx_isa.specs.ControlBits.{dummy_instr_en, dummy_instr_mask}

-- dummies come, and with this mask of their distance
abbrev pub enables_dummies : Ctl → Bool
enables_dummies c = not (bit_and c.cpuctrl dummy_instr_en == 0)

-- dummy_instr_mask, bits 5:3 of cpuctrl
abbrev pub dummy_mask : Ctl → ℕ
dummy_mask c = bit_and c.cpuctrl dummy_instr_mask / 8

-- whether a dummy is due under what cpuctrl sets
abbrev pub is_due_in : Ctl → Dummy → Bool
is_due_in c d = is_due (enables_dummies c) (dummy_mask c) d

-- a real instruction is admitted; a count of 31 is due under every threshold, so the count never passes 31
abbrev pub counted_in : Ctl → Dummy → Dummy
counted_in c d = counted_by (enables_dummies c) d

-- a dummy always takes the fixed cost
unfoldable pub dummy_cost : MulKind → ℕ → ℕ
dummy_cost mul kind =
    if kind == 1 then md_cost_of Mul 0 true mul else
    if kind == 2 then md_cost_of Div 0 true mul else
    0

-- a retired write of secureseed
abbrev pub seed_by : Dummy → Option Insn → Option ℕ → Dummy
seed_by d (Some (Csr op rd src imm addr)) (Some value) = if addr == 0x7c1 then seeded value d else d
seed_by d insn written = d

-- the dummies after an event with this view: only a retired instruction may seed them
abbrev pub dummies_after : Dummy → View → Dummy
dummies_after d v = if v.kind == 0 then seed_by d (instruction_of v.word) v.ctl else d
