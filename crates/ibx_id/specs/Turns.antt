-- What the stage does in a cycle. Our own rule.
use Rattle.std.specs.Prelude.{ℕ, ◌+◌, ◌^◌, ◌<◌, Bool, true, false, not, ◌||◌, ◌==◌, nat_le, nat_lt, if◌then◌else◌}
use Rattle.std.specs.Prelude.{Option, Some, None}
use Rattle.ibx_isa.specs.declared.insn.Insn.{Insn}
use Rattle.ibx_isa.specs.declared.insn.Insn.TheVariants.{Jal, Jalr, Branch, Load, Store, FenceI, Mret, Wfi}
use Rattle.ibx_isa.specs.Alu.{branch_of}
use Rattle.ibx_id.specs.declared.stage.IdState.{IdState}
use Rattle.ibx_id.specs.declared.stage.IdIn.{IdIn}
use Rattle.ibx_id.specs.declared.stage.Turn.{Turn}
use Rattle.ibx_id.specs.declared.stage.Turn.TheVariants.{Idle, Hold, Retire, Trap, Irq, Dummy}

-- the fields have 1, 2, 32, 32, 2, 3 and 6 bits
pub record IsWithinWidths (st : IdState) : Type 0 where
  pub kind : st.kind < 2 ^ 2
  pub pc : st.pc < 2 ^ 32
  pub word : st.word < 2 ^ 32
  pub fault : st.fault < 2 ^ 2
  pub phase : st.phase < 2 ^ 3
  pub count : st.count < 2 ^ 6

-- the fields with no item
abbrev pub empty_stage : IdState
empty_stage = record { valid = false; kind = 0; pc = 0; word = 0; fault = 0; phase = 0; count = 0 }

-- one cycle more in the stage, in this phase
abbrev pub held : ℕ → IdState → IdState
held phase st = record st { phase = phase; count = if nat_lt st.count 63 then st.count + 1 else 63 }

-- done that many cycles after the item entered, or held
abbrev pub ends_at : ℕ → Bool → IdState → Turn
ends_at cost redirect st = if nat_le cost st.count then Retire redirect else Hold (held 1 st)

-- a branch takes a cycle, and redirects, where it is taken or timing is fixed
abbrev pub branches : Bool → IdState → Turn
branches true st = ends_at 1 true st
branches false st = ends_at 0 false st

-- a real item in its first phases that neither fails nor traps, by its row
unfoldable pub worked : Option Insn → IdState → IdIn → Turn
worked (Some (Load op rd rs1 imm)) st i = if i.ls_done then Retire false else Hold (held 1 st)
worked (Some (Store size rs1 rs2 imm)) st i = if i.ls_done then Retire false else Hold (held 1 st)
worked (Some Wfi) st i = if i.wake then Retire false else Hold (held 1 st)
worked (Some (Branch op rs1 rs2 imm)) st i = branches (i.fixed || branch_of op i.a i.b) st
worked (Some Mret) st i = ends_at 1 true st
worked (Some (Jal rd imm)) st i = Retire true
worked (Some (Jalr rd rs1 imm)) st i = Retire true
worked (Some FenceI) st i = Retire true
worked insn st i = ends_at i.cost false st

-- whether the item brings a cause
abbrev pub is_some_cause : Option ℕ → Bool
is_some_cause (Some cause) = true
is_some_cause None = false

-- a real item: a portion that failed before a trap, and a trap before the rest
unfoldable pub real_turn : IdState → IdIn → Turn
real_turn st i =
    if st.phase == 2 then Trap 1 else
    if st.phase == 3 then Trap 2 else
    if nat_le 4 st.phase then Trap 0 else
    if i.ls_fault == 1 then Hold (held 2 st) else
    if i.ls_fault == 2 then Hold (held 3 st) else
    if is_some_cause i.trap then Hold (held 4 st) else
    worked i.insn st i

-- a cycle of the stage: empty, an interrupt, a dummy, or a real item
unfoldable pub turn_of : IdState → IdIn → Turn
turn_of st i =
    if not st.valid then Idle else
    if nat_le 2 st.kind then Irq else
    if st.kind == 1 then (if nat_le i.cost st.count || nat_le 2 st.phase then Dummy else Hold (held 1 st)) else
    real_turn st i
