-- What the core's fields show of the item in its stage and of what the events left. Our own rule.
use Rattle.std.specs.Prelude.{Option, Some, None, if◌then◌else◌}
use Rattle.ibx_csr.specs.Fields.{values}
use Rattle.ibx_id.specs.declared.stage.IdState.{IdState}
use Rattle.ibx_time.specs.Shown.{Shown, Staged}
use Rattle.ibx_core.specs.declared.state.State.{State as Core}

-- the item in the stage with its kind, program counter and word, where one is there
abbrev pub staged_in : IdState → Option Staged
staged_in id = if id.valid then Some (record { kind = id.kind; pc = id.pc; word = id.word }) else None

-- what the core's fields show
abbrev pub shown_in : Core → Shown
shown_in x = record {
  stage = staged_in x.id;
  f_addr = x.fetch.f_addr;
  next_pc = x.next_pc;
  csrs = values x.csrs;
  dummies = x.dummies;
}
