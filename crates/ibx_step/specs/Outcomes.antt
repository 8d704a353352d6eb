-- The view of an instruction, by how it ended.
use Rattle.std.specs.Prelude.{ℕ, Option, None}
use Rattle.ibx_arch.specs.declared.done.Done.{Done}
use Rattle.ibx_arch.specs.declared.done.Done.TheVariants.{Retires, Traps}
use Rattle.ibx_isa.specs.declared.event.View.{View}
use Rattle.ibx_isa.specs.Views.{access_addr, fault_addr}

-- what of its event may decide the time that it takes
abbrev pub view_by : ℕ → ℕ → Option (ℕ × ℕ) → Done → View
view_by pc word ops (Retires r) =
    record { kind = 0; pc = pc; word = word; addr = access_addr r.mem; ctl = r.ctl; ops = ops; cause = 0; tval = 0 }
view_by pc word ops (Traps cause tval addr) =
    record {
      kind = 1;
      pc = pc;
      word = word;
      addr = fault_addr cause addr;
      ctl = None;
      ops = None;
      cause = cause;
      tval = tval;
    }
