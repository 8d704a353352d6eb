-- What of an event may decide the time that it takes (this core's own rule).
use Rattle.std.specs.Prelude.{ℕ, ◌||◌, ◌==◌, if◌then◌else◌, Option, Some, None}
use Rattle.ibx_isa.specs.Causes.{load_fault, store_fault}
use Rattle.ibx_isa.specs.declared.event.Access.{Access}
use Rattle.ibx_isa.specs.declared.event.Event.{Event}
use Rattle.ibx_isa.specs.declared.event.Event.TheVariants.{Retire, Trap, Irq}
use Rattle.ibx_isa.specs.declared.event.View.{View}

-- the address of an access, where there is one
abbrev pub access_addr : Option Access → Option ℕ
access_addr None = None
access_addr (Some access) = Some access.addr

-- the access faults of a load and of a store
abbrev pub fault_addr : ℕ → ℕ → Option ℕ
fault_addr cause addr = if cause == load_fault || cause == store_fault then Some addr else None

-- the view of an event: no cycle, and no value that was loaded, stored or computed
unfoldable pub view_of : Event → View
view_of (Retire cycle pc word rd value mem ctl ops) =
    record { kind = 0; pc = pc; word = word; addr = access_addr mem; ctl = ctl; ops = ops; cause = 0; tval = 0 }
view_of (Trap cycle pc word cause tval addr) =
    record {
      kind = 1;
      pc = pc;
      word = word;
      addr = fault_addr cause addr;
      ctl = None;
      ops = None;
      cause = cause;
      tval = tval;
    }
view_of (Irq cycle pc cause) =
    record { kind = 2; pc = pc; word = 0; addr = None; ctl = None; ops = None; cause = cause; tval = 0 }
