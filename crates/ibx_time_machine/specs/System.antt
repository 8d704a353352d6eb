-- The system: the core, its words, memory and the ports; a step of it, and a run. Our own rule.
use Rattle.std.specs.Prelude.{ℕ, zero, suc, ◌+◌, ◌/◌, Bool, false, List, [], ◌∷◌, replicate, slice_index}
use Rattle.std.specs.Prelude.{Option, Some, None}
use Rattle.ibx_isa.specs.declared.bus.Req.{Req}
use Rattle.ibx_isa.specs.declared.event.Event.{Event}
use Rattle.ibx_isa.specs.declared.event.Event.TheVariants.{Retire, Trap, Irq}
use Rattle.ibx_secded.specs.Code.{encode_of}
use Rattle.ibx_csr.specs.Fields.{reset_of as csrs_reset}
use Rattle.ibx_elf.specs.Image.{Placed, image_word}
use Rattle.ibx_bus.specs.Memory.{MemoryState, memory_after}
use Rattle.ibx_bus.specs.Port.{PortState, answer_wires, grants, new_port, port_next}
use Rattle.ibx_lsu.specs.Turns.{idle_of as ls_idle}
use Rattle.ibx_muldiv.specs.Unit.{idle_of as md_idle}
use Rattle.ibx_time.specs.Settings.{Setup, settings_of, lines_in}
use Rattle.ibx_dummy.specs.Dummies.{dummies_reset}
use Rattle.ibx_time_machine.specs.Core.{Out, core_out_by}
use Rattle.ibx_prefetch.specs.Buffer.{fetch_reset}
use Rattle.ibx_icache.specs.WordPort.{reset_of as port_reset, looked}
use Rattle.ibx_id.specs.Turns.{empty_stage}
use Rattle.ibx_core.specs.declared.state.State.{State as Core}
use Rattle.ibx_core.specs.Sights.{ra_of, rb_of}
use Rattle.ibx_core.specs.Core.{Cycle, cycle_of, next_by}
use Rattle.ibx_time.specs.Runs.{with_event}
use Rattle.ibx_time_machine.specs.Words.{look_at, put_lines, put_reg, put_tags}
use Rattle.ibx_core.specs.Inputs.{Inputs}

-- the core, the register words, the cache's tags and data words, memory, both ports, and the number of the cycle
pub record System : Type 0 where
  pub main : Core
  pub regs : List ℕ
  pub tags : List ℕ
  pub lines : List ℕ
  pub mem : MemoryState
  pub iport : PortState
  pub dport : PortState
  pub cycle : ℕ

-- the core at reset: every unit is idle, the stage is empty, and fetching starts at the entry
abbrev pub core_reset : ℕ → Core
core_reset entry = record {
  fetch = fetch_reset entry;
  words = port_reset;
  id = empty_stage;
  md = md_idle;
  ls = ls_idle;
  dummies = dummies_reset;
  next_pc = entry;
  csrs = csrs_reset entry;
}

-- the words of RAM, from the base on
unfoldable pub image_words : Placed → ℕ → ℕ → List ℕ
image_words image addr zero = []
image_words image addr (suc n) = encode_of 32 7 (image_word image addr) ∷ image_words image (addr + 4) n

-- at reset: all registers, tags and lines are codewords of 0, RAM holds the image, and the ports follow the plan
unfoldable pub first_system : Setup → System
first_system s = record {
  main = core_reset s.image.entry;
  regs = replicate 32 0x2a00000000;
  tags = replicate 512 0xa800000;
  lines = replicate 1024 0x2a00000000;
  mem = record { base = s.image.ram.base; words = image_words s.image s.image.ram.base (s.image.ram.size / 4) };
  iport = new_port s.plan.iwaits;
  dport = new_port s.plan.dwaits;
  cycle = 0;
}

-- the wires into the core; the grants stay low until its requests are known
unfoldable pub in_of : Setup → System → Inputs
in_of s x = record {
  irsp = answer_wires x.iport;
  drsp = answer_wires x.dport;
  igrant = false;
  dgrant = false;
  rega = slice_index x.regs (ra_of x.main.id);
  regb = slice_index x.regs (rb_of x.main.id);
  look = look_at x.tags x.lines (looked x.main.words);
  lines = lines_in (settings_of s) x.cycle;
  mul = s.mul;
}

-- the ports take the wires, the instruction port first
unfoldable pub system_by : Cycle → Out → Inputs → System → System
system_by c o i x =
    let ig = grants o.fetch.valid x.iport in
    let dg = grants o.load_store.valid x.dport in
    record {
      main = next_by c x.main (record i { igrant = ig; dgrant = dg });
      regs = put_reg o.write x.regs;
      tags = put_tags o.filling x.tags;
      lines = put_lines o.filling x.lines;
      mem = memory_after dg (memory_after ig x.mem o.fetch) o.load_store;
      iport = port_next x.iport x.mem o.fetch;
      dport = port_next x.dport x.mem o.load_store;
      cycle = x.cycle + 1;
    }

-- the event with this cycle in place of what the core put there
abbrev pub at_cycle : ℕ → Event → Event
at_cycle c (Retire cycle pc word rd value mem ctl ops) = Retire c pc word rd value mem ctl ops
at_cycle c (Trap cycle pc word cause tval addr) = Trap c pc word cause tval addr
at_cycle c (Irq cycle pc cause) = Irq c pc cause

-- the same, where there is an event
abbrev pub happens_at : ℕ → Option Event → Option Event
happens_at c None = None
happens_at c (Some e) = Some (at_cycle c e)

-- what a step shows
pub record Shown : Type 0 where
  pub fetch : Req
  pub load_store : Req
  pub happens : Option Event
  pub alerts : Bool

-- both requests, the event with its cycle, and the alert, from the wires out
abbrev pub shown_by : Out → ℕ → Shown
shown_by o c =
    record { fetch = o.fetch; load_store = o.load_store; happens = happens_at c o.happens; alerts = o.alerts }

-- what the step of this system shows
unfoldable pub shown_of : Setup → System → Shown
shown_of s x = let i = in_of s x in shown_by (core_out_by (cycle_of x.main i) x.main i) x.cycle

-- the system after a step, by what the core does in it and the wires in
abbrev pub next_from : Cycle → Inputs → System → System
next_from c i x = system_by c (core_out_by c x.main i) i x

-- one step of the system, which is one cycle of the clock
unfoldable pub system_next : Setup → System → System
system_next s x = next_from (cycle_of x.main (in_of s x)) (in_of s x) x

-- the events of n steps
unfoldable pub run : Setup → ℕ → System → List Event
run s zero x = []
run s (suc n) x = with_event (shown_of s x).happens (run s n (system_next s x))
