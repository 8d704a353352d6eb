-- The state of the system, and its step.
use Rattle.std.specs.Prelude.{ℕ, ◌+◌, ◌*◌, ◌/◌, ◌%◌, ◌^◌, min, Bool, false, not, ◌&&◌, ◌||◌, nat_le, ◌==◌}
use Rattle.std.specs.Prelude.{if◌then◌else◌, List, [], ◌∷◌, ◌++◌, drop, slice_index, slice_set, Option, Some, None}
use Rattle.std.specs.Prelude.{bit_xor}
use Rattle.ibx_isa.specs.declared.bus.Req.{Req}
use Rattle.ibx_plan.specs.declared.entry.Change.{Change}
use Rattle.ibx_plan.specs.Plan.{lines_at}
use Rattle.ibx_bus.specs.Memory.{MemoryState, memory_after, stored_word}
use Rattle.ibx_bus.specs.Port.{PortState, answers, grants, port_next}
use Rattle.ibx_core.specs.Wires.{InWires as In, OutWires as Out, agree, agree_bus}
use Rattle.ibx_core.specs.declared.reads.Reads.{Reads}
use Rattle.ibx_lockstep.specs.Lockstep.{differs, followed}
use Rattle.ibx_system.specs.Core.{Parts, is_alert}

-- ---- the system

-- what no step changes: the multiplier's kind, and the changes of the interrupt lines
pub record Settings : Type 0 where
  pub mul : ℕ
  pub changes : List Change

-- the words round the cores; the pending flip, by the number of an output word and a bit; the cycle's number
pub record Place : Type 0 where
  pub settings : Settings
  pub registers : List ℕ
  pub tags : List ℕ
  pub lines : List ℕ
  pub memory : MemoryState
  pub iport : PortState
  pub dport : PortState
  pub pending : Option (ℕ × ℕ)
  pub cycle : ℕ

-- two cores; main's last inputs, each with its output, the oldest first; how many cycles the shadow is behind main, and
-- how many have gone by since the start, up to these; whether the cycle before found a difference; and the words
pub record Whole (S : Type 0) : Type 0 where
  pub main : S
  pub shadow : S
  pub delayed : List (In × Out)
  pub delay : ℕ
  pub age : ℕ
  pub told : Bool
  pub place : Place

-- where the words of a line stand: set, half, tag words by set and way, data words by set, way and half
abbrev pub set_of : ℕ → ℕ
set_of line = line / 8 % 256

-- the word of a line by its address
abbrev pub half_of : ℕ → ℕ
half_of line = line / 4 % 2

-- the place of a tag word
abbrev pub tag_index : ℕ → ℕ → ℕ
tag_index set way = set * 2 + way

-- the place of a data word
abbrev pub line_index : ℕ → ℕ → ℕ → ℕ
line_index set way half = (set * 2 + way) * 2 + half

-- ---- the phases of a step

-- phase 1: what the words show, before the grants and without a pending flip
unfoldable pub shown : Place → Reads → In
shown e r = record {
  irsp_valid = answers e.iport;
  irsp_err = answers e.iport && e.iport.err;
  irsp_word = if answers e.iport then e.iport.word else 0;
  drsp_valid = answers e.dport;
  drsp_err = answers e.dport && e.dport.err;
  drsp_word = if answers e.dport then e.dport.word else 0;
  igrant = false;
  dgrant = false;
  rega = slice_index e.registers r.ra;
  regb = slice_index e.registers r.rb;
  tag0 = slice_index e.tags (tag_index (set_of r.line) 0);
  tag1 = slice_index e.tags (tag_index (set_of r.line) 1);
  data0 = slice_index e.lines (line_index (set_of r.line) 0 (half_of r.line));
  data1 = slice_index e.lines (line_index (set_of r.line) 1 (half_of r.line));
  lines = lines_at e.settings.changes e.cycle;
  mul = e.settings.mul;
}

-- phase 2: the pending flip of an output word
abbrev pub flip_wire : ℕ → ℕ → In → In
flip_wire wire bit i = record i {
  rega = if wire == 0 then bit_xor i.rega (2 ^ bit) else i.rega;
  regb = if wire == 1 then bit_xor i.regb (2 ^ bit) else i.regb;
  tag0 = if wire == 2 then bit_xor i.tag0 (2 ^ bit) else i.tag0;
  tag1 = if wire == 3 then bit_xor i.tag1 (2 ^ bit) else i.tag1;
  data0 = if wire == 4 then bit_xor i.data0 (2 ^ bit) else i.data0;
  data1 = if wire == 5 then bit_xor i.data1 (2 ^ bit) else i.data1;
}

-- by the pending flip
unfoldable pub changed : Option (ℕ × ℕ) → In → In
changed None i = i
changed (Some x) i = flip_wire x.0 x.1 i

-- phase 4: the requests. A fetch has no write by its form, so that it never changes memory
abbrev pub fetch_of : Out → Req
fetch_of o = record { valid = o.ireq; write = false; be = (if o.ireq then 15 else 0); addr = o.iaddr; word = 0 }

-- the request of the data port
abbrev pub load_store_of : Out → Req
load_store_of o = record { valid = o.dreq; write = o.dwe; be = o.dbe; addr = o.daddr; word = o.dword }

-- whether a port grants in this cycle
abbrev pub igrant_of : Place → Out → Bool
igrant_of e o = grants o.ireq e.iport

-- the same of the data port
abbrev pub dgrant_of : Place → Out → Bool
dgrant_of e o = grants o.dreq e.dport

-- phase 5: the words that the output names
abbrev pub put_if : Bool → List ℕ → ℕ → ℕ → List ℕ
put_if written words i word = if written then slice_set words i word else words

-- a write to register 0 is none
abbrev pub writes_register : Out → Bool
writes_register o = o.rw && not (o.rwn == 0)

-- whether a way is in a set of ways
abbrev pub writes_way : ℕ → ℕ → Bool
writes_way ways way = ways / 2 ^ way % 2 == 1

-- the registers, the tags and the data words after a cycle
abbrev pub registers_after : List ℕ → Out → List ℕ
registers_after words o = put_if (writes_register o) words o.rwn o.rwword

-- the tags after a cycle
abbrev pub tags_after : List ℕ → Out → List ℕ
tags_after words o =
    put_if (writes_way o.tways 1) (put_if (writes_way o.tways 0) words (tag_index o.tset 0) o.tword)
    (tag_index o.tset 1) o.tword

-- the data words of one way
abbrev pub way_after : List ℕ → Out → ℕ → List ℕ
way_after words o way =
    put_if (writes_way o.dways way) (put_if (writes_way o.dways way) words (line_index o.tset way 0) o.dw0)
    (line_index o.tset way 1) o.dw1

-- the data words of both ways
abbrev pub lines_after : List ℕ → Out → List ℕ
lines_after words o = way_after (way_after words o 0) o 1

-- a store leaves a whole or a merged word
abbrev pub store_if : Bool → List ℕ → ℕ → ℕ → ℕ → List ℕ
store_if stores words i enables new =
    if stores then slice_set words i (stored_word enables (slice_index words i) new) else words

module _ {S : Type 0} (p : Parts S) where
  -- what a core is shown, before the grants
  abbrev pub look : Place → S → In
  look e s = changed e.pending (shown e (p.reads s))

  -- phase 3: what main puts out
  abbrev pub output : Place → S → Out
  output e s = p.gives s (look e s)

  -- the input with the grants of an output
  abbrev pub with_grants : Place → Out → In → In
  with_grants e o i = record i { igrant = igrant_of e o; dgrant = dgrant_of e o }

  -- what main moves by, and what is delayed
  abbrev pub input : Place → S → In
  input e s = with_grants e (output e s) (look e s)

  -- phases 4 and 5: the words after the cycle, by the compared wires alone. Both ports see the memory before the store
  unfoldable pub settle : Place → Out → Place
  settle e o = record {
    settings = e.settings;
    registers = registers_after e.registers o;
    tags = tags_after e.tags o;
    lines = lines_after e.lines o;
    memory = memory_after (dgrant_of e o) e.memory (load_store_of o);
    iport = port_next e.iport e.memory (fetch_of o);
    dport = port_next e.dport e.memory (load_store_of o);
    pending = None;
    cycle = e.cycle + 1;
  }

  -- whether the comparator finds a difference: the shadow's output for the oldest input isn't main's of then
  abbrev pub finds : Whole S → Bool
  finds w = nat_le w.delay w.age && differs p.gives agree w.shadow w.delayed

  -- phase 6: the cores, the delayed pairs and the comparator
  unfoldable pub next : Whole S → Whole S
  next w = record w {
    main = p.leaves w.main (input w.place w.main);
    shadow = if nat_le w.delay w.age then followed p.leaves w.shadow w.delayed else w.shadow;
    delayed = drop 1 w.delayed ++ (input w.place w.main, output w.place w.main) ∷ [];
    age = min (w.age + 1) w.delay;
    told = finds w;
    place = settle w.place (output w.place w.main);
  }

  -- main's output in this cycle
  abbrev pub output_of : Whole S → Out
  output_of w = output w.place w.main

  -- an alert of main, or a difference that the cycle before found
  abbrev pub alarm : Whole S → Bool
  alarm w = is_alert (output_of w) || w.told

-- the bus as it is compared between two runs
abbrev pub same_bus : Out → Out → Bool
same_bus a b = agree_bus a b
