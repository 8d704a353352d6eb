-- The wires of the core, in their order, as numbers and bits. Our own rule.
use Rattle.std.specs.Prelude.{ℕ, Bool, false, ◌&&◌, ◌==◌, Option, None}
use mathlib.Core.Bool.{beq}
use Rattle.ibx_isa.specs.declared.event.Event.{Event}

-- the wires into the core: both answers, both grants, the register words, the cache words, the interrupt lines, the
-- multiplier
pub record InWires : Type 0 where
  pub irsp_valid : Bool
  pub irsp_err : Bool
  pub irsp_word : ℕ
  pub drsp_valid : Bool
  pub drsp_err : Bool
  pub drsp_word : ℕ
  pub igrant : Bool
  pub dgrant : Bool
  pub rega : ℕ
  pub regb : ℕ
  pub tag0 : ℕ
  pub tag1 : ℕ
  pub data0 : ℕ
  pub data1 : ℕ
  pub lines : ℕ
  pub mul : ℕ

-- no wire is driven
abbrev pub quiet_in : InWires
quiet_in = record {
  irsp_valid = false;
  irsp_err = false;
  irsp_word = 0;
  drsp_valid = false;
  drsp_err = false;
  drsp_word = 0;
  igrant = false;
  dgrant = false;
  rega = 0;
  regb = 0;
  tag0 = 0;
  tag1 = 0;
  data0 = 0;
  data1 = 0;
  lines = 0;
  mul = 0;
}

-- the wires out of the core: both requests, the register reads, the register write, the cache line that is read, the
-- cache words that are written, the alerts; and the event
pub record OutWires : Type 0 where
  pub ireq : Bool
  pub iaddr : ℕ
  pub dreq : Bool
  pub dwe : Bool
  pub dbe : ℕ
  pub daddr : ℕ
  pub dword : ℕ
  pub ra : ℕ
  pub rb : ℕ
  pub rw : Bool
  pub rwn : ℕ
  pub rwword : ℕ
  pub line : ℕ
  pub tways : ℕ
  pub tset : ℕ
  pub tword : ℕ
  pub dways : ℕ
  pub dw0 : ℕ
  pub dw1 : ℕ
  pub alerts : ℕ
  pub event : Option Event

-- no wire is driven, and there is no event
abbrev pub quiet_out : OutWires
quiet_out = record {
  ireq = false;
  iaddr = 0;
  dreq = false;
  dwe = false;
  dbe = 0;
  daddr = 0;
  dword = 0;
  ra = 0;
  rb = 0;
  rw = false;
  rwn = 0;
  rwword = 0;
  line = 0;
  tways = 0;
  tset = 0;
  tword = 0;
  dways = 0;
  dw0 = 0;
  dw1 = 0;
  alerts = 0;
  event = None;
}

-- whether the wires of both buses are equal, those of the registers, and those of the cache
abbrev pub agree_bus : OutWires → OutWires → Bool
agree_bus a b =
    beq a.ireq b.ireq && ((a.iaddr == b.iaddr) && (beq a.dreq b.dreq && (beq a.dwe b.dwe
    && ((a.dbe == b.dbe) && ((a.daddr == b.daddr) && (a.dword == b.dword))))))

-- both read addresses, and the write with its number and its codeword
abbrev pub agree_registers : OutWires → OutWires → Bool
agree_registers a b =
    (a.ra == b.ra) && ((a.rb == b.rb) && (beq a.rw b.rw && ((a.rwn == b.rwn) && (a.rwword == b.rwword))))

-- the line that is read, and the ways, the set and the words that are written
abbrev pub agree_cache : OutWires → OutWires → Bool
agree_cache a b =
    (a.line == b.line) && ((a.tways == b.tways) && ((a.tset == b.tset) && ((a.tword == b.tword)
    && ((a.dways == b.dways) && ((a.dw0 == b.dw0) && (a.dw1 == b.dw1))))))

-- whether all wires but the event are equal
unfoldable pub agree : OutWires → OutWires → Bool
agree a b = agree_bus a b && (agree_registers a b && (agree_cache a b && (a.alerts == b.alerts)))
