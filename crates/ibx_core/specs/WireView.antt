-- Values of the types of the wires, as they are seen, and their widths.
use Rattle.std.specs.Prelude.{◌<◌, ◌^◌}
use Rattle.ibx_core.specs.declared.wires.In.TheInside.{Inside as InInside}
use Rattle.ibx_core.specs.declared.wires.Out.TheInside.{Inside as OutInside}
use Rattle.ibx_core.specs.Wires.{InWires, OutWires}

-- the wires in, from a value of their type as it is seen
abbrev pub in_wires : InInside → InWires
in_wires i = record {
  irsp_valid = i.irsp_valid;
  irsp_err = i.irsp_err;
  irsp_word = i.irsp_word;
  drsp_valid = i.drsp_valid;
  drsp_err = i.drsp_err;
  drsp_word = i.drsp_word;
  igrant = i.igrant;
  dgrant = i.dgrant;
  rega = i.rega;
  regb = i.regb;
  tag0 = i.tag0;
  tag1 = i.tag1;
  data0 = i.data0;
  data1 = i.data1;
  lines = i.lines;
  mul = i.mul;
}

-- back again: the value of the type that has these wires in
abbrev pub wires_in : InWires → InInside
wires_in i = record {
  irsp_valid = i.irsp_valid;
  irsp_err = i.irsp_err;
  irsp_word = i.irsp_word;
  drsp_valid = i.drsp_valid;
  drsp_err = i.drsp_err;
  drsp_word = i.drsp_word;
  igrant = i.igrant;
  dgrant = i.dgrant;
  rega = i.rega;
  regb = i.regb;
  tag0 = i.tag0;
  tag1 = i.tag1;
  data0 = i.data0;
  data1 = i.data1;
  lines = i.lines;
  mul = i.mul;
}

-- the wires that do not fill their type are within their widths
pub record InFits (i : InInside) : Type 0 where
  pub irsp_word : i.irsp_word < 2 ^ 39
  pub drsp_word : i.drsp_word < 2 ^ 39
  pub rega : i.rega < 2 ^ 39
  pub regb : i.regb < 2 ^ 39
  pub tag0 : i.tag0 < 2 ^ 28
  pub tag1 : i.tag1 < 2 ^ 28
  pub data0 : i.data0 < 2 ^ 39
  pub data1 : i.data1 < 2 ^ 39
  pub mul : i.mul < 2 ^ 2

-- the wires out and the event, in the same way
abbrev pub out_wires : OutInside → OutWires
out_wires o = record {
  ireq = o.ireq;
  iaddr = o.iaddr;
  dreq = o.dreq;
  dwe = o.dwe;
  dbe = o.dbe;
  daddr = o.daddr;
  dword = o.dword;
  ra = o.ra;
  rb = o.rb;
  rw = o.rw;
  rwn = o.rwn;
  rwword = o.rwword;
  line = o.line;
  tways = o.tways;
  tset = o.tset;
  tword = o.tword;
  dways = o.dways;
  dw0 = o.dw0;
  dw1 = o.dw1;
  alerts = o.alerts;
  event = o.event;
}

-- back again, for the wires out
abbrev pub wires_out : OutWires → OutInside
wires_out o = record {
  ireq = o.ireq;
  iaddr = o.iaddr;
  dreq = o.dreq;
  dwe = o.dwe;
  dbe = o.dbe;
  daddr = o.daddr;
  dword = o.dword;
  ra = o.ra;
  rb = o.rb;
  rw = o.rw;
  rwn = o.rwn;
  rwword = o.rwword;
  line = o.line;
  tways = o.tways;
  tset = o.tset;
  tword = o.tword;
  dways = o.dways;
  dw0 = o.dw0;
  dw1 = o.dw1;
  alerts = o.alerts;
  event = o.event;
}

-- the same
pub record OutFits (o : OutInside) : Type 0 where
  pub dbe : o.dbe < 2 ^ 4
  pub dword : o.dword < 2 ^ 39
  pub ra : o.ra < 2 ^ 5
  pub rb : o.rb < 2 ^ 5
  pub rwn : o.rwn < 2 ^ 5
  pub rwword : o.rwword < 2 ^ 39
  pub tways : o.tways < 2 ^ 2
  pub tword : o.tword < 2 ^ 28
  pub dways : o.dways < 2 ^ 2
  pub dw0 : o.dw0 < 2 ^ 39
  pub dw1 : o.dw1 < 2 ^ 39
  pub alerts : o.alerts < 2 ^ 3
