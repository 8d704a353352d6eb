-- A core, and a delayed pair of wires, with one bit changed: fields and wires by their numbers. Our own rule.
use Rattle.std.specs.Prelude.{ℕ, ◌^◌, ◌==◌, List, [], ◌∷◌, ◌++◌, Bool, not, slice_index, slice_set, bit_xor}
use Rattle.ibx_core.specs.declared.state.State.{State}
use Rattle.ibx_core.specs.Fields.{bit, fields}
use Rattle.ibx_core.specs.Wires.{InWires, OutWires}

-- a bit from its number
abbrev pub is_set : ℕ → Bool
is_set n = not (n == 0)

-- the core of its fields
unfoldable pub core_of : List ℕ → State
core_of xs = record {
  fetch = record {
    f_busy = is_set (slice_index xs 0);
    f_fresh = is_set (slice_index xs 1);
    f_drop = is_set (slice_index xs 2);
    f_addr = slice_index xs 3;
    buf0 = slice_index xs 4;
    buf1 = slice_index xs 5;
    buf2 = slice_index xs 6;
    buf_count = slice_index xs 7;
    head_pc = slice_index xs 8;
  };
  words = record {
    c_state = slice_index xs 9;
    c_addr = slice_index xs 10;
    c_word0 = slice_index xs 11;
    c_word1 = slice_index xs 12;
    c_way = is_set (slice_index xs 13);
    c_alt = is_set (slice_index xs 14);
    c_walk = slice_index xs 15;
    c_nostore = is_set (slice_index xs 16);
  };
  id = record {
    valid = is_set (slice_index xs 17);
    kind = slice_index xs 18;
    pc = slice_index xs 19;
    word = slice_index xs 20;
    fault = slice_index xs 21;
    phase = slice_index xs 22;
    count = slice_index xs 23;
  };
  md = record { md_a = slice_index xs 24; md_b = slice_index xs 25; md_acc = slice_index xs 26 };
  ls = record { ls_state = slice_index xs 27; ls_first = slice_index xs 28 };
  dummies = record { lfsr = slice_index xs 29; dcount = slice_index xs 30 };
  next_pc = slice_index xs 31;
  csrs = record {
    priv_ = is_set (slice_index xs 32);
    mstatus = slice_index xs 33;
    mie = slice_index xs 34;
    mtvec = slice_index xs 35;
    mscratch = slice_index xs 36;
    mepc = slice_index xs 37;
    mcause = slice_index xs 38;
    mtval = slice_index xs 39;
    cpuctrl = slice_index xs 40;
    mcountinhibit = slice_index xs 41;
    mcycle = slice_index xs 42;
    minstret = slice_index xs 43;
    pmpcfg0 = slice_index xs 44;
    pmpcfg1 = slice_index xs 45;
    pmpcfg2 = slice_index xs 46;
    pmpcfg3 = slice_index xs 47;
    pmpaddr0 = slice_index xs 48;
    pmpaddr1 = slice_index xs 49;
    pmpaddr2 = slice_index xs 50;
    pmpaddr3 = slice_index xs 51;
    pmpaddr4 = slice_index xs 52;
    pmpaddr5 = slice_index xs 53;
    pmpaddr6 = slice_index xs 54;
    pmpaddr7 = slice_index xs 55;
    pmpaddr8 = slice_index xs 56;
    pmpaddr9 = slice_index xs 57;
    pmpaddr10 = slice_index xs 58;
    pmpaddr11 = slice_index xs 59;
    pmpaddr12 = slice_index xs 60;
    pmpaddr13 = slice_index xs 61;
    pmpaddr14 = slice_index xs 62;
    pmpaddr15 = slice_index xs 63;
    mstatus_n = slice_index xs 64;
    mtvec_n = slice_index xs 65;
    cpuctrl_n = slice_index xs 66;
    pmpcfg0_n = slice_index xs 67;
    pmpcfg1_n = slice_index xs 68;
    pmpcfg2_n = slice_index xs 69;
    pmpcfg3_n = slice_index xs 70;
    pmpaddr0_n = slice_index xs 71;
    pmpaddr1_n = slice_index xs 72;
    pmpaddr2_n = slice_index xs 73;
    pmpaddr3_n = slice_index xs 74;
    pmpaddr4_n = slice_index xs 75;
    pmpaddr5_n = slice_index xs 76;
    pmpaddr6_n = slice_index xs 77;
    pmpaddr7_n = slice_index xs 78;
    pmpaddr8_n = slice_index xs 79;
    pmpaddr9_n = slice_index xs 80;
    pmpaddr10_n = slice_index xs 81;
    pmpaddr11_n = slice_index xs 82;
    pmpaddr12_n = slice_index xs 83;
    pmpaddr13_n = slice_index xs 84;
    pmpaddr14_n = slice_index xs 85;
    pmpaddr15_n = slice_index xs 86;
    mseccfg = slice_index xs 87;
    mseccfg_n = slice_index xs 88;
  };
}

-- the numbers with one bit of one of them changed
abbrev pub number_flip : ℕ → ℕ → List ℕ → List ℕ
number_flip n k numbers = slice_set numbers n (bit_xor (slice_index numbers n) (2 ^ k))

-- the core with bit k of a field changed
unfoldable pub field_flip : ℕ → ℕ → State → State
field_flip field k s = core_of (number_flip field k (fields s))

-- ---- the wires of a delayed pair, by number: 16 in and 20 out

-- the wires in as numbers
unfoldable pub in_numbers : InWires → List ℕ
in_numbers i =
    bit i.irsp_valid ∷ bit i.irsp_err ∷ i.irsp_word ∷ bit i.drsp_valid ∷ bit i.drsp_err ∷ i.drsp_word ∷
    bit i.igrant ∷ bit i.dgrant ∷
    i.rega ∷ i.regb ∷ i.tag0 ∷ i.tag1 ∷ i.data0 ∷ i.data1 ∷ i.lines ∷ i.mul ∷ []

-- the same of the wires out
unfoldable pub out_numbers : OutWires → List ℕ
out_numbers o =
    bit o.ireq ∷ o.iaddr ∷ bit o.dreq ∷ bit o.dwe ∷ o.dbe ∷ o.daddr ∷ o.dword ∷
    o.ra ∷ o.rb ∷ bit o.rw ∷ o.rwn ∷ o.rwword ∷
    o.line ∷ o.tways ∷ o.tset ∷ o.tword ∷ o.dways ∷ o.dw0 ∷ o.dw1 ∷ o.alerts ∷ []

-- the wires in of their numbers
unfoldable pub in_of : List ℕ → InWires
in_of xs = record {
  irsp_valid = is_set (slice_index xs 0);
  irsp_err = is_set (slice_index xs 1);
  irsp_word = slice_index xs 2;
  drsp_valid = is_set (slice_index xs 3);
  drsp_err = is_set (slice_index xs 4);
  drsp_word = slice_index xs 5;
  igrant = is_set (slice_index xs 6);
  dgrant = is_set (slice_index xs 7);
  rega = slice_index xs 8;
  regb = slice_index xs 9;
  tag0 = slice_index xs 10;
  tag1 = slice_index xs 11;
  data0 = slice_index xs 12;
  data1 = slice_index xs 13;
  lines = slice_index xs 14;
  mul = slice_index xs 15;
}

-- the wires out of their numbers; the event is no wire, and stays
unfoldable pub out_of : List ℕ → OutWires → OutWires
out_of xs o = record o {
  ireq = is_set (slice_index xs 16);
  iaddr = slice_index xs 17;
  dreq = is_set (slice_index xs 18);
  dwe = is_set (slice_index xs 19);
  dbe = slice_index xs 20;
  daddr = slice_index xs 21;
  dword = slice_index xs 22;
  ra = slice_index xs 23;
  rb = slice_index xs 24;
  rw = is_set (slice_index xs 25);
  rwn = slice_index xs 26;
  rwword = slice_index xs 27;
  line = slice_index xs 28;
  tways = slice_index xs 29;
  tset = slice_index xs 30;
  tword = slice_index xs 31;
  dways = slice_index xs 32;
  dw0 = slice_index xs 33;
  dw1 = slice_index xs 34;
  alerts = slice_index xs 35;
}

-- all wires of a pair
abbrev pub wire_numbers : InWires × OutWires → List ℕ
wire_numbers p = in_numbers p.0 ++ out_numbers p.1

-- the pair with bit k of a wire changed
unfoldable pub wire_flip : ℕ → ℕ → InWires × OutWires → InWires × OutWires
wire_flip wire k p =
    let xs = number_flip wire k (wire_numbers p) in (in_of xs, out_of xs p.1)
