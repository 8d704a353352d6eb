-- Outputs whose compared wires are equal.
use Rattle.std.proofs.Common.{◌≡◌, ℕ, Bool, true, false, refl, ap, sym, ◌∙◌}
use Rattle.std.specs.Prelude.{◌&&◌, ◌==◌, None}
use mathlib.Core.Bool.{beq}
use Rattle.std.proofs.lemmas.Bool.{and_parts, and_from, eqb-true, eq-eqb}
use Rattle.ibx_core.specs.Wires.{OutWires as Out, agree, agree_bus, agree_registers, agree_cache}
use Rattle.ibx_system.specs.System.{same_bus}

-- equal booleans
beq-true : (a b : Bool) → beq a b ≡ true → a ≡ b
beq-true true true e = refl
beq-true true false e = cc
beq-true false true e = cc
beq-true false false e = refl

-- a bit is equal to itself
beq-refl : (a : Bool) → beq a a ≡ true
beq-refl true = refl
beq-refl false = refl

-- the first test of several, and the others
bool_head : (a b : Bool) (rest : Bool) → (beq a b && rest) ≡ true → (a ≡ b) × (rest ≡ true)
bool_head a b rest e = let both = and_parts (beq a b) rest e in (beq-true a b both.0, both.1)

-- the same of numbers
number_head : (a b : ℕ) (rest : Bool) → ((a == b) && rest) ≡ true → (a ≡ b) × (rest ≡ true)
number_head a b rest e = let both = and_parts (a == b) rest e in (eqb-true a b both.0, both.1)

-- the compared wires, without the event
abbrev pub compared : Out → Out
compared o = record o { event = None }

-- the wires of the bus, of the registers and of the cache are the same
record SameBus (a b : Out) : Type 0 where
  ireq : a.ireq ≡ b.ireq
  iaddr : a.iaddr ≡ b.iaddr
  dreq : a.dreq ≡ b.dreq
  dwe : a.dwe ≡ b.dwe
  dbe : a.dbe ≡ b.dbe
  daddr : a.daddr ≡ b.daddr
  dword : a.dword ≡ b.dword

-- each group of wires by its test
bus_wires : (a b : Out) → agree_bus a b ≡ true → SameBus a b
bus_wires a b e =
    let x1 = bool_head a.ireq b.ireq _ e in
    let x2 = number_head a.iaddr b.iaddr _ x1.1 in
    let x3 = bool_head a.dreq b.dreq _ x2.1 in
    let x4 = bool_head a.dwe b.dwe _ x3.1 in
    let x5 = number_head a.dbe b.dbe _ x4.1 in
    let x6 = number_head a.daddr b.daddr _ x5.1 in
    record {
      ireq = x1.0;
      iaddr = x2.0;
      dreq = x3.0;
      dwe = x4.0;
      dbe = x5.0;
      daddr = x6.0;
      dword =
          eqb-true a.dword b.dword x6.1;
    }

-- the wires of the registers are the same
record SameRegisters (a b : Out) : Type 0 where
  ra : a.ra ≡ b.ra
  rb : a.rb ≡ b.rb
  rw : a.rw ≡ b.rw
  rwn : a.rwn ≡ b.rwn
  rwword : a.rwword ≡ b.rwword

-- by their test
register_wires : (a b : Out) → agree_registers a b ≡ true → SameRegisters a b
register_wires a b e =
    let x1 = number_head a.ra b.ra _ e in
    let x2 = number_head a.rb b.rb _ x1.1 in
    let x3 = bool_head a.rw b.rw _ x2.1 in
    let x4 = number_head a.rwn b.rwn _ x3.1 in
    record { ra = x1.0; rb = x2.0; rw = x3.0; rwn = x4.0; rwword = eqb-true a.rwword b.rwword x4.1 }

-- the wires of the cache are the same
record SameCache (a b : Out) : Type 0 where
  line : a.line ≡ b.line
  tways : a.tways ≡ b.tways
  tset : a.tset ≡ b.tset
  tword : a.tword ≡ b.tword
  dways : a.dways ≡ b.dways
  dw0 : a.dw0 ≡ b.dw0
  dw1 : a.dw1 ≡ b.dw1

-- by their test
cache_wires : (a b : Out) → agree_cache a b ≡ true → SameCache a b
cache_wires a b e =
    let x1 = number_head a.line b.line _ e in
    let x2 = number_head a.tways b.tways _ x1.1 in
    let x3 = number_head a.tset b.tset _ x2.1 in
    let x4 = number_head a.tword b.tword _ x3.1 in
    let x5 = number_head a.dways b.dways _ x4.1 in
    let x6 = number_head a.dw0 b.dw0 _ x5.1 in
    record {
      line = x1.0;
      tways = x2.0;
      tset = x3.0;
      tword = x4.0;
      dways = x5.0;
      dw0 = x6.0;
      dw1 =
          eqb-true a.dw1 b.dw1 x6.1;
    }

-- where the comparator tells nothing, all wires but the event are the same
pub same_compared : (a b : Out) → agree a b ≡ true → compared a ≡ compared b
unfolding agree
same_compared a b e =
    let y1 = and_parts (agree_bus a b) _ e in
    let y2 = and_parts (agree_registers a b) _ y1.1 in
    let y3 = and_parts (agree_cache a b) _ y2.1 in
    let s = bus_wires a b y1.0 in
    let r = register_wires a b y2.0 in
    let c = cache_wires a b y3.0 in
    let alerts = eqb-true a.alerts b.alerts y3.1 in
    λ t. record {
      ireq = s.ireq t;
      iaddr = s.iaddr t;
      dreq = s.dreq t;
      dwe = s.dwe t;
      dbe = s.dbe t;
      daddr = s.daddr t;
      dword = s.dword t;
      ra = r.ra t;
      rb = r.rb t;
      rw = r.rw t;
      rwn = r.rwn t;
      rwword = r.rwword t;
      line = c.line t;
      tways = c.tways t;
      tset = c.tset t;
      tword = c.tword t;
      dways = c.dways t;
      dw0 = c.dw0 t;
      dw1 = c.dw1 t;
      alerts = alerts t;
      event = None;
    }

-- an output agrees with itself
number-refl : (a : ℕ) → (a == a) ≡ true
number-refl a = eq-eqb a a refl

-- so is its bus
pub same_bus-refl : (a : Out) → same_bus a a ≡ true
same_bus-refl a =
    and_from _ _ (beq-refl a.ireq)
    (and_from _ _ (number-refl a.iaddr)
    (and_from _ _ (beq-refl a.dreq)
    (and_from _ _ (beq-refl a.dwe)
    (and_from _ _ (number-refl a.dbe) (and_from _ _ (number-refl a.daddr) (number-refl a.dword))))))

-- where the comparator tells nothing, the bus is the same
pub same_bus_agreed : (a b : Out) → agree a b ≡ true → same_bus a b ≡ true
same_bus_agreed a b e = ap (λ (x : Out). same_bus a x) (sym (same_compared a b e)) ∙ same_bus-refl a

-- an output agrees with itself in all compared wires
pub agree-refl : (a : Out) → agree a a ≡ true
unfolding agree
agree-refl a = simp (beq-refl, number-refl)
