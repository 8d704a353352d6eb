-- Flips, runs with one flip, and what is promised of them.
use Rattle.std.specs.Prelude.{◌≡◌, ℕ, zero, suc, ◌+◌, ◌-◌, ◌<◌, ◌≤◌, ◌^◌, Bool, true, false, not, ◌&&◌, ◌||◌, nat_le}
use Rattle.std.specs.Prelude.{◌==◌, if◌then◌else◌, List, [], ◌∷◌, All, length, slice_index, slice_set, Option, Some}
use Rattle.std.specs.Prelude.{None, bit_xor}
use Rattle.ibx_isa.specs.declared.bus.Req.{Req}
use Rattle.ibx_plan.specs.declared.site.Site.{Site}
use Rattle.ibx_plan.specs.declared.site.Site.TheVariants as site
use Rattle.ibx_plan.specs.declared.site.Flip.{Flip}
use Rattle.ibx_bus.specs.Memory.{MemoryState, memory_flip, is_store, memory_has, index_of}
use Rattle.ibx_bus.specs.Port.{answers, port_flip}
use Rattle.ibx_core.specs.Wires.{InWires as In, OutWires as Out}
use Rattle.ibx_icache.specs.WordPort.{is_bad_tag, is_bad_word}
use Rattle.ibx_system.specs.Core.{Parts, takes0, takes1}
use Rattle.ibx_system.specs.System.{Place, Whole, tag_index, line_index, set_of, half_of, look, writes_register}
use Rattle.ibx_system.specs.System.{writes_way, igrant_of, dgrant_of, fetch_of, load_store_of, next, output_of}
use Rattle.ibx_system.specs.System.{same_bus, alarm}
use Rattle.ibx_system.specs.Runs.{IsFirst, before_step, run}

-- whether the place is a word of the memories, the ports or the core's input
abbrev pub is_word : Site → Bool
is_word (site.Main field bit) = false
is_word (site.Shadow field bit) = false
is_word (site.Delay slot wire bit) = false
is_word _ = true

-- whether it is in the shadow, in a delayed pair, in the age or in the kept finding
abbrev pub is_side : Site → Bool
is_side (site.Shadow field bit) = true
is_side (site.Delay slot wire bit) = true
is_side _ = false

-- the least number from t on, among so many, that passes a test
unfoldable pub first_from : ℕ → (ℕ → Bool) → ℕ → Option ℕ
first_from zero test t = None
first_from (suc n) test t = if test t then Some t else first_from n test (t + 1)

-- ---- where the changed word and its copies are, and when they are used

-- the words that are the changed one or a copy of it, by their kinds
pub record Marks : Type 0 where
  pub register : Bool
  pub tag : Bool
  pub line : Bool
  pub shown : Bool
  pub stored : Bool
  pub icopy : Bool
  pub dcopy : Bool

-- the number of the word in its memory, and of the output word
pub record Spot : Type 0 where
  pub register : ℕ
  pub tag : ℕ
  pub line : ℕ
  pub wire : ℕ
  pub word : ℕ

-- no word is changed
abbrev pub no_marks : Marks
no_marks = record {
  register = false;
  tag = false;
  line = false;
  shown = false;
  stored = false;
  icopy = false;
  dcopy = false;
}

-- the number of the word that a site names
abbrev pub spot_of : Site → Spot
spot_of (site.Reg n bit) = record { register = n; tag = 0; line = 0; wire = 0; word = 0 }
spot_of (site.Tag set way bit) = record { register = 0; tag = tag_index set way; line = 0; wire = 0; word = 0 }
spot_of (site.Line set way half bit) =
    record { register = 0; tag = 0; line = line_index set way half; wire = 0; word = 0 }
spot_of (site.Output wire bit) = record { register = 0; tag = 0; line = 0; wire = wire; word = 0 }
spot_of (site.Mem word bit) = record { register = 0; tag = 0; line = 0; wire = 0; word = word }
spot_of _ = record { register = 0; tag = 0; line = 0; wire = 0; word = 0 }

-- at the flip
abbrev pub marks_of : Site → Marks
marks_of (site.Reg n bit) = record no_marks { register = true }
marks_of (site.Tag set way bit) = record no_marks { tag = true }
marks_of (site.Line set way half bit) = record no_marks { line = true }
marks_of (site.Output wire bit) = record no_marks { shown = true }
marks_of (site.Answer port bit) = record no_marks { icopy = port == 0; dcopy = not (port == 0) }
marks_of (site.Mem word bit) = record no_marks { stored = true }
marks_of _ = no_marks

-- which words of an input are the changed one
pub record InMarks : Type 0 where
  pub irsp : Bool
  pub drsp : Bool
  pub rega : Bool
  pub regb : Bool
  pub tag0 : Bool
  pub tag1 : Bool
  pub data0 : Bool
  pub data1 : Bool

-- whether a transaction reads this word
abbrev pub reads_word : MemoryState → Req → ℕ → Bool
reads_word m r k = (memory_has m r.addr && not r.write) && (index_of m r.addr == k)

-- a copy in a port after the cycle: a grant replaces it
abbrev pub copy_after : Bool → Bool → Bool → MemoryState → Req → ℕ → Bool
copy_after granted copy stored m r k = if granted then stored && reads_word m r k else copy

-- a way's tag word, and a half of its data words, that an output writes
abbrev pub puts_tag : Out → ℕ → ℕ → Bool
puts_tag o way k = writes_way o.tways way && (tag_index o.tset way == k)

-- the same of a half of its data words
abbrev pub puts_line : Out → ℕ → ℕ → ℕ → Bool
puts_line o way half k = writes_way o.dways way && (line_index o.tset way half == k)

-- the word of RAM that a granted store writes whole
abbrev pub stores_whole : Place → Out → ℕ → Bool
stores_whole e o k =
    (dgrant_of e o && is_store e.memory (load_store_of o)) && ((index_of e.memory o.daddr == k) && (o.dbe == 15))

module _ {S : Type 0} (p : Parts S) where
  -- which words of the input are the changed one
  unfoldable pub in_marks : Spot → Marks → Place → S → InMarks
  in_marks k m e s =
      let r = p.reads s in record {
        irsp = m.icopy && answers e.iport;
        drsp = m.dcopy && answers e.dport;
        rega = (m.register && (r.ra == k.register)) || (m.shown && (k.wire == 0));
        regb = (m.register && (r.rb == k.register)) || (m.shown && (k.wire == 1));
        tag0 = (m.tag && (tag_index (set_of r.line) 0 == k.tag)) || (m.shown && (k.wire == 2));
        tag1 = (m.tag && (tag_index (set_of r.line) 1 == k.tag)) || (m.shown && (k.wire == 3));
        data0 = (m.line && (line_index (set_of r.line) 0 (half_of r.line) == k.line)) || (m.shown && (k.wire == 4));
        data1 = (m.line && (line_index (set_of r.line) 1 (half_of r.line) == k.line)) || (m.shown && (k.wire == 5));
      }

  -- whether a used word is the changed one
  unfoldable pub uses_marked : InMarks → S → In → Bool
  uses_marked x s i =
      x.irsp || (x.drsp || (x.rega || (x.regb || (
      (p.looks s && x.tag0) || ((p.looks s && x.tag1) || (
      (takes0 p s i.tag0 && x.data0) || (takes1 p s i.tag0 i.tag1 && x.data1)))))))

  -- by the run without the flip
  abbrev pub used : Spot → Marks → Whole S → Bool
  used k m w = uses_marked (in_marks k m w.place w.main) w.main (look p w.place w.main)

  -- a word that is written whole isn't the changed one any more; a merged store leaves it the changed one
  unfoldable pub place_marks : Spot → Marks → Place → Out → Marks
  place_marks k m e o = record {
    register = m.register && not (writes_register o && (o.rwn == k.register));
    tag = (m.tag && not (puts_tag o 0 k.tag)) && not (puts_tag o 1 k.tag);
    line = (((m.line && not (puts_line o 0 0 k.line)) && not (puts_line o 0 1 k.line)) && not (puts_line o 1 0 k.line))
        && not (puts_line o 1 1 k.line);
    shown = false;
    stored = m.stored && not (stores_whole e o k.word);
    icopy = copy_after (igrant_of e o) m.icopy m.stored e.memory (fetch_of o) k.word;
    dcopy = copy_after (dgrant_of e o) m.dcopy m.stored e.memory (load_store_of o) k.word;
  }

  -- the marks after a step of the run without the flip
  abbrev pub marks_next : Spot → Marks → Whole S → Marks
  marks_next k m w = place_marks k m w.place (output_of p w)

  -- whether the bus differs between two runs without a flip, n cycles from their starts
  abbrev pub parted : Whole S → Whole S → ℕ → Bool
  parted w v n = not (same_bus (output_of p (run p w None n)) (output_of p (run p v None n)))

  -- whether the bus differs between the run and the run with the flip, n cycles from the start
  abbrev pub differs : Whole S → Flip → ℕ → Bool
  differs w f n = not (same_bus (output_of p (before_step p w None n)) (output_of p (before_step p w (Some f) n)))

  -- whether the run with the flip has an alert there
  abbrev pub alarms : Whole S → Flip → ℕ → Bool
  alarms w f n = alarm p (before_step p w (Some f) n)

  -- the first such cycle of a run, if there is one
  abbrev pub first_diff : Whole S → Flip → ℕ → Option ℕ
  first_diff w f cycles = first_from cycles (differs w f) 0

  -- the first alert, looked for in the delay plus one cycles more
  abbrev pub first_alert : Whole S → Flip → ℕ → Option ℕ
  first_alert w f cycles = first_from (cycles + w.delay + 1) (alarms w f) 0

  -- the marks after n steps of the run without the flip, from the state of the flip on
  unfoldable pub marks_from : Spot → Marks → Whole S → ℕ → Marks
  marks_from k m w zero = m
  marks_from k m w (suc n) = marks_from k (marks_next k m w) (next p w) n

  -- whether the changed word is used, n cycles after the flip
  abbrev pub uses_from : Spot → Marks → Whole S → ℕ → Bool
  uses_from k m w n = used k (marks_from k m w n) (run p w None n)

  -- whether the changed word is used in cycle n of the run
  abbrev pub uses : Whole S → Flip → ℕ → Bool
  uses w f n = nat_le f.cycle n && uses_from (spot_of f.site) (marks_of f.site) (run p w None f.cycle) (n - f.cycle)

  -- the first such cycle of a run, if there is one
  abbrev pub first_use : Whole S → Flip → ℕ → Option ℕ
  first_use w f cycles = first_from cycles (uses w f) 0

-- none, or an alert that comes at most so many cycles later
abbrev pub Bounded : ℕ → Option ℕ → Option ℕ → Type 0
Bounded most None _ = Unit {0}
Bounded most (Some d) None = ⊥
Bounded most (Some d) (Some a) = a ≤ d + most

module _ {S : Type 0} (p : Parts S) where
  -- an alert comes at most the delay plus one cycles after the first difference of the bus
  abbrev pub Noticed : Whole S → Flip → ℕ → Type 0
  Noticed w f cycles = Bounded (w.delay + 1) (first_diff p w f cycles) (first_alert p w f cycles)

  -- the same where any other core takes main's place before the step of a cycle; cycles are counted from there
  abbrev pub ReplacementNoticed : Whole S → ℕ → S → ℕ → Type 0
  ReplacementNoticed w cycle other cycles =
      let clean = run p w None cycle in
      let faulty : Whole S = record clean { main = other } in
      Bounded (w.delay + 1) (first_from cycles (parted p clean faulty) 0)
      (first_from (cycles + w.delay + 1) (λ n. alarm p (run p faulty None n)) 0)

  -- a flip beside main and its words never changes the bus
  abbrev pub Unseen : Whole S → Flip → Type 0
  Unseen w f = is_side f.site ≡ true → (n : ℕ) → differs p w f n ≡ false

  -- the two runs agree before the first use, and there an alert comes
  abbrev pub AgreesTo : Whole S → Flip → ℕ → Option ℕ → Type 0
  AgreesTo w f cycles None = (n : ℕ) → n < cycles → differs p w f n ≡ false
  AgreesTo w f cycles (Some u) = ((n : ℕ) → n < u → differs p w f n ≡ false) × (alarms p w f u ≡ true)

  -- a word's flip changes nothing on the bus before its first use, and is told there
  abbrev pub ToldByUse : Whole S → Flip → ℕ → Type 0
  ToldByUse w f cycles = is_word f.site ≡ true → AgreesTo w f cycles (first_use p w f cycles)
