-- The core: what a cycle comes to from the fields and the wires, in order, and the fields after it. Our own rule.
use Rattle.std.specs.Prelude.{◌≡◌, ℕ, ◌+◌, ◌*◌, ◌%◌, ◌^◌, Bool, true, false, not, ◌&&◌, ◌||◌, ◌==◌, if◌then◌else◌}
use Rattle.std.specs.Prelude.{Option, Some, None, IfSome, bit_and}
use Rattle.ibx_isa.specs.declared.event.Access.{Access}
use Rattle.ibx_isa.specs.declared.event.Event.{Event}
use Rattle.ibx_isa.specs.declared.bus.Req.{Req}
use Rattle.ibx_isa.specs.declared.bus.Rsp.{Rsp}
use Rattle.ibx_isa.specs.ControlBits.{icache_enable}
use Rattle.ibx_isa.specs.Events.{IsPrintable}
use Rattle.ibx_secded.specs.Code.{encode_of, payload_of}
use Rattle.ibx_csr.specs.Fields.{glitch_of}
use Rattle.ibx_prefetch.specs.declared.buffer.WordAns.{WordAns}
use Rattle.ibx_prefetch.specs.declared.buffer.Head.{Head}
use Rattle.ibx_prefetch.specs.declared.buffer.Parcel.{Parcel}
use Rattle.ibx_prefetch.specs.declared.buffer.Prefetch.{Prefetch}
use Rattle.ibx_prefetch.specs.Buffer.{fetch_after_answer, head_of, prefetch_next, request_of}
use Rattle.ibx_icache.specs.declared.port.WordPort.{WordPort}
use Rattle.ibx_icache.specs.declared.wires.CacheOut.{CacheOut}
use Rattle.ibx_icache.specs.Doing.{doing_of, granted_by, state_of}
use Rattle.ibx_icache.specs.WordPort.{WordIn, answer_of, has_bad, is_bad_word, looked, matches, out_of, word_port_next}
use Rattle.ibx_muldiv.specs.declared.unit.MulDiv.{MulDiv}
use Rattle.ibx_muldiv.specs.Unit.{idle_of, left_of, tick_of}
use Rattle.ibx_lsu.specs.declared.unit.Lsu.{Lsu}
use Rattle.ibx_lsu.specs.Turns.{granted_of, next_of as ls_next}
use Rattle.ibx_id.specs.declared.stage.Turn.{Turn}
use Rattle.ibx_id.specs.declared.stage.Turn.TheVariants.{Hold}
use Rattle.ibx_core.specs.declared.reads.Reads.{Reads}
use Rattle.ibx_core.specs.declared.sight.Sight.{Sight}
use Rattle.ibx_core.specs.declared.state.State.{State}
use Rattle.ibx_core.specs.Effects.{Effect, effect_by, fences, left, redirects, target_if}
use Rattle.ibx_core.specs.Entries.{Entry, admits_at, admits_by}
use Rattle.ibx_core.specs.Fields.{bit}
use Rattle.ibx_core.specs.Inputs.{Inputs, drsp_of, inputs_of, irsp_of, look_in}
use Rattle.ibx_core.specs.Sights.{ra_of, rb_of, sight_of}
use Rattle.ibx_core.specs.Wires.{InWires, OutWires}

-- ---- what is read, and what of the wires is used

-- the registers that are read, and the address at which the cache is read
unfoldable pub reads_of : State → Reads
reads_of x = record { ra = ra_of x.id; rb = rb_of x.id; line = looked x.words }

-- a lookup, and whether the data word of way 0 or of way 1 is that of the lowest matching way
abbrev pub looks : WordPort → Bool
looks w = w.c_state == 1

-- way 0 matches in a lookup; being the lowest way, it needs no look at way 1
abbrev pub takes0 : WordPort → ℕ → Bool
takes0 w tag0 = looks w && matches tag0 w.c_addr

-- way 1 matches in a lookup and way 0 does not, so that at most one data word is used
abbrev pub takes1 : WordPort → ℕ → ℕ → Bool
takes1 w tag0 tag1 = looks w && (not (matches tag0 w.c_addr) && matches tag1 w.c_addr)

-- The wires with 0 in place of each unused word: of an answer that isn't valid, of a tag where nothing is looked up,
-- and of a data word where it isn't that of the lowest matching way.
unfoldable pub heard : State → InWires → InWires
heard x i = record i {
  irsp_word = if i.irsp_valid then i.irsp_word else 0;
  drsp_word = if i.drsp_valid then i.drsp_word else 0;
  tag0 = if looks x.words then i.tag0 else 0;
  tag1 = if looks x.words then i.tag1 else 0;
  data0 = if takes0 x.words i.tag0 then i.data0 else 0;
  data1 = if takes1 x.words i.tag0 i.tag1 then i.data1 else 0;
}

-- ---- the cycle

-- what the word port is handed; the cache is enabled as the events before this cycle left it
unfoldable pub port_of : State → Inputs → Option ℕ → Bool → WordIn
port_of x i request fence = record {
  request = request;
  enable = not (bit_and x.csrs.cpuctrl icache_enable == 0);
  fence = fence;
  rsp = i.irsp;
  look = i.look;
}

-- the next two parcels; in the cycle of a redirect none is ready
abbrev pub no_parcel : Parcel
no_parcel = record { ready = false; err = false; half = 0 }

-- the next two parcels as the buffer holds them, or none ready where the stream begins anew at a target
unfoldable pub head_at : Option ℕ → Prefetch → Head
head_at None g = head_of g
head_at (Some target) g = record { first = no_parcel; second = no_parcel }

-- the same once the word that answers in this cycle has come in, so that a parcel may enter as it arrives
abbrev pub head_by : Option ℕ → WordAns → Prefetch → Head
head_by redirect ans f = head_at redirect (fetch_after_answer ans redirect f)

-- What a cycle comes to: what the stage sees, what its turn leaves, the word that answers the fetch side, what enters
-- the stage, and the byte address of the word that is requested.
pub record Cycle : Type 0 where
  pub sight : Sight
  pub effect : Effect
  pub ans : WordAns
  pub entry : Entry
  pub request : Option ℕ

-- a cycle from its turn and its answer: the effect comes first, so that what enters sees its CSRs and its redirect
unfoldable pub cycle_with : Sight → Effect → WordAns → State → Inputs → Cycle
cycle_with g e ans x i = record {
  sight = g;
  effect = e;
  ans = ans;
  entry = admits_by g.turn (head_by e.redirect ans x.fetch) e i.lines;
  request = request_of (fetch_after_answer ans e.redirect x.fetch);
}

-- the same with the effect worked out from the stage's turn, and the answer from the word port and the cache's words
unfoldable pub cycle_seen : Sight → State → Inputs → Cycle
cycle_seen g x i = cycle_with g (effect_by g.turn x g i.lines) (answer_of x.words i.irsp i.look) x i

-- what a cycle comes to from the fields and the inputs alone
unfoldable pub cycle_of : State → Inputs → Cycle
cycle_of x i = cycle_seen (sight_of x i) x i

-- ---- the fields after it

-- an operation goes on while its row is held
unfoldable pub md_next : Turn → MulDiv → MulDiv
md_next (Hold st) m = if left_of m == 0 then m else tick_of m
md_next _ m = idle_of

-- an access moves while it is active
unfoldable pub ls_by : Bool → Option Access → Lsu → Rsp → Bool → Lsu
ls_by true (Some w) ls rsp granted = ls_next ls w rsp granted
ls_by active access ls rsp granted = ls

-- the fields after a cycle: its turn and its entry are taken over, and the two ports see the grants
unfoldable pub next_by : Cycle → State → Inputs → State
next_by c x i = record {
  fetch = prefetch_next c.ans c.effect.redirect c.entry.taken x.fetch;
  words = word_port_next x.words (port_of x i c.request c.effect.fence) i.igrant;
  id = c.entry.id;
  md = md_next c.sight.turn c.sight.md;
  ls = ls_by c.sight.active c.sight.access x.ls i.drsp i.dgrant;
  dummies = c.entry.dummies;
  next_pc = c.effect.next_pc;
  csrs = c.effect.csrs;
}

-- The fetch side's part of a cycle, on the fields as the turn left them, is told apart for the code, which makes a
-- cycle in place: what the word port is handed.
abbrev pub asked : Sight → WordIn → WordAns → State → WordIn
asked g port ans y = record port {
  request = request_of (fetch_after_answer ans (target_if (redirects g.turn) y.next_pc) y.fetch);
  fence = fences g.turn g.row;
}

-- what enters the stage
abbrev pub entry_at : Sight → WordAns → ℕ → State → Entry
entry_at g ans lines y =
    admits_at g.turn (head_by (target_if (redirects g.turn) y.next_pc) ans y.fetch) y.csrs y.dummies y.next_pc lines

-- and the fields after it, while nothing is granted
abbrev pub fetch_side : Sight → WordIn → WordAns → ℕ → State → State
fetch_side g port ans lines y = record y {
  fetch = prefetch_next ans (target_if (redirects g.turn) y.next_pc) (entry_at g ans lines y).taken y.fetch;
  words = word_port_next y.words (asked g port ans y) false;
  id = (entry_at g ans lines y).id;
  dummies = (entry_at g ans lines y).dummies;
}

-- the fields after a cycle on the wires as they are, unused words not yet replaced by 0
unfoldable pub leaves : State → InWires → State
leaves x i = next_by (cycle_of x (inputs_of i)) x (inputs_of i)

-- CoreNext: the fields after a cycle
unfoldable pub core_next : State → InWires → State
core_next x i = leaves x (heard x i)

-- the wires before anything is granted
abbrev pub before_grants : InWires → InWires
before_grants i = record i { igrant = false; dgrant = false }

-- the fields once a cycle has begun: those after it if nothing is granted
abbrev pub IsBegun : State → InWires → State → Type 0
IsBegun x i y = y ≡ core_next x (before_grants i)

-- a request that the word port drove is granted
abbrev pub granted_port : WordPort → WordPort
granted_port w = record w { c_state = state_of (granted_by true (doing_of w.c_state)) }

-- what the grants of both ports change of them; that of the data port counts where it drives a request
abbrev pub granted : Bool → Bool → State → State
granted igrant dgrant y = record y {
  words = if igrant then granted_port y.words else y.words;
  ls = if dgrant then granted_of y.ls else y.ls;
}

-- ---- the alerts by their causes

-- MINOR: a way that is looked up has a flipped bit
abbrev pub is_minor : State → InWires → Bool
is_minor x i = looks x.words && has_bad (look_in i) x.words.c_addr

-- INTERNAL: a register word has a flipped bit, or the complement of a CSR isn't one
abbrev pub is_internal : State → InWires → Bool
is_internal x i = is_bad_word i.rega || is_bad_word i.regb || glitch_of x.csrs

-- BUS: the word of an answer has a flipped bit
abbrev pub is_flipped : Rsp → Bool
is_flipped rsp = rsp.valid && is_bad_word rsp.word

-- BUS by both ports: an answer with a flipped bit came to the fetch side or to the data side
abbrev pub is_bus : InWires → Bool
is_bus i = is_flipped (irsp_of i) || is_flipped (drsp_of i)

-- the set of alerts: MINOR 1, INTERNAL 2, BUS 4
unfoldable pub alerts_of : State → InWires → ℕ
alerts_of x i = bit (is_minor x i) + 2 * bit (is_internal x i) + 4 * bit (is_bus i)

-- ---- the wires

-- the register that is written and its word
abbrev pub is_write : Option (ℕ × ℕ) → Bool
is_write (Some w) = true
is_write None = false

-- the number of the register that is written, 0 where none is
abbrev pub write_register : Option (ℕ × ℕ) → ℕ
write_register (Some w) = w.0
write_register None = 0

-- the word that the register file is to hold: the low 32 bits of the value with 7 check bits, 0 without a write
unfoldable pub write_word : Option (ℕ × ℕ) → ℕ
write_word (Some w) = encode_of 32 7 (w.1 % 2 ^ 32)
write_word None = 0

-- the ways whose tags are written, and their word: both with the codeword of 0 where a set is emptied
abbrev pub tag_ways : CacheOut → ℕ
tag_ways o = if o.clear then 3 else o.ways

-- a cleared set gets the codeword of 0, a filled way that of its tag, and without a write the wires are 0
unfoldable pub tag_word : CacheOut → ℕ
tag_word o = if o.clear then encode_of 22 6 0 else if o.ways == 0 then 0 else encode_of 22 6 (payload_of 22 o.tag)

-- the wires by groups: the data port's request, what is read, the register write with the event, and the word port's
abbrev pub with_access : OutWires → Req → OutWires
with_access o r = record o { dreq = r.valid; dwe = r.write; dbe = r.be; daddr = r.addr; dword = r.word }

-- the two registers that are read, and the address at which the cache is read
abbrev pub with_reads : OutWires → Reads → OutWires
with_reads o r = record o { ra = r.ra; rb = r.rb; line = r.line }

-- the register write, its word encoded, and the event
abbrev pub with_effect : OutWires → Option (ℕ × ℕ) → Option Event → OutWires
with_effect o write happens =
    record o { rw = is_write write; rwn = write_register write; rwword = write_word write; event = happens }

-- a turn has left this effect: the fields and the wires by it, the dummies' count as it was, and an event that has a
-- line
pub record HasLeft (x : State) (o : OutWires) (e : Effect) (y : State) (p : OutWires) : Type 0 where
  pub fields : y ≡ left x e
  pub wires : p ≡ with_effect o e.write e.happens
  pub count : y.dummies.dcount ≡ x.dummies.dcount
  pub printable : IfSome p.event IsPrintable

-- the fetch request, and the writes of the cache's tags and data
abbrev pub with_port : OutWires → CacheOut → OutWires
with_port o p = record o {
  ireq = p.bus.valid;
  iaddr = p.bus.addr;
  tways = tag_ways p;
  tset = p.set;
  tword = tag_word p;
  dways = p.ways;
  dw0 = p.line0;
  dw1 = p.line1;
}

-- the wires from the word port's, the alerts, what is read, and what the cycle comes to
unfoldable pub out_with : CacheOut → ℕ → Reads → Cycle → OutWires
out_with o alerts r c = record {
  ireq = o.bus.valid;
  iaddr = o.bus.addr;
  dreq = c.sight.ls.req.valid;
  dwe = c.sight.ls.req.write;
  dbe = c.sight.ls.req.be;
  daddr = c.sight.ls.req.addr;
  dword = c.sight.ls.req.word;
  ra = r.ra;
  rb = r.rb;
  rw = is_write c.effect.write;
  rwn = write_register c.effect.write;
  rwword = write_word c.effect.write;
  line = r.line;
  tways = tag_ways o;
  tset = o.set;
  tword = tag_word o;
  dways = o.ways;
  dw0 = o.line0;
  dw1 = o.line1;
  alerts = alerts;
  event = c.effect.happens;
}

-- the same from the fields: the alerts are told by the wires that come in, not by what the cycle comes to
unfoldable pub out_by : Cycle → State → InWires → OutWires
out_by c x i = out_with (out_of x.words (port_of x (inputs_of i) c.request c.effect.fence)) (alerts_of x i) (reads_of x) c

-- what the core puts out on the wires as they are, unused words not yet replaced by 0
unfoldable pub gives : State → InWires → OutWires
gives x i = out_by (cycle_of x (inputs_of i)) x i

-- CoreOut: what the core puts out in a cycle
unfoldable pub core_out : State → InWires → OutWires
core_out x i = gives x (heard x i)

-- what is read, as the wires tell it
abbrev pub reads_in : OutWires → Reads
reads_in o = record { ra = o.ra; rb = o.rb; line = o.line }

-- ---- unused words

-- Two inputs are equal but for unused words: the word of an answer that isn't valid, a tag word where nothing is
-- looked up, and a data word that isn't that of the lowest matching way.
pub record IsSameUsed (x : State) (i j : InWires) : Type 0 where
  pub irsp_valid : i.irsp_valid ≡ j.irsp_valid
  pub irsp_err : i.irsp_err ≡ j.irsp_err
  pub irsp_word : j.irsp_valid ≡ true → i.irsp_word ≡ j.irsp_word
  pub drsp_valid : i.drsp_valid ≡ j.drsp_valid
  pub drsp_err : i.drsp_err ≡ j.drsp_err
  pub drsp_word : j.drsp_valid ≡ true → i.drsp_word ≡ j.drsp_word
  pub igrant : i.igrant ≡ j.igrant
  pub dgrant : i.dgrant ≡ j.dgrant
  pub rega : i.rega ≡ j.rega
  pub regb : i.regb ≡ j.regb
  pub tag0 : looks x.words ≡ true → i.tag0 ≡ j.tag0
  pub tag1 : looks x.words ≡ true → i.tag1 ≡ j.tag1
  pub data0 : takes0 x.words j.tag0 ≡ true → i.data0 ≡ j.data0
  pub data1 : takes1 x.words j.tag0 j.tag1 ≡ true → i.data1 ≡ j.data1
  pub lines : i.lines ≡ j.lines
  pub mul : i.mul ≡ j.mul
