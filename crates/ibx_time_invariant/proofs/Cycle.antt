-- A cycle after its done: the fetch side, the data port and the admission give the invariant of the next cycle.
use Rattle.std.proofs.Common.{◌≡◌, ℕ, ◌+◌, ◌<◌, ◌≤◌, Bool, true, List, length, Some, None, Option, sym, ap, ◌∙◌, subst}
use Rattle.ibx_icache.specs.WordPort.{after_answer as port_answered, WordIn, filling_of, wires_of, word_port_next}
use Rattle.ibx_icache.specs.Doing.{doing_of}
use Rattle.ibx_icache.specs.declared.port.WordPort.{WordPort}
use Rattle.ibx_icache.specs.declared.writes.Filling.{Filling}
use Rattle.ibx_muldiv.specs.Unit.{idle_of as md_idle, begun}
use Rattle.ibx_prefetch.specs.Buffer.{fetch_after_answer, requested, request_of, head_of, prefetch_next, took, turned}
use Rattle.ibx_prefetch.specs.declared.buffer.Prefetch.{Prefetch}
use Rattle.ibx_time_invariant.proofs.Fetches.{HeadIs}
use Rattle.ibx_time_invariant.proofs.Words.{AfterAnswer, AfterIssue, Words, WordsAt, WordsMid}
use Rattle.ibx_time_invariant.proofs.Stages.{Empty, Full, StageAt, StageMid}
use Rattle.ibx_time_invariant.proofs.Ties.{IsPlaced, IsSettled, IsState, MemoryAt, Tied}
use Rattle.ibx_time_invariant.proofs.Invariant.{Begun, Inv, enables}
use Rattle.ibx_time_invariant.proofs.FetchSide.{Takes, ans_of, granted_port, issued, receives, seen_by, wires_in}
use Rattle.ibx_time_invariant.proofs.StageSide.{AfterPort}
use Rattle.ibx_time_invariant.proofs.AdmitSide.{Entered, entry_in_cycle, item, nothing}
use Rattle.ibx_time_invariant.proofs.Phases.{Phases}
use Rattle.ibx_time_invariant.proofs.Receives.{received_as}
use Rattle.ibx_time_invariant.proofs.Pieces.{fetch_reads, grows_unseen, head_same, hold_admits, is_over, over_admits, over_md}
use Rattle.ibx_time_invariant.proofs.Pieces.{past_entered, took_none}
use Rattle.ibx_bus.specs.Memory.{MemoryState, memory_after}
use Rattle.ibx_bus.specs.Port.{PortState, answer_wires, grants, port_next}
use Rattle.ibx_time.specs.Settings.{Setup, lines_in, settings_of}
use Rattle.ibx_time.specs.Requests.{Past}
use Rattle.ibx_time.specs.Streams.{Stream, past, words}
use Rattle.ibx_time.specs.Times.{AnInstruction, admitted}
use Rattle.ibx_time.specs.Memories.{Write, memory_at}
use Rattle.ibx_time.specs.History.{Story, item_at, kind_of, taken, with_item}
use Rattle.ibx_time.specs.BusLines.{wires_at}
use Rattle.ibx_id.specs.declared.stage.Turn.TheVariants.{Hold}
use Rattle.ibx_id.specs.Turns.{empty_stage}
use Rattle.ibx_id.specs.declared.stage.Turn.{Turn}
use Rattle.ibx_id.specs.declared.stage.IdState.{IdState}
use Rattle.ibx_time_machine.specs.Core.{core_out_by}
use Rattle.ibx_time_machine.specs.System.{System, in_of, next_from, system_by}
use Rattle.ibx_time_machine.specs.Words.{put_lines, put_reg, put_tags}
use Rattle.ibx_arch.specs.Memory.{image_memory}
use Rattle.ibx_arch.specs.Fetch.{fetch}
use Rattle.ibx_isa.specs.declared.bus.Req.{Req}
use Rattle.ibx_lsu.specs.declared.unit.Lsu.{Lsu}
use Rattle.ibx_memory.specs.Coded.{HoldsMemory}
use Rattle.ibx_core.specs.Effects.{Effect}
use Rattle.ibx_core.specs.Entries.{Entry, admits_by}
use Rattle.ibx_core.specs.declared.sight.Sight.{Sight}
use Rattle.ibx_core.specs.Core.{ls_by, md_next, next_by, port_of}

-- ---- the fetch side, over its own fields

-- the buffer after the answer, and after the request
abbrev pub buffer_of : Prefetch → WordPort → PortState → List ℕ → List ℕ → Prefetch
buffer_of f w p tags lines = receives (ans_of w p tags lines) f

-- the buffer after the request
abbrev pub fetch_of : Prefetch → WordPort → PortState → List ℕ → List ℕ → Prefetch
fetch_of f w p tags lines = requested (request_of (buffer_of f w p tags lines)) (buffer_of f w p tags lines)

-- what the word port sees, it after the request and after the grant, its port of the bus, and the words of the cache
-- that are written
abbrev pub seen_of : Bool → Bool → Prefetch → WordPort → PortState → List ℕ → List ℕ → WordIn
seen_of enable fence f w p tags lines = seen_by (request_of (buffer_of f w p tags lines)) enable fence w p tags lines

-- the word port after the answer and the request
abbrev pub issued_of : Bool → Bool → Prefetch → WordPort → PortState → List ℕ → List ℕ → WordPort
issued_of enable fence f w p tags lines =
    issued enable fence w.c_walk (request_of (buffer_of f w p tags lines))
    (port_answered w (seen_of enable fence f w p tags lines))

-- the word port after the grant
abbrev pub words_of : Bool → Bool → Prefetch → WordPort → PortState → List ℕ → List ℕ → WordPort
words_of enable fence f w p tags lines =
    granted_port (grants (wires_in (issued_of enable fence f w p tags lines)).valid p) fence w.c_walk
    (issued_of enable fence f w p tags lines)

-- the word port's port of the bus after the cycle
abbrev pub iport_of : Bool → Bool → Prefetch → WordPort → PortState → List ℕ → List ℕ → MemoryState → PortState
iport_of enable fence f w p tags lines m = port_next p m (wires_in (issued_of enable fence f w p tags lines))

-- what is written to the cache
abbrev pub filling_in : Bool → Bool → Prefetch → WordPort → PortState → List ℕ → List ℕ → Filling
filling_in enable fence f w p tags lines = filling_of w (seen_of enable fence f w p tags lines)

-- what the cycle leaves, before parcels are taken
pub record FetchCycle (s : Setup) (log : List Write) (x : Stream) (half c : ℕ) (fence enable next : Bool)
    (f : Prefetch) (w : WordPort) (p : PortState) (tags lines : List ℕ) (m : MemoryState) : Type 0 where
  pub count : ℕ
  pub words : WordsAt s log x half count (c + 1) next (fetch_of f w p tags lines)
      (words_of enable fence f w p tags lines) (iport_of enable fence f w p tags lines m)
      (put_tags (filling_in enable fence f w p tags lines) tags)
      (put_lines (filling_in enable fence f w p tags lines) lines)
  pub wires : wires_in (issued_of enable fence f w p tags lines) ≡ wires_at (past (settings_of s) x count).sent c

-- the phases of the fetch side one after another, which leave this
pub fetch_cycle : (s : Setup) → Phases s → IsPlaced s
    → (log : List Write) (x : Stream) (half q c : ℕ) (fence enable next : Bool) (f : Prefetch) (w : WordPort)
    (p : PortState) (tags lines : List ℕ) (m : MemoryState)
    → HoldsMemory s.image.ram m (memory_at (image_memory s.image) log c)
    → WordsMid s log x half q c fence enable next f w p tags lines
    → FetchCycle s log x half c fence enable next f w p tags lines m
fetch_cycle s ph ok log x half q c fence enable next f w p tags lines m ram mid =
    let f1 : Prefetch = buffer_of f w p tags lines in
    let w1 : WordPort = port_answered w (seen_of enable fence f w p tags lines) in
    let t1 : List ℕ = put_tags (filling_in enable fence f w p tags lines) tags in
    let l1 : List ℕ = put_lines (filling_in enable fence f w p tags lines) lines in
    let a1 : AfterAnswer s log x half q c w.c_walk fence enable next f1 w1 p t1 l1 =
    ph.fetch_answers log x half q c fence enable next (request_of f1) f w p tags lines ok mid in
    let f2 : Prefetch = fetch_of f w p tags lines in
    let w2 : WordPort = issued_of enable fence f w p tags lines in
    let a2 : (i : ℕ) × AfterIssue s log x half i c w.c_walk fence enable next f2 w2 p t1 l1 =
    ph.fetch_issues log x half q c w.c_walk fence enable next f1 w1 p t1 l1 a1 in
    record {
      count = a2.0;
      words = ph.fetch_ports log x half a2.0 c w.c_walk fence enable next f2 w2 p t1 l1 m ok ram a2.1;
      wires = ph.fetch_wires log x half a2.0 c w.c_walk fence enable next f2 w2 p t1 l1 a2.1;
    }

-- ---- the system after a cycle with this sight, this effect and this entry

-- the buffer of the system after the answer, with the redirect of this cycle
abbrev pub buffer_in : System → Effect → Prefetch
buffer_in st e = buffer_of (turned e.redirect st.main.fetch) st.main.words st.iport st.tags st.lines

-- the buffer receives as where the redirect came before the cycle
abbrev pub Receives : System → Effect → Type 0
Receives st e =
    fetch_after_answer (ans_of st.main.words st.iport st.tags st.lines) e.redirect st.main.fetch ≡ buffer_in st e

-- the system after the cycle
abbrev pub after : Setup → System → Sight → Effect → Entry → System
after s st g e n =
    next_from (record {
      sight = g;
      effect = e;
      ans = ans_of st.main.words st.iport st.tags st.lines;
      entry = n;
      request = request_of (buffer_in st e);
    }) (in_of s st) st

-- the load-store unit by whether its request is granted, and after the grant
abbrev pub ls_in : System → Sight → Bool → Lsu
ls_in st g granted = ls_by g.active g.access st.main.ls (answer_wires st.dport) granted

-- the load-store unit after the grant that its port gives
abbrev pub ls_after : System → Sight → Lsu
ls_after st g = ls_in st g (grants g.ls.req.valid st.dport)

-- the data port and memory after the cycle
abbrev pub dport_after : System → Sight → PortState
dport_after st g = port_next st.dport st.mem g.ls.req

-- memory after the cycle, which only a store that is granted changes
abbrev pub mem_after : System → Sight → MemoryState
mem_after st g = memory_after (grants g.ls.req.valid st.dport) st.mem g.ls.req

-- the words that the cycle leaves, with parcels taken
abbrev pub WordsAfter : Setup → Story → ℕ → System → Effect → ℕ → Type 0
WordsAfter s y q st e n =
    Words s y q (st.cycle + 1) (enables e.csrs)
    (took n (fetch_of (turned e.redirect st.main.fetch) st.main.words st.iport st.tags st.lines))
    (words_of (enables st.main.csrs) e.fence (turned e.redirect st.main.fetch) st.main.words st.iport st.tags st.lines)
    (iport_of (enables st.main.csrs) e.fence (turned e.redirect st.main.fetch) st.main.words st.iport st.tags st.lines
    st.mem)
    (put_tags (filling_in (enables st.main.csrs) e.fence (turned e.redirect st.main.fetch) st.main.words st.iport
    st.tags st.lines) st.tags)
    (put_lines (filling_in (enables st.main.csrs) e.fence (turned e.redirect st.main.fetch) st.main.words st.iport
    st.tags st.lines) st.lines)

-- the parts of the next cycle's invariant make it
inv_after : (s : Setup) (limit : ℕ) (h : Story) (o : Option ℕ) (q : ℕ) (st : System) (g : Sight) (e : Effect)
    (n : Entry)
    → Receives st e
    → StageAt s limit h o (st.cycle + 1) n.id (md_next g.turn g.md) (ls_after st g) (dport_after st g)
    → WordsAfter s (with_item s h o) q st e n.taken
    → Begun s h o
    → MemoryAt s (with_item s h o) (st.cycle + 1) (mem_after st g)
    → Tied s h (st.cycle + 1) e.next_pc e.csrs (put_reg e.write st.regs)
    → n.dummies ≡ (with_item s h o).times.dummies
    → IsState s (st.cycle + 1) h
    → Inv s limit h o q (after s st g e n)
unfolding system_by next_by core_out_by port_of prefetch_next word_port_next wires_of in_of
inv_after s limit h o q st g e n received stage words begun memory tied dummies state =
    let w2 : WordPort = issued_of (enables st.main.csrs) e.fence (turned e.redirect st.main.fetch) st.main.words
    st.iport st.tags st.lines in
    record {
      stage = stage;
      words = subst (λ f. Words s (with_item s h o) q (st.cycle + 1) (enables e.csrs)
          (took n.taken (requested (request_of f) f))
          (words_of (enables st.main.csrs) e.fence (turned e.redirect st.main.fetch) st.main.words st.iport st.tags
          st.lines)
          (iport_of (enables st.main.csrs) e.fence (turned e.redirect st.main.fetch) st.main.words st.iport st.tags
          st.lines st.mem)
          (put_tags (filling_in (enables st.main.csrs) e.fence (turned e.redirect st.main.fetch) st.main.words st.iport
          st.tags st.lines) st.tags)
          (put_lines (filling_in (enables st.main.csrs) e.fence (turned e.redirect st.main.fetch) st.main.words
          st.iport st.tags st.lines) st.lines))
          (sym received) words;
      begun = begun;
      memory = subst (λ m. MemoryAt s (with_item s h o) (st.cycle + 1)
          (memory_after (grants g.ls.req.valid st.dport) m g.ls.req))
          (sym (fetch_reads (grants (wires_in w2).valid st.iport) st.mem (doing_of w2.c_state) w2.c_addr)) memory;
      tied = tied;
      dummies = dummies;
      state = state;
    }

-- ---- after the done of a cycle, with this sight and this effect

-- the turn holds the item, or leaves the stage empty
abbrev pub TurnIs : Option ℕ → Turn → IdState → Type 0
TurnIs None turn next = is_over turn ≡ true
TurnIs (Some t) turn next = turn ≡ Hold next

-- what holds in a cycle after its done, of the stage, the words, memory and the state
pub record Middle (s : Setup) (limit : ℕ) (h : Story) (o : Option ℕ) (q : ℕ) (st : System) (g : Sight)
    (e : Effect) : Type 0 where
  pub next : IdState
  pub turn : TurnIs o g.turn next
  pub stage : StageMid s limit h o st.cycle next (md_next g.turn g.md) g.ls.req (ls_in st g) st.dport
  pub words : WordsMid s (with_item s h o).writes (with_item s h o).times.stream (with_item s h o).times.half q
      st.cycle e.fence (enables st.main.csrs) (enables e.csrs)
      (turned e.redirect st.main.fetch) st.main.words st.iport st.tags st.lines
  pub begun : Begun s h o
  pub memory : MemoryAt s (with_item s h o) st.cycle st.mem
  pub tied : Tied s h (st.cycle + 1) e.next_pc e.csrs (put_reg e.write st.regs)
  pub state : IsState s (st.cycle + 1) h
  pub settled : IsSettled s st.cycle h
  pub dummies : e.dummies ≡ (with_item s h o).times.dummies

-- then the buffer receives as where the redirect came before the cycle
pub received_in : (s : Setup) (limit : ℕ) (h : Story) (o : Option ℕ) (q : ℕ) (st : System) (g : Sight) (e : Effect)
    → Middle s limit h o q st g e → Receives st e
received_in s limit h o q st g e m =
    received_as s (with_item s h o).writes (with_item s h o).times.stream (with_item s h o).times.half q st.cycle
    e.fence (enables st.main.csrs) (enables e.csrs)
    e.redirect st.main.fetch st.main.words st.iport st.tags st.lines m.words

-- the invariant of the next cycle, and the wires of this one
pub record Follows (s : Setup) (limit : ℕ) (h : Story) (c : ℕ) (fetch load_store : Req) (st : System) : Type 0 where
  pub phase : Option ℕ
  pub count : ℕ
  pub inv : Inv s limit h phase count st
  pub fetch_is : fetch ≡ wires_at (past (settings_of s) (with_item s h phase).times.stream count).sent c
  pub load_store_is : load_store ≡ wires_at (with_item s h phase).sent c

-- the wires of the fetch port in the cycle
abbrev pub fetch_wires_in : System → Effect → Req
fetch_wires_in st e = wires_in (issued_of (enables st.main.csrs) e.fence (turned e.redirect st.main.fetch)
    st.main.words st.iport st.tags st.lines)

-- what the cycle admits
abbrev pub entry_after : Setup → System → Sight → Effect → Entry
entry_after s st g e = admits_by g.turn (head_of (buffer_in st e)) e (lines_in (settings_of s) st.cycle)

-- with these, the invariant of the next cycle follows
abbrev pub Goes : Setup → ℕ → Story → System → Sight → Effect → Entry → Type 0
Goes s limit h st g e n = Follows s limit h st.cycle (fetch_wires_in st e) g.ls.req (after s st g e n)

-- the item stays in the stage
holds_on : (s : Setup) → Phases s → IsPlaced s
    → (limit : ℕ) (h : Story) (t q : ℕ) (st : System) (g : Sight) (e : Effect) → Middle s limit h (Some t) q st g e
    → Goes s limit h st g e (entry_after s st g e)
holds_on s ph ok limit h t q st g e m =
    let y : Story = taken s t h in
    let f0 : Prefetch = turned e.redirect st.main.fetch in
    let fetch : FetchCycle s y.writes y.times.stream y.times.half st.cycle e.fence (enables st.main.csrs)
    (enables e.csrs) f0 st.main.words st.iport st.tags st.lines st.mem =
    fetch_cycle s ph ok y.writes y.times.stream y.times.half q st.cycle e.fence (enables st.main.csrs) (enables e.csrs)
    f0 st.main.words st.iport st.tags st.lines st.mem m.memory m.words in
    let f2 : Prefetch = fetch_of f0 st.main.words st.iport st.tags st.lines in
    let port : AfterPort s limit h (Some t) st.cycle m.next (md_next g.turn g.md) (ls_after st g) (dport_after st g)
    (mem_after st g) =
    ph.stage_ports limit h (Some t) st.cycle m.next (md_next g.turn g.md) g.ls.req (ls_in st g) st.dport st.mem ok
    ph.arch_accesses m.state m.settled m.stage m.memory in
    let words : WordsAfter s y fetch.count st e 0 =
    subst (λ f. Words s y fetch.count (st.cycle + 1) (enables e.csrs) f
    (words_of (enables st.main.csrs) e.fence f0 st.main.words st.iport st.tags st.lines)
    (iport_of (enables st.main.csrs) e.fence f0 st.main.words st.iport st.tags st.lines st.mem)
    (put_tags (filling_in (enables st.main.csrs) e.fence f0 st.main.words st.iport st.tags st.lines) st.tags)
    (put_lines (filling_in (enables st.main.csrs) e.fence f0 st.main.words st.iport st.tags st.lines) st.lines))
    (sym (took_none y.times.stream y.times.half f2 fetch.words.fetch.head)) fetch.words in
    subst (Goes s limit h st g e) (sym
    (hold_admits g.turn m.next (head_of (buffer_in st e)) e (lines_in (settings_of s) st.cycle) m.turn))
    (record {
      phase = Some t;
      count = fetch.count;
      inv = inv_after s limit h (Some t) fetch.count st g e (record { id = m.next; taken = 0; dummies = e.dummies })
          (received_in s limit h (Some t) q st g e m) port.stage words m.begun port.memory m.tied m.dummies m.state;
      fetch_is = fetch.wires;
      load_store_is = ph.stage_wires limit h (Some t) st.cycle m.next (md_next g.turn g.md) g.ls.req (ls_in st g)
          st.dport m.settled m.stage;
    })

-- ---- the stage is empty, and the admission comes

-- an item that enters takes its parcels from the words, in the story with it
taken_words : (s : Setup) (h : Story) (c q : ℕ) (enable : Bool) (f : Prefetch) (w : WordPort) (p : PortState)
    (tags lines : List ℕ)
    → Takes s (taken s c h).writes h.times.stream h.times.half (item_at s c h).parcels q c enable f w p tags lines
    → Words s (taken s c h) q (c + 1) enable (took (item_at s c h).parcels f) w p tags lines
unfolding taken admitted
taken_words s h c q enable f w p tags lines t = t.words

-- the fetch of an instruction that enters began before its admission
taken_begun : (s : Setup) (h : Story) (c q : ℕ) (enable : Bool) (f : Prefetch) (w : WordPort) (p : PortState)
    (tags lines : List ℕ)
    → Takes s (taken s c h).writes h.times.stream h.times.half (item_at s c h).parcels q c enable f w p tags lines
    → (kind_of s c h ≡ AnInstruction → 0 < (item_at s c h).parcels)
    → Begun s h (Some c)
unfolding taken admitted
taken_begun s h c q enable f w p tags lines t real kind = t.begun (real kind)

-- the words that are requested, up to three behind those taken, are the same with the item that enters
taken_past : (s : Setup) (h : Story) (c q : ℕ) → q ≤ length h.times.stream.enters + 3
    → past (settings_of s) (taken s c h).times.stream q ≡ past (settings_of s) h.times.stream q
unfolding taken admitted
taken_past s h c q low = past_entered (settings_of s) h.times.stream h.times.half (item_at s c h).parcels (c + 1) q low

-- what is admitted, or nothing, gives the invariant of the next cycle
enters_by : (s : Setup) → Phases s → IsPlaced s
    → (limit : ℕ) (h : Story) (q : ℕ) (st : System) (g : Sight) (e : Effect) (n : Entry)
    → Middle s limit h None q st g e → FetchCycle s h.writes h.times.stream h.times.half st.cycle e.fence
    (enables st.main.csrs) (enables e.csrs) (turned e.redirect st.main.fetch) st.main.words st.iport st.tags st.lines
    st.mem
    → AfterPort s limit h None st.cycle empty_stage md_idle (ls_after st g) (dport_after st g) (mem_after st g)
    → g.ls.req ≡ wires_at h.sent st.cycle
    → Entered s limit h st.cycle n (ls_after st g) (dport_after st g)
    → Goes s limit h st g e n
enters_by s ph ok limit h q st g e n m fetch port wires (nothing none same stage) =
    let f0 : Prefetch = turned e.redirect st.main.fetch in
    let f2 : Prefetch = fetch_of f0 st.main.words st.iport st.tags st.lines in
    let P : Prefetch → Type 0 = λ f. Words s h fetch.count (st.cycle + 1) (enables e.csrs) f
    (words_of (enables st.main.csrs) e.fence f0 st.main.words st.iport st.tags st.lines)
    (iport_of (enables st.main.csrs) e.fence f0 st.main.words st.iport st.tags st.lines st.mem)
    (put_tags (filling_in (enables st.main.csrs) e.fence f0 st.main.words st.iport st.tags st.lines) st.tags)
    (put_lines (filling_in (enables st.main.csrs) e.fence f0 st.main.words st.iport st.tags st.lines) st.lines) in
    record {
      phase = None;
      count = fetch.count;
      inv = inv_after s limit h None fetch.count st g e n (received_in s limit h None q st g e m)
          (subst (λ md. Empty s limit h (st.cycle + 1) n.id md (ls_after st g) (dport_after st g))
          (sym (over_md g.turn g.md m.turn)) stage)
          (subst (λ k. P (took k f2)) (sym none)
          (subst P (sym (took_none h.times.stream h.times.half f2 fetch.words.fetch.head)) fetch.words))
          tt port.memory m.tied same m.state;
      fetch_is = fetch.wires;
      load_store_is = wires;
    }
enters_by s ph ok limit h q st g e n m fetch port wires (item a) =
    let c : ℕ = st.cycle in
    let y : Story = taken s c h in
    let f0 : Prefetch = turned e.redirect st.main.fetch in
    let f2 : Prefetch = fetch_of f0 st.main.words st.iport st.tags st.lines in
    let w3 : WordPort = words_of (enables st.main.csrs) e.fence f0 st.main.words st.iport st.tags st.lines in
    let p3 : PortState = iport_of (enables st.main.csrs) e.fence f0 st.main.words st.iport st.tags st.lines st.mem in
    let t3 : List ℕ =
    put_tags (filling_in (enables st.main.csrs) e.fence f0 st.main.words st.iport st.tags st.lines) st.tags in
    let l3 : List ℕ =
    put_lines (filling_in (enables st.main.csrs) e.fence f0 st.main.words st.iport st.tags st.lines) st.lines in
    let took_ : Takes s y.writes h.times.stream h.times.half (item_at s c h).parcels fetch.count c (enables e.csrs) f2
    w3 p3 t3 l3 =
    ph.fetch_takes h.writes y.writes h.times (item_at s c h).parcels fetch.count c (enables e.csrs) f2 w3 p3 t3 l3
    fetch.words a.writes a.few a.there in
    record {
      phase = Some c;
      count = fetch.count;
      inv = inv_after s limit h (Some c) fetch.count st g e n (received_in s limit h None q st g e m)
          (subst (λ md. Full s limit c h (c + 1) n.id md (ls_after st g) (dport_after st g))
          (sym (over_md g.turn g.md m.turn)) a.stage)
          (subst (λ k. Words s y fetch.count (c + 1) (enables e.csrs) (took k f2) w3 p3 t3 l3) (sym a.taken_is)
          (taken_words s h c fetch.count (enables e.csrs) f2 w3 p3 t3 l3 took_))
          (taken_begun s h c fetch.count (enables e.csrs) f2 w3 p3 t3 l3 took_ a.real)
          (subst (λ memory. HoldsMemory s.image.ram (mem_after st g) memory)
          (sym (grows_unseen (image_memory s.image) h.writes y.writes (c + 1) a.writes)) port.memory)
          m.tied a.dummies m.state;
      fetch_is = fetch.wires ∙ ap (λ (v : Past). wires_at v.sent c)
          (sym (taken_past s h c fetch.count fetch.words.requested.within));
      load_store_is = wires ∙ sym a.wires;
    }

-- so a stage that the done leaves empty admits what is due, and the invariant follows
enters_in : (s : Setup) → Phases s → IsPlaced s
    → (limit : ℕ) (h : Story) (q : ℕ) (st : System) (g : Sight) (e : Effect) → st.cycle < limit
    → Middle s limit h None q st g e → Goes s limit h st g e (entry_after s st g e)
enters_in s ph ok limit h q st g e less m =
    let f0 : Prefetch = turned e.redirect st.main.fetch in
    let fetch : FetchCycle s h.writes h.times.stream h.times.half st.cycle e.fence (enables st.main.csrs)
    (enables e.csrs) f0 st.main.words st.iport st.tags st.lines st.mem =
    fetch_cycle s ph ok h.writes h.times.stream h.times.half q st.cycle e.fence (enables st.main.csrs) (enables e.csrs)
    f0 st.main.words st.iport st.tags st.lines st.mem m.memory m.words in
    let f1 : Prefetch = buffer_in st e in
    let f2 : Prefetch = fetch_of f0 st.main.words st.iport st.tags st.lines in
    let w3 : WordPort = words_of (enables st.main.csrs) e.fence f0 st.main.words st.iport st.tags st.lines in
    let p3 : PortState = iport_of (enables st.main.csrs) e.fence f0 st.main.words st.iport st.tags st.lines st.mem in
    let t3 : List ℕ =
    put_tags (filling_in (enables st.main.csrs) e.fence f0 st.main.words st.iport st.tags st.lines) st.tags in
    let l3 : List ℕ =
    put_lines (filling_in (enables st.main.csrs) e.fence f0 st.main.words st.iport st.tags st.lines) st.lines in
    let head : HeadIs s h.writes h.times.stream h.times.half st.cycle (head_of f1) =
    subst (HeadIs s h.writes h.times.stream h.times.half st.cycle) (head_same (request_of f1) f1)
    (ph.fetch_shows h.writes h.times.stream h.times.half fetch.count st.cycle (enables e.csrs) f2 w3 p3 t3 l3 ok
    fetch.words) in
    let port : AfterPort s limit h None st.cycle empty_stage md_idle (ls_after st g) (dport_after st g)
    (mem_after st g) =
    ph.stage_ports limit h None st.cycle empty_stage md_idle g.ls.req (ls_in st g) st.dport st.mem ok ph.arch_accesses
    m.state m.settled m.stage m.memory in
    let wires : g.ls.req ≡ wires_at h.sent st.cycle =
    ph.stage_wires limit h None st.cycle empty_stage md_idle g.ls.req (ls_in st g) st.dport m.settled m.stage in
    let lines : ℕ = lines_in (settings_of s) st.cycle in
    subst (Goes s limit h st g e) (sym (over_admits g.turn (head_of f1) e lines m.turn))
    (enters_by s ph ok limit h q st g e (entry_in_cycle lines (head_of f1) e.csrs e.dummies e.next_pc) m fetch port
    wires
    (ph.admits limit h st.cycle e.next_pc e.csrs (put_reg e.write st.regs) e.dummies (head_of f1) (ls_after st g)
    (dport_after st g) ok ph.arch_fetches less m.tied m.state m.dummies head port.stage))

-- a cycle after its done
pub goes_on : (s : Setup) → Phases s → IsPlaced s
    → (limit : ℕ) (h : Story) (o : Option ℕ) (q : ℕ) (st : System) (g : Sight) (e : Effect) → st.cycle < limit
    → Middle s limit h o q st g e → Goes s limit h st g e (entry_after s st g e)
goes_on s ph ok limit h None q st g e less m = enters_in s ph ok limit h q st g e less m
goes_on s ph ok limit h (Some t) q st g e less m = holds_on s ph ok limit h t q st g e m
