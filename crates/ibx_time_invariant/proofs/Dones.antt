-- The done of a cycle: the invariant gives what holds after it, with an event or without.
use Rattle.std.proofs.Common.{◌||◌, ◌≡◌, ℕ, ◌+◌, ◌-◌, ◌%◌, ◌^◌, ◌<◌, Bool, true, false, not, ◌&&◌, List, if◌then◌else◌}
use Rattle.std.proofs.Common.{nat_lt, nat_le, ◌==◌, slice_index, Some, None, Option, sym, refl, ap, ◌∙◌, subst}
use Rattle.ibx_time.specs.History.{item_by, Story, admission, choice_at, choice_by, continued, done_at, ended_by}
use Rattle.ibx_time.specs.History.{event_at, item_at, kind_of, taken, view_with, with_item, words_there}
use Rattle.ibx_time.specs.Times.{marked, target_if, ADummy, AnInstruction, AnInterrupt, Kind, admitted, after_event}
use Rattle.ibx_time.specs.Times.{half_after, is_ready, kind_at, made_by}
use Rattle.ibx_id.specs.Turns.{held, turn_of, empty_stage, real_turn}
use Rattle.ibx_id.specs.declared.stage.IdState.{IdState}
use Rattle.ibx_id.specs.declared.stage.IdIn.{IdIn}
use Rattle.ibx_id.specs.declared.stage.Turn.TheVariants.{Idle, Dummy, Hold, Irq}
use Rattle.ibx_csr.specs.Fields.{tick_of}
use Rattle.ibx_lsu.specs.Turns.{awaits}
use Rattle.ibx_time_invariant.proofs.Links.{AreGranted}
use Rattle.ibx_time_invariant.proofs.Words.{WordsAt, WordsMid}
use Rattle.ibx_time_invariant.proofs.Stages.{FullMid, Searching, StageMid, trap_phase}
use Rattle.ibx_time_invariant.proofs.Ties.{IsBefore, IsPlaced}
use Rattle.ibx_time_invariant.proofs.Invariant.{Inv, enables}
use Rattle.ibx_time_invariant.proofs.StageSide.{Ends, Eyes, Sees, Turned, ends, fault_seen, in_by, ls_left, ls_seen, md_seen}
use Rattle.ibx_time_invariant.proofs.StageSide.{stays, turn_seen}
use Rattle.ibx_time_invariant.proofs.ArchSide.{Left, StillTied, eyes_in, eyes_of}
use Rattle.ibx_time_invariant.proofs.Phases.{Phases}
use Rattle.ibx_time_invariant.proofs.Pieces.{enables_is, ending_over, has_request, is_over, memory_stays}
use Rattle.ibx_time_invariant.proofs.Cycle.{Middle, TurnIs, ls_in}
use Rattle.ibx_bus.specs.Port.{answer_wires}
use Rattle.ibx_bus.proofs.Ports.{Free, idle_free}
use Rattle.ibx_time.specs.Search.{first_from}
use Rattle.ibx_time.specs.Settings.{Setup, lines_in, settings_of}
use Rattle.ibx_time.specs.Controls.{Ctl, ctl_after, enables_cache}
use Rattle.ibx_time.specs.Items.{Item, dummy_item, item_of}
use Rattle.ibx_time.specs.Streams.{Stream, redirected_to}
use Rattle.ibx_time.specs.Memories.{Write, memory_at}
use Rattle.ibx_prefetch.specs.declared.buffer.Prefetch.{Prefetch}
use Rattle.ibx_prefetch.specs.Buffer.{turned}
use Rattle.ibx_time_machine.specs.System.{System, happens_at, in_of}
use Rattle.ibx_time_machine.specs.Words.{put_reg}
use Rattle.ibx_arch.specs.Memory.{image_memory}
use Rattle.ibx_arch.specs.Step.{Choice, interrupted, step_with}
use Rattle.ibx_secded.specs.Code.{payload_of}
use Rattle.ibx_isa.specs.Views.{view_of}
use Rattle.ibx_isa.specs.declared.insn.MulKind.{MulKind}
use Rattle.ibx_isa.specs.declared.event.Access.{Access}
use Rattle.ibx_isa.specs.declared.bus.Rsp.{Rsp}
use Rattle.ibx_csr.specs.declared.csrs.Csrs.{Csrs}
use Rattle.ibx_lsu.specs.declared.unit.Lsu.{Lsu}
use Rattle.ibx_lsu.specs.declared.unit.LsTurn.{LsTurn}
use Rattle.ibx_memory.specs.Coded.{HoldsMemory}
use Rattle.ibx_core.specs.Effects.{rests, Effect, effect_by}
use Rattle.ibx_core.specs.Sights.{access_by, is_some_access, ra_of, rb_of, row_of, turn_by, sight_of, sight_with}
use Rattle.ibx_core.specs.declared.sight.Sight.{Sight}
use Rattle.ibx_core.specs.Core.{ls_by, md_next}

-- ---- the sight and the effect of a cycle

-- what a cycle of the system sees, and what its turn does
abbrev pub sight_in : Setup → System → Sight
sight_in s st = sight_of st.main (in_of s st)

-- what the turn does in that cycle
abbrev pub effect_in : Setup → System → Effect
effect_in s st = effect_by (sight_in s st).turn st.main (sight_in s st) (in_of s st).lines

-- the same as the stage's eyes
abbrev pub eyes : Setup → System → Eyes
eyes s st = eyes_in s st.cycle st.main.id st.main.csrs st.regs

-- the turn, the load-store unit and the multiplier see the same through them
pub turn_is : (s : Setup) (st : System)
    → (sight_in s st).turn ≡ turn_seen (eyes s st) st.main.id st.main.ls (answer_wires st.dport)
unfolding sight_of sight_with in_of
turn_is s st = refl

-- what the load-store unit drives and answers is as the stage's eyes see it
pub ls_is : (s : Setup) (st : System)
    → (sight_in s st).ls ≡ ls_seen (eyes s st) st.main.id st.main.ls (answer_wires st.dport)
unfolding sight_of sight_with in_of
ls_is s st = refl

-- so is the multiplier before its tick
pub md_is : (s : Setup) (st : System) → (sight_in s st).md ≡ md_seen s (eyes s st) st.main.id st.main.md
unfolding sight_of sight_with in_of
md_is s st = refl

-- and so are the unit's next fields, with a grant or without
left_is : (s : Setup) (st : System)
    → ls_in st (sight_in s st) ≡ ls_left (eyes s st) st.main.id st.main.ls (answer_wires st.dport)
unfolding sight_of sight_with in_of
left_is s st = refl

-- ---- what the done leaves

-- no item is done in the cycle, or one is and its event happens; what holds after the done follows either way
pub data Done (s : Setup) (limit : ℕ) (h : Story) (st : System) (g : Sight) (e : Effect) : Type 0 where
  on : (o : Option ℕ) (q : ℕ) → e.happens ≡ None → Middle s limit h o q st g e → Done s limit h st g e
  off : (t q : ℕ) → admission s limit h ≡ t → done_at s limit t h ≡ st.cycle
      → happens_at st.cycle e.happens ≡ event_at s limit t h
      → Middle s limit (continued s limit t h) None q st g e → Done s limit h st g e

-- ---- a cycle without an event

-- a cycle whose turn is over or holds, and in which nothing ends
rested : (s : Setup) → Phases s → (limit : ℕ) (h : Story) (o : Option ℕ) (q : ℕ) (st : System) (g : Sight)
    (next : IdState) → Inv s limit h o q st
    → TurnIs o g.turn next
    → StageMid s limit h o st.cycle next (md_next g.turn g.md) g.ls.req (ls_in st g) st.dport
    → Middle s limit h o q st g (rests st.main)
unfolding turned tick_of rests
rested s ph limit h o q st g next i turn stage =
    let still : StillTied s h (st.cycle + 1) st.main.next_pc (tick_of st.main.csrs false None) st.regs =
    ph.arch_rests h st.cycle st.main.next_pc st.main.csrs st.regs i.tied i.state in
    let y : Story = with_item s h o in
    record {
      next = next;
      turn = turn;
      stage = stage;
      words = ph.fetch_rests y.writes y.times.stream y.times.half q st.cycle (enables st.main.csrs) st.main.fetch
          st.main.words st.iport st.tags st.lines i.words;
      begun = i.begun;
      memory = i.memory;
      tied = still.tied;
      state = still.state;
      settled = i.state.settled;
      dummies = i.dummies;
    }

-- ---- an empty stage

-- without an item nothing turns: no access, no request, no next fields
turn_idle : (id : IdState) (i : IdIn) → id.valid ≡ false → turn_of id i ≡ Idle
unfolding turn_of
turn_idle id i e = ap (λ b. if not b then Idle else if nat_le 2 id.kind then Irq else if id.kind == 1
    then (if nat_le i.cost id.count || nat_le 2 id.phase then Dummy else Hold (held 1 id)) else real_turn id i) e

-- a stage without an item sees no access
no_access : (id : IdState) (csrs : Csrs) (rega regb lines : ℕ) (mul : MulKind) → id.valid ≡ false
    → (eyes_of id csrs rega regb lines mul).access ≡ None
no_access id csrs rega regb lines mul e =
    ap (λ b. if b && id.kind == 0 then access_by (row_of id) (payload_of 32 rega) (payload_of 32 regb) else None) e

-- without an access the load-store unit drives nothing and ends nothing
no_turn : (access : Option Access) (r p : Bool) (ls : Lsu) (rsp : Rsp) → access ≡ None
    → turn_by (is_some_access access && r && p) access ls rsp ≡ awaits
unfolding turn_by
no_turn access r p ls rsp e = ap (λ a. turn_by (is_some_access a && r && p) a ls rsp) e

-- without an access the load-store unit keeps its fields, with a grant or without
no_next : (access : Option Access) (r p : Bool) (ls : Lsu) (rsp : Rsp) (granted : Bool) → access ≡ None
    → ls_by (is_some_access access && r && p) access ls rsp granted ≡ ls
unfolding ls_by
no_next access r p ls rsp granted e = ap (λ a. ls_by (is_some_access a && r && p) a ls rsp granted) e

-- a turn without an end has the effects of a cycle at rest
rests_in : (s : Setup) (st : System) → (sight_in s st).turn ≡ Idle → effect_in s st ≡ rests st.main
unfolding effect_by
rests_in s st e = ap (λ t. effect_by t st.main (sight_in s st) (in_of s st).lines) e

-- a turn that holds an item has the effects of a cycle at rest too
holds_in : (s : Setup) (st : System) (next : IdState) → (sight_in s st).turn ≡ Hold next
    → effect_in s st ≡ rests st.main
unfolding effect_by
holds_in s st next e = ap (λ t. effect_by t st.main (sight_in s st) (in_of s st).lines) e

-- so a stage that is empty stays so until the admission
stays_empty : (s : Setup) → Phases s → (limit : ℕ) (h : Story) (q : ℕ) (st : System) → Inv s limit h None q st
    → Done s limit h st (sight_in s st) (effect_in s st)
unfolding rests
stays_empty s ph limit h q st i =
    let g : Sight = sight_in s st in
    let v : Eyes = eyes s st in
    let rsp : Rsp = answer_wires st.dport in
    let invalid : st.main.id.valid ≡ false = ap (λ (d : IdState). d.valid) i.stage.id_is in
    let none : v.access ≡ None = no_access st.main.id st.main.csrs (slice_index st.regs (ra_of st.main.id))
    (slice_index st.regs (rb_of st.main.id)) (lines_in (settings_of s) st.cycle) s.mul invalid in
    let idle_turn : g.turn ≡ Idle = turn_is s st
    ∙ turn_idle st.main.id (in_by v (ls_seen v st.main.id st.main.ls rsp).done
    (fault_seen v (ls_seen v st.main.id st.main.ls rsp))) invalid in
    let e : effect_in s st ≡ rests st.main = rests_in s st idle_turn in
    subst (Done s limit h st g) (sym e)
    (on None q refl
    (rested s ph limit h None q st g empty_stage i (ap is_over idle_turn)
    (record {
      quiet = ap (λ (t : LsTurn). t.req)
          (ls_is s st ∙ no_turn v.access (v.refused == 0) (nat_lt st.main.id.phase 2) st.main.ls rsp none);
      ls_is = ap (λ f. f false) (left_is s st)
          ∙ no_next v.access (v.refused == 0) (nat_lt st.main.id.phase 2) st.main.ls rsp false none ∙ i.stage.ls_is;
      free = idle_free s.plan.dwaits h.times.made st.dport i.stage.idle;
      search = i.stage.search;
    })))

-- ---- what the story of the next item has of the one before

-- an item that is done leaves the transactions, the writes, and its done cycle
ended_made : (s : Setup) (h y : Story) (o : Option Choice) (i : Item) (d : ℕ)
    → (ended_by s h o i d y).times.made ≡ y.times.made
unfolding after_event
ended_made s h y (Some choice) i d = refl
ended_made s h y None i d = refl

-- the done of an item adds no write to the story with it
ended_writes : (s : Setup) (h y : Story) (o : Option Choice) (i : Item) (d : ℕ)
    → (ended_by s h o i d y).writes ≡ y.writes
ended_writes s h y (Some choice) i d = refl
ended_writes s h y None i d = refl

-- the done of an item adds no transaction of the data port
ended_sent : (s : Setup) (h y : Story) (o : Option Choice) (i : Item) (d : ℕ) → (ended_by s h o i d y).sent ≡ y.sent
ended_sent s h y (Some choice) i d = refl
ended_sent s h y None i d = refl

-- the story after an item has that item's done as its last
ended_done : (s : Setup) (h y : Story) (o : Option Choice) (i : Item) (d : ℕ) → (ended_by s h o i d y).done ≡ d
ended_done s h y (Some choice) i d = refl
ended_done s h y None i d = refl

-- the story after the item has made and written what the one with it had
next_made : (s : Setup) (limit t : ℕ) (h : Story)
    → (continued s limit t h).times.made ≡ made_by (item_at s t h).portions h.times.made
unfolding continued taken admitted
next_made s limit t h = ended_made s h (taken s t h) (choice_at s t h) (item_at s t h) (done_at s limit t h)

-- the next item's story begins with the writes of this one
pub next_writes : (s : Setup) (limit t : ℕ) (h : Story) → (continued s limit t h).writes ≡ (taken s t h).writes
unfolding continued
next_writes s limit t h = ended_writes s h (taken s t h) (choice_at s t h) (item_at s t h) (done_at s limit t h)

-- the next item's story begins with the transactions of this one
pub next_sent : (s : Setup) (limit t : ℕ) (h : Story) → (continued s limit t h).sent ≡ (taken s t h).sent
unfolding continued
next_sent s limit t h = ended_sent s h (taken s t h) (choice_at s t h) (item_at s t h) (done_at s limit t h)

-- the last done in the next item's story is this one's
pub next_done : (s : Setup) (limit t : ℕ) (h : Story) → (continued s limit t h).done ≡ done_at s limit t h
unfolding continued
next_done s limit t h = ended_done s h (taken s t h) (choice_at s t h) (item_at s t h) (done_at s limit t h)

-- the search for the next admission begins at the done
searches : (s : Setup) (limit c : ℕ) (h : Story) → h.done ≡ c → Searching s limit h c
unfolding admission
searches s limit c h e =
    ap (λ d. first_from (limit - d) (λ t. is_ready (kind_at (settings_of s) h.times t) (words_there s h t)) d) e

-- a FENCE.I is an instruction
fences_by : (s : Setup) (h : Story) (k : Kind) → (item_by s h (choice_by s h k)).fences ≡ true → k ≡ AnInstruction
unfolding item_of dummy_item step_with interrupted view_of
fences_by s h (AnInterrupt number) e = let no_ : false ≡ true = e in cc
fences_by s h ADummy e = let no_ : false ≡ true = e in cc
fences_by s h AnInstruction e = refl

-- so an item that is a FENCE.I is an instruction
pub fences_real : (s : Setup) (t : ℕ) (h : Story) → (item_at s t h).fences ≡ true → kind_of s t h ≡ AnInstruction
unfolding item_at
fences_real s t h e = fences_by s h (kind_of s t h) e

-- ---- the words after an event

-- the words of the system, in a cycle after the done
abbrev pub WordsNow : Setup → List Write → Stream → ℕ → ℕ → ℕ → Bool → Bool → Bool → Prefetch → System → Type 0
WordsNow s log x half q c fence enable next f st =
    WordsMid s log x half q c fence enable next f st.main.words st.iport st.tags st.lines

-- a redirect, or none, leaves the words
turns_by : (s : Setup) → Phases s → (log : List Write) (x : Stream) (half q c pc : ℕ) (fence enable next : Bool)
    (st : System) (b : Bool)
    → WordsNow s log x half q c fence enable next st.main.fetch st → pc % 2 ≡ 0 → pc < 2 ^ 32
    → (i : ℕ) × WordsNow s log (redirected_to (settings_of s) x c (target_if b pc)) (half_after (target_if b pc) half)
    i c fence enable next (turned (target_if b pc) st.main.fetch) st
unfolding turned
turns_by s ph log x half q c pc fence enable next st false m even low = (q, m)
turns_by s ph log x half q c pc fence enable next st true m even low = (
  0,
  ph.fetch_turns log x half q c pc fence enable next st.main.fetch st.main.words st.iport st.tags st.lines m even
      low,
)

-- by the item's choice, at its done d
ended_words : (s : Setup) → Phases s → (h y : Story) (o : Option Choice) (q d : ℕ) (enable : Bool) (st : System)
    → WordsAt s y.writes y.times.stream y.times.half q d enable st.main.fetch st.main.words st.iport st.tags st.lines
    → ((item_by s h o).fences ≡ true → 0 < q)
    → enable ≡ enables_cache y.times.ctl
    → (ended_by s h o (item_by s h o) d y).state.pc % 2 ≡ 0
    → (ended_by s h o (item_by s h o) d y).state.pc < 2 ^ 32
    → (i : ℕ) × WordsNow s (ended_by s h o (item_by s h o) d y).writes
    (ended_by s h o (item_by s h o) d y).times.stream (ended_by s h o (item_by s h o) d y).times.half i d
    (item_by s h o).fences enable
    (enables_cache (ended_by s h o (item_by s h o) d y).times.ctl)
    (turned (target_if (item_by s h o).redirects (ended_by s h o (item_by s h o) d y).state.pc) st.main.fetch) st
unfolding after_event dummy_item turned
ended_words s ph h y None q d enable st w fence e even low = (
  q,
  subst (λ b. WordsNow s y.writes y.times.stream y.times.half q d false enable b st.main.fetch st) e
      (ph.fetch_rests y.writes y.times.stream y.times.half q d enable st.main.fetch st.main.words st.iport st.tags
      st.lines w),
)
ended_words s ph h y (Some choice) q d enable st w fence e even low =
    let i : Item = item_by s h (Some choice) in
    let ctl : Ctl = ctl_after y.times.ctl (view_with s h choice) in
    let pc : ℕ = (step_with (lines_in (settings_of s)) h.state choice d).next.pc in
    turns_by s ph y.writes (marked i.fences ctl d y.times.stream) y.times.half q d pc i.fences enable
    (enables_cache ctl) st i.redirects
    (ph.fetch_marks y.writes y.times.stream y.times.half q d enable i.fences ctl st.main.fetch st.main.words st.iport
    st.tags st.lines w fence) even low

-- so the words are those of the next item's story
next_words : (s : Setup) → Phases s → (limit t : ℕ) (h : Story) (q c : ℕ) (enable : Bool) (st : System)
    → WordsAt s (taken s t h).writes (taken s t h).times.stream (taken s t h).times.half q c enable st.main.fetch
    st.main.words st.iport st.tags st.lines
    → done_at s limit t h ≡ c
    → ((item_at s t h).fences ≡ true → 0 < q)
    → enable ≡ enables_cache (taken s t h).times.ctl
    → (continued s limit t h).state.pc % 2 ≡ 0
    → (continued s limit t h).state.pc < 2 ^ 32
    → (i : ℕ) × WordsNow s (continued s limit t h).writes (continued s limit t h).times.stream
    (continued s limit t h).times.half i c (item_at s t h).fences enable
    (enables_cache (continued s limit t h).times.ctl)
    (turned (target_if (item_at s t h).redirects (continued s limit t h).state.pc) st.main.fetch) st
unfolding continued item_at
next_words s ph limit t h q c enable st w at fence e even low =
    let o : Option Choice = choice_at s t h in
    let i : Item = item_by s h o in
    let y : Story = taken s t h in
    let P : ℕ → Type 0 = λ d. (ended_by s h o i d y).state.pc % 2 ≡ 0 → (ended_by s h o i d y).state.pc < 2 ^ 32
    → (j : ℕ) × WordsNow s (ended_by s h o i d y).writes (ended_by s h o i d y).times.stream
    (ended_by s h o i d y).times.half j c i.fences enable
    (enables_cache (ended_by s h o i d y).times.ctl)
    (turned (target_if i.redirects (ended_by s h o i d y).state.pc) st.main.fetch) st in
    subst P (sym at) (ended_words s ph h y o q c enable st w fence e) even low

-- ---- the item is done in this cycle

-- an admission leaves the registers that time depends on
taken_ctl : (s : Setup) (t : ℕ) (h : Story) → (taken s t h).times.ctl ≡ h.times.ctl
unfolding taken admitted
taken_ctl s t h = refl

-- an item that ends in this cycle: the effects are its step's, and the next one's story begins
ends_now : (s : Setup) → Phases s → IsPlaced s → (limit t : ℕ) (h : Story) (q : ℕ) (st : System)
    → Inv s limit h (Some t) q st → Ends s limit t h st.cycle st.main.id st.main.md st.main.ls st.dport (eyes s st)
    → Done s limit h st (sight_in s st) (effect_in s st)
ends_now s ph ok limit t h q st i n =
    let c : ℕ = st.cycle in
    let g : Sight = sight_in s st in
    let e : Effect = effect_in s st in
    let y : Story = taken s t h in
    let z : Story = continued s limit t h in
    let left : Left s limit t h c e st.regs =
    ph.arch_ends limit t h st ok i.tied i.state i.dummies i.stage.item i.stage.phase n in
    let begun : (item_at s t h).fences ≡ true → 0 < q =
    λ f. has_request (settings_of s) y.times.stream t c q i.words.requested (i.begun (fences_real s t h f)) n.after in
    let words : (j : ℕ) × WordsNow s z.writes z.times.stream z.times.half j c (item_at s t h).fences
    (enables st.main.csrs) (enables_cache z.times.ctl)
    (turned (target_if (item_at s t h).redirects z.state.pc) st.main.fetch) st =
    next_words s ph limit t h q c (enables st.main.csrs) st i.words n.done begun
    (enables_is s h c st.main.next_pc st.main.csrs st.regs i.tied
    ∙ sym (ap (λ (v : Ctl). enables_cache v) (taken_ctl s t h)))
    left.state.good.pc_even left.state.good.pc_low in
    let before : IsBefore z.writes c = subst (λ ws. IsBefore ws c) (sym (next_writes s limit t h)) n.settled in
    off t words.0 n.admitted_at n.done left.happens (record {
      next = empty_stage;
      turn =
          ap is_over (turn_is s st ∙ n.turn)
          ∙ ending_over (kind_of s t h) (trap_phase s t h) (item_at s t h).redirects;
      stage = record {
        quiet = ap (λ (v : LsTurn). v.req) (ls_is s st) ∙ n.request;
        ls_is = ap (λ f. f false) (left_is s st) ∙ n.ls_is;
        free = subst (λ k. Free s.plan.dwaits k st.dport) (sym (next_made s limit t h)) n.free;
        search = searches s limit c z (next_done s limit t h ∙ n.done);
      };
      words = subst (λ b. WordsNow s z.writes z.times.stream z.times.half words.0 c e.fence (enables st.main.csrs) b
          (turned e.redirect st.main.fetch) st)
          (sym (enables_is s z (c + 1) e.next_pc e.csrs (put_reg e.write st.regs) left.tied))
          (subst (λ r. WordsNow s z.writes z.times.stream z.times.half words.0 c e.fence (enables st.main.csrs)
          (enables_cache z.times.ctl) (turned r st.main.fetch) st) (sym left.redirect)
          (subst (λ b. WordsNow s z.writes z.times.stream z.times.half words.0 c b (enables st.main.csrs)
          (enables_cache z.times.ctl) (turned (target_if (item_at s t h).redirects z.state.pc) st.main.fetch) st)
          (sym left.fence) words.1));
      begun = tt;
      memory = subst (λ ws. HoldsMemory s.image.ram st.mem (memory_at (image_memory s.image) ws c))
          (sym (next_writes s limit t h)) i.memory;
      tied = left.tied;
      state = left.state;
      settled = record {
        before = before;
        granted = subst (λ ts. AreGranted ts c) (sym (next_sent s limit t h)) n.granted;
        memory = left.state.settled.memory ∙ memory_stays (image_memory s.image) z.writes c before;
      };
      dummies = left.dummies;
    })

-- ---- the item stays

-- an item that is held: the cycle rests
stays_on : (s : Setup) → Phases s → (limit t : ℕ) (h : Story) (q : ℕ) (st : System) (next : IdState)
    → Inv s limit h (Some t) q st → turn_seen (eyes s st) st.main.id st.main.ls (answer_wires st.dport) ≡ Hold next
    → FullMid s limit t h st.cycle next (md_next (Hold next) (md_seen s (eyes s st) st.main.id st.main.md))
    (ls_seen (eyes s st) st.main.id st.main.ls (answer_wires st.dport)).req
    (ls_left (eyes s st) st.main.id st.main.ls (answer_wires st.dport)) st.dport
    → Done s limit h st (sight_in s st) (effect_in s st)
unfolding rests
stays_on s ph limit t h q st next i turn m =
    let g : Sight = sight_in s st in
    let hold : g.turn ≡ Hold next = turn_is s st ∙ turn in
    let v : Eyes = eyes s st in
    let m1 : FullMid s limit t h st.cycle next (md_next (Hold next) g.md)
    (ls_seen v st.main.id st.main.ls (answer_wires st.dport)).req
    (ls_left v st.main.id st.main.ls (answer_wires st.dport)) st.dport =
    subst (λ md. FullMid s limit t h st.cycle next (md_next (Hold next) md)
    (ls_seen v st.main.id st.main.ls (answer_wires st.dport)).req
    (ls_left v st.main.id st.main.ls (answer_wires st.dport)) st.dport) (sym (md_is s st)) m in
    let m2 : FullMid s limit t h st.cycle next (md_next (Hold next) g.md) g.ls.req
    (ls_left v st.main.id st.main.ls (answer_wires st.dport)) st.dport =
    subst (λ (l : LsTurn). FullMid s limit t h st.cycle next (md_next (Hold next) g.md) l.req
    (ls_left v st.main.id st.main.ls (answer_wires st.dport)) st.dport) (sym (ls_is s st)) m1 in
    let m3 : FullMid s limit t h st.cycle next (md_next (Hold next) g.md) g.ls.req (ls_in st g) st.dport =
    subst (λ f. FullMid s limit t h st.cycle next (md_next (Hold next) g.md) g.ls.req f st.dport) (sym (left_is s st))
    m2 in
    let m4 : FullMid s limit t h st.cycle next (md_next g.turn g.md) g.ls.req (ls_in st g) st.dport =
    subst (λ k. FullMid s limit t h st.cycle next (md_next k g.md) g.ls.req (ls_in st g) st.dport) (sym hold) m3 in
    subst (Done s limit h st g) (sym (holds_in s st next hold))
    (on (Some t) q refl (rested s ph limit h (Some t) q st g next i hold m4))

-- what the turn comes to gives what holds after the done
turned_by : (s : Setup) → Phases s → IsPlaced s → (limit t : ℕ) (h : Story) (q : ℕ) (st : System)
    → Inv s limit h (Some t) q st → Turned s limit t h st.cycle st.main.id st.main.md st.main.ls st.dport (eyes s st)
    → Done s limit h st (sight_in s st) (effect_in s st)
turned_by s ph ok limit t h q st i (stays next turn m) = stays_on s ph limit t h q st next i turn m
turned_by s ph ok limit t h q st i (ends n) = ends_now s ph ok limit t h q st i n

-- so the invariant gives what holds after the done, with an item or without
pub after_done : (s : Setup) → Phases s → IsPlaced s → (limit : ℕ) (h : Story) (o : Option ℕ) (q : ℕ) (st : System)
    → st.cycle < limit → Inv s limit h o q st → Done s limit h st (sight_in s st) (effect_in s st)
after_done s ph ok limit h None q st less i = stays_empty s ph limit h q st i
after_done s ph ok limit h (Some t) q st less i =
    let sees : Sees s t h st.cycle st.main.id (eyes s st) =
    ph.arch_sees limit t h st.cycle st.main.next_pc st.main.id st.main.csrs st.regs ok i.tied i.state i.stage.item
    i.stage.phase in
    turned_by s ph ok limit t h q st i
    (ph.stage_turns limit t h st.cycle st.main.id st.main.md st.main.ls st.dport (eyes s st) less i.state sees i.stage)
