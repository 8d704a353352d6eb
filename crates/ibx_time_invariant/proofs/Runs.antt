-- What a run from reset comes to: its events, its wires, no alert, and what the fields show.
use Rattle.std.proofs.Common.{◌≡◌, ℕ, zero, suc, ◌+◌, ◌-◌, ◌<◌, ◌≤◌, Bool, true, false, not, ◌||◌, if◌then◌else◌, ◌==◌}
use Rattle.std.proofs.Common.{slice_index, Some, None, Option, sym, refl, ap, ◌∙◌, subst, ap₂, arith}
use Rattle.std.proofs.lemmas.Bool.{lt-ltb, le-ltb}
use Rattle.ibx_time.specs.Shown.{shown_of as shown_at, Shown, Staged, staged, staged_by}
use Rattle.ibx_time_machine.specs.System.{Shown as Display, shown_of, System, first_system, in_of, system_by, system_next}
use Rattle.ibx_muldiv.specs.declared.unit.MulDiv.{MulDiv as MulDivUnit}
use Rattle.ibx_time.specs.Streams.{requested, last_of, past}
use Rattle.ibx_arch.specs.State.{at_cycle}
use Rattle.ibx_time_invariant.proofs.Stages.{PhaseAt, StageAt, found, fresh, later}
use Rattle.ibx_time_invariant.proofs.Ties.{IsPlaced, MemoryAt}
use Rattle.ibx_time_invariant.proofs.Invariant.{Inv, enables}
use Rattle.ibx_time_invariant.proofs.Phases.{Phases}
use Rattle.ibx_time_invariant.proofs.Cycle.{Follows}
use Rattle.ibx_time_invariant.proofs.Join.{Agrees, agree, ended, next_cycle, no_more, not_before, one_more}
use Rattle.ibx_time_invariant.proofs.Join.{silent, step}
use Rattle.ibx_time_invariant.proofs.Opens.{opens}
use Rattle.ibx_bus.specs.Port.{PortState, answer_wires}
use Rattle.ibx_time.specs.Settings.{Settings, Setup, settings_of}
use Rattle.ibx_dummy.specs.declared.unit.Dummy.{Dummy}
use Rattle.ibx_time.specs.Times.{is_ready, kind_at}
use Rattle.ibx_time.specs.History.{Story, Told, admission, continued, done_at, kind_of, open_item, opening, told}
use Rattle.ibx_time.specs.History.{told_below, with_item, words_there}
use Rattle.ibx_time.specs.BusLines.{BusLine, bus_line, fetches, wires_at}
use Rattle.ibx_time.proofs.Times.{requested_is}
use Rattle.ibx_time_machine.specs.Core.{core_out_by}
use Rattle.ibx_time_machine.specs.Whole.{HasEvents, HasWires, HoldsValues, IsQuiet, ShowsHistory}
use Rattle.ibx_time_machine.specs.Shown.{shown_in}
use Rattle.ibx_time_machine.specs.Whole.{steps, system_at}
use Rattle.ibx_time_machine.specs.Shown.{staged_in}
use Rattle.ibx_csr.specs.Fields.{glitch_of, values}
use Rattle.ibx_csr.specs.Values.{CsrValues}
use Rattle.ibx_secded.specs.Code.{syndrome_of}
use Rattle.ibx_isa.specs.declared.bus.Req.{Req}
use Rattle.ibx_lsu.specs.declared.unit.Lsu.{Lsu}
use Rattle.ibx_id.specs.declared.stage.IdState.{IdState}
use Rattle.ibx_core.specs.Core.{is_flipped}
use Rattle.ibx_time.proofs.Timed.{first_after}
use Rattle.ibx_time.specs.Runs.{HoldsRam, HoldsRegisters, story_at}
use Rattle.ibx_core.specs.Sights.{ra_of, rb_of}

-- the cycle counts the steps from reset
pub first_cycle : (s : Setup) → (first_system s).cycle ≡ 0
unfolding first_system
first_cycle s = refl

-- n steps move the cycle's number by n
steps_cycle : (s : Setup) (n : ℕ) (st : System) → (steps s n st).cycle ≡ st.cycle + n
unfolding steps system_next system_by
steps_cycle s zero st = omega arith
steps_cycle s (suc n) st = omega (arith, steps_cycle s n (system_next s st))

-- so many steps from reset give the history below that cycle
pub from_reset : (s : Setup) → Phases s → IsPlaced s → (n : ℕ) → Agrees s n n n (opening s) (first_system s)
from_reset s ph ok n =
    agree s ph ok n n n (opening s) None 0 (first_system s) (opens s ok n) (omega (arith, first_cycle s)) (omega arith)

-- ---- the events

-- the events of the machine are those of the history
pub has_events : (s : Setup) → Phases s → IsPlaced s → HasEvents s
has_events s ph ok n = (from_reset s ph ok n).events

-- ---- the invariant before cycle c, for the story below c

-- the invariant holds for some item and count of words
pub record Before (s : Setup) (c : ℕ) (h : Story) (st : System) : Type 0 where
  pub phase : Option ℕ
  pub count : ℕ
  pub inv : Inv s c h phase count st
  pub cycle : st.cycle ≡ c

-- so it does before each cycle, for what is told below it
pub before : (s : Setup) → Phases s → IsPlaced s → (c : ℕ) → Before s c (told_below s c).story (system_at s c)
before s ph ok c =
    let a : Agrees s c c c (opening s) (first_system s) = from_reset s ph ok c in
    record {
      phase = a.kept.0;
      count = a.kept.1.0;
      inv = a.kept.1.1;
      cycle = omega (arith, steps_cycle s c (first_system s), first_cycle s);
    }

-- the phase is the item that is admitted below c and not done below it
pub phase_early : (s : Setup) (t : ℕ) (h : Story) (limit c phase : ℕ) → PhaseAt s limit t h c phase → t < c
phase_early s t h limit c phase (fresh e at) = omega (arith, at)
phase_early s t h limit c phase (later e less _) = omega (arith, less)
phase_early s t h limit c phase (found e two less done) = omega (arith, less)

-- where the stage has none, none is admitted before this cycle
pub none_late : (s : Setup) (limit c : ℕ) (h : Story) (id : IdState) (md : MulDivUnit) (ls : Lsu) (p : PortState)
    → StageAt s limit h None c id md ls p → c ≤ admission s limit h
none_late s limit c h id md ls p u =
    omega (
      arith,
      u.search,
      first_after (limit - c) (λ t. is_ready (kind_at (settings_of s) h.times t) (words_there s h t)) c,
    )

-- the item in the stage is the one that is open in the history
pub open_is : (s : Setup) (c : ℕ) (h : Story) (o : Option ℕ) (id : IdState) (md : MulDivUnit) (ls : Lsu) (p : PortState)
    → StageAt s c h o c id md ls p → open_item s c h ≡ o
open_is s c h None id md ls p u =
    rw (le-ltb (admission s c h) c (none_late s c c h id md ls p u)) refl
open_is s c h (Some t) id md ls p f =
    rw (f.admitted_at, lt-ltb t c (phase_early s t h c c id.phase f.phase)) refl

-- ---- what the fields show

-- the stage shows that item, and the fields the rest
staged_is : (s : Setup) (c : ℕ) (h : Story) (o : Option ℕ) (id : IdState) (md : MulDivUnit) (ls : Lsu) (p : PortState)
    → StageAt s c h o c id md ls p → staged_in id ≡ staged s h o
staged_is s c h None id md ls p u = ap staged_in u.id_is
staged_is s c h (Some t) id md ls p f =
    by id.valid id.kind (staged_by s h (kind_of s t h)).kind id.pc (staged_by s h (kind_of s t h)).pc id.word
    (staged_by s h (kind_of s t h)).word
    f.item.valid f.item.kind f.item.pc f.item.word
  where
    made : Bool → ℕ → ℕ → ℕ → Option Staged
    made b kind pc word = if b then Some (record { kind = kind; pc = pc; word = word }) else None

    by : (b : Bool) (k l m n u v : ℕ) → b ≡ true → k ≡ l → m ≡ n → u ≡ v → made b k m u ≡ made true l n v
    by b k l m n u v e f g i = cc

-- with the invariant the fields show what the history says of the cycle
shows_by : (s : Setup) (c : ℕ) (h : Story) (o : Option ℕ) (q : ℕ) (st : System) → Inv s c h o q st → st.cycle ≡ c
    → StageAt s c h o c st.main.id st.main.md st.main.ls st.dport → shown_in st.main ≡ shown_at s c h (open_item s c h)
unfolding shown_at
shows_by s c h o q st i at stage =
    let y : Story = with_item s h o in
    let q_is : requested (settings_of s) y.times.stream c ≡ q =
    ap (requested (settings_of s) y.times.stream) (sym at)
    ∙ requested_is (settings_of s) y.times.stream st.cycle q i.words.requested in
    ap₅ (staged_in st.main.id) (staged s h o) st.main.fetch.f_addr
    (last_of y.times.stream (requested (settings_of s) y.times.stream c)) st.main.next_pc h.state.pc
    (values st.main.csrs) (at_cycle h.state c).csrs st.main.dummies y.times.dummies
    (staged_is s c h o st.main.id st.main.md st.main.ls st.dport stage)
    (i.words.fetch.addr ∙ ap (last_of y.times.stream) (sym q_is))
    i.tied.next_pc_is
    (i.tied.values_are ∙ ap (λ d. (at_cycle h.state d).csrs) at)
    i.dummies
    ∙ ap (shown_at s c h) (sym (open_is s c h o st.main.id st.main.md st.main.ls st.dport stage))
  where
    made : Option Staged → ℕ → ℕ → CsrValues → Dummy → Shown
    made a b k d e = record { stage = a; f_addr = b; next_pc = k; csrs = d; dummies = e }

    ap₅ : (a b : Option Staged) (k l m n : ℕ) (u v : CsrValues) (x y : Dummy) → a ≡ b → k ≡ l → m ≡ n → u ≡ v → x ≡ y
        → made a k m u x ≡ made b l n v y
    ap₅ a b k l m n u v x y e f g i j = cc

-- so before each cycle the fields show the history
pub shows_history : (s : Setup) → Phases s → IsPlaced s → ShowsHistory s
shows_history s ph ok c =
    let b : Before s c (told_below s c).story (system_at s c) = before s ph ok c in
    let st : System = system_at s c in
    shows_by s c (told_below s c).story b.phase b.count st b.inv b.cycle
    (subst (λ d. StageAt s c (told_below s c).story b.phase d st.main.id st.main.md st.main.ls st.dport) b.cycle
    b.inv.stage)

-- ---- the words

-- with the invariant the registers and the words of RAM are the codewords of the history's values
holds_by : (s : Setup) (c : ℕ) (o : Option ℕ) (q : ℕ) (st : System) → Inv s c (told_below s c).story o q st
    → st.cycle ≡ c → open_item s c (told_below s c).story ≡ o → HoldsRegisters s c st.regs × HoldsRam s c st.mem.words
holds_by s c o q st i at same =
    let memory : MemoryAt s (story_at s c) c st.mem =
    subst (λ d. MemoryAt s (story_at s c) d st.mem) at
    (subst (λ z. MemoryAt s (with_item s (told_below s c).story z) st.cycle st.mem) (sym same) i.memory) in
    (i.tied.regs_are, λ n low. memory.words n (omega (arith, low, memory.size)))

-- so they are before each cycle of a run from reset
pub holds_values : (s : Setup) → Phases s → IsPlaced s → HoldsValues s
holds_values s ph ok c =
    let b : Before s c (told_below s c).story (system_at s c) = before s ph ok c in
    let st : System = system_at s c in
    holds_by s c b.phase b.count st b.inv b.cycle
    (open_is s c (told_below s c).story b.phase st.main.id st.main.md st.main.ls st.dport
    (subst (λ d. StageAt s c (told_below s c).story b.phase d st.main.id st.main.md st.main.ls st.dport) b.cycle
    b.inv.stage))

-- ---- no alert

-- no alert is raised where none of its five causes holds
no_alert : (a b : Bool) (m n : ℕ) (g : Bool) → a ≡ false → b ≡ false → m ≡ 0 → n ≡ 0 → g ≡ false
    → (a || b || not (m == 0) || not (n == 0) || g) ≡ false
no_alert a b m n g e f x y z = rw (e, f, x, y, z) refl

-- the causes: a flipped word of either port or of either register, or a wrong complement
alerts_are : (s : Setup) (st : System) → (shown_of s st).alerts
    ≡ (is_flipped (answer_wires st.iport) || is_flipped (answer_wires st.dport)
    || not (syndrome_of 32 7 (slice_index st.regs (ra_of st.main.id)) == 0)
    || not (syndrome_of 32 7 (slice_index st.regs (rb_of st.main.id)) == 0) || glitch_of st.main.csrs)
unfolding shown_of core_out_by in_of
alerts_are s st = refl

-- the invariant excludes them, so there is no alert in any cycle
quiet_by : (s : Setup) → Phases s → IsPlaced s → (limit : ℕ) (h : Story) (o : Option ℕ) (q : ℕ) (st : System)
    → Inv s limit h o q st → (shown_of s st).alerts ≡ false
quiet_by s ph ok limit h o q st i =
    let y : Story = with_item s h o in
    let arch = ph.arch_quiet h st.cycle st.main.next_pc st.main.id st.main.csrs st.regs i.tied i.state in
    alerts_are s st
    ∙ no_alert (is_flipped (answer_wires st.iport)) (is_flipped (answer_wires st.dport))
    (syndrome_of 32 7 (slice_index st.regs (ra_of st.main.id)))
    (syndrome_of 32 7 (slice_index st.regs (rb_of st.main.id))) (glitch_of st.main.csrs)
    (ph.fetch_quiet y.writes y.times.stream y.times.half q st.cycle (enables st.main.csrs) st.main.fetch st.main.words
    st.iport st.tags st.lines ok i.words)
    (ph.stage_quiet limit h o st.cycle st.main.id st.main.md st.main.ls st.dport i.state i.stage)
    arch.0 arch.1 arch.2

-- so no cycle of a run from reset raises an alert
pub is_quiet : (s : Setup) → Phases s → IsPlaced s → IsQuiet s
is_quiet s ph ok c =
    let b : Before s c (told_below s c).story (system_at s c) = before s ph ok c in
    quiet_by s ph ok c (told_below s c).story b.phase b.count (system_at s c) b.inv

-- ---- the wires

-- the wires of a cycle are those of the history
abbrev LineIs : Setup → ℕ → ℕ → Story → Display → Type 0
LineIs s limit c h x =
    (x.fetch ≡ wires_at (fetches s (with_item s h (open_item s limit h)) limit) c)
    × (x.load_store ≡ wires_at (with_item s h (open_item s limit h)).sent c)

-- the item and the count of words by the invariant are those of the history, so the wires are
line_by : (s : Setup) (limit c : ℕ) (h : Story) (o u : Option ℕ) (q v : ℕ) (x : Display) → u ≡ o → v ≡ q
    → x.fetch ≡ wires_at (past (settings_of s) (with_item s h o).times.stream q).sent c
    → x.load_store ≡ wires_at (with_item s h o).sent c
    → (x.fetch ≡ wires_at (past (settings_of s) (with_item s h u).times.stream v).sent c)
    × (x.load_store ≡ wires_at (with_item s h u).sent c)
line_by s limit c h o u q v x e f a b = (
  a ∙ ap₂ (λ z n. wires_at (past (settings_of s) (with_item s h z).times.stream n).sent c) (sym e) (sym f),
  b ∙ ap (λ z. wires_at (with_item s h z).sent c) (sym e),
)

-- a step's wires are those of the history, by the invariant that follows it
line_is : (s : Setup) (limit c : ℕ) (h : Story) (x : Display) (st : System) → st.cycle ≡ limit
    → Follows s limit h c x.fetch x.load_store st → LineIs s limit c h x
line_is s limit c h x st at f =
    let stage : StageAt s limit h f.phase limit st.main.id st.main.md st.main.ls st.dport =
    subst (λ d. StageAt s limit h f.phase d st.main.id st.main.md st.main.ls st.dport) at f.inv.stage in
    let same : open_item s limit h ≡ f.phase =
    open_is s limit h f.phase st.main.id st.main.md st.main.ls st.dport stage in
    let k : Settings = settings_of s in
    let q_is : requested k (with_item s h (open_item s limit h)).times.stream limit ≡ f.count =
    ap₂ (λ z d. requested k (with_item s h z).times.stream d) same (sym at)
    ∙ requested_is k (with_item s h f.phase).times.stream st.cycle f.count f.inv.words.requested in
    line_by s limit c h f.phase (open_item s limit h) f.count
    (requested k (with_item s h (open_item s limit h)).times.stream limit) x same q_is f.fetch_is f.load_store_is

-- a story whose next item isn't done below the limit is all that is told
told_all : (s : Setup) (limit c fuel : ℕ) (h : Story) (x : Display) (st : System) → st.cycle ≡ limit
    → Follows s limit h c x.fetch x.load_store st → (told s limit fuel h).story ≡ h
told_all s limit c fuel h x st at f =
    ap (λ (r : Told). r.story) (no_more s limit fuel h
    (omega (arith, at, not_before s limit h f.phase st.cycle st.main.id st.main.md st.main.ls st.dport f.inv.stage)))

-- an item that is done is told, and the rest after it
pub told_next : (s : Setup) (limit fuel t : ℕ) (h : Story) → admission s limit h ≡ t → done_at s limit t h < limit
    → (told s limit (suc fuel) h).story ≡ (told s limit fuel (continued s limit t h)).story
told_next s limit fuel t h e less = ap (λ (r : Told). r.story) (one_more s limit fuel t h e less)

-- the wires of the last of so many steps
last_line : (s : Setup) → Phases s → IsPlaced s → (limit n fuel : ℕ) (h : Story) (o : Option ℕ) (q : ℕ) (st : System)
    → Inv s limit h o q st → st.cycle + suc n ≡ limit → suc n ≤ fuel
    → LineIs s limit (st.cycle + n) (told s limit fuel h).story (shown_of s (steps s n st))
unfolding steps
last_line s ph ok limit n zero h o q st i at enough = absurd (omega arith)
last_line s ph ok limit zero (suc fuel) h o q st i at enough =
    subst (λ d. LineIs s limit d (told s limit (suc fuel) h).story (shown_of s st)) (omega arith)
    (elim (step s ph ok limit h o q st (omega arith) i) [
      | silent none f ↦
          let end_ : (system_next s st).cycle ≡ limit = omega (arith, next_cycle s st, at) in
          subst (λ y. LineIs s limit st.cycle y (shown_of s st))
          (sym (told_all s limit st.cycle (suc fuel) h (shown_of s st) (system_next s st) end_ f))
          (line_is s limit st.cycle h (shown_of s st) (system_next s st) end_ f)
      | ended t adm done happens f ↦
          let end_ : (system_next s st).cycle ≡ limit = omega (arith, next_cycle s st, at) in
          subst (λ y. LineIs s limit st.cycle y (shown_of s st))
          (sym (told_next s limit fuel t h adm (omega (arith, done, at))
          ∙ told_all s limit st.cycle fuel (continued s limit t h) (shown_of s st) (system_next s st) end_ f))
          (line_is s limit st.cycle (continued s limit t h) (shown_of s st) (system_next s st) end_ f)
    ])
last_line s ph ok limit (suc n) (suc fuel) h o q st i at enough =
    subst (λ d. LineIs s limit d (told s limit (suc fuel) h).story (shown_of s (steps s n (system_next s st))))
    (omega (arith, next_cycle s st))
    (elim (step s ph ok limit h o q st (omega arith) i) [
      | silent none f ↦
          last_line s ph ok limit n (suc fuel) h f.phase f.count (system_next s st) f.inv
          (omega (arith, next_cycle s st, at)) (omega arith)
      | ended t adm done happens f ↦
          subst (λ y. LineIs s limit ((system_next s st).cycle + n) y (shown_of s (steps s n (system_next s st))))
          (sym (told_next s limit fuel t h adm (omega (arith, done, at))))
          (last_line s ph ok limit n fuel (continued s limit t h) f.phase f.count (system_next s st) f.inv
          (omega (arith, next_cycle s st, at)) (omega arith))
    ])

-- so the wires of each cycle are those of the history
pub has_wires : (s : Setup) → Phases s → IsPlaced s → HasWires s
unfolding bus_line
has_wires s ph ok c =
    let h : Story = (told_below s (c + 1)).story in
    let y : Story = with_item s h (open_item s (c + 1) h) in
    let x : Display = shown_of s (system_at s c) in
    let line : LineIs s (c + 1) c h x =
    subst (λ d. LineIs s (c + 1) d h x) (omega (arith, first_cycle s))
    (last_line s ph ok (c + 1) c (c + 1) (opening s) None 0 (first_system s) (opens s ok (c + 1))
    (omega (arith, first_cycle s)) (omega arith)) in
    ap₂ (λ f d. made f d) line.0 line.1
  where
    made : Req → Req → BusLine
    made f d = record { fetch = f; load_store = d }
