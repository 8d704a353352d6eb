-- The effect of an item in its last cycle is the step's.
use Rattle.std.proofs.Common.{◌≡◌, ℕ, ◌+◌, ◌%◌, ◌^◌, ◌<◌, Bool, true, false, Option, Some, None, refl, sym, ap}
use Rattle.std.proofs.Common.{subst, ◌∙◌, arith}
use Rattle.std.specs.Prelude.{◌==◌, if◌then◌else◌, slice_index}
use Rattle.ibx_isa.specs.declared.event.View.{View}
use Rattle.ibx_isa.specs.Views.{view_of}
use Rattle.ibx_arch.specs.declared.fetched.Fetched.{Fetched}
use Rattle.ibx_arch.specs.Fetch.{fetch, is_sound}
use Rattle.ibx_isa.specs.Lengths.{is_long}
use Rattle.ibx_arch.specs.Memory.{image_memory}
use Rattle.ibx_arch.specs.State.{at_cycle}
use Rattle.ibx_arch.specs.Step.{Stepped, after_fetch}
use Rattle.ibx_time.specs.Settings.{Setup, lines_in, settings_of}
use Rattle.ibx_time.specs.Items.{item_of}
use Rattle.ibx_time.specs.Memories.{memory_at}
use Rattle.ibx_time.specs.Times.{ADummy, AnInstruction, AnInterrupt, Kind}
use Rattle.ibx_time.specs.History.{Story, brought_parcels, choice_by, item_at, item_by, kind_of, taken, view_with}
use Rattle.ibx_time.specs.Shown.{staged_by}
use Rattle.ibx_id.specs.declared.stage.IdState.{IdState}
use Rattle.ibx_time_machine.specs.System.{System, in_of}
use Rattle.ibx_time_invariant.proofs.Stages.{ItemAt, PhaseAt, fault_by, fault_of, found, fresh, later, portion_phase}
use Rattle.ibx_time_invariant.proofs.Stages.{trap_phase, view_by, view_phase}
use Rattle.ibx_time_invariant.proofs.Ties.{IsPlaced, IsState, Tied}
use Rattle.ibx_time_invariant.proofs.StageSide.{Ends, ending, ending_by}
use Rattle.ibx_time_invariant.proofs.ArchSide.{ArchEnds, Left, eyes_in}
use Rattle.ibx_time_invariant.proofs.Dones.{turn_is}
use Rattle.ibx_time_decode.proofs.Fetches.{arch_fetches, fetch_is, same_fetch}
use Rattle.ibx_time_decode.proofs.SeesStage.{Fields, parcel_low}
use Rattle.ibx_arch.specs.Laws.{AreParcels}
use Rattle.ibx_time.proofs.States.{IsGood, step_good}
use Rattle.ibx_time_invariant.proofs.Quiets.{image_low, memory_low}
use Rattle.ibx_time_decode.proofs.Admits.{brought_is, fetched_is, first_of_pair, second_of_pair}
use Rattle.ibx_time_retire.proofs.Dummy.{dummy_ends}
use Rattle.ibx_time_retire.proofs.Frame.{Does, leaves, step_of, steps}
use Rattle.ibx_time_retire.proofs.Irq.{interrupt_ends}
use Rattle.ibx_time_retire.proofs.Insn.{Case, Ended, Known, effect_now}
use Rattle.ibx_time_retire.proofs.Join.{OthersIn, Seen, fetched_ends}
use Rattle.ibx_time_retire.proofs.Stage.{IsFetch, fetch_good}
use Rattle.ibx_time.proofs.SameViews.{step_view}
use Rattle.ibx_arch.specs.Step.{Parcels, instruction, step_with}
use Rattle.ibx_time.specs.Settings.{Settings}
use Rattle.ibx_arch.specs.State.{State}
use Rattle.ibx_core.specs.Effects.{effect_by}
use Rattle.ibx_core.specs.Sights.{ra_of, rb_of, sight_of, sight_with}

-- ---- the case

-- the item in the stage with the core and what it sees
abbrev pub case_of : Setup → ℕ → Story → System → Case
case_of s t h st = record {
  s = s;
  h = h;
  c = st.cycle;
  d = (taken s t h).times.dummies;
  i = item_at s t h;
  core = st.main;
  g = sight_of st.main (in_of s st);
  inn = in_of s st;
}

-- the stage sees by its fields
seen_is : (s : Setup) (t : ℕ) (h : Story) (st : System)
    → Seen (case_of s t h st) (slice_index st.regs (ra_of st.main.id)) (slice_index st.regs (rb_of st.main.id))
unfolding sight_of sight_with in_of
seen_is s t h st = record { row = refl; a = refl; b = refl; access = refl; cause = refl }

-- the lines are those of the plan
lines_are : (s : Setup) (st : System) → (in_of s st).lines ≡ lines_in (settings_of s) st.cycle
unfolding in_of
lines_are s st = refl

-- what is known of an instruction holds
known_is : (s : Setup) (t : ℕ) (h : Story) (st : System) → Tied s h st.cycle st.main.next_pc st.main.csrs st.regs
    → IsState s st.cycle h → st.main.dummies ≡ (taken s t h).times.dummies → st.main.id.pc ≡ h.state.pc
    → Known (case_of s t h st)
known_is s t h st ti i d pc = record {
  good = i.good;
  csrs = ti.values_are;
  complemented = ti.complemented;
  pc = pc;
  dummies = d;
  lines = lines_are s st;
}

-- ---- an instruction

-- what is fetched for it, and its step in this cycle
abbrev pub what : Setup → Story → Fetched
what s h = fetch h.state (first_of_pair s h) (second_of_pair s h)

-- its step in cycle c
abbrev pub step_now : Setup → Story → ℕ → Stepped
step_now s h c = after_fetch (at_cycle h.state c) c (lines_in (settings_of s) c) (what s h)

-- the step of an instruction, from what is fetched
step_after : (k : Settings) (x : State) (c first second : ℕ)
    → step_with (lines_in k) x (Parcels first second) c
    ≡ after_fetch (at_cycle x c) c (lines_in k c) (fetch x first second)
unfolding step_with instruction
step_after k x c first second = ap (after_fetch (at_cycle x c) c (lines_in k c)) (same_fetch x c first second)

-- the step of the history is this one
step_is : (s : Setup) (h : Story) (c : ℕ) → step_of s h (brought_parcels s h) c ≡ step_now s h c
step_is s h c = ap (λ x. step_of s h x c) (brought_is s h)
    ∙ step_after (settings_of s) h.state c (first_of_pair s h) (second_of_pair s h)

-- so its view is, its item and the phase of its trap
pub view_is : (s : Setup) (h : Story) (c : ℕ) → view_with s h (brought_parcels s h) ≡ view_of (step_now s h c).event
view_is s h c =
    ap (view_with s h) (brought_is s h)
    ∙ step_view (settings_of s) h.state (Parcels (first_of_pair s h) (second_of_pair s h)) h.state.stands c
    ∙ ap (λ p. view_of p.event) (step_after (settings_of s) h.state c (first_of_pair s h) (second_of_pair s h))

-- so an instruction's item is told by its view in any cycle, its last one too
item_by_view : (s : Setup) (t : ℕ) (h : Story) (c : ℕ) → kind_of s t h ≡ AnInstruction
    → item_at s t h ≡ item_of (settings_of s) h.times.ctl (view_of (step_now s h c).event)
unfolding item_at
item_by_view s t h c k =
    ap (λ x. item_by s h (choice_by s h x)) k ∙ ap (item_of (settings_of s) h.times.ctl) (view_is s h c)

-- and so is the phase in which it traps
pub phase_by_view : (s : Setup) (t : ℕ) (h : Story) (c : ℕ) → kind_of s t h ≡ AnInstruction
    → trap_phase s t h ≡ view_phase (Some (view_of (step_now s h c).event))
unfolding trap_phase
phase_by_view s t h c k =
    ap (λ x. view_phase (view_by s h (choice_by s h x))) k ∙ ap (λ v. view_phase (Some v)) (view_is s h c)

-- a trap of a portion is in phase 2 or 3
portion_small : (tval : ℕ) (o : Option ℕ) (b : Bool) → ((if b then portion_phase tval o else 0) == 4) ≡ false
    → (if b then portion_phase tval o else 0) < 4
portion_small tval o false e = omega arith
portion_small tval None true e = absurd cc
portion_small tval (Some addr) true e = either_small (tval == addr)
  where
    either_small : (x : Bool) → (if x then 2 else 3) < 4
    either_small true = omega arith
    either_small false = omega arith

-- a view with another phase than 4 has one below it
phase_small : (v : View) → (view_phase (Some v) == 4) ≡ false → view_phase (Some v) < 4
phase_small v e = portion_small v.tval v.addr (v.kind == 1) e

-- so the phase of the stage is below 4
phase_low : (s : Setup) (limit t : ℕ) (h : Story) (c phase : ℕ) (n : ℕ) → trap_phase s t h ≡ n → n < 4
    → PhaseAt s limit t h c phase → phase < 4
phase_low s limit t h c phase n e l (fresh p x) = omega (arith, p)
phase_low s limit t h c phase n e l (later p x y) = omega (arith, p)
phase_low s limit t h c phase n e l (found p x y z) = omega (arith, p, e, l)

-- what is brought are halfwords
pair_low : (s : Setup) (h : Story) → IsPlaced s → (first_of_pair s h < 2 ^ 16) × (second_of_pair s h < 2 ^ 16)
pair_low s h ok = (
  parcel_low (memory_at (image_memory s.image) h.writes _) h.state.pc
      (λ a. memory_low (image_memory s.image) h.writes _ a (image_low s ok)),
  parcel_low (memory_at (image_memory s.image) h.writes _) ((h.state.pc + 2) % 2 ^ 32)
      (λ a. memory_low (image_memory s.image) h.writes _ a (image_low s ok)),
)

-- so the step with them leaves a valid state
step_keeps : (s : Setup) (h : Story) (c : ℕ) → IsPlaced s → IsGood s.image.ram h.state
    → IsGood s.image.ram (step_of s h (brought_parcels s h) c).next
step_keeps s h c ok g =
    step_good s.image.ram (settings_of s) h.state (brought_parcels s h) c g
    (subst AreParcels (sym (brought_is s h)) (pair_low s h ok)) (ok.lines c)

-- what is fetched is well formed: its length fits its word, or its fault tells its address
pub fetch_is_good : (s : Setup) (h : Story) → IsPlaced s → h.state.pc < 2 ^ 32 → IsFetch h.state.pc (what s h)
fetch_is_good s h ok l =
    subst (IsFetch h.state.pc) (sym (fetch_is h.state (first_of_pair s h) (second_of_pair s h)))
    (fetch_good (is_sound h.state.csrs h.state.memory.ram h.state.pc) (is_long (first_of_pair s h))
    (is_sound h.state.csrs h.state.memory.ram ((h.state.pc + 2) % 2 ^ 32)) h.state.pc (first_of_pair s h)
    (second_of_pair s h) l (pair_low s h ok).0 refl)

-- the stage holds what is fetched
pub fields_are : (s : Setup) (t : ℕ) (h : Story) (c : ℕ) (id : IdState) → IsState s c h → kind_of s t h ≡ AnInstruction
    → ItemAt s t h id → Fields (what s h) h.state.pc id
fields_are s t h c id i k a = record {
  valid = a.valid;
  kind = a.kind ∙ ap (λ x. (staged_by s h x).kind) k;
  word = a.word ∙ ap (λ x. (staged_by s h x).word) k ∙ ap (λ x. (view_with s h x).word) (brought_is s h)
      ∙ (arch_fetches s c h (first_of_pair s h) (second_of_pair s h) i).word;
  fault = a.fault ∙ ap (fault_by s h) k ∙ ap (fault_of h.state.pc) (fetched_is s h);
}

-- what the units answer for the rows of loads, stores, products and quotients
abbrev pub UnitsEnd : Setup → Type 0
UnitsEnd s =
    (limit t : ℕ) (h : Story) (st : System)
    → IsPlaced s
    → Tied s h st.cycle st.main.next_pc st.main.csrs st.regs
    → IsState s st.cycle h
    → ItemAt s t h st.main.id
    → PhaseAt s limit t h st.cycle st.main.id.phase
    → kind_of s t h ≡ AnInstruction
    → Ends s limit t h st.cycle st.main.id st.main.md st.main.ls st.dport
    (eyes_in s st.cycle st.main.id st.main.csrs st.regs)
    → OthersIn (case_of s t h st) (what s h)

-- the effect of an instruction is its step's, and so it leaves what the step does
instruction_ended : (s : Setup) (limit t : ℕ) (h : Story) (st : System) → UnitsEnd s → IsPlaced s
    → Tied s h st.cycle st.main.next_pc st.main.csrs st.regs → IsState s st.cycle h
    → st.main.dummies ≡ (taken s t h).times.dummies → ItemAt s t h st.main.id
    → PhaseAt s limit t h st.cycle st.main.id.phase → kind_of s t h ≡ AnInstruction
    → Ends s limit t h st.cycle st.main.id st.main.md st.main.ls st.dport
    (eyes_in s st.cycle st.main.id st.main.csrs st.regs)
    → Ended (case_of s t h st) (effect_now (case_of s t h st)) (step_now s h st.cycle)
instruction_ended s limit t h st units ok ti i d a ph k n =
    let f : Fields (what s h) h.state.pc st.main.id = fields_are s t h st.cycle st.main.id i k a in
    let v : View = view_of (step_now s h st.cycle).event in
    fetched_ends (case_of s t h st) (what s h) st.regs
    (known_is s t h st ti i d (a.pc ∙ ap (λ x. (staged_by s h x).pc) k))
    (seen_is s t h st)
    ti.regs_are (fetch_is_good s h ok i.good.pc_low) f
    (λ q. phase_low s limit t h st.cycle st.main.id.phase (view_phase (Some v)) (phase_by_view s t h st.cycle k)
    (phase_small v q) ph)
    (record {
      turn = turn_is s st ∙ n.turn ∙ ap (λ x. ending x (trap_phase s t h) (item_at s t h).redirects) k
          ∙ ap (λ x. ending_by x (item_at s t h).redirects) (phase_by_view s t h st.cycle k);
      item = item_by_view s t h st.cycle k;
    })
    (units limit t h st ok ti i a ph k n)

-- an instruction whose effect is its step's leaves the story of the history
instruction_left : (s : Setup) (limit t : ℕ) (h : Story) (st : System) → IsPlaced s
    → Tied s h st.cycle st.main.next_pc st.main.csrs st.regs → IsState s st.cycle h → kind_of s t h ≡ AnInstruction
    → Ends s limit t h st.cycle st.main.id st.main.md st.main.ls st.dport
    (eyes_in s st.cycle st.main.id st.main.csrs st.regs)
    → Ended (case_of s t h st) (effect_now (case_of s t h st)) (step_now s h st.cycle)
    → Left s limit t h st.cycle (effect_now (case_of s t h st)) st.regs
instruction_left s limit t h st ok ti i k n en =
    let c : ℕ = st.cycle in
    let e = effect_now (case_of s t h st) in
    leaves s limit t h c st.main.next_pc st.main.csrs st.regs e (Some (brought_parcels s h)) ok ti i
    (ap (choice_by s h) k) n.done n.settled n.granted
    (steps s h (taken s t h) (item_at s t h) c st.regs (brought_parcels s h) e ti.regs_are (step_keeps s h c ok i.good)
    (subst (λ v. Does c h.state.regs (taken s t h).times.dummies (item_at s t h) v e
    (step_of s h (brought_parcels s h) c)) (sym (view_is s h c))
    (subst (λ p. Does c h.state.regs (taken s t h).times.dummies (item_at s t h) (view_of (step_now s h c).event) e p)
    (sym (step_is s h c)) en)))

-- so it is for every item, by what it is
ends_by : (s : Setup) (limit t : ℕ) (h : Story) (st : System) (kind : Kind) → UnitsEnd s → IsPlaced s
    → Tied s h st.cycle st.main.next_pc st.main.csrs st.regs → IsState s st.cycle h
    → st.main.dummies ≡ (taken s t h).times.dummies → ItemAt s t h st.main.id
    → PhaseAt s limit t h st.cycle st.main.id.phase → kind_of s t h ≡ kind
    → Ends s limit t h st.cycle st.main.id st.main.md st.main.ls st.dport
    (eyes_in s st.cycle st.main.id st.main.csrs st.regs)
    → Left s limit t h st.cycle (effect_by (sight_of st.main (in_of s st)).turn st.main (sight_of st.main (in_of s st))
    (in_of s st).lines) st.regs
ends_by s limit t h st (AnInterrupt number) units ok ti i d a ph k n =
    interrupt_ends s limit t h st.cycle number st.regs st.main (sight_of st.main (in_of s st)) (in_of s st) ok ti i d k
    n.done
    (a.pc ∙ ap (λ x. (staged_by s h x).pc) k) (a.word ∙ ap (λ x. (staged_by s h x).word) k) n.settled n.granted
    (turn_is s st ∙ n.turn ∙ ap (λ x. ending x (trap_phase s t h) (item_at s t h).redirects) k)
ends_by s limit t h st ADummy units ok ti i d a ph k n =
    dummy_ends s limit t h st.cycle st.regs st.main (sight_of st.main (in_of s st)) (in_of s st) ok ti i d
    (ap (choice_by s h) k) n.done n.settled n.granted
    (turn_is s st ∙ n.turn ∙ ap (λ x. ending x (trap_phase s t h) (item_at s t h).redirects) k)
ends_by s limit t h st AnInstruction units ok ti i d a ph k n =
    instruction_left s limit t h st ok ti i k n (instruction_ended s limit t h st units ok ti i d a ph k n)

-- the end of every item, from what the units answer
pub ends_with : (s : Setup) → UnitsEnd s → ArchEnds s
ends_with s units limit t h st ok ti i d a ph n = ends_by s limit t h st (kind_of s t h) units ok ti i d a ph refl n
