-- The run of a system whose events are a history prints the story of the time equations.
use Rattle.std.proofs.Common.{◌≡◌, ℕ, zero, suc, ◌+◌, ◌<◌, ◌^◌, Bool, true, false, ◌||◌, ◌&&◌, ◌%◌, List, [], ◌∷◌}
use Rattle.std.proofs.Common.{◌++◌}
use Rattle.std.proofs.Common.{Option, Some, None, length, refl, sym, ap, ap₂, subst, ◌∙◌, arith}
use Rattle.std.specs.Prelude.{flat_map, ◌==◌, if◌then◌else◌}
use Rattle.ibx_bits.specs.Platform.{halt_register}
use Rattle.std.specs.List.{list_any}
use Rattle.ibx_isa.specs.declared.event.Event.{Event}
use Rattle.ibx_isa.specs.declared.event.Event.TheVariants.{Retire, Trap, Irq}
use Rattle.ibx_trace.specs.Lines.{line_of, end_line_of}
use Rattle.ibx_story.specs.Stories.{cycles_passed, event_cycle, halts}
use Rattle.ibx_time.specs.History.{halts as halts_in_time, history, up_to_halt}
use Rattle.ibx_time.specs.Settings.{Setup}
use Rattle.ibx_time.specs.Runs.{with_event}
use Rattle.ibx_time_system.specs.Laws.{IsHistory, events_of}
use Rattle.ibx_time_system.proofs.History.{two_core_laws}
use Rattle.ibx_time_system.proofs.Reset.{starts}
use Rattle.ibx_time.specs.Runs.{IsPlaced}
use Rattle.ibx_elf.specs.Image.{Placed}
use Rattle.ibx_plan.specs.Plan.{PlanValue}
use Rattle.ibx_command.specs.declared.options.Options.{Options}
use Rattle.ibx_core.specs.declared.state.State.{State}
use Rattle.ibx_system.specs.Core.{core_parts}
use Rattle.ibx_system.specs.System.{Whole, next, output_of, settle}
use Rattle.ibx_soc.specs.Cycles.{cycle_of, happens_at, soc_next}
use Rattle.ibx_compare.specs.Drives.{Drive, drive_after, drive_by, drive_from}
use Rattle.ibx_top.specs.Drives.{drive_text}
use Rattle.ibx_top.specs.Texts.{last_line, story_text}
use Rattle.ibx_top.specs.Generated.{sum_lines, sum_text, written_sum}
use Rattle.ibx_top.specs.TimedStories.{timed_story}
use Rattle.ibx_top.specs.Verdicts.{system_of}
use Rattle.ibx_top.specs.Answers.{IsOneOf, halt_code, setup_of}

-- four tests in either order of joining
joined_alike : (a b c d : Bool) → (a && (b && (c && d))) ≡ (((a && b) && c) && d)
joined_alike false b c d = refl
joined_alike true false c d = refl
joined_alike true true c d = refl

-- both definitions of a halting event are the same
halts_alike : (e : Event) → halts_in_time e ≡ halts e
halts_alike (Retire cycle pc word rd value None ctl ops) = refl
halts_alike (Retire cycle pc word rd value (Some a) ctl ops) =
    joined_alike a.store (a.size == 4) (a.addr == halt_register) (a.value % 2 == 1)
halts_alike (Trap cycle pc word cause tval addr) = refl
halts_alike (Irq cycle pc cause) = refl

-- ---- the events, up to the halting one

-- an event before the others: where it halts, they are cut off
after_events : (b : Bool) (e : Event) (n : Whole State) (d : Drive) (es : List Event) → d.events ≡ up_to_halt es
    → (drive_after b e n d).events ≡ (if b then e ∷ [] else e ∷ up_to_halt es)
unfolding drive_after
after_events true e n d es same = refl
after_events false e n d es same = ap (λ (rest : List Event). e ∷ rest) same

-- a first cycle puts its event, if it has one, before those up to the halting one
by_events : (o : Option Event) (n : Whole State) (d : Drive) (es : List Event) → d.events ≡ up_to_halt es →
    (drive_by o n d).events ≡ up_to_halt (with_event o es)
unfolding drive_by up_to_halt
by_events None n d es same = same
by_events (Some e) n d es same =
    after_events (halts e) e n d es same ∙ ap (λ (b : Bool). if b then e ∷ [] else e ∷ up_to_halt es)
    (sym (halts_alike e))

-- so a run has the events of its cycles up to the first that halts
pub drive_events : (n : ℕ) (w : Whole State) → (drive_from n w).events ≡ up_to_halt (events_of n w)
unfolding drive_from events_of up_to_halt
drive_events zero w = refl
drive_events (suc n) w =
    by_events (cycle_of w).event (soc_next w) (drive_from n (soc_next w)) (events_of n (soc_next w))
    (drive_events n (soc_next w))

-- ---- whether one of them halts

-- a run that begins with an event is halted by it or by a later one
after_halted : (b : Bool) (e : Event) (n : Whole State) (d : Drive) (any : Bool) → d.halted ≡ any →
    (drive_after b e n d).halted ≡ (b || any)
unfolding drive_after
after_halted true e n d any same = refl
after_halted false e n d any same = same

-- a run with a first cycle is halted just where an event of it or of the rest halts
by_halted : (o : Option Event) (n : Whole State) (d : Drive) (es : List Event) → d.halted ≡ list_any halts es →
    (drive_by o n d).halted ≡ list_any halts (with_event o es)
unfolding drive_by
by_halted None n d es same = same
by_halted (Some e) n d es same = after_halted (halts e) e n d (list_any halts es) same

-- so a run is halted just where an event of its cycles halts
drive_halted : (n : ℕ) (w : Whole State) → (drive_from n w).halted ≡ list_any halts (events_of n w)
unfolding drive_from events_of
drive_halted zero w = refl
drive_halted (suc n) w =
    by_halted (cycle_of w).event (soc_next w) (drive_from n (soc_next w)) (events_of n (soc_next w))
    (drive_halted n (soc_next w))

-- ---- the number of cycles at the end

-- a run that begins at a cycle: where it halts, its last event is done in the cycle before its end, and else it takes
-- all cycles
record Ends (first cycles : ℕ) (d : Drive) : Type 0 where
  pub halts : (before : ℕ) → d.halted ≡ true → d.left.place.cycle ≡ cycles_passed before d.events
  pub goes_on : d.halted ≡ false → d.left.place.cycle ≡ first + cycles

-- what happens in a cycle is an event of that cycle
happened : (c : ℕ) (o : Option Event) (e : Event) → happens_at c o ≡ Some e → event_cycle e ≡ c
happened c None e h = cc
happened c (Some (Retire cycle pc word rd value mem ctl ops)) e h = cc
happened c (Some (Trap cycle pc word cause tval addr)) e h = cc
happened c (Some (Irq cycle pc cause)) e h = cc

-- so the event of a cycle has its number
happened_in : (w : Whole State) (e : Event) → (cycle_of w).event ≡ Some e → event_cycle e ≡ w.place.cycle
unfolding cycle_of
happened_in w e h = happened w.place.cycle (output_of core_parts w).event e h

-- after a halting event the run ends in the next cycle, and after another one as the rest does
after_ends : (b : Bool) (e : Event) (first n : ℕ) (next : Whole State) (d : Drive) → event_cycle e ≡ first →
    next.place.cycle ≡ first + 1 → Ends (first + 1) n d
    → Ends first (suc n) (drive_after b e next d)
unfolding drive_after
after_ends true e first n next d at following ends = record {
  halts = λ before halted. following ∙ ap (λ (c : ℕ). c + 1) (sym at);
  goes_on = λ halted. absurd (let no : true ≡ false = halted in cc);
}
after_ends false e first n next d at following ends = record {
  halts = λ before halted. ends.halts (event_cycle e + 1) halted;
  goes_on = λ halted. ends.goes_on halted ∙ (let count : first + 1 + n ≡ first + suc n = omega arith in count);
}

-- a first cycle takes one of the cycles, with an event or without
by_ends : (o : Option Event) (first n : ℕ) (next : Whole State) (d : Drive) → ((e : Event) → o ≡ Some e → event_cycle e
    ≡ first) → next.place.cycle ≡ first + 1 → Ends (first + 1) n d
    → Ends first (suc n) (drive_by o next d)
unfolding drive_by
by_ends None first n next d at following ends = record {
  halts = ends.halts;
  goes_on = λ halted. ends.goes_on halted ∙ (let count : first + 1 + n ≡ first + suc n = omega arith in count);
}
by_ends (Some e) first n next d at following ends = after_ends (halts e) e first n next d (at e refl) following ends

-- a step of the system counts one cycle
cycle_next : (w : Whole State) → (soc_next w).place.cycle ≡ w.place.cycle + 1
unfolding next settle
cycle_next w = refl

-- so each run ends after its halting event, or when all its cycles are made
drive_ends : (n : ℕ) (w : Whole State) → Ends w.place.cycle n (drive_from n w)
unfolding drive_from
drive_ends zero w = record {
  halts = λ before halted. absurd (let no : false ≡ true = halted in cc);
  goes_on = λ halted. (let count : w.place.cycle ≡ w.place.cycle + 0 = omega arith in count);
}
drive_ends (suc n) w =
    by_ends (cycle_of w).event w.place.cycle n (soc_next w) (drive_from n (soc_next w)) (happened_in w) (cycle_next w)
    (subst_first (cycle_next w) (drive_ends n (soc_next w)))
  where
    subst_first : {a b : ℕ} {n : ℕ} {d : Drive} → a ≡ b → Ends a n d → Ends b n d
    subst_first {a} {b} {n} {d} e ends = subst (λ (c : ℕ). Ends c n d) e ends

-- ---- the text

-- the last line has the cycle after the halting event's, or the whole budget
end_alike : (b : Bool) (budget : ℕ) (d : Drive) → d.halted ≡ b → Ends 0 budget d
    → end_line_of d.halted d.left.place.cycle (length d.events) ≡ end_line_of b (if b then cycles_passed 0 d.events
    else budget) (length d.events)
end_alike true budget d halted ends =
    ap₂ (λ (b : Bool) (c : ℕ). end_line_of b c (length d.events)) halted (ends.halts 0 halted)
end_alike false budget d halted ends =
    ap₂ (λ (b : Bool) (c : ℕ). end_line_of b c (length d.events)) halted
    (ends.goes_on halted ∙ (let count : 0 + budget ≡ budget = omega arith in count))

-- from cycle 0 on, the text of a run that is a history is that of its story
pub text_is : (s : Setup) (budget : ℕ) (w : Whole State) → IsHistory s w → w.place.cycle ≡ 0
    → drive_text (drive_from budget w) ≡ story_text budget (timed_story s budget)
unfolding drive_text story_text last_line timed_story
text_is s budget w law new =
    let d : Drive = drive_from budget w in
    let any : Bool = list_any halts (history s budget) in
    let events : d.events ≡ up_to_halt (history s budget) = drive_events budget w ∙ ap up_to_halt
    (law.events budget) in
    let halted : d.halted ≡ any = drive_halted budget w ∙ ap (list_any halts) (law.events budget) in
    let ends : Ends 0 budget d = start new (drive_ends budget w) in
    ap (λ (t : List ℕ). flat_map line_of d.events ++ t) (end_alike any budget d halted ends)
    ∙ ap (λ (es : List Event). flat_map line_of es ++ end_line_of any (if any then cycles_passed 0 es else budget)
    (length es)) events
  where
    start : {a : ℕ} {n : ℕ} {d : Drive} → a ≡ 0 → Ends a n d → Ends 0 n d
    start {a} {n} {d} e ends = subst (λ (c : ℕ). Ends c n d) e ends

-- so is what is printed of its sum
pub sum_text_is : (number : ℕ) (s : Setup) (budget : ℕ) (w : Whole State) → IsHistory s w →
    w.place.cycle ≡ 0
    → sum_lines number (written_sum (drive_from budget w).events) ++ end_line_of (drive_from budget w).halted
    (drive_from budget w).left.place.cycle (length (drive_from budget w).events)
    ≡ sum_text number budget (timed_story s budget)
unfolding sum_text last_line timed_story
sum_text_is number s budget w law new =
    let d : Drive = drive_from budget w in
    let any : Bool = list_any halts (history s budget) in
    let events : d.events ≡ up_to_halt (history s budget) = drive_events budget w ∙ ap up_to_halt
    (law.events budget) in
    let halted : d.halted ≡ any = drive_halted budget w ∙ ap (list_any halts) (law.events budget) in
    let ends : Ends 0 budget d = subst (λ (c : ℕ). Ends c budget d) new (drive_ends budget w) in
    ap (λ (t : List ℕ). sum_lines number (written_sum d.events) ++ t) (end_alike any budget d halted ends)
    ∙ ap (λ (es : List Event). sum_lines number (written_sum es) ++ end_line_of any (if any then cycles_passed 0 es
    else budget) (length es)) events

-- and it ends as its story does
pub halted_is : (s : Setup) (budget : ℕ) (w : Whole State) → IsHistory s w
    → (drive_from budget w).halted ≡ (timed_story s budget).halted
unfolding timed_story
halted_is s budget w law = drive_halted budget w ∙ ap (list_any halts) (law.events budget)

-- ---- the system as it is opened

-- the run of a placed image from its first state is its history
pub opened_is_history : (options : Options) (plan : PlanValue) (image : Placed)
    → IsPlaced (setup_of options plan image)
    → IsHistory (setup_of options plan image) (system_of image options plan)
opened_is_history options plan image placed =
    let s : Setup = setup_of options plan image in two_core_laws s placed (system_of image options plan)
    (starts s options.delay placed)

-- a run ends with status 0 or 1
pub runs_or_spends : (halted : Bool) → IsOneOf (0 ∷ 1 ∷ 8 ∷ 9 ∷ []) (halt_code halted)
runs_or_spends true = refl
runs_or_spends false = refl
