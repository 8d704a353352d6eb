-- A run up to its next event, and the run from there.
use Rattle.std.proofs.Common.{◌≡◌, ℕ, zero, suc, ◌+◌, ◌-◌, ◌<◌, ◌≤◌, Bool, true, false, ◌∷◌, Option, Some, None, refl}
use Rattle.std.proofs.Common.{sym, ap, ◌∙◌, arith}
use Rattle.std.specs.List.{cons_option}
use Rattle.ibx_isa.specs.declared.event.Event.{Event}
use Rattle.ibx_isa.specs.declared.event.Event.TheVariants.{Retire, Trap, Irq}
use Rattle.ibx_story.specs.Stories.{event_cycle, halts}
use Rattle.ibx_core.specs.declared.state.State.{State}
use Rattle.ibx_system.specs.Core.{core_parts}
use Rattle.ibx_system.specs.System.{Whole, next, output_of, settle}
use Rattle.ibx_system.specs.Runs.{run}
use Rattle.ibx_system.proofs.Runs.{run_more}
use Rattle.ibx_soc.specs.declared.cycle.Cycle.{Cycle}
use Rattle.ibx_soc.specs.Cycles.{cycle_of, happens_at, soc_next}
use Rattle.ibx_compare.specs.Drives.{Drive, drive_after, drive_by, drive_from}
use Rattle.ibx_compare.specs.Twins.{Told, left_after, told, told_by}

-- a step counts one cycle
pub cycle_next : (w : Whole State) → (soc_next w).place.cycle ≡ w.place.cycle + 1
unfolding next settle
cycle_next w = refl

-- an event has the number of its cycle
happened : (c : ℕ) (o : Option Event) (e : Event) → happens_at c o ≡ Some e → event_cycle e ≡ c
happened c None e h = cc
happened c (Some (Retire cycle pc word rd value mem ctl ops)) e h = cc
happened c (Some (Trap cycle pc word cause tval addr)) e h = cc
happened c (Some (Irq cycle pc cause)) e h = cc

-- so has the event of a step
pub happened_in : (w : Whole State) (e : Event) → (cycle_of w).event ≡ Some e → event_cycle e ≡ w.place.cycle
unfolding cycle_of
happened_in w e h = happened w.place.cycle (output_of core_parts w).event e h

-- a state of the run from a first state: the one after as many steps as it counts
abbrev pub IsReached : Whole State → Whole State → Type 0
IsReached start w = w ≡ run core_parts start None w.place.cycle

-- so is the state after it
reached_next : (start w : Whole State) → IsReached start w → IsReached start (soc_next w)
reached_next start w here =
    let count : suc w.place.cycle ≡ (soc_next w).place.cycle = omega (arith, cycle_next w) in
    ap soc_next here ∙ sym (run_more core_parts None w.place.cycle start) ∙ ap (run core_parts start None) count

-- What is so of a run up to its next event: its events and its last state are those of the run from there with the
-- event in front, it is on
-- the way, and it takes the cycles that it counts. Where there is no event nothing is left.
pub record TellsOn (cycles : ℕ) (w : Whole State) (t : Told) : Type 0 where
  pub events : (drive_from cycles w).events ≡ cons_option t.event (drive_from t.left t.next).events
  pub last : (drive_from cycles w).left ≡ (drive_from t.left t.next).left
  pub here : (start : Whole State) → IsReached start w → IsReached start t.next
  pub fits : t.next.place.cycle + t.left ≤ w.place.cycle + cycles
  pub spent : t.event ≡ None → t.left ≡ 0
  pub fewer : (e : Event) → t.event ≡ Some e → t.left < cycles
  pub done : (e : Event) → t.event ≡ Some e → t.next.place.cycle ≡ event_cycle e + 1

-- by the event of the first cycle and whether it halts
tells_after : (cycles : ℕ) (w : Whole State) (e : Event) (b : Bool) → (cycle_of w).event ≡ Some e → halts e ≡ b
    → TellsOn (suc cycles) w (record { event = Some e; left = left_after b cycles; next = soc_next w })
unfolding drive_from drive_by drive_after
tells_after cycles w e b h halt =
    let whole : drive_from (suc cycles) w ≡ drive_after b e (soc_next w) (drive_from cycles (soc_next w)) =
    ap (λ (o : Option Event). drive_by o (soc_next w) (drive_from cycles (soc_next w))) h
    ∙ ap (λ (b : Bool). drive_after b e (soc_next w) (drive_from cycles (soc_next w))) halt in
    record {
      events = ap (λ (d : Drive). d.events) whole ∙ events_after b;
      last = ap (λ (d : Drive). d.left) whole ∙ last_after b;
      here = λ start here. reached_next start w here;
      fits = omega (arith, cycle_next w, few b);
      spent = λ none. cc;
      fewer = λ event is. omega (arith, few b);
      done = λ event is. cycle_next w ∙ ap (λ (c : ℕ). c + 1) (sym (happened_in w event (h ∙ is)));
    }
  where
    few : (b : Bool) → left_after b cycles ≤ cycles
    few true = omega arith
    few false = omega arith

    events_after : (b : Bool) → (drive_after b e (soc_next w) (drive_from cycles (soc_next w))).events ≡ e ∷
        (drive_from (left_after b cycles) (soc_next w)).events
    events_after true = refl
    events_after false = refl

    last_after : (b : Bool) → (drive_after b e (soc_next w) (drive_from cycles (soc_next w))).left ≡
        (drive_from (left_after b cycles) (soc_next w)).left
    last_after true = refl
    last_after false = refl

-- by the event of the first cycle and the run after it
tells_by : (cycles : ℕ) (w : Whole State) (o : Option Event) (rest : Told) → (cycle_of w).event ≡ o → TellsOn cycles
    (soc_next w) rest
    → TellsOn (suc cycles) w (told_by o cycles (soc_next w) rest)
unfolding drive_from drive_by told_by
tells_by cycles w None rest h tells =
    let whole : drive_from (suc cycles) w ≡ drive_from cycles (soc_next w) =
    ap (λ (o : Option Event). drive_by o (soc_next w) (drive_from cycles (soc_next w))) h in
    record {
      events = ap (λ (d : Drive). d.events) whole ∙ tells.events;
      last = ap (λ (d : Drive). d.left) whole ∙ tells.last;
      here = λ start here. tells.here start (reached_next start w here);
      fits = omega (arith, cycle_next w, tells.fits);
      spent = tells.spent;
      fewer = λ event is. omega (arith, tells.fewer event is);
      done = tells.done;
    }
tells_by cycles w (Some e) rest h tells = tells_after cycles w e (halts e) h refl

-- this is so of every run
pub tells : (cycles : ℕ) (w : Whole State) → TellsOn cycles w (told cycles w)
unfolding drive_from told
tells zero w = record {
  events = refl;
  last = refl;
  here = λ start here. here;
  fits = omega arith;
  spent = λ none. refl;
  fewer = λ event is. cc;
  done = λ event is. cc;
}
tells (suc cycles) w = tells_by cycles w (cycle_of w).event (told cycles (soc_next w)) refl (tells cycles (soc_next w))

-- ---- one cycle of it

-- no cycle is left
pub told_none : (cycles left : ℕ) (start w : Whole State) → told left w ≡ told cycles start → left ≤ 0 → told cycles
    start ≡ record { event = None; left = 0; next = w }
unfolding told
told_none cycles zero start w same none = sym same
told_none cycles (suc left) start w same none = absurd (omega arith)

-- a cycle without an event
pub told_rests : (cycles left : ℕ) (start w : Whole State) → told left w ≡ told cycles start → 0 < left →
    (cycle_of w).event ≡ None
    → told (left - 1) (soc_next w) ≡ told cycles start
unfolding told told_by
told_rests cycles zero start w same some none = absurd (omega arith)
told_rests cycles (suc left) start w same some none =
    let one : suc left - 1 ≡ left = omega arith in
    ap (λ (n : ℕ). told n (soc_next w)) one
    ∙ sym (ap (λ (o : Option Event). told_by o left (soc_next w) (told left (soc_next w))) none) ∙ same

-- a cycle with an event
pub told_event : (cycles left : ℕ) (start w : Whole State) (e : Event) (b : Bool) → told left w ≡ told cycles start → 0
    < left → (cycle_of w).event ≡ Some e → halts e ≡ b
    → told cycles start ≡ record { event = Some e; left = left_after b (left - 1); next = soc_next w }
unfolding told told_by
told_event cycles zero start w e b same some is halt = absurd (omega arith)
told_event cycles (suc left) start w e b same some is halt =
    let one : left ≡ suc left - 1 = omega arith in
    sym same
    ∙ ap (λ (o : Option Event). told_by o left (soc_next w) (told left (soc_next w))) is
    ∙ ap (λ (b : Bool). record { event = Some e; left = left_after b left; next = soc_next w }) halt
    ∙ ap (λ (n : ℕ). record { event = Some e; left = left_after b n; next = soc_next w }) one

-- the event of a cycle that was shown
pub showed : (cycle : Cycle) (w : Whole State) (event : Option Event) → cycle ≡ cycle_of w → cycle.event ≡ event →
    (cycle_of w).event ≡ event
showed cycle w event shown e = sym (ap (λ (c : Cycle). c.event) shown) ∙ e
