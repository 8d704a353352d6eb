-- A run of the system that has made some cycles, and what is left of it.
use Rattle.std.proofs.Common.{◌≡◌, ℕ, zero, suc, ◌+◌, ◌<◌, ◌≤◌, Bool, true, false, List, [], ◌++◌, Option, Some, None}
use Rattle.std.proofs.Common.{length, refl, sym, ap, ◌∙◌, subst, arith, append_assoc, zero-add}
use Rattle.std.specs.Prelude.{flat_map}
use Rattle.ibx_base.specs.Sinks.{with_more, TookPrefix}
use Rattle.ibx_isa.specs.declared.event.Event.{Event}
use Rattle.ibx_trace.specs.Lines.{line_of, end_line_of}
use Rattle.ibx_story.specs.Stories.{halts}
use Rattle.ibx_core.specs.declared.state.State.{State}
use Rattle.ibx_system.specs.Core.{core_parts}
use Rattle.ibx_system.specs.System.{Whole, next, settle}
use Rattle.ibx_system.specs.Runs.{run}
use Rattle.ibx_system.proofs.Runs.{run_more}
use Rattle.ibx_soc.specs.declared.cycle.Cycle.{Cycle}
use Rattle.ibx_soc.specs.Cycles.{cycle_of, soc_next}
use Rattle.ibx_compare.specs.Drives.{Drive, drive_after, drive_by, drive_from}
use Rattle.ibx_top.specs.Drives.{drive_text}
use Rattle.ibx_top.proofs.Gains.{SoFar, begun, more, cut}

-- a step counts one cycle
pub cycle_next : (w : Whole State) → (soc_next w).place.cycle ≡ w.place.cycle + 1
unfolding next settle
cycle_next w = refl

-- a run from a cycle without an event, with an event that goes on, and with a halting one
pub drive_rests : (n : ℕ) (w : Whole State) → (cycle_of w).event ≡ None → drive_from (suc n) w ≡ drive_from n
    (soc_next w)
unfolding drive_from drive_by
drive_rests n w e = ap (λ (event : Option Event). drive_by event (soc_next w) (drive_from n (soc_next w))) e

-- a cycle with an event puts it before the rest of the run, or ends the run where it halts
pub drive_event : (n : ℕ) (w : Whole State) (event : Event) (b : Bool) → (cycle_of w).event ≡ Some event → halts event
    ≡ b
    → drive_from (suc n) w ≡ drive_after b event (soc_next w) (drive_from n (soc_next w))
unfolding drive_from drive_by
drive_event n w event b e h =
    ap (λ (event : Option Event). drive_by event (soc_next w) (drive_from n (soc_next w))) e
    ∙ ap (λ (b : Bool). drive_after b event (soc_next w) (drive_from n (soc_next w))) h

-- what is printed of a run from a cycle on, with so many events before it
unfoldable pub text_from : ℕ → Drive → List ℕ
text_from events d = flat_map line_of d.events ++ end_line_of d.halted d.left.place.cycle (events + length d.events)

-- from the first cycle on it is the text of the whole run
text_from-start : (d : Drive) → text_from 0 d ≡ drive_text d
unfolding text_from drive_text
text_from-start d = ap (λ (n : ℕ). flat_map line_of d.events ++ end_line_of d.halted d.left.place.cycle n)
    (zero-add (length d.events))

-- an event that doesn't halt has its line, then comes the rest with one event more before it
text_from-goes_on : (events : ℕ) (event : Event) (next : Whole State) (rest : Drive) → text_from events
    (drive_after false event next rest) ≡ line_of event ++ text_from (events + 1) rest
unfolding text_from drive_after
text_from-goes_on events event next rest =
    let count : events + suc (length rest.events) ≡ events + 1 + length rest.events = omega arith in
    ap (λ (n : ℕ). line_of event ++ flat_map line_of rest.events ++ end_line_of rest.halted rest.left.place.cycle n)
    count
    ∙ append_assoc (line_of event) (flat_map line_of rest.events) (end_line_of rest.halted rest.left.place.cycle
    (events + 1 + length rest.events))

-- after the line of a halting event there is only the last line
text_from-halts : (events cycle : ℕ) (event : Event) (next : Whole State) (rest : Drive) → next.place.cycle ≡ cycle
    → text_from events (drive_after true event next rest) ≡ line_of event ++ end_line_of true cycle (events + 1)
unfolding text_from drive_after
text_from-halts events cycle event next rest e =
    append_assoc (line_of event) [] (end_line_of true next.place.cycle (events + 1))
    ∙ ap (λ (c : ℕ). line_of event ++ end_line_of true c (events + 1)) e

-- where no cycle is left there is only the last line, which tells of no halting store
text_from-spent : (events cycle : ℕ) (w : Whole State) → w.place.cycle ≡ cycle → text_from events (drive_from 0 w) ≡
    end_line_of false cycle events
unfolding text_from drive_from
text_from-spent events cycle w e =
    let count : events + 0 ≡ events = omega arith in
    ap (λ (n : ℕ). end_line_of false w.place.cycle n) count ∙ ap (λ (c : ℕ). end_line_of false c events) e

-- So many cycles were made from a state on, with so many events: the state is that of the run without a flip, what the
-- sink took is
-- the whole text but for what is printed from here on, and how the run ends is how the run from here on does.
pub record HasMade (budget : ℕ) (start : Whole State) (before now : Option (List ℕ)) (w : Whole State)
    (index events : ℕ) : Type 0 where
  pub left : ℕ
  pub count : index + left ≡ budget
  pub fewer : events ≤ index
  pub cycle : w.place.cycle ≡ index
  pub here : w ≡ run core_parts start None index
  pub text : SoFar before now (text_from events (drive_from left w)) (drive_text (drive_from budget start))
  pub halted : (drive_from left w).halted ≡ (drive_from budget start).halted
  pub state : (drive_from left w).left ≡ (drive_from budget start).left

-- before its first cycle a run has printed nothing
pub starts : (budget : ℕ) (start : Whole State) (before : Option (List ℕ)) → start.place.cycle ≡ 0 → HasMade budget
    start before before start 0 0
unfolding run
starts budget start before new = record {
  left = budget;
  count = zero-add budget;
  fewer = omega arith;
  cycle = new;
  here = refl;
  text =
      subst (λ (rest : List ℕ). SoFar before before rest (drive_text (drive_from budget start)))
      (sym (text_from-start (drive_from budget start)))
      (begun before (drive_text (drive_from budget start)));
  halted = refl;
  state = refl;
}

-- one cycle more is left
pub one_left : (index left budget : ℕ) → index + left ≡ budget → index < budget → (less : ℕ) ×
    ((left ≡ suc less) × (index + 1 + less ≡ budget))
one_left index zero budget count within = absurd (omega arith)
one_left index (suc less) budget count within = (less, (refl, omega arith))

-- what is printed from here on, by an equation for the run from here on
from_here : (events : ℕ) {before now : Option (List ℕ)} {whole : List ℕ} (rest other : Drive) (text : List ℕ) → rest ≡
    other → text_from events other ≡ text
    → SoFar before now (text_from events rest) whole → SoFar before now text whole
from_here events {before} {now} {whole} rest other text e f so_far =
    subst (λ (t : List ℕ). SoFar before now t whole) (ap (text_from events) e ∙ f) so_far

-- the state of one cycle more
one_more : (start w : Whole State) (index : ℕ) → w ≡ run core_parts start None index → soc_next w ≡ run core_parts
    start None (index + 1)
one_more start w index here =
    let count : index + 1 ≡ suc index = omega arith in
    ap soc_next here ∙ sym (run_more core_parts None index start) ∙ ap (run core_parts start None) (sym count)

-- how a run ends
pub record HasEnded (budget : ℕ) (start : Whole State) (before now : Option (List ℕ)) (rest : List ℕ) (halted : Bool)
    (left : Whole State) : Type 0 where
  pub text : SoFar before now rest (drive_text (drive_from budget start))
  pub halts : halted ≡ (drive_from budget start).halted
  pub leaves : left ≡ (drive_from budget start).left

module _ {budget : ℕ} {start : Whole State} {before now : Option (List ℕ)} {w : Whole State} {index events : ℕ} where
  -- the budget is spent
  pub no_budget : HasMade budget start before now w index events → budget ≤ index → HasEnded budget start before now
      (end_line_of false budget events) false w
  unfolding drive_from
  no_budget r over =
      let none : r.left ≡ 0 = omega (arith, r.count) in
      let here : index ≡ budget = omega (arith, r.count) in
      let rest : drive_from r.left w ≡ drive_from 0 w = ap (λ (n : ℕ). drive_from n w) none in
      record {
        text = from_here events (drive_from r.left w) (drive_from 0 w) (end_line_of false budget events) rest
            (text_from-spent events budget w (r.cycle ∙ here)) r.text;
        halts = sym (ap (λ (d : Drive). d.halted) rest) ∙ r.halted;
        leaves = sym (ap (λ (d : Drive). d.left) rest) ∙ r.state;
      }

  -- a halting event
  pub halting : (event : Event) → HasMade budget start before now w index events → index < budget → (cycle_of w).event
      ≡ Some event → halts event ≡ true
      → HasEnded budget start before now (line_of event ++ end_line_of true (index + 1) (events + 1)) true (soc_next w)
  unfolding drive_after
  halting event r within e h =
      let (less, (one, count)) = one_left index r.left budget r.count within in
      let last : Drive = drive_after true event (soc_next w) (drive_from less (soc_next w)) in
      let rest : drive_from r.left w ≡ last = ap (λ (n : ℕ). drive_from n w) one ∙ drive_event less w event true e h in
      record {
        text =
            from_here events (drive_from r.left w) last (line_of event ++ end_line_of true (index + 1) (events + 1))
            rest
            (text_from-halts events (index + 1) event (soc_next w) (drive_from less (soc_next w))
            (cycle_next w ∙ ap (λ (c : ℕ). c + 1) r.cycle)) r.text;
        halts = sym (ap (λ (d : Drive). d.halted) rest) ∙ r.halted;
        leaves = sym (ap (λ (d : Drive). d.left) rest) ∙ r.state;
      }

  -- a cycle without an event
  pub rests : HasMade budget start before now w index events → index < budget → (cycle_of w).event ≡ None → HasMade
      budget start before now (soc_next w) (index + 1) events
  rests r within e =
      let (less, (one, count)) = one_left index r.left budget r.count within in
      let rest : drive_from r.left w ≡ drive_from less (soc_next w) = ap (λ (n : ℕ). drive_from n w) one ∙ drive_rests
      less w e in
      record {
        left = less;
        count = count;
        fewer = omega (arith, r.fewer);
        cycle = cycle_next w ∙ ap (λ (c : ℕ). c + 1) r.cycle;
        here = one_more start w index r.here;
        text = from_here events (drive_from r.left w) (drive_from less (soc_next w))
            (text_from events (drive_from less (soc_next w))) rest refl r.text;
        halted = sym (ap (λ (d : Drive). d.halted) rest) ∙ r.halted;
        state = sym (ap (λ (d : Drive). d.left) rest) ∙ r.state;
      }

  -- an event after which the run goes on
  pub goes_on : {after : Option (List ℕ)} (event : Event) → HasMade budget start before now w index events → index <
      budget → (cycle_of w).event ≡ Some event → halts event ≡ false → after ≡ with_more now (line_of event)
      → HasMade budget start before after (soc_next w) (index + 1) (events + 1)
  unfolding drive_after
  goes_on {after} event r within e h wrote =
      let (less, (one, count)) = one_left index r.left budget r.count within in
      let later : Drive = drive_from less (soc_next w) in
      let here : Drive = drive_after false event (soc_next w) later in
      let rest : drive_from r.left w ≡ here =
      ap (λ (n : ℕ). drive_from n w) one ∙ drive_event less w event false e h in
      record {
        left = less;
        count = count;
        fewer = omega (arith, r.fewer);
        cycle = cycle_next w ∙ ap (λ (c : ℕ). c + 1) r.cycle;
        here = one_more start w index r.here;
        text =
            more (line_of event) (text_from (events + 1) later)
            (from_here events (drive_from r.left w) here (line_of event ++ text_from (events + 1) later) rest
            (text_from-goes_on events event (soc_next w) later) r.text) wrote;
        halted = sym (ap (λ (d : Drive). d.halted) rest) ∙ r.halted;
        state = sym (ap (λ (d : Drive). d.left) rest) ∙ r.state;
      }

  -- the line of an event is cut short
  pub cut_event : {after : Option (List ℕ)} (event : Event) → HasMade budget start before now w index events → index <
      budget → (cycle_of w).event ≡ Some event → TookPrefix now (line_of event) after
      → TookPrefix before (drive_text (drive_from budget start)) after
  cut_event {after} event r within e took =
      let (less, (one, count)) = one_left index r.left budget r.count within in
      let later : Drive = drive_from less (soc_next w) in
      let cases : (b : Bool) → halts event ≡ b → TookPrefix before (drive_text (drive_from budget start)) after =
      elim [
        | true ↦ λ h. cut (line_of event) (end_line_of true (index + 1) (events + 1)) (halting event r within e h).text
            took
        | false ↦
            λ h.
            let here : Drive = drive_after false event (soc_next w) later in
            let rest : drive_from r.left w ≡ here = ap (λ (n : ℕ). drive_from n w) one ∙ drive_event less w event false
            e h in
            cut (line_of event) (text_from (events + 1) later)
            (from_here events (drive_from r.left w) here (line_of event ++ text_from (events + 1) later) rest
            (text_from-goes_on events event (soc_next w) later) r.text) took
      ]
      in cases (halts event) refl

-- the event of a cycle that was shown
pub showed : (cycle : Cycle) (w : Whole State) (event : Option Event) → cycle ≡ cycle_of w → cycle.event ≡ event →
    (cycle_of w).event ≡ event
showed cycle w event shown e = sym (ap (λ (c : Cycle). c.event) shown) ∙ e

-- the state after a step is that of the run without a flip after so many cycles as the state counts
pub stepped : {budget : ℕ} {start : Whole State} {before now : Option (List ℕ)} {w after : Whole State}
    {index events : ℕ} → HasMade budget start before now w index events → after ≡ soc_next w
    → after ≡ run core_parts start None after.place.cycle
stepped {budget} {start} {before} {now} {w} {after} {index} r next =
    let at : after.place.cycle ≡ index + 1 = ap (λ (v : Whole State). v.place.cycle) next ∙ cycle_next w ∙ ap
    (λ (c : ℕ). c + 1) r.cycle in
    next ∙ one_more start w index r.here ∙ ap (run core_parts start None) (sym at)

-- so is the state before it
pub standing : {budget : ℕ} {start : Whole State} {before now : Option (List ℕ)} {w : Whole State} {index events : ℕ} →
    HasMade budget start before now w index events
    → w ≡ run core_parts start None w.place.cycle
standing {budget} {start} r = r.here ∙ ap (run core_parts start None) (sym r.cycle)

-- the same by equal values
pub moved : {K : Type 0} (taken : K → Option (List ℕ)) {budget index events count : ℕ} {start after next : Whole State}
    {before : Option (List ℕ)} {out kept : K}
    → out ≡ kept → events ≡ count → after ≡ next → HasMade budget start before (taken kept) next index count → HasMade
    budget start before (taken out) after index events
moved taken same count next made = rw (same, count, next) made
