-- A run of the system that sums its events.
use Rattle.std.proofs.Common.{◌≡◌, ℕ, ◌+◌, ◌<◌, ◌≤◌, ◌%◌, ◌^◌, Bool, true, false, List, [], ◌∷◌, ◌++◌, Some}
use Rattle.std.proofs.Common.{None}
use Rattle.std.proofs.Common.{length, refl, sym, ap, ◌∙◌, subst, arith, append_assoc, zero-add}
use Rattle.std.specs.List.{sum_by}
use Rattle.std.proofs.lemmas.List.{append-nil, length-append}
use Rattle.std.proofs.lemmas.List.Sums.{sum_by-append}
use Rattle.ibx_isa.specs.declared.event.Event.{Event}
use Rattle.ibx_story.specs.Stories.{halts}
use Rattle.ibx_core.specs.declared.state.State.{State}
use Rattle.ibx_system.specs.System.{Whole}
use Rattle.ibx_soc.specs.Cycles.{cycle_of, soc_next}
use Rattle.ibx_compare.specs.Drives.{Drive, drive_after, drive_from}
use Rattle.ibx_time.specs.Settings.{Setup}
use Rattle.ibx_time_system.specs.Laws.{IsHistory}
use Rattle.ibx_trace.specs.Lines.{end_line_of}
use Rattle.ibx_top.specs.Generated.{sum_lines, sum_text, written, written_sum}
use Rattle.ibx_top.specs.TimedStories.{timed_story}
use Rattle.ibx_top.proofs.TimedStories.{sum_text_is}
use Rattle.ibx_top.proofs.Drives.{cycle_next, drive_rests, drive_event, one_left}

-- one event more in a sum
sum_more : (es : List Event) (e : Event) → (written_sum es + written e) % 2 ^ 32 ≡ written_sum (es ++ (e ∷ []))
unfolding written_sum
sum_more es e =
    let one : sum_by written (es ++ (e ∷ [])) ≡ sum_by written es + (0 + written e) = sum_by-append written es
    (e ∷ []) in
    let split : (sum_by written es % 2 ^ 32 + written e) % 2 ^ 32 ≡ (sum_by written es + (0 + written e)) % 2 ^ 32 =
    omega arith in
    split ∙ ap (λ (n : ℕ). n % 2 ^ 32) (sym one)

-- So many events were summed and counted, and with the events of the rest they are those of the whole run, which ends
-- as
-- the rest does.
pub record SumsUp (whole rest : Drive) (sum events : ℕ) : Type 0 where
  pub made : List Event
  pub sums : sum ≡ written_sum made
  pub counts : events ≡ length made
  pub list : made ++ rest.events ≡ whole.events
  pub halts : rest.halted ≡ whole.halted
  pub leaves : rest.left ≡ whole.left

-- the same for equal rests
rest_is : {whole rest other : Drive} {sum events : ℕ} → rest ≡ other → SumsUp whole rest sum events
    → SumsUp whole other
    sum events
rest_is {whole} {rest} {other} {sum} {events} e up = subst (λ (d : Drive). SumsUp whole d sum events) e up

-- nothing was summed yet
none_yet : (whole : Drive) → SumsUp whole whole 0 0
unfolding written_sum
none_yet whole = record { made = []; sums = refl; counts = refl; list = refl; halts = refl; leaves = refl }

-- an event more, after which the run goes on
one_more : {whole rest : Drive} {sum events : ℕ} (e : Event) (next : Whole State) → SumsUp whole
    (drive_after false e next rest) sum events → SumsUp whole rest ((sum + written e) % 2 ^ 32) (events + 1)
unfolding drive_after
one_more {whole} {rest} {sum} {events} e next up = record {
  made = up.made ++ (e ∷ []);
  sums = ap (λ (n : ℕ). (n + written e) % 2 ^ 32) up.sums ∙ sum_more up.made e;
  counts = ap (λ (n : ℕ). n + 1) up.counts ∙ sym (length-append up.made (e ∷ []));
  list = append_assoc up.made (e ∷ []) rest.events ∙ up.list;
  halts = up.halts;
  leaves = up.leaves;
}

-- How a run ends: all its events were summed and counted.
pub record HasSummed (whole : Drive) (halted : Bool) (sum events : ℕ) (left : Whole State) : Type 0 where
  pub halts : halted ≡ whole.halted
  pub sums : sum ≡ written_sum whole.events
  pub counts : events ≡ length whole.events
  pub leaves : left ≡ whole.left

-- nothing is left
no_rest : {whole rest : Drive} {sum events : ℕ} → SumsUp whole rest sum events → rest.events ≡ [] → HasSummed whole
    rest.halted sum events rest.left
no_rest {whole} {rest} {sum} {events} up none =
    let all : up.made ≡ whole.events = sym (append-nil up.made) ∙ ap (λ (es : List Event). up.made ++ es) (sym none) ∙
    up.list in
    record {
      halts = up.halts;
      sums = up.sums ∙ ap written_sum all;
      counts = up.counts ∙ ap (λ (es : List Event). length es) all;
      leaves = up.leaves;
    }

-- the last event
last_one : {whole : Drive} {sum events : ℕ} (rest : Drive) (e : Event) (next : Whole State) → SumsUp whole
    (drive_after true e next rest) sum events → HasSummed whole true ((sum + written e) % 2 ^ 32) (events + 1) next
unfolding drive_after
last_one {whole} {sum} {events} rest e next up =
    let all : up.made ++ (e ∷ []) ≡ whole.events = up.list in
    record {
      halts = up.halts;
      sums = ap (λ (n : ℕ). (n + written e) % 2 ^ 32) up.sums ∙ sum_more up.made e ∙ ap written_sum all;
      counts = ap (λ (n : ℕ). n + 1) up.counts ∙ sym (length-append up.made (e ∷ [])) ∙ ap (λ (es : List Event). length
          es) all;
      leaves = up.leaves;
    }

-- So many cycles were made from a state on, and the events of them were summed and counted.
pub record HasRun (budget : ℕ) (start w : Whole State) (index sum events : ℕ) : Type 0 where
  pub left : ℕ
  pub count : index + left ≡ budget
  pub fewer : events ≤ index
  pub cycle : w.place.cycle ≡ index
  pub up : SumsUp (drive_from budget start) (drive_from left w) sum events

-- before the first cycle nothing is summed, and the whole budget is left
pub begins : (budget : ℕ) (start : Whole State) → start.place.cycle ≡ 0 → HasRun budget start start 0 0 0
begins budget start new = record {
  left = budget;
  count = zero-add budget;
  fewer = omega arith;
  cycle = new;
  up = none_yet (drive_from budget start);
}

module _ {budget : ℕ} {start w : Whole State} {index sum events : ℕ} where
  -- a cycle without an event
  pub idles : HasRun budget start w index sum events → index < budget → (cycle_of w).event ≡ None → HasRun budget start
      (soc_next w) (index + 1) sum events
  idles r within e =
      let (less, (one, count)) = one_left index r.left budget r.count within in
      record {
        left = less;
        count = count;
        fewer = omega (arith, r.fewer);
        cycle = cycle_next w ∙ ap (λ (c : ℕ). c + 1) r.cycle;
        up = rest_is (ap (λ (n : ℕ). drive_from n w) one ∙ drive_rests less w e) r.up;
      }

  -- an event after which the run goes on
  pub adds : (event : Event) → HasRun budget start w index sum events → index < budget
      → (cycle_of w).event ≡ Some event
      → halts event ≡ false
      → HasRun budget start (soc_next w) (index + 1) ((sum + written event) % 2 ^ 32) (events + 1)
  adds event r within e h =
      let (less, (one, count)) = one_left index r.left budget r.count within in
      record {
        left = less;
        count = count;
        fewer = omega (arith, r.fewer);
        cycle = cycle_next w ∙ ap (λ (c : ℕ). c + 1) r.cycle;
        up =
            one_more event (soc_next w)
            (rest_is (ap (λ (n : ℕ). drive_from n w) one ∙ drive_event less w event false e h) r.up);
      }

  -- a halting event
  pub adds_last : (event : Event) → HasRun budget start w index sum events → index < budget → (cycle_of w).event ≡ Some
      event → halts event ≡ true
      → HasSummed (drive_from budget start) true ((sum + written event) % 2 ^ 32) (events + 1) (soc_next w)
  adds_last event r within e h =
      let (less, (one, count)) = one_left index r.left budget r.count within in
      last_one (drive_from less (soc_next w)) event (soc_next w)
      (rest_is (ap (λ (n : ℕ). drive_from n w) one ∙ drive_event less w event true e h) r.up)

  -- the budget is spent
  pub spent : HasRun budget start w index sum events → budget ≤ index → HasSummed (drive_from budget start) false sum
      events w
  unfolding drive_from
  spent r over =
      let none : r.left ≡ 0 = omega (arith, r.count) in
      no_rest (rest_is (ap (λ (n : ℕ). drive_from n w) none) r.up) refl

-- the same by equal values
pub ran : {budget index sum given events count : ℕ} {start after next : Whole State} → after ≡ next → sum ≡ given →
    events ≡ count → HasRun budget start next index given count → HasRun budget start after index sum events
ran next given count run = rw (next, given, count) run

-- so what is printed of such a run is the text of its story
pub told_is : (number : ℕ) (s : Setup) (budget : ℕ) (w left : Whole State) {halted : Bool} {sum cycles events : ℕ} →
    IsHistory s w → w.place.cycle ≡ 0
    → HasSummed (drive_from budget w) halted sum events left → cycles ≡ left.place.cycle
    → sum_lines number sum ++ end_line_of halted cycles events ≡ sum_text number budget (timed_story s budget)
told_is number s budget w left {halted} {sum} {cycles} {events} law new summed at =
    let spent : cycles ≡ (drive_from budget w).left.place.cycle = at ∙ ap (λ (v : Whole State). v.place.cycle)
    summed.leaves in
    rw (summed.sums, summed.halts, spent, summed.counts) (sum_text_is number s budget w law new)
