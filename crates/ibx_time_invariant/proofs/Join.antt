-- One cycle keeps the invariant, and a whole run gives the history.
use Rattle.std.proofs.Common.{◌≡◌, ℕ, zero, suc, ◌+◌, ◌-◌, ◌<◌, ◌≤◌, Bool, true, false, List, [], Some}
use Rattle.std.proofs.Common.{None, Option, sym, refl, ap, ◌∙◌, subst, arith}
use Rattle.std.proofs.lemmas.Bool.{lt-ltb, le-ltb}
use Rattle.ibx_time_machine.specs.System.{shown_of, System, happens_at, in_of, next_from, run}
use Rattle.ibx_time.specs.Runs.{with_event as adds_event}
use Rattle.ibx_time_machine.specs.System.{system_by, system_next}
use Rattle.ibx_muldiv.specs.declared.unit.MulDiv.{MulDiv as MulDivUnit}
use Rattle.ibx_time.specs.History.{with_event, Story, Told, admission, continued, done_at, event_at, item_at, told}
use Rattle.ibx_time.specs.History.{words_there}
use Rattle.ibx_time_invariant.proofs.Stages.{fails, LsAt, Portion, Running, StageAt, answer_at, failed, new, opened, quiet}
use Rattle.ibx_time_invariant.proofs.Stages.{reaches, waiting}
use Rattle.ibx_time_invariant.proofs.Ties.{IsPlaced}
use Rattle.ibx_time_invariant.proofs.Invariant.{Inv, Kept}
use Rattle.ibx_time_invariant.proofs.Phases.{Phases}
use Rattle.ibx_time_invariant.proofs.Cycle.{Follows, Goes, Receives, after, entry_after, fetch_wires_in, goes_on, received_in}
use Rattle.ibx_time_invariant.proofs.FetchSide.{ans_of}
use Rattle.ibx_time_invariant.proofs.Dones.{Done, after_done, effect_in, off, on, sight_in}
use Rattle.ibx_bus.specs.Port.{PortState}
use Rattle.ibx_bus.specs.PortTimes.{answer_time, grant_time}
use Rattle.ibx_time.specs.Settings.{Setup, settings_of, lines_in}
use Rattle.ibx_time.specs.Items.{NoPortion, One, OneBad, Portions, Two, TwoBad}
use Rattle.ibx_time.specs.Times.{done_by, done_of, is_ready, kind_at, may_end, portion_answer, stop_of}
use Rattle.ibx_icache.specs.WordPort.{wires_of}
use Rattle.ibx_id.specs.declared.stage.IdState.{IdState}
use Rattle.ibx_time_machine.specs.Core.{core_out_by}
use Rattle.ibx_time_machine.specs.Whole.{steps}
use Rattle.ibx_isa.specs.declared.event.Access.{Access}
use Rattle.ibx_isa.specs.declared.event.Event.{Event}
use Rattle.ibx_lsu.specs.declared.unit.Lsu.{Lsu}
use Rattle.ibx_plan.specs.declared.site.Wait.{Wait}
use Rattle.ibx_core.specs.Core.{Cycle, cycle_of, cycle_seen, cycle_with, port_of}
use Rattle.ibx_core.specs.Effects.{Effect}
use Rattle.ibx_core.specs.Entries.{Entry, admits_by}
use Rattle.ibx_time_invariant.proofs.Entries.{entry_is}
use Rattle.ibx_prefetch.specs.Buffer.{fetch_after_answer, head_of, request_of}
use Rattle.ibx_prefetch.specs.declared.buffer.Prefetch.{Prefetch}
use Rattle.ibx_time.proofs.Timed.{first_after}
use Rattle.ibx_prefetch.specs.declared.buffer.WordAns.{WordAns}

-- ---- the step of the system, by its sight, its effect and its entry

-- the cycle with what enters, and with the buffer whose next word is requested
abbrev made : Setup → System → Entry → Prefetch → Cycle
made s st n f = record {
  sight = sight_in s st;
  effect = effect_in s st;
  ans = ans_of st.main.words st.iport st.tags st.lines;
  entry = n;
  request = request_of f;
}

-- the system after a step, its event and its wires, by what it sees, does and admits
next_is : (s : Setup) (st : System) → Receives st (effect_in s st)
    → system_next s st ≡ after s st (sight_in s st) (effect_in s st)
    (entry_after s st (sight_in s st) (effect_in s st))
unfolding system_next cycle_of cycle_seen cycle_with in_of
next_is s st r =
    let e : Effect = effect_in s st in
    let ans : WordAns = ans_of st.main.words st.iport st.tags st.lines in
    let lines : ℕ = lines_in (settings_of s) st.cycle in
    ap (λ n. next_from (made s st n (fetch_after_answer ans e.redirect st.main.fetch)) (in_of s st) st)
    (sym (entry_is (sight_in s st).turn ans st.main.fetch e lines))
    ∙ ap (λ f. next_from (made s st (admits_by (sight_in s st).turn (head_of f) e lines) f) (in_of s st) st) r

-- the event that a step shows is that of its effect, at the cycle's number
happens_is : (s : Setup) (st : System) → (shown_of s st).happens ≡ happens_at st.cycle (effect_in s st).happens
unfolding shown_of core_out_by cycle_of cycle_seen cycle_with
happens_is s st = refl

-- the wires of the fetch port are those of the word port after the issue
fetch_is : (s : Setup) (st : System) → Receives st (effect_in s st)
    → (shown_of s st).fetch ≡ fetch_wires_in st (effect_in s st)
unfolding shown_of core_out_by cycle_of cycle_seen cycle_with port_of wires_of in_of
fetch_is s st r =
    ap (λ f. (core_out_by (made s st (entry_after s st (sight_in s st) (effect_in s st)) f) st.main (in_of s st)).fetch)
    r

-- the wires of the data port are those that the load-store unit drives
load_store_is : (s : Setup) (st : System) → (shown_of s st).load_store ≡ (sight_in s st).ls.req
unfolding shown_of core_out_by cycle_of cycle_seen cycle_with
load_store_is s st = refl

-- ---- what a cycle comes to

-- a step without an event keeps the story, and one with an event goes to the next story
pub data Outcome (s : Setup) (limit : ℕ) (h : Story) (st : System) : Type 0 where
  silent : (shown_of s st).happens ≡ None
      → Follows s limit h st.cycle (shown_of s st).fetch (shown_of s st).load_store (system_next s st)
      → Outcome s limit h st
  ended : (t : ℕ) → admission s limit h ≡ t → done_at s limit t h ≡ st.cycle
      → (shown_of s st).happens ≡ event_at s limit t h
      → Follows s limit (continued s limit t h) st.cycle (shown_of s st).fetch (shown_of s st).load_store
      (system_next s st) → Outcome s limit h st

-- the next invariant follows for the system as it is
follows : (s : Setup) (limit : ℕ) (h : Story) (st : System) → Receives st (effect_in s st)
    → Goes s limit h st (sight_in s st) (effect_in s st) (entry_after s st (sight_in s st) (effect_in s st))
    → Follows s limit h st.cycle (shown_of s st).fetch (shown_of s st).load_store (system_next s st)
follows s limit h st r g =
    subst (λ x. Follows s limit h st.cycle (shown_of s st).fetch (shown_of s st).load_store x) (sym (next_is s st r))
    (subst (λ req. Follows s limit h st.cycle req (shown_of s st).load_store
    (after s st (sight_in s st) (effect_in s st) (entry_after s st (sight_in s st) (effect_in s st))))
    (sym (fetch_is s st r))
    (subst (λ r. Follows s limit h st.cycle (fetch_wires_in st (effect_in s st)) r
    (after s st (sight_in s st) (effect_in s st) (entry_after s st (sight_in s st) (effect_in s st))))
    (sym (load_store_is s st)) g))

-- so each step has its outcome: from what holds after the done, and from the invariant
outcome : (s : Setup) → Phases s → IsPlaced s → (limit : ℕ) (h : Story) (st : System) → st.cycle < limit
    → Done s limit h st (sight_in s st) (effect_in s st) → Outcome s limit h st
outcome s ph ok limit h st less (on o q none m) =
    silent (happens_is s st ∙ ap (happens_at st.cycle) none)
    (follows s limit h st (received_in s limit h o q st (sight_in s st) (effect_in s st) m)
    (goes_on s ph ok limit h o q st (sight_in s st) (effect_in s st) less m))
outcome s ph ok limit h st less (off t q adm done happens m) =
    ended t adm done (happens_is s st ∙ happens)
    (follows s limit (continued s limit t h) st
    (received_in s limit (continued s limit t h) None q st (sight_in s st) (effect_in s st) m)
    (goes_on s ph ok limit (continued s limit t h) None q st (sight_in s st) (effect_in s st) less m))

-- so a step from the invariant keeps the story, or ends one item and goes to the next story
pub step : (s : Setup) → Phases s → IsPlaced s → (limit : ℕ) (h : Story) (o : Option ℕ) (q : ℕ) (st : System)
    → st.cycle < limit → Inv s limit h o q st → Outcome s limit h st
step s ph ok limit h o q st less i = outcome s ph ok limit h st less (after_done s ph ok limit h o q st less i)

-- ---- an item isn't done before its time

-- no item is done before the answer of a portion that it reaches
pub reached_late : (ws : List Wait) (portions : Portions) (n e stop : ℕ) (b : Bool) → reaches portions b ≡ true
    → portion_answer ws n e b ≤ done_by ws portions n e stop
unfolding done_by answer_time grant_time
reached_late ws NoPortion n e stop b r = let no_ : false ≡ true = r in cc
reached_late ws One n e stop false r = omega arith
reached_late ws One n e stop true r = let no_ : false ≡ true = r in cc
reached_late ws OneBad n e stop false r = omega arith
reached_late ws OneBad n e stop true r = let no_ : false ≡ true = r in cc
reached_late ws Two n e stop false r = omega arith
reached_late ws Two n e stop true r = omega arith
reached_late ws TwoBad n e stop false r = omega arith
reached_late ws TwoBad n e stop true r = omega arith

-- an access whose last portion is an error is done in the cycle after that answer
pub failed_done : (ws : List Wait) (n e stop : ℕ) (b : Bool)
    → done_by ws (fails b) n e stop ≡ portion_answer ws n e b + 1
unfolding done_by
failed_done ws n e stop false = refl
failed_done ws n e stop true = refl

-- an item without a portion is done where its search stops
pub plain_done : (ws : List Wait) (n e stop : ℕ) → done_by ws NoPortion n e stop ≡ stop
unfolding done_by
plain_done ws n e stop = refl

-- by its portions no item is done before its admission, if its search doesn't stop before it
enters_late : (ws : List Wait) (portions : Portions) (n t stop : ℕ) → t ≤ stop → t ≤ done_by ws portions n (t + 1) stop
unfolding done_by answer_time grant_time
enters_late ws NoPortion n t stop h = h
enters_late ws One n t stop h = omega arith
enters_late ws OneBad n t stop h = omega arith
enters_late ws Two n t stop h = omega arith
enters_late ws TwoBad n t stop h = omega arith

-- the end of an item without a portion
abbrev pub stop_at : Setup → ℕ → ℕ → Story → ℕ
stop_at s limit t h = stop_of (settings_of s) limit (item_at s t h) h.times.ctl (t + 1)

-- the done cycle by the portions
pub done_is : (s : Setup) (limit t : ℕ) (h : Story)
    → done_at s limit t h ≡ done_by s.plan.dwaits (item_at s t h).portions h.times.made (t + 1) (stop_at s limit t h)
unfolding done_of
done_is s limit t h = refl

-- so no item is done before its admission
admitted_before : (s : Setup) (limit t : ℕ) (h : Story) → t ≤ done_at s limit t h
admitted_before s limit t h =
    omega (
      arith,
      done_is s limit t h,
      enters_late s.plan.dwaits (item_at s t h).portions h.times.made t (stop_at s limit t h)
          (omega (
            arith,
            first_after (limit - (t + 1))
                (may_end (settings_of s) (item_at s t h) h.times.ctl (t + 1)) (t + 1),
          )),
    )

-- while the answer of a portion is to come, its item isn't done
portion_late : (s : Setup) (limit t c : ℕ) (h : Story) (w : Access) (b : Bool) → Portion s t h w b
    → c ≤ answer_at s t h b → c ≤ done_at s limit t h
portion_late s limit t c h w b r late =
    omega (
      arith,
      late,
      done_is s limit t h,
      reached_late s.plan.dwaits (item_at s t h).portions h.times.made (t + 1) (stop_at s limit t h) b r.reached,
    )

-- in each state of the load-store unit the item isn't done before this cycle
ls_late : (s : Setup) (limit t c : ℕ) (h : Story) (ls : Lsu) (p : PortState) → Running s limit t h c
    → LsAt s t h c ls p → c ≤ done_at s limit t h
unfolding answer_time grant_time
ls_late s limit t c h ls p running (quiet e k i) =
    omega (
      arith,
      done_is s limit t h,
      ap (λ portions. done_by s.plan.dwaits portions h.times.made (t + 1) (stop_at s limit t h)) e,
      plain_done s.plan.dwaits h.times.made (t + 1) (stop_at s limit t h),
      running e,
      first_after (limit - c) (may_end (settings_of s) (item_at s t h) h.times.ctl (t + 1)) c,
    )
ls_late s limit t c h ls p running (new w b r e now i) = portion_late s limit t c h w b r (omega (arith, now))
ls_late s limit t c h ls p running (waiting w b r e g) = portion_late s limit t c h w b r (omega (arith, g.late))
ls_late s limit t c h ls p running (opened w b r e g) = portion_late s limit t c h w b r (omega (arith, g.left))
ls_late s limit t c h ls p running (failed b e k at i) =
    omega (
      arith,
      at,
      done_is s limit t h,
      ap (λ portions. done_by s.plan.dwaits portions h.times.made (t + 1) (stop_at s limit t h)) e,
      failed_done s.plan.dwaits h.times.made (t + 1) (stop_at s limit t h) b,
    )

-- so the next done is in this cycle or later, with an item in the stage or without
pub not_before : (s : Setup) (limit : ℕ) (h : Story) (o : Option ℕ) (c : ℕ) (id : IdState) (md : MulDivUnit) (ls : Lsu)
    (p : PortState) → StageAt s limit h o c id md ls p
    → c ≤ done_at s limit (admission s limit h) h
not_before s limit h None c id md ls p u =
    omega (
      arith,
      u.search,
      first_after (limit - c)
          (λ t. is_ready (kind_at (settings_of s) h.times t) (words_there s h t)) c,
      admitted_before s limit (admission s limit h) h,
    )
not_before s limit h (Some t) c id md ls p f =
    subst (λ a. c ≤ done_at s limit a h) (sym f.admitted_at) (ls_late s limit t c h ls p f.running f.part)

-- ---- a whole run

-- so many steps give the events that are told from a story on, and keep the invariant for the story that is left
pub record Agrees (s : Setup) (limit n fuel : ℕ) (h : Story) (st : System) : Type 0 where
  pub events : run s n st ≡ (told s limit fuel h).events
  pub kept : Kept s limit (told s limit fuel h).story (steps s n st)

-- nothing is told
abbrev pub nothing_more : Story → Told
nothing_more h = record { events = []; story = h }

-- an item that isn't done before the limit ends what is told
pub no_more : (s : Setup) (limit fuel : ℕ) (h : Story) → limit ≤ done_at s limit (admission s limit h) h
    → told s limit fuel h ≡ nothing_more h
unfolding told
no_more s limit zero h late = refl
no_more s limit (suc fuel) h late = rw (le-ltb (done_at s limit (admission s limit h) h) limit late)

-- one event in front
abbrev pub told_one : Option Event → Told → Told
told_one e more = record { events = with_event e more.events; story = more.story }

-- an item that is done before the limit is told, and the rest after it
pub one_more : (s : Setup) (limit fuel t : ℕ) (h : Story) → admission s limit h ≡ t → done_at s limit t h < limit
    → told s limit (suc fuel) h ≡ told_one (event_at s limit t h) (told s limit fuel (continued s limit t h))
unfolding told
one_more s limit fuel t h e less = rw (e, lt-ltb (done_at s limit t h) limit less)

-- a step with its event in front of the run's
adds : (o : Option Event) (es : List Event) → adds_event o es ≡ with_event o es
adds None es = refl
adds (Some e) es = refl

-- the run and the cycle after one step more
run_more : (s : Setup) (n : ℕ) (st : System) (o : Option Event) → (shown_of s st).happens ≡ o
    → run s (suc n) st ≡ with_event o (run s n (system_next s st))
unfolding run
run_more s n st o e = ap (λ v. adds_event v (run s n (system_next s st))) e ∙ adds o (run s n (system_next s st))

-- a step moves the cycle's number by one
pub next_cycle : (s : Setup) (st : System) → (system_next s st).cycle ≡ st.cycle + 1
unfolding system_next system_by
next_cycle s st = refl

-- one step more is a step in front of the others
steps_more : (s : Setup) (n : ℕ) (st : System) → steps s (suc n) st ≡ steps s n (system_next s st)
unfolding steps
steps_more s n st = refl

-- a run of no steps agrees, and one step more, with an event or without, keeps it so
agree_end : (s : Setup) (limit fuel : ℕ) (h : Story) (o : Option ℕ) (q : ℕ) (st : System) → Inv s limit h o q st
    → limit ≤ done_at s limit (admission s limit h) h → Agrees s limit zero fuel h st
unfolding run steps
agree_end s limit fuel h o q st i late =
    record {
      events = sym (ap (λ (r : Told). r.events) (no_more s limit fuel h late));
      kept =
          subst (λ y. Kept s limit y st) (sym (ap (λ (r : Told). r.story) (no_more s limit fuel h late))) (o, (q, i));
    }

-- a step without an event in front of a run adds nothing to what is told
agree_silent : (s : Setup) (limit n fuel : ℕ) (h : Story) (st : System) → (shown_of s st).happens ≡ None
    → Agrees s limit n fuel h (system_next s st) → Agrees s limit (suc n) fuel h st
agree_silent s limit n fuel h st none a =
    record {
      events = run_more s n st None none ∙ a.events;
      kept = subst (λ x. Kept s limit (told s limit fuel h).story x) (sym (steps_more s n st)) a.kept;
    }

-- a step with an event in front of a run tells one item more, before the others
agree_ended : (s : Setup) (limit n fuel t : ℕ) (h : Story) (st : System) → admission s limit h ≡ t
    → done_at s limit t h < limit → (shown_of s st).happens ≡ event_at s limit t h
    → Agrees s limit n fuel (continued s limit t h) (system_next s st) → Agrees s limit (suc n) (suc fuel) h st
agree_ended s limit n fuel t h st adm less happens a =
    let more : Told = told s limit fuel (continued s limit t h) in
    let one : told s limit (suc fuel) h ≡ told_one (event_at s limit t h) more = one_more s limit fuel t h adm less in
    record {
      events = run_more s n st (event_at s limit t h) happens ∙ ap (with_event (event_at s limit t h)) a.events
          ∙ sym (ap (λ (r : Told). r.events) one);
      kept = subst (λ x. Kept s limit (told s limit (suc fuel) h).story x) (sym (steps_more s n st))
          (subst (λ y. Kept s limit y (steps s n (system_next s st))) (sym (ap (λ (r : Told). r.story) one)) a.kept);
    }

-- so a run from any state with the invariant gives what the history tells
pub agree : (s : Setup) → Phases s → IsPlaced s → (limit n fuel : ℕ) (h : Story) (o : Option ℕ) (q : ℕ) (st : System)
    → Inv s limit h o q st → st.cycle + n ≡ limit → n ≤ fuel → Agrees s limit n fuel h st
agree s ph ok limit zero fuel h o q st i at enough =
    agree_end s limit fuel h o q st i
    (omega (arith, at, not_before s limit h o st.cycle st.main.id st.main.md st.main.ls st.dport i.stage))
agree s ph ok limit (suc n) zero h o q st i at enough = absurd (omega arith)
agree s ph ok limit (suc n) (suc fuel) h o q st i at enough =
    elim (step s ph ok limit h o q st (omega arith) i) [
      | silent none f ↦
          agree_silent s limit n (suc fuel) h st none
          (agree s ph ok limit n (suc fuel) h f.phase f.count (system_next s st) f.inv (omega (arith, next_cycle s st))
          (omega arith))
      | ended t adm done happens f ↦
          agree_ended s limit n fuel t h st adm (omega arith) happens
          (agree s ph ok limit n fuel (continued s limit t h) f.phase f.count (system_next s st) f.inv
          (omega (arith, next_cycle s st)) (omega arith))
    ]
