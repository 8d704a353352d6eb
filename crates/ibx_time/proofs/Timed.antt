-- The cycles of a history are those of its views.
use Rattle.std.proofs.Common.{◌≡◌, ℕ, zero, suc, ◌+◌, ◌-◌, ◌<◌, ◌≤◌, ◌==◌, Bool, true, false, List, [], ◌∷◌, map}
use Rattle.std.proofs.Common.{Option, Some, None, refl, sym, ap, ap₂, ◌∙◌, subst, arith, nat_lt, if◌then◌else◌}
use Rattle.std.proofs.lemmas.Bool.{ltb-true}
use Rattle.ibx_isa.specs.declared.event.Event.{Event}
use Rattle.ibx_isa.specs.declared.event.View.{View}
use Rattle.ibx_isa.specs.Views.{view_of}
use Rattle.ibx_arch.specs.Step.{Choice, Interrupt, step_with}
use Rattle.ibx_time.specs.Search.{first_from}
use Rattle.ibx_time.specs.Settings.{Settings, Setup, settings_of, lines_in}
use Rattle.ibx_plan.specs.declared.site.Wait.{Wait}
use Rattle.ibx_bus.specs.PortTimes.{grant_time, answer_time}
use Rattle.ibx_arch.specs.Step.{pending_in}
use Rattle.ibx_time.specs.Controls.{values_of}
use Rattle.ibx_time.specs.Dummies.{is_due_in}
use Rattle.ibx_time.specs.Items.{Item, Portions, NoPortion, One, OneBad, Two, TwoBad}
use Rattle.ibx_time.specs.Times.{Times, Kind, AnInterrupt, ADummy, AnInstruction, kind_at, is_ready, admitted}
use Rattle.ibx_time.specs.Times.{after_event, done_of, done_by, stop_of, may_end, kind_by}
use Rattle.ibx_time.specs.Timeline.{words_for, admission_for, is_dummy, item_by as item_by_view, item_for, done_for}
use Rattle.ibx_time.specs.Timeline.{pc_after, views_by, times_by, times_for, cycle_by, cycles_from}
use Rattle.ibx_time.specs.Cycles.{cycle_of}
use Rattle.ibx_time.specs.History.{Story, view_with, brought_parcels, words_there, admission, kind_of, choice_by}
use Rattle.ibx_time.specs.History.{choice_at, item_by, item_at, done_at, taken, event_by, ended_by, continued}
use Rattle.ibx_time.specs.History.{event_at, with_event, told}

-- two tests, of which the second holds only where the first does, and where the first is found
same_by : (n : ℕ) (p q : ℕ → Bool) (c : ℕ) (a b : Bool) → p c ≡ a → q c ≡ b → (q c ≡ true → p c ≡ true)
    → (q (first_from n p (c + 1)) ≡ true → first_from n q (c + 1) ≡ first_from n p (c + 1))
    → q (if a then c else first_from n p (c + 1)) ≡ true
    → (if b then c else first_from n q (c + 1)) ≡ (if a then c else first_from n p (c + 1))
same_by n p q c true true e f less more here = refl
same_by n p q c true false e f less more here = let no_ : true ≡ false = sym here ∙ f in cc
same_by n p q c false true e f less more here = let no_ : true ≡ false = sym (less f) ∙ e in cc
same_by n p q c false false e f less more here = more here

-- so the search with either finds the same
pub first_same : (n : ℕ) (p q : ℕ → Bool) (c : ℕ) → ((u : ℕ) → q u ≡ true → p u ≡ true) → q (first_from n p c) ≡ true
    → first_from n q c ≡ first_from n p c
unfolding first_from
first_same zero p q c less here = refl
first_same (suc n) p q c less here =
    same_by n p q c (p c) (q c) refl refl (less c) (first_same n p q (c + 1) less) here

-- what is found below the end passes the test
found_by : (n : ℕ) (p : ℕ → Bool) (c : ℕ) (a : Bool) → p c ≡ a
    → (first_from n p (c + 1) < c + 1 + n → p (first_from n p (c + 1)) ≡ true)
    → (if a then c else first_from n p (c + 1)) < c + suc n → p (if a then c else first_from n p (c + 1)) ≡ true
found_by n p c true e more h = e
found_by n p c false e more h = more (omega (arith, h))

-- a search that ends before the end of its range ends where the test holds
pub first_found : (n : ℕ) (p : ℕ → Bool) (c : ℕ) → first_from n p c < c + n → p (first_from n p c) ≡ true
unfolding first_from
first_found zero p c h = absurd (omega arith)
first_found (suc n) p c h = found_by n p c (p c) refl (first_found n p (c + 1)) h

-- ---- what the views say, as is proved of the architecture

-- the view of a step is the one of the history whatever the cycle, with the program counter and whether it is an
-- interrupt
pub record HasViews (s : Setup) : Type 0 where
  pub same : (h : Story) (choice : Choice) (d : ℕ)
      → view_of (step_with (lines_in (settings_of s)) h.state choice d).event ≡ view_with s h choice
  pub cycle : (h : Story) (choice : Choice) (d : ℕ)
      → cycle_of (step_with (lines_in (settings_of s)) h.state choice d).event ≡ d
  pub pc : (h : Story) (choice : Choice) → (view_with s h choice).pc ≡ h.state.pc
  pub interrupt : (h : Story) (number : ℕ) → ((view_with s h (Interrupt number)).kind == 2) ≡ true
  pub real : (h : Story) → ((view_with s h (brought_parcels s h)).kind == 2) ≡ false

-- the views of events
abbrev views : List Event → List View
views events = map view_of events

-- the events that are told, by whether the item is done before limit
abbrev told_if : Bool → Option Event → List Event → List Event
told_if true e rest = with_event e rest
told_if false e rest = []

-- the story that is left, by whether the item is done before limit
abbrev story_if : Bool → Story → Story → Story
story_if true rest h = rest
story_if false rest h = h

-- what is told and what is left are these
told_is : (s : Setup) (limit n : ℕ) (h : Story) → (b : Bool)
    → nat_lt (done_at s limit (admission s limit h) h) limit ≡ b
    → (told s limit (suc n) h).events
    ≡ told_if b (event_at s limit (admission s limit h) h)
    (told s limit n (continued s limit (admission s limit h) h)).events
unfolding told
told_is s limit n h true e = rw e refl
told_is s limit n h false e = rw e refl

-- the story goes on with the rest where the item is done before limit, and else it is left as it is
pub left_is : (s : Setup) (limit n : ℕ) (h : Story) → (b : Bool)
    → nat_lt (done_at s limit (admission s limit h) h) limit ≡ b
    → (told s limit (suc n) h).story ≡ story_if b (told s limit n (continued s limit (admission s limit h) h)).story h
unfolding told
left_is s limit n h true e = rw e refl
left_is s limit n h false e = rw e refl

-- the program counter of the first event, or the one that is left where there is none
abbrev first_pc : List Event → ℕ → ℕ
first_pc events pc = pc_after (views events) pc

-- one item in front: an event has the story's program counter, and a dummy leaves it
pc_by : (s : Setup) (f : HasViews s) (limit n t : ℕ) (h : Story) (o : Option Choice) (rest : List Event) (pc : ℕ)
    → first_pc rest pc ≡ (ended_by s h o (item_by s h o) (done_at s limit t h) (taken s t h)).state.pc
    → first_pc (with_event (event_by s h o (done_at s limit t h)) rest) pc ≡ h.state.pc
unfolding taken
pc_by s f limit n t h (Some choice) rest pc more =
    ap (λ (v : View). v.pc) (f.same h choice (done_at s limit t h)) ∙ f.pc h choice
pc_by s f limit n t h None rest pc more = more

-- one item more in front, whether it is done before limit or not
pc_step : (s : Setup) (f : HasViews s) (limit n : ℕ) (h : Story) (b : Bool)
    → nat_lt (done_at s limit (admission s limit h) h) limit ≡ b
    → first_pc (told s limit n (continued s limit (admission s limit h) h)).events
    (told s limit n (continued s limit (admission s limit h) h)).story.state.pc
    ≡ (continued s limit (admission s limit h) h).state.pc
    → first_pc (told s limit (suc n) h).events (told s limit (suc n) h).story.state.pc ≡ h.state.pc
unfolding continued item_at event_at
pc_step s f limit n h true e more =
    let t : ℕ = admission s limit h in
    let rest = told s limit n (continued s limit t h) in
    ap₂ (λ es pc. first_pc es pc) (told_is s limit n h true e)
    (ap (λ (y : Story). y.state.pc) (left_is s limit n h true e))
    ∙ pc_by s f limit n t h (choice_at s t h) rest.events rest.story.state.pc more
pc_step s f limit n h false e more =
    ap₂ (λ es pc. first_pc es pc) (told_is s limit n h false e)
    (ap (λ (y : Story). y.state.pc) (left_is s limit n h false e))

-- so the first program counter of what is told is the story's
pub pc_is : (s : Setup) (f : HasViews s) (limit n : ℕ) (h : Story)
    → first_pc (told s limit n h).events (told s limit n h).story.state.pc ≡ h.state.pc
unfolding told
pc_is s f limit zero h = refl
pc_is s f limit (suc n) h = pc_step s f limit n h (nat_lt (done_at s limit (admission s limit h) h) limit) refl
    (pc_is s f limit n (continued s limit (admission s limit h) h))

-- ---- the admission

-- a search doesn't end before it begins, so an item is done after its admission
pub first_after : (n : ℕ) (p : ℕ → Bool) (c : ℕ) → c ≤ first_from n p c
unfolding first_from
first_after zero p c = omega arith
first_after (suc n) p c = elim (p c) as (λ b. c ≤ (if b then c else first_from n p (c + 1)))
    [ true ↦ omega arith | false ↦ omega (arith, first_after n p (c + 1)) ]

-- no item is done before its enter, whatever its portions wait for
pub done_after_by : (waits : List Wait) (portions : Portions) (n e stop : ℕ) → e ≤ stop
    → e ≤ done_by waits portions n e stop
unfolding done_by answer_time grant_time
done_after_by waits NoPortion n e stop h = h
done_after_by waits One n e stop h = omega arith
done_after_by waits OneBad n e stop h = omega arith
done_after_by waits Two n e stop h = omega arith
done_after_by waits TwoBad n e stop h = omega arith

-- an item is done after its admission
pub done_after : (k : Settings) (limit t : ℕ) (i : Item) (x : Times) → t < done_of k limit t i x
unfolding done_of
done_after k limit t i x =
    omega (
      arith,
      done_after_by k.plan.dwaits i.portions x.made (t + 1) (stop_of k limit i x.ctl (t + 1))
          (first_after (limit - (t + 1)) (may_end k i x.ctl (t + 1)) (t + 1)),
    )

-- where a dummy is due, nothing waits
due_ready : (o : Option ℕ) (w : Bool) → is_ready (kind_by o true) w ≡ true
due_ready None w = refl
due_ready (Some n) w = refl

-- only a due dummy is admitted as one
due_of : (o : Option ℕ) (due : Bool) → kind_by o due ≡ ADummy → due ≡ true
due_of None true e = refl
due_of None false e = cc
due_of (Some n) due e = cc

-- what is ready without its words is ready with them
ready_more : (kind : Kind) (w : Bool) → is_ready kind false ≡ true → is_ready kind w ≡ true
ready_more (AnInterrupt n) w e = refl
ready_more ADummy w e = refl
ready_more AnInstruction w e = cc

-- so a due dummy waits for nothing
always_ready : (k : Settings) (x : Times) (u : ℕ) (w : Bool) → is_due_in x.ctl x.dummies ≡ true
    → is_ready (kind_at k x u) w ≡ true
unfolding kind_at
always_ready k x u w e = subst (λ d. is_ready (kind_by (pending_in (values_of x.ctl) (lines_in k u)) d) w ≡ true)
    (sym e) (due_ready (pending_in (values_of x.ctl) (lines_in k u)) w)

-- what is admitted tells whether a dummy is due, and is ready as its kind is
is_due_at : (k : Settings) (x : Times) (t : ℕ) → kind_at k x t ≡ ADummy → is_due_in x.ctl x.dummies ≡ true
unfolding kind_at
is_due_at k x t e = due_of (pending_in (values_of x.ctl) (lines_in k t)) (is_due_in x.ctl x.dummies) e

-- an item is ready where its kind is one that is ready
ready_as : (kind k2 : Kind) (w : Bool) → kind ≡ k2 → is_ready k2 w ≡ true → is_ready kind w ≡ true
ready_as kind k2 w e r = subst (λ v. is_ready v w ≡ true) (sym e) r

module _ (s : Setup) (f : HasViews s) (limit : ℕ) (h : Story) where
  -- by what is admitted: a dummy, an interrupt, which waits for no words, and an instruction, which waits for its own
  dummy_admission : (v : View) → kind_of s (admission s limit h) h ≡ ADummy
      → admission_for (settings_of s) limit h.done h.times v ≡ admission s limit h
  unfolding admission admission_for
  dummy_admission v e =
      let k = settings_of s in
      first_same (limit - h.done) (λ u. is_ready (kind_at k h.times u) (words_there s h u))
      (λ u. is_ready (kind_at k h.times u) (words_for k h.times v u)) h.done
      (λ u _. always_ready k h.times u (words_there s h u) (is_due_at k h.times (admission s limit h) e))
      (always_ready k h.times (admission s limit h) (words_for k h.times v (admission s limit h))
      (is_due_at k h.times (admission s limit h) e))

  -- the view of an interrupt has no words that are there, since it waits for none
  no_words : (number u : ℕ) → words_for (settings_of s) h.times (view_with s h (Interrupt number)) u ≡ false
  unfolding words_for
  no_words number u = rw (f.interrupt h number) refl

  interrupt_admission : (number : ℕ) → kind_of s (admission s limit h) h ≡ AnInterrupt number
      → admission_for (settings_of s) limit h.done h.times (view_with s h (Interrupt number)) ≡ admission s limit h
  unfolding admission admission_for
  interrupt_admission number e =
      let k = settings_of s in
      let v = view_with s h (Interrupt number) in
      first_same (limit - h.done) (λ u. is_ready (kind_at k h.times u) (words_there s h u))
      (λ u. is_ready (kind_at k h.times u) (words_for k h.times v u)) h.done
      (λ u r. ready_more (kind_at k h.times u) (words_there s h u)
      (subst (λ w. is_ready (kind_at k h.times u) w ≡ true) (no_words number u) r))
      (ready_as (kind_at k h.times (admission s limit h)) (AnInterrupt number)
      (words_for k h.times v (admission s limit h)) e refl)

  -- a real instruction's view waits for just the words that the history waits for
  same_words : (u : ℕ) → words_for (settings_of s) h.times (view_with s h (brought_parcels s h)) u ≡ words_there s h u
  unfolding words_for words_there
  same_words u = rw (f.real h) refl

  instruction_admission : done_at s limit (admission s limit h) h < limit
      → admission_for (settings_of s) limit h.done h.times (view_with s h (brought_parcels s h)) ≡ admission s limit h
  unfolding admission admission_for
  instruction_admission less =
      let k = settings_of s in
      let v = view_with s h (brought_parcels s h) in
      let p : ℕ → Bool = λ u. is_ready (kind_at k h.times u) (words_there s h u) in
      let low : h.done ≤ admission s limit h = first_after (limit - h.done) p h.done in
      let found : p (admission s limit h) ≡ true =
      first_found (limit - h.done) p h.done
      (omega (arith, low, less, done_after k limit (admission s limit h) (item_at s (admission s limit h) h) h.times)) in
      first_same (limit - h.done) p (λ u. is_ready (kind_at k h.times u) (words_for k h.times v u)) h.done
      (λ u r. subst (λ w. is_ready (kind_at k h.times u) w ≡ true) (same_words u) r)
      (subst (λ w. is_ready (kind_at k h.times (admission s limit h)) w ≡ true)
      (sym (same_words (admission s limit h))) found)

-- ---- an item more, over variables

module _ (k : Settings) (limit n : ℕ) (v : View) (vs : List View) (pc : ℕ) where
  -- the cycles from an item on, by its admission and its done
  cycles_by : (done t : ℕ) (x : Times) → admission_for k limit done x v ≡ t
      → nat_lt (done_for k limit t x v) limit ≡ true
      → cycles_from k limit (suc n) done x (v ∷ vs) pc
      ≡ cycle_by (is_dummy (kind_at k x t)) (done_for k limit t x v)
      (cycles_from k limit n (done_for k limit t x v) (times_for k limit t x v (pc_after vs pc))
      (views_by (is_dummy (kind_at k x t)) v vs) pc)
  unfolding cycles_from
  cycles_by done t x e less = rw e (rw less refl)

  -- equal tests, cycles and times pick the same
  pick : (b c : Bool) (d e : ℕ) (y z : Times) → b ≡ c → d ≡ e → y ≡ z
      → cycle_by b d (cycles_from k limit n d y (views_by b v vs) pc)
      ≡ cycle_by c e (cycles_from k limit n e z (views_by c v vs) pc)
  pick b c d e y z p q r = cc

  -- so one item more is one step of the list of cycles
  pub more : (done t d : ℕ) (x y : Times) (b : Bool) → admission_for k limit done x v ≡ t
      → is_dummy (kind_at k x t) ≡ b → done_for k limit t x v ≡ d → times_for k limit t x v (pc_after vs pc) ≡ y
      → nat_lt d limit ≡ true
      → cycles_from k limit (suc n) done x (v ∷ vs) pc ≡ cycle_by b d (cycles_from k limit n d y (views_by b v vs) pc)
  more done t d x y b e kind same times less =
      cycles_by done t x e (ap (λ u. nat_lt u limit) same ∙ less)
      ∙ pick (is_dummy (kind_at k x t)) b (done_for k limit t x v) d (times_for k limit t x v (pc_after vs pc)) y kind
      same times

-- ---- the item and the times of a story are those of its view

module _ (s : Setup) (h : Story) (t : ℕ) where
  -- a dummy's item, and an event's, by what is admitted
  dummy_by : (v : View) (kind : Kind) → kind ≡ ADummy
      → item_by_view (settings_of s) h.times v (is_dummy kind) ≡ item_by s h (choice_by s h kind)
  dummy_by v kind e =
      subst (λ x. item_by_view (settings_of s) h.times v (is_dummy x) ≡ item_by s h (choice_by s h x)) (sym e) refl

  -- where a dummy is admitted its item is the history's, whatever the view of the next event
  dummy_item_is : (v : View) → kind_of s t h ≡ ADummy → item_for (settings_of s) t h.times v ≡ item_at s t h
  unfolding item_for item_at
  dummy_item_is v e = dummy_by v (kind_of s t h) e

  -- where no dummy is admitted the item is that of the view of the choice
  event_by_choice : (choice : Choice) (kind : Kind) → is_dummy kind ≡ false → choice_by s h kind ≡ Some choice
      → item_by_view (settings_of s) h.times (view_with s h choice) (is_dummy kind) ≡ item_by s h (choice_by s h kind)
  event_by_choice choice kind e o =
      ap (λ b. item_by_view (settings_of s) h.times (view_with s h choice) b) e ∙ sym (ap (λ z. item_by s h z) o)

  -- so an event's item by its view is the one that the history admits
  event_item_is : (choice : Choice) → is_dummy (kind_of s t h) ≡ false → choice_at s t h ≡ Some choice
      → item_for (settings_of s) t h.times (view_with s h choice) ≡ item_at s t h
  unfolding item_for item_at
  event_item_is choice e o = event_by_choice choice (kind_of s t h) e o

  -- the times after it
  taken_times : (taken s t h).times ≡ admitted (kind_of s t h) t (item_at s t h) h.times
  unfolding taken
  taken_times = refl

  -- a dummy leaves them, an event has its own, and the done cycle is that of the item
  ended_dummy : (o : Option Choice) (i : Item) (d : ℕ) (y : Story) → o ≡ None → (ended_by s h o i d y).times ≡ y.times
  ended_dummy o i d y e = subst (λ z. (ended_by s h z i d y).times ≡ y.times) (sym e) refl

  -- an event leaves the times that its view, its item and its program counter give
  ended_event : (o : Option Choice) (choice : Choice) (i : Item) (d : ℕ) (y : Story) → o ≡ Some choice
      → (ended_by s h o i d y).times ≡ after_event (settings_of s) d (view_with s h choice) i
      (ended_by s h o i d y).state.pc y.times
  ended_event o choice i d y e =
      subst (λ z. (ended_by s h z i d y).times
      ≡ after_event (settings_of s) d (view_with s h choice) i (ended_by s h z i d y).state.pc y.times) (sym e) refl

  -- the done cycle is set by an event and by a dummy alike
  ended_done : (o : Option Choice) (i : Item) (d : ℕ) (y : Story) → (ended_by s h o i d y).done ≡ d
  ended_done None i d y = refl
  ended_done (Some choice) i d y = refl

  -- equal parts make equal times
  times_by_is : (k : Settings) (b c : Bool) (d e : ℕ) (v : View) (i j : Item) (pc qc : ℕ) (x y : Times) → b ≡ c → d ≡ e
      → i ≡ j → pc ≡ qc → x ≡ y → times_by b k d v i pc x ≡ times_by c k e v j qc y
  times_by_is k b c d e v i j pc qc x y p q r z w = cc

  -- so the times after the item are those by its view, for a dummy and for an event
  admitted_as : (v : View) → item_for (settings_of s) t h.times v ≡ item_at s t h
      → admitted (kind_of s t h) t (item_for (settings_of s) t h.times v) h.times ≡ (taken s t h).times
  admitted_as v e = ap (λ i. admitted (kind_of s t h) t i h.times) e ∙ sym taken_times

  -- the timeline's times after the item are the story's with it, ended at its done cycle
  times_for_is : (limit : ℕ) (v : View) (pc qc : ℕ) (b : Bool) → is_dummy (kind_of s t h) ≡ b
      → item_for (settings_of s) t h.times v ≡ item_at s t h → pc ≡ qc
      → times_for (settings_of s) limit t h.times v pc
      ≡ times_by b (settings_of s) (done_at s limit t h) v (item_at s t h) qc (taken s t h).times
  unfolding times_for
  times_for_is limit v pc qc b e same at =
      times_by_is (settings_of s) (is_dummy (kind_of s t h)) b (done_for (settings_of s) limit t h.times v)
      (done_at s limit t h) v (item_for (settings_of s) t h.times v) (item_at s t h) pc qc
      (admitted (kind_of s t h) t (item_for (settings_of s) t h.times v) h.times) (taken s t h).times e
      (ap (λ i. done_of (settings_of s) limit t i h.times) same) same at (admitted_as v same)

  -- the story goes on from the done cycle of the item
  continued_done : (limit : ℕ) → (continued s limit t h).done ≡ done_at s limit t h
  unfolding continued
  continued_done limit = ended_done (choice_at s t h) (item_at s t h) (done_at s limit t h) (taken s t h)

  -- after a dummy the times are those with it, as it was admitted
  continued_dummy : (limit : ℕ) → choice_at s t h ≡ None → (continued s limit t h).times ≡ (taken s t h).times
  unfolding continued
  continued_dummy limit e = ended_dummy (choice_at s t h) (item_at s t h) (done_at s limit t h) (taken s t h) e

  -- after an event they are what its view makes of the times with its item
  continued_event : (limit : ℕ) (choice : Choice) → choice_at s t h ≡ Some choice
      → (continued s limit t h).times ≡ after_event (settings_of s) (done_at s limit t h) (view_with s h choice)
      (item_at s t h) (continued s limit t h).state.pc (taken s t h).times
  unfolding continued
  continued_event limit choice e =
      ended_event (choice_at s t h) choice (item_at s t h) (done_at s limit t h) (taken s t h) e

-- ---- the law

module _ (s : Setup) (f : HasViews s) (limit n : ℕ) (h : Story) where
  -- the cycles of events from this story on are those of their views, and those of the rest after the next item
  abbrev Goes : List Event → ℕ → Type 0
  Goes events pc = map cycle_of events ≡ cycles_from (settings_of s) limit (suc n) h.done h.times (views events) pc

  abbrev Rest : ℕ → List Event → ℕ → Type 0
  Rest t rest pc = map cycle_of rest
      ≡ cycles_from (settings_of s) limit n (continued s limit t h).done (continued s limit t h).times (views rest) pc

  -- what is told from the item on, by its done: a step of the list of cycles for a dummy or an event
  at_done : (t : ℕ) (rest : List Event) (pc : ℕ) → Rest t rest pc
      → map cycle_of rest ≡ cycles_from (settings_of s) limit n (done_at s limit t h) (continued s limit t h).times
      (views rest) pc
  at_done t rest pc r = subst (λ d. map cycle_of rest
      ≡ cycles_from (settings_of s) limit n d (continued s limit t h).times (views rest) pc)
      (continued_done s h t limit) r

  -- the cycle of an event stands before those of the rest, by its view in front of theirs
  event_goes : (t : ℕ) (choice : Choice) (rest : List Event) (pc : ℕ) → choice_at s t h ≡ Some choice
      → is_dummy (kind_of s t h) ≡ false
      → admission_for (settings_of s) limit h.done h.times (view_with s h choice) ≡ t
      → nat_lt (done_at s limit t h) limit ≡ true
      → first_pc rest pc ≡ (continued s limit t h).state.pc → Rest t rest pc
      → done_at s limit t h ∷ map cycle_of rest
      ≡ cycles_from (settings_of s) limit (suc n) h.done h.times (view_with s h choice ∷ views rest) pc
  event_goes t choice rest pc cho real adm less pcs r =
      let k = settings_of s in
      let v : View = view_with s h choice in
      let d : ℕ = done_at s limit t h in
      let same = event_item_is s h t choice real cho in
      ap (λ cs. d ∷ cs) (at_done t rest pc r)
      ∙ sym (more k limit n v (views rest) pc h.done t d h.times (continued s limit t h).times false adm real
      (ap (λ i. done_of k limit t i h.times) same)
      (times_for_is s h t limit v (first_pc rest pc) (continued s limit t h).state.pc false real same pcs
      ∙ sym (continued_event s h t limit choice cho)) less)

  -- a dummy adds no cycle, and the view of the next event stays in front
  dummy_goes : (t : ℕ) (e : Event) (rest : List Event) (pc : ℕ) → choice_at s t h ≡ None → kind_of s t h ≡ ADummy
      → admission_for (settings_of s) limit h.done h.times (view_of e) ≡ t → nat_lt (done_at s limit t h) limit ≡ true
      → Rest t (e ∷ rest) pc → Goes (e ∷ rest) pc
  dummy_goes t e rest pc cho kind adm less r =
      let k = settings_of s in
      let v : View = view_of e in
      let d : ℕ = done_at s limit t h in
      let b : is_dummy (kind_of s t h) ≡ true = ap is_dummy kind in
      let same = dummy_item_is s h t v kind in
      at_done t (e ∷ rest) pc r
      ∙ sym (more k limit n v (views rest) pc h.done t d h.times (continued s limit t h).times true adm b
      (ap (λ i. done_of k limit t i h.times) same)
      (times_for_is s h t limit v (first_pc rest pc) (first_pc rest pc) true b same refl
      ∙ sym (continued_dummy s h t limit cho)) less)

  -- no events have no cycles
  nothing_goes : (pc : ℕ) → Goes [] pc
  unfolding cycles_from
  nothing_goes pc = refl

  -- so it is with the rest behind it, by what is admitted
  dummy_all : (t : ℕ) (rest : List Event) (pc : ℕ) → choice_at s t h ≡ None → kind_of s t h ≡ ADummy
      → ((v : View) → admission_for (settings_of s) limit h.done h.times v ≡ t)
      → nat_lt (done_at s limit t h) limit ≡ true → Rest t rest pc → Goes rest pc
  dummy_all t [] pc cho kind adm less r = nothing_goes pc
  dummy_all t (e ∷ rest) pc cho kind adm less r = dummy_goes t e rest pc cho kind (adm (view_of e)) less r

  -- an event and the rest behind it have the cycles of their views
  event_all : (t : ℕ) (choice : Choice) (rest : List Event) (pc : ℕ) → choice_at s t h ≡ Some choice
      → is_dummy (kind_of s t h) ≡ false
      → admission_for (settings_of s) limit h.done h.times (view_with s h choice) ≡ t
      → nat_lt (done_at s limit t h) limit ≡ true
      → first_pc rest pc ≡ (continued s limit t h).state.pc → Rest t rest pc
      → Goes ((step_with (lines_in (settings_of s)) h.state choice (done_at s limit t h)).event ∷ rest) pc
  event_all t choice rest pc cho real adm less pcs r =
      let d : ℕ = done_at s limit t h in
      let k = settings_of s in
      ap (λ c. c ∷ map cycle_of rest) (f.cycle h choice d) ∙ event_goes t choice rest pc cho real adm less pcs r
      ∙ ap (λ (v : View). cycles_from k limit (suc n) h.done h.times (v ∷ views rest) pc) (sym (f.same h choice d))

  -- the event of an item is the one of its choice
  event_is : (t : ℕ) (o : Option Choice) → choice_at s t h ≡ o
      → event_at s limit t h ≡ event_by s h o (done_at s limit t h)
  unfolding event_at
  event_is t o e = ap (λ z. event_by s h z (done_at s limit t h)) e

  -- so it is for an interrupt, a dummy and a real instruction in front of the rest
  by_kind : (rest : List Event) (pc : ℕ) (kind : Kind) → kind_of s (admission s limit h) h ≡ kind
      → nat_lt (done_at s limit (admission s limit h) h) limit ≡ true
      → first_pc rest pc ≡ (continued s limit (admission s limit h) h).state.pc → Rest (admission s limit h) rest pc
      → Goes (with_event (event_at s limit (admission s limit h) h) rest) pc
  by_kind rest pc (AnInterrupt number) e less pcs r =
      let t : ℕ = admission s limit h in
      let cho : choice_at s t h ≡ Some (Interrupt number) = ap (choice_by s h) e in
      subst (λ z. Goes (with_event z rest) pc) (sym (event_is t (Some (Interrupt number)) cho))
      (event_all t (Interrupt number) rest pc cho (ap is_dummy e) (interrupt_admission s f limit h number e) less pcs
      r)
  by_kind rest pc ADummy e less pcs r =
      let t : ℕ = admission s limit h in
      let cho : choice_at s t h ≡ None = ap (choice_by s h) e in
      subst (λ z. Goes (with_event z rest) pc) (sym (event_is t None cho))
      (dummy_all t rest pc cho e (λ v. dummy_admission s f limit h v e) less r)
  by_kind rest pc AnInstruction e less pcs r =
      let t : ℕ = admission s limit h in
      let cho : choice_at s t h ≡ Some (brought_parcels s h) = ap (choice_by s h) e in
      subst (λ z. Goes (with_event z rest) pc) (sym (event_is t (Some (brought_parcels s h)) cho))
      (event_all t (brought_parcels s h) rest pc cho (ap is_dummy e)
      (instruction_admission s f limit h (ltb-true (done_at s limit t h) limit less)) less pcs r)

  -- and so whether the item is done below the limit or not
  timed_step : (b : Bool) → nat_lt (done_at s limit (admission s limit h) h) limit ≡ b
      → Rest (admission s limit h) (told s limit n (continued s limit (admission s limit h) h)).events
      (told s limit n (continued s limit (admission s limit h) h)).story.state.pc
      → Goes (told s limit (suc n) h).events (told s limit (suc n) h).story.state.pc
  timed_step true e r =
      let rest = told s limit n (continued s limit (admission s limit h) h) in
      subst (λ es. Goes es (told s limit (suc n) h).story.state.pc) (sym (told_is s limit n h true e))
      (subst (λ (y : Story). Goes (with_event (event_at s limit (admission s limit h) h) rest.events) y.state.pc)
      (sym (left_is s limit n h true e))
      (by_kind rest.events rest.story.state.pc (kind_of s (admission s limit h) h) refl e
      (pc_is s f limit n (continued s limit (admission s limit h) h)) r))
  timed_step false e r = subst (λ es. Goes es (told s limit (suc n) h).story.state.pc)
      (sym (told_is s limit n h false e)) (nothing_goes (told s limit (suc n) h).story.state.pc)

-- the cycles of what is told from a story on are those of its views
pub timed : (s : Setup) (f : HasViews s) (limit n : ℕ) (h : Story)
    → map cycle_of (told s limit n h).events
    ≡ cycles_from (settings_of s) limit n h.done h.times (views (told s limit n h).events)
    (told s limit n h).story.state.pc
unfolding told cycles_from
timed s f limit zero h = refl
timed s f limit (suc n) h = timed_step s f limit n h (nat_lt (done_at s limit (admission s limit h) h) limit) refl
    (timed s f limit n (continued s limit (admission s limit h) h))
