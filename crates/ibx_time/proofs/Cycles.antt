-- The cycles of every history are those of its views, and equal views have equal cycles.
use Rattle.std.proofs.Common.{◌≡◌, ℕ, zero, suc, ◌+◌, ◌-◌, ◌<◌, ◌≤◌, Bool, true, false, List, [], ◌∷◌, map, length}
use Rattle.std.proofs.Common.{refl, sym, ap, ◌∙◌, subst, arith, nat_lt, if◌then◌else◌}
use Rattle.std.specs.Prelude.{take}
use Rattle.std.proofs.lemmas.Bool.{ltb-true}
use Rattle.std.proofs.lemmas.List.{length-map}
use Rattle.ibx_isa.specs.declared.event.Event.{Event}
use Rattle.ibx_isa.specs.declared.event.View.{View}
use Rattle.ibx_isa.specs.Views.{view_of}
use Rattle.ibx_arch.specs.Step.{reset_state}
use Rattle.ibx_time.specs.Search.{first_from}
use Rattle.ibx_time.specs.Settings.{Settings, Setup, settings_of}
use Rattle.ibx_time.specs.Items.{Item, Portions, NoPortion, One, OneBad, Two, TwoBad}
use Rattle.ibx_time.specs.Times.{Times, kind_at, is_ready, admitted, done_of, done_by, stop_of, may_end, first_times}
use Rattle.ibx_time.specs.Timeline.{words_for, admission_for, is_dummy, item_for, done_for, pc_after, views_by}
use Rattle.ibx_time.specs.Timeline.{times_by, times_for, cycle_by, cycles_from}
use Rattle.ibx_time.specs.Cycles.{cycle_of, IsTimed, EqualViewsEqualCycles}
use Rattle.ibx_time.specs.History.{opening, told_below, history}
use Rattle.ibx_time.proofs.SameViews.{step_view}
use Rattle.ibx_time.proofs.Views.{event_cycle, view_pc, view_interrupt, view_real}
use Rattle.ibx_time.proofs.Timed.{HasViews, timed, pc_is, first_after, done_after, more}

-- the views say what the times need, so the cycles of a history are those of its views
pub has_views : (s : Setup) → HasViews s
has_views s = record {
  same = λ h choice d. step_view (settings_of s) h.state choice d h.state.stands;
  cycle = λ h choice d. event_cycle s h choice d;
  pc = λ h choice. view_pc s h choice;
  interrupt = λ h number. view_interrupt s h number;
  real = λ h. view_real s h;
}

-- the timeline of a history's views gives the cycles of its events
pub is_timed : (s : Setup) → IsTimed s
is_timed s n = timed s (has_views s) n n (opening s)

-- ---- a limit changes no cycle below it

-- two searches that find something below their limits find the same
agree_by : (n m c : ℕ) (p : ℕ → Bool) (b : Bool)
    → (first_from n p (c + 1) < c + 1 + n → first_from m p (c + 1) < c + 1 + m
    → first_from n p (c + 1) ≡ first_from m p (c + 1)) → (if b then c else first_from n p (c + 1)) < c + suc n
    → (if b then c else first_from m p (c + 1)) < c + suc m
    → (if b then c else first_from n p (c + 1)) ≡ (if b then c else first_from m p (c + 1))
agree_by n m c p true e f g = refl
agree_by n m c p false e f g = e (omega (arith, f)) (omega (arith, g))

-- a search that ends below two limits ends in the same cycle with both
first_agree : (n m c : ℕ) (p : ℕ → Bool) → first_from n p c < c + n → first_from m p c < c + m
    → first_from n p c ≡ first_from m p c
unfolding first_from
first_agree zero m c p f g = absurd (omega (arith, f))
first_agree (suc n) zero c p f g = absurd (omega (arith, g))
first_agree (suc n) (suc m) c p f g = agree_by n m c p (p c) (first_agree n m (c + 1) p) f g

-- the search up to a limit that it comes before
up_to : (a b e : ℕ) (p : ℕ → Bool) → first_from (a - e) p e < a → first_from (b - e) p e < b
    → first_from (a - e) p e ≡ first_from (b - e) p e
up_to a b e p f g =
    let la : e ≤ first_from (a - e) p e = first_after (a - e) p e in
    let lb : e ≤ first_from (b - e) p e = first_after (b - e) p e in
    first_agree (a - e) (b - e) e p (omega (arith, f, la)) (omega (arith, g, lb))

-- so it is for the end of an item, for its done cycle and for an admission
done_by_agree : (k : Settings) (portions : Portions) (n e sa sb a b : ℕ) → (sa < a → sb < b → sa ≡ sb)
    → done_by k.plan.dwaits portions n e sa < a → done_by k.plan.dwaits portions n e sb < b
    → done_by k.plan.dwaits portions n e sa ≡ done_by k.plan.dwaits portions n e sb
unfolding done_by
done_by_agree k NoPortion n e sa sb a b same f g = same f g
done_by_agree k One n e sa sb a b same f g = refl
done_by_agree k OneBad n e sa sb a b same f g = refl
done_by_agree k Two n e sa sb a b same f g = refl
done_by_agree k TwoBad n e sa sb a b same f g = refl

-- an item without a portion that ends below two limits ends in the same cycle with both
stops_agree : (k : Settings) (a b e : ℕ) (i : Item) (x : Times) → stop_of k a i x.ctl e < a → stop_of k b i x.ctl e < b
    → stop_of k a i x.ctl e ≡ stop_of k b i x.ctl e
stops_agree k a b e i x f g = up_to a b e (may_end k i x.ctl e) f g

-- an item that is done below two limits is done in the same cycle with both
dones_agree : (k : Settings) (a b t : ℕ) (i : Item) (x : Times) → done_of k a t i x < a → done_of k b t i x < b
    → done_of k a t i x ≡ done_of k b t i x
unfolding done_of
dones_agree k a b t i x f g = done_by_agree k i.portions x.made (t + 1) (stop_of k a i x.ctl (t + 1))
    (stop_of k b i x.ctl (t + 1)) a b (stops_agree k a b (t + 1) i x) f g

-- an item that is admitted below two limits is admitted in the same cycle with both
admissions_agree : (k : Settings) (a b done : ℕ) (x : Times) (v : View) → admission_for k a done x v < a
    → admission_for k b done x v < b → admission_for k a done x v ≡ admission_for k b done x v
unfolding admission_for
admissions_agree k a b done x v f g = up_to a b done (λ t. is_ready (kind_at k x t) (words_for k x v t)) f g

-- an item that is done before a limit is admitted before it
before_done : (k : Settings) (a t : ℕ) (x : Times) (v : View) → done_for k a t x v < a → t < a
before_done k a t x v f = omega (arith, f, done_after k a t (item_for k t x v) x)

-- ---- one item, with two limits

-- the times after an item that is admitted at t and done at d
abbrev times_after : Settings → ℕ → ℕ → Times → View → Bool → ℕ → Times
times_after k t d x v b pc = times_by b k d v (item_for k t x v) pc (admitted (kind_at k x t) t (item_for k t x v) x)

-- the cycles are those of the item, and those of the rest from the times after it
item_cycles : (k : Settings) (limit n t d done : ℕ) (x : Times) (v : View) (vs : List View) (pc : ℕ)
    → admission_for k limit done x v ≡ t → done_for k limit t x v ≡ d → nat_lt d limit ≡ true
    → cycles_from k limit (suc n) done x (v ∷ vs) pc
    ≡ cycle_by (is_dummy (kind_at k x t)) d
    (cycles_from k limit n d (times_after k t d x v (is_dummy (kind_at k x t)) (pc_after vs pc))
    (views_by (is_dummy (kind_at k x t)) v vs) pc)
unfolding times_for
item_cycles k limit n t d done x v vs pc at is less =
    more k limit n v vs pc done t d x (times_after k t d x v (is_dummy (kind_at k x t)) (pc_after vs pc))
    (is_dummy (kind_at k x t)) at refl is
    (ap (λ e. times_after k t e x v (is_dummy (kind_at k x t)) (pc_after vs pc)) is) less

-- each view has its cycle
abbrev IsFull : Settings → ℕ → ℕ → ℕ → Times → List View → ℕ → Type 0
IsFull k limit n done x vs pc = length (cycles_from k limit n done x vs pc) ≡ length vs

-- without views there are none, and none after an item that isn't done before limit
no_cycles : (k : Settings) (limit n done : ℕ) (x : Times) (pc : ℕ) → cycles_from k limit n done x [] pc ≡ []
unfolding cycles_from
no_cycles k limit zero done x pc = refl
no_cycles k limit (suc n) done x pc = refl

-- an item that isn't done before limit ends the list of cycles
stopped : (k : Settings) (limit n done : ℕ) (x : Times) (v : View) (vs : List View) (pc : ℕ)
    → nat_lt (done_for k limit (admission_for k limit done x v) x v) limit ≡ false
    → cycles_from k limit (suc n) done x (v ∷ vs) pc ≡ []
unfolding cycles_from
stopped k limit n done x v vs pc e = rw e refl

-- where there are as many cycles as views, each item is done before limit
none_full : (vs : List View) (v : View) (cycles : List ℕ) → cycles ≡ [] → length cycles ≡ length (v ∷ vs)
    → false ≡ true
none_full vs v cycles e full =
    let no_ : zero ≡ suc (length vs) = sym (ap (λ (l : List ℕ). length l) e) ∙ full in absurd (omega (arith, no_))

-- a test that failed would leave this view without a cycle, so it holds
goes_by : (k : Settings) (limit n done : ℕ) (x : Times) (v : View) (vs : List View) (pc : ℕ) (b : Bool)
    → nat_lt (done_for k limit (admission_for k limit done x v) x v) limit ≡ b
    → IsFull k limit (suc n) done x (v ∷ vs) pc → b ≡ true
goes_by k limit n done x v vs pc true e full = refl
goes_by k limit n done x v vs pc false e full =
    none_full vs v (cycles_from k limit (suc n) done x (v ∷ vs) pc) (stopped k limit n done x v vs pc e) full

-- where each view has its cycle, the next item is done before limit
goes_on : (k : Settings) (limit n done : ℕ) (x : Times) (v : View) (vs : List View) (pc : ℕ)
    → IsFull k limit (suc n) done x (v ∷ vs) pc
    → nat_lt (done_for k limit (admission_for k limit done x v) x v) limit ≡ true
goes_on k limit n done x v vs pc full =
    goes_by k limit n done x v vs pc (nat_lt (done_for k limit (admission_for k limit done x v) x v) limit) refl full

-- the cycles that are left are full too
rest_full : (b : Bool) (d : ℕ) (cycles : List ℕ) (v : View) (vs : List View)
    → length (cycle_by b d cycles) ≡ length (v ∷ vs) → length cycles ≡ length (views_by b v vs)
rest_full true d cycles v vs e = e
rest_full false d cycles v vs e = omega (arith, e)

-- ---- equal views, two limits and two last program counters

module _ (k : Settings) (a b na nb pa pb : ℕ) where
  abbrev Agree : Type 0
  Agree =
      (done j : ℕ) (x : Times) (va vb : List View) → take j va ≡ take j vb → IsFull k a na done x va pa
      → IsFull k b nb done x vb pb
      → take j (cycles_from k a na done x va pa) ≡ take j (cycles_from k b nb done x vb pb)

  -- after an event, whose target is the next view's
  event_rest : Agree → (t d j : ℕ) (x : Times) (v : View) (va vb : List View) → take j va ≡ take j vb
      → IsFull k a na d (times_after k t d x v false (pc_after va pa)) va pa
      → IsFull k b nb d (times_after k t d x v false (pc_after vb pb)) vb pb
      → take j (cycles_from k a na d (times_after k t d x v false (pc_after va pa)) va pa)
      ≡ take j (cycles_from k b nb d (times_after k t d x v false (pc_after vb pb)) vb pb)
  event_rest more_ t d zero x v va vb e f g = refl
  event_rest more_ t d (suc j) x v [] [] e f g =
      ap (take (suc j)) (no_cycles k a na d (times_after k t d x v false pa) pa)
      ∙ sym (ap (take (suc j)) (no_cycles k b nb d (times_after k t d x v false pb) pb))
  event_rest more_ t d (suc j) x v [] (w ∷ vb) e f g = absurd (cc)
  event_rest more_ t d (suc j) x v (u ∷ va) [] e f g = absurd (cc)
  event_rest more_ t d (suc j) x v (u ∷ va) (w ∷ vb) e f g =
      let same : u ≡ w = cc in
      let pcs : w.pc ≡ u.pc = sym (ap (λ (z : View). z.pc) same) in
      let g2 : IsFull k b nb d (times_after k t d x v false u.pc) (w ∷ vb) pb =
      subst (λ pc. IsFull k b nb d (times_after k t d x v false pc) (w ∷ vb) pb) pcs g in
      more_ d (suc j) (times_after k t d x v false u.pc) (u ∷ va) (w ∷ vb) e f g2
      ∙ ap (λ pc. take (suc j) (cycles_from k b nb d (times_after k t d x v false pc) (w ∷ vb) pb)) (sym pcs)

  -- so it is after either kind of item
  item_rest : Agree → (dummy : Bool) (t d j : ℕ) (x : Times) (v : View) (va vb : List View) → take j va ≡ take j vb
      → IsFull k a na d (times_after k t d x v dummy (pc_after va pa)) (views_by dummy v va) pa
      → IsFull k b nb d (times_after k t d x v dummy (pc_after vb pb)) (views_by dummy v vb) pb
      → take (suc j) (cycle_by dummy d
      (cycles_from k a na d (times_after k t d x v dummy (pc_after va pa)) (views_by dummy v va) pa))
      ≡ take (suc j) (cycle_by dummy d
      (cycles_from k b nb d (times_after k t d x v dummy (pc_after vb pb)) (views_by dummy v vb) pb))
  item_rest more_ true t d j x v va vb e f g =
      more_ d (suc j) (times_after k t d x v true 0) (v ∷ va) (v ∷ vb) (ap (λ l. v ∷ l) e) f g
  item_rest more_ false t d j x v va vb e f g = ap (λ l. d ∷ l) (event_rest more_ t d j x v va vb e f g)

  -- by where the item is admitted and done with both limits
  item_by_cycles : Agree → (t d done j : ℕ) (x : Times) (v : View) (va vb : List View) → take j va ≡ take j vb
      → cycles_from k a (suc na) done x (v ∷ va) pa
      ≡ cycle_by (is_dummy (kind_at k x t)) d
      (cycles_from k a na d (times_after k t d x v (is_dummy (kind_at k x t)) (pc_after va pa))
      (views_by (is_dummy (kind_at k x t)) v va) pa)
      → cycles_from k b (suc nb) done x (v ∷ vb) pb
      ≡ cycle_by (is_dummy (kind_at k x t)) d
      (cycles_from k b nb d (times_after k t d x v (is_dummy (kind_at k x t)) (pc_after vb pb))
      (views_by (is_dummy (kind_at k x t)) v vb) pb)
      → IsFull k a (suc na) done x (v ∷ va) pa → IsFull k b (suc nb) done x (v ∷ vb) pb
      → take (suc j) (cycles_from k a (suc na) done x (v ∷ va) pa)
      ≡ take (suc j) (cycles_from k b (suc nb) done x (v ∷ vb) pb)
  item_by_cycles more_ t d done j x v va vb e ca cb f g =
      let dummy : Bool = is_dummy (kind_at k x t) in
      let ra = cycles_from k a na d (times_after k t d x v dummy (pc_after va pa)) (views_by dummy v va) pa in
      let rb = cycles_from k b nb d (times_after k t d x v dummy (pc_after vb pb)) (views_by dummy v vb) pb in
      let fa = rest_full dummy d ra v va (subst (λ (l : List ℕ). length l ≡ length (v ∷ va)) ca f) in
      let fb = rest_full dummy d rb v vb (subst (λ (l : List ℕ). length l ≡ length (v ∷ vb)) cb g) in
      ap (take (suc j)) ca ∙ item_rest more_ dummy t d j x v va vb e fa fb ∙ sym (ap (take (suc j)) cb)

  -- so it is for every item
  item_agrees : Agree → (done j : ℕ) (x : Times) (v : View) (va vb : List View) → take j va ≡ take j vb
      → IsFull k a (suc na) done x (v ∷ va) pa → IsFull k b (suc nb) done x (v ∷ vb) pb
      → take (suc j) (cycles_from k a (suc na) done x (v ∷ va) pa)
      ≡ take (suc j) (cycles_from k b (suc nb) done x (v ∷ vb) pb)
  item_agrees more_ done j x v va vb e f g =
      let t : ℕ = admission_for k a done x v in
      let u : ℕ = admission_for k b done x v in
      let la = goes_on k a na done x v va pa f in
      let lb = goes_on k b nb done x v vb pb g in
      let ba : done_for k a t x v < a = ltb-true (done_for k a t x v) a la in
      let bb : done_for k b u x v < b = ltb-true (done_for k b u x v) b lb in
      let same : u ≡ t = sym (admissions_agree k a b done x v (before_done k a t x v ba) (before_done k b u x v bb)) in
      let bt : done_for k b t x v < b = subst (λ z. done_for k b z x v < b) same bb in
      let dones : done_for k b t x v ≡ done_for k a t x v = sym (dones_agree k a b t (item_for k t x v) x ba bt) in
      let lt : nat_lt (done_for k a t x v) b ≡ true =
      ap (λ z. nat_lt z b) (sym dones) ∙ ap (λ z. nat_lt (done_for k b z x v) b) (sym same) ∙ lb in
      item_by_cycles more_ t (done_for k a t x v) done j x v va vb e
      (item_cycles k a na t (done_for k a t x v) done x v va pa refl refl la)
      (item_cycles k b nb t (done_for k a t x v) done x v vb pb same dones lt) f g

-- no items leave no cycles, so there are no views
no_full : (k : Settings) (limit done : ℕ) (x : Times) (v : View) (vs : List View) (pc : ℕ)
    → IsFull k limit zero done x (v ∷ vs) pc → false ≡ true
unfolding cycles_from
no_full k limit done x v vs pc full = none_full vs v [] refl full

-- views with all their cycles below two limits have the same ones
views_agree : (k : Settings) (a b na nb pa pb : ℕ) → Agree k a b na nb pa pb
views_agree k a b na nb pa pb done zero x va vb e f g = refl
views_agree k a b na nb pa pb done (suc j) x [] [] e f g =
    ap (take (suc j)) (no_cycles k a na done x pa) ∙ sym (ap (take (suc j)) (no_cycles k b nb done x pb))
views_agree k a b na nb pa pb done (suc j) x [] (w ∷ vb) e f g = absurd (cc)
views_agree k a b na nb pa pb done (suc j) x (v ∷ va) [] e f g = absurd (cc)
views_agree k a b zero nb pa pb done (suc j) x (v ∷ va) (w ∷ vb) e f g =
    let no_ : false ≡ true = no_full k a done x v va pa f in absurd (cc)
views_agree k a b (suc na) zero pa pb done (suc j) x (v ∷ va) (w ∷ vb) e f g =
    let no_ : false ≡ true = no_full k b done x w vb pb g in absurd (cc)
views_agree k a b (suc na) (suc nb) pa pb done (suc j) x (v ∷ va) (w ∷ vb) e f g =
    let same : w ≡ v = cc in
    let tails : take j va ≡ take j vb = cc in
    let g2 : IsFull k b (suc nb) done x (v ∷ vb) pb = subst (λ z. IsFull k b (suc nb) done x (z ∷ vb) pb) same g in
    item_agrees k a b na nb pa pb (views_agree k a b na nb pa pb) done j x v va vb tails f g2
    ∙ ap (λ z. take (suc j) (cycles_from k b (suc nb) done x (z ∷ vb) pb)) (sym same)

-- ---- two histories

-- the views of events
abbrev views_in : List Event → List View
views_in events = map view_of events

-- events whose cycles are those of their views
abbrev AreTimed : Settings → ℕ → ℕ → List Event → ℕ → Type 0
AreTimed k entry n events pc = map cycle_of events ≡ cycles_from k n n 0 (first_times entry) (views_in events) pc

-- such events have a cycle each
timed_full : (k : Settings) (entry n : ℕ) (events : List Event) (pc : ℕ) → AreTimed k entry n events pc
    → IsFull k n n 0 (first_times entry) (views_in events) pc
timed_full k entry n events pc e =
    sym (ap (λ (l : List ℕ). length l) e) ∙ length-map events cycle_of ∙ sym (length-map events view_of)

-- two such lists from one entry, whose first j views agree, have the same first j cycles
same_entry : (k : Settings) (entry n m j : ℕ) (xs ys : List Event) (pa pb : ℕ) → AreTimed k entry n xs pa
    → AreTimed k entry m ys pb → take j (views_in xs) ≡ take j (views_in ys)
    → take j (map cycle_of xs) ≡ take j (map cycle_of ys)
same_entry k entry n m j xs ys pa pb ta tb e =
    ap (take j) ta
    ∙ views_agree k n m n m pa pb 0 j (first_times entry) (views_in xs) (views_in ys) e (timed_full k entry n xs pa ta)
    (timed_full k entry m ys pb tb)
    ∙ sym (ap (take j) tb)

-- the entry is the first program counter
same_events : (k : Settings) (ea eb n m j : ℕ) (xs ys : List Event) (pa pb : ℕ) → pc_after (views_in xs) pa ≡ ea
    → pc_after (views_in ys) pb ≡ eb → AreTimed k ea n xs pa → AreTimed k eb m ys pb
    → take j (views_in xs) ≡ take j (views_in ys) → take j (map cycle_of xs) ≡ take j (map cycle_of ys)
same_events k ea eb n m zero xs ys pa pb ia ib ta tb e = refl
same_events k ea eb n m (suc j) [] [] pa pb ia ib ta tb e = refl
same_events k ea eb n m (suc j) [] (w ∷ ys) pa pb ia ib ta tb e = absurd (cc)
same_events k ea eb n m (suc j) (v ∷ xs) [] pa pb ia ib ta tb e = absurd (cc)
same_events k ea eb n m (suc j) (v ∷ xs) (w ∷ ys) pa pb ia ib ta tb e =
    let same : view_of w ≡ view_of v = cc in
    let entries : eb ≡ ea = sym ib ∙ ap (λ (z : View). z.pc) same ∙ ia in
    same_entry k ea n m (suc j) (v ∷ xs) (w ∷ ys) pa pb ta (subst (λ z. AreTimed k z m (w ∷ ys) pb) entries tb) e

-- a history's first program counter is the image's entry
entry_is : (s : Setup) (n : ℕ) → pc_after (views_in (history s n)) (told_below s n).story.state.pc ≡ s.image.entry
unfolding reset_state
entry_is s n = pc_is s (has_views s) n n (opening s)

-- so histories with equal settings and equal first views have equal first cycles
pub equal_views : EqualViewsEqualCycles
equal_views a b same n m k e =
    same_events (settings_of b) a.image.entry b.image.entry n m k (history a n) (history b m)
    (told_below a n).story.state.pc (told_below b m).story.state.pc (entry_is a n) (entry_is b m)
    (subst (λ z. AreTimed z a.image.entry n (history a n) (told_below a n).story.state.pc) same (is_timed a n))
    (is_timed b m) e
