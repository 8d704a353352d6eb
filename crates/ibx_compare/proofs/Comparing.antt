-- Two stories told side by side: the first difference of their views, and the states that are left.
use Rattle.std.proofs.Common.{◌≡◌, ◌≢◌, ℕ, suc, ◌+◌, ◌≤◌, Bool, true, false, ◌&&◌, List, [], ◌∷◌, map, length, Option}
use Rattle.std.proofs.Common.{Some, None, refl, sym, ap, ap₂, subst, ◌∙◌, arith}
use Rattle.std.specs.Prelude.{IsSome, ◌==◌, if◌then◌else◌, take}
use Rattle.std.specs.List.{cons_option, slice_get}
use Rattle.std.specs.Option.{option_eq, option_map}
use Rattle.std.proofs.lemmas.Bool.{eq-eqb, eqb-true}
use Rattle.ibx_isa.specs.declared.event.Event.{Event}
use Rattle.ibx_isa.specs.declared.event.View.{View}
use Rattle.ibx_isa.specs.Views.{view_of}
use Rattle.ibx_core.specs.declared.state.State.{State}
use Rattle.ibx_system.specs.Core.{core_parts}
use Rattle.ibx_system.specs.System.{Whole}
use Rattle.ibx_system.specs.Runs.{run}
use Rattle.ibx_soc.specs.First.{IsAsNew}
use Rattle.ibx_compare.specs.declared.comparison.Twin.{Twin}
use Rattle.ibx_compare.specs.declared.comparison.Twin.TheVariants.{Same, Differ}
use Rattle.ibx_compare.specs.Drives.{drive_from}
use Rattle.ibx_compare.specs.Twins.{IsFirstDifference, Told, agree_operands, agree_views, cycles_to, first_difference}
use Rattle.ibx_compare.specs.Twins.{told, told_cycles, twin_of, views_of}
use Rattle.ibx_compare.proofs.Telling.{IsReached, TellsOn, tells}

-- ---- equal views

-- of two tests that are true both are
both : (x y : Bool) → (x && y) ≡ true → (x ≡ true) × (y ≡ true)
both true y h = (refl, h)
both false y h = absurd (let no : false ≡ true = h in cc)

-- and two that are true are true together
together : {x y : Bool} → x ≡ true → y ≡ true → (x && y) ≡ true
together {x} {y} h k = rw (h, k) refl

-- a value that may be there agrees with itself, where each value does
option_self : {A : Type 0} (agree : A → A → Bool) → ((x : A) → agree x x ≡ true) → (o : Option A) → option_eq agree o o
    ≡ true
option_self agree self None = refl
option_self agree self (Some x) = self x

-- and values that agree are equal, where each two are
option_same : {A : Type 0} (agree : A → A → Bool) → ((x y : A) → agree x y ≡ true → x ≡ y) → (a b : Option A) →
    option_eq agree a b ≡ true → a ≡ b
option_same agree same None None h = refl
option_same agree same None (Some y) h = absurd (let no : false ≡ true = h in cc)
option_same agree same (Some x) None h = absurd (let no : false ≡ true = h in cc)
option_same agree same (Some x) (Some y) h = ap Some (same x y h)

-- a number agrees with itself, and so do two operands
number_self : (x : ℕ) → (x == x) ≡ true
number_self x = eq-eqb x x refl

-- two operands agree with themselves, since each of both numbers does
operands_self : (x : ℕ × ℕ) → agree_operands x x ≡ true
operands_self x = together (number_self x.0) (number_self x.1)

-- operands that agree are equal
operands_same : (x y : ℕ × ℕ) → agree_operands x y ≡ true → x ≡ y
operands_same x y h =
    let h = both (x.0 == y.0) (x.1 == y.1) h in
    let first = eqb-true x.0 y.0 h.0 in
    let second = eqb-true x.1 y.1 h.1 in
    λ t. (first t, second t)

-- a view agrees with itself
view_self : (v : View) → agree_views v v ≡ true
view_self v =
    together (number_self v.kind) (together (number_self v.pc) (together (number_self v.word)
    (together (option_self (λ x y. x == y) number_self v.addr)
    (together (option_self (λ x y. x == y) number_self v.ctl)
    (together (option_self agree_operands operands_self v.ops) (together (number_self v.cause)
    (number_self v.tval)))))))

-- views that agree are equal
view_same : (a b : View) → agree_views a b ≡ true → a ≡ b
view_same a b h =
    let kinds = both _ _ h in
    let pcs = both _ _ kinds.1 in
    let words = both _ _ pcs.1 in
    let addrs = both _ _ words.1 in
    let ctls = both _ _ addrs.1 in
    let opses = both _ _ ctls.1 in
    let causes = both _ _ opses.1 in
    let kind = eqb-true a.kind b.kind kinds.0 in
    let pc = eqb-true a.pc b.pc pcs.0 in
    let word = eqb-true a.word b.word words.0 in
    let addr = option_same (λ x y. x == y) eqb-true a.addr b.addr addrs.0 in
    let ctl = option_same (λ x y. x == y) eqb-true a.ctl b.ctl ctls.0 in
    let ops = option_same agree_operands operands_same a.ops b.ops opses.0 in
    let cause = eqb-true a.cause b.cause causes.0 in
    let tval = eqb-true a.tval b.tval causes.1 in
    λ t. record {
      kind = kind t;
      pc = pc t;
      word = word t;
      addr = addr t;
      ctl = ctl t;
      ops = ops t;
      cause = cause t;
      tval = tval t;
    }

-- ---- what the first difference means

-- a difference in lists with equal first views, by the one in the rest
record MeansFrom (at : ℕ) (xs ys : List View) (k : ℕ) (x y : Option View) : Type 0 where
  pub past : ℕ
  pub index : k ≡ at + past
  pub before : take past xs ≡ take past ys
  pub here : slice_get xs past ≡ x
  pub there : slice_get ys past ≡ y
  pub apart : x ≢ y

-- what an answer means, where the lists begin at an index
Means : ℕ → List View → List View → Twin → Type 0
Means at xs ys (Same n) = (xs ≡ ys) × (at + length xs ≡ n)
Means at xs ys (Differ k x y) = MeansFrom at xs ys k x y

-- a view in front of both lists
means_more : (at : ℕ) (x y : View) (xs ys : List View) (t : Twin) → x ≡ y → Means (at + 1) xs ys t → Means at (x ∷ xs)
    (y ∷ ys) t
unfolding Means
means_more at x y xs ys (Same n) same h = (
  ap₂ (λ (v : View) (vs : List View). v ∷ vs) same h.0,
  (let count : at + 1 + length xs ≡ at + suc (length xs) =
      omega arith in sym count) ∙ h.1,
)
means_more at x y xs ys (Differ k v w) same h = record {
  past = suc h.past;
  index = omega (arith, h.index);
  before = ap₂ (λ (v : View) (vs : List View). v ∷ vs) same h.before;
  here = h.here;
  there = h.there;
  apart = h.apart;
}

-- where the first views agree or not
means_by : (at : ℕ) (x y : View) (xs ys : List View) (b : Bool) → agree_views x y ≡ b → Means (at + 1) xs ys
    (first_difference (at + 1) xs ys)
    → Means at (x ∷ xs) (y ∷ ys) (if b then first_difference (at + 1) xs ys else Differ at (Some x) (Some y))
unfolding Means
means_by at x y xs ys true agree rest = means_more at x y xs ys (first_difference (at + 1) xs ys) (view_same x y agree)
    rest
means_by at x y xs ys false agree rest = record {
  past = 0;
  index = omega arith;
  before = refl;
  here = refl;
  there = refl;
  apart = λ same. let views : x ≡ y = cc in let other = ap (agree_views x) views ∙ agree in let self = view_self x in
      cc;
}

-- this is so of all lists
means : (at : ℕ) (xs ys : List View) → Means at xs ys (first_difference at xs ys)
unfolding Means first_difference
means at [] [] = (refl, omega arith)
means at [] (y ∷ ys) = record {
  past = 0;
  index = omega arith;
  before = refl;
  here = refl;
  there = refl;
  apart = λ
      same. cc;
}
means at (x ∷ xs) [] = record {
  past = 0;
  index = omega arith;
  before = refl;
  here = refl;
  there = refl;
  apart = λ
      same. cc;
}
means at (x ∷ xs) (y ∷ ys) = means_by at x y xs ys (agree_views x y) refl (means (at + 1) xs ys)

-- from index 0 on
from_start : (xs ys : List View) (t : Twin) → Means 0 xs ys t → IsFirstDifference xs ys t
unfolding Means
from_start xs ys (Same n) h = (h.0, (let count : 0 + length xs ≡ length xs = omega arith in sym count) ∙ h.1)
from_start xs ys (Differ k x y) h =
    let index : h.past ≡ k = omega (arith, h.index) in
    subst (λ (n : ℕ). (take n xs ≡ take n ys) × (slice_get xs n ≡ x) × (slice_get ys n ≡ y) × (x ≢ y)) index
    (h.before, h.here, h.there, h.apart)

-- the answer means the first difference
pub is_first : (xs ys : List View) (t : Twin) → t ≡ first_difference 0 xs ys → IsFirstDifference xs ys t
is_first xs ys t e = subst (IsFirstDifference xs ys) (sym e) (from_start xs ys (first_difference 0 xs ys)
    (means 0 xs ys))

-- ---- the stories as far as they are told

-- So many events of a system's story are told, and its run has made the cycles up to there: the rest of its story is
-- that of the run from here.
pub record HasTold (cycles : ℕ) (start : Whole State) (events left : ℕ) (w : Whole State) : Type 0 where
  pub rest : (k : ℕ) → slice_get (drive_from cycles start).events (events + k) ≡ slice_get (drive_from left w).events k
  pub last : (drive_from cycles start).left ≡ (drive_from left w).left
  pub here : IsReached start w
  pub fits : w.place.cycle + left ≤ cycles
  pub room : events + left ≤ cycles

-- nothing is told
pub tells_nothing : (cycles : ℕ) (start : Whole State) → start.place.cycle ≡ 0 → HasTold cycles start 0 cycles start
unfolding run
tells_nothing cycles start new = record {
  rest = λ k. ap (slice_get (drive_from cycles start).events) (let count : 0 + k ≡ k = omega arith in count);
  last = refl;
  here = sym (ap (run core_parts start None) new);
  fits = omega (arith, new);
  room = omega arith;
}

-- an event more is told
pub tells_more : (cycles : ℕ) (start : Whole State) (events left : ℕ) (w : Whole State) (e : Event) (t : Told) → TellsOn
    left w t → t.event ≡ Some e
    → HasTold cycles start events left w → HasTold cycles start (events + 1) t.left t.next
tells_more cycles start events left w e t on is has = record {
  rest = λ k.
      ap (slice_get (drive_from cycles start).events) (let count : events + 1 + k ≡ events + suc k = omega arith in
      count)
      ∙ has.rest (suc k)
      ∙ ap (λ (es : List Event). slice_get es (suc k))
      (on.events ∙ ap (λ (o : Option Event). cons_option o (drive_from t.left t.next).events) is);
  last = has.last ∙ on.last;
  here = on.here start has.here;
  fits = omega (arith, has.fits, on.fits);
  room = omega (arith, has.room, on.fewer e is);
}

-- the next event of the story
pub next_of : (cycles : ℕ) (start : Whole State) (events left : ℕ) (w : Whole State) (o : Option Event) (t : Told) →
    TellsOn left w t → t.event ≡ o
    → HasTold cycles start events left w → slice_get (drive_from cycles start).events events ≡ o
unfolding drive_from
next_of cycles start events left w o t on is has =
    ap (slice_get (drive_from cycles start).events) (let count : events ≡ events + 0 = omega arith in count)
    ∙ has.rest 0
    ∙ ap (λ (es : List Event). slice_get es 0)
    (on.events ∙ ap (λ (o : Option Event). cons_option o (drive_from t.left t.next).events) is)
    ∙ first o is
  where
    first : (o : Option Event) → t.event ≡ o → slice_get (cons_option o (drive_from t.left t.next).events) 0 ≡ o
    first None is = ap (λ (n : ℕ). slice_get (drive_from n t.next).events 0) (on.spent is)
    first (Some e) is = refl

-- the cycles up to the next event, or to the end, are those that the run made
cycles_are : (cycles : ℕ) (start : Whole State) (events left : ℕ) (w : Whole State) (o : Option Event) (t : Told) →
    TellsOn left w t → t.event ≡ o
    → HasTold cycles start events left w → told_cycles cycles events start ≡ t.next.place.cycle
unfolding drive_from
cycles_are cycles start events left w o t on is has =
    ap (λ (o : Option Event). cycles_to o (drive_from cycles start)) (next_of cycles start events left w o t on is has)
    ∙ by_event o is
  where
    by_event : (o : Option Event) → t.event ≡ o → cycles_to o (drive_from cycles start) ≡ t.next.place.cycle
    by_event None is =
        ap (λ (v : Whole State). v.place.cycle) (has.last ∙ on.last ∙ ap (λ (n : ℕ). (drive_from n t.next).left)
        (on.spent is))
    by_event (Some e) is = sym (on.done e is)

-- so the system is left as told
pub left_as : (cycles : ℕ) (start : Whole State) (events left : ℕ) (w next : Whole State) → next ≡ (told left w).next
    → HasTold cycles start events left w → next ≡ run core_parts start None (told_cycles cycles events start)
left_as cycles start events left w next e has =
    let t = told left w in let on = tells left w in
    e ∙ on.here start has.here ∙ ap (run core_parts start None)
    (sym (cycles_are cycles start events left w t.event t on refl has))

-- also where nothing is left to be told
pub left_spent : (cycles : ℕ) (start : Whole State) (events left : ℕ) (w : Whole State) → left ≡ 0
    → HasTold cycles start events left w → w ≡ run core_parts start None (told_cycles cycles events start)
unfolding told
left_spent cycles start events left w none has =
    left_as cycles start events left w w (sym (ap (λ (n : ℕ). (told n w).next) none)) has

-- ---- both stories

-- So many events of both stories are told, with equal views: the answer is that of the rest.
pub record AreAlike (cycles : ℕ) (a b : Whole State) (events left_a left_b : ℕ) (x y : Whole State) : Type 0 where
  pub of_a : HasTold cycles a events left_a x
  pub of_b : HasTold cycles b events left_b y
  pub same : twin_of cycles a b ≡ first_difference events (views_of left_a x) (views_of left_b y)

-- before the first event
pub begin : (cycles : ℕ) (a b : Whole State) → a.place.cycle ≡ 0 → b.place.cycle ≡ 0 → AreAlike cycles a b 0 cycles
    cycles a b
begin cycles a b new other = record {
  of_a = tells_nothing cycles a new;
  of_b = tells_nothing cycles b other;
  same =
      refl;
}

-- the views of a run by its next event
pub views_by : (left : ℕ) (w : Whole State) (o : Option Event) → (told left w).event ≡ o
    → views_of left w ≡ cons_option (option_map view_of o) (views_of (told left w).left (told left w).next)
views_by left w o is =
    ap (map view_of) ((tells left w).events ∙ ap (λ (o : Option Event). cons_option o (drive_from (told left w).left
    (told left w).next).events) is) ∙ mapped o
  where
    mapped : (o : Option Event) → map view_of (cons_option o (drive_from (told left w).left (told left w).next).events)
        ≡ cons_option (option_map view_of o) (views_of (told left w).left (told left w).next)
    mapped None = refl
    mapped (Some e) = refl

-- where a run has no next event, nothing of its story is left
pub views_spent : (left : ℕ) (w : Whole State) → (told left w).event ≡ None → views_of (told left w).left
    (told left w).next ≡ []
unfolding drive_from
views_spent left w none = ap (λ (n : ℕ). views_of n (told left w).next) ((tells left w).spent none)

-- what is told of the next event of a run
pub record Shows (cycles : ℕ) (w : Whole State) (view : Option View) (less : ℕ) (after : Whole State) : Type 0 where
  pub shown : view ≡ option_map view_of (told cycles w).event
  pub left : less ≡ (told cycles w).left
  pub next : after ≡ (told cycles w).next

-- a run that shows a view has an event, and else it has none
no_view : (o : Option Event) → option_map view_of o ≡ None → o ≡ None
no_view None h = refl
no_view (Some e) h = cc

-- a view that is shown is the view of an event
an_event : (o : Option Event) (v : View) → option_map view_of o ≡ Some v → (e : Event) × (o ≡ Some e)
an_event None v h = cc
an_event (Some e) v h = (e, refl)

module _ {left less : ℕ} {w next : Whole State} where
  -- the views of the run begin with the one that is shown
  views_are : (shown : Option View) → Shows left w shown less next → views_of left w ≡ cons_option shown
      (views_of less next)
  views_are shown h =
      views_by left w (told left w).event refl
      ∙ (λ t. cons_option (sym h.shown t) (views_of (sym h.left t) (sym h.next t)))

  -- and there are no more where none is
  views_end : (shown : Option View) → Shows left w shown less next → shown ≡ None → views_of less next ≡ []
  views_end shown h none =
      (λ t. views_of (h.left t) (h.next t)) ∙ views_spent left w (no_view (told left w).event (sym h.shown ∙ none))

  -- an event more of the story is told
  told_more : (cycles : ℕ) (start : Whole State) (events : ℕ) (v : View) → Shows left w (Some v) less next → HasTold
      cycles start events left w
      → HasTold cycles start (events + 1) less next
  told_more cycles start events v h has =
      let some = an_event (told left w).event v (sym h.shown) in
      rw (h.left, h.next) (tells_more cycles start events left w some.0 (told left w) (tells left w) some.1 has)

  -- the state is that of the run up to the next event
  pub is_left : (cycles : ℕ) (start : Whole State) (events : ℕ) (shown : Option View) → Shows left w shown less next →
      HasTold cycles start events left w
      → next ≡ run core_parts start None (told_cycles cycles events start)
  is_left cycles start events shown h has = left_as cycles start events left w next h.next has

-- two views that aren't the same are the first difference
differ_by : (at : ℕ) (u v : Option View) (xs ys : List View) → (u ≡ None → xs ≡ []) → (v ≡ None → ys ≡ []) → u ≢ v
    → first_difference at (cons_option u xs) (cons_option v ys) ≡ Differ at u v
unfolding first_difference
differ_by at None None xs ys no_x no_y apart = absurd (apart refl)
differ_by at None (Some v) xs ys no_x no_y apart = ap (λ (l : List View). first_difference at l (v ∷ ys)) (no_x refl)
differ_by at (Some u) None xs ys no_x no_y apart = ap (λ (l : List View). first_difference at (u ∷ xs) l) (no_y refl)
differ_by at (Some u) (Some v) xs ys no_x no_y apart = by_test (agree_views u v) refl
  where
    by_test : (b : Bool) → agree_views u v ≡ b → (if b then first_difference (at + 1) xs ys else Differ at (Some u)
        (Some v)) ≡ Differ at (Some u) (Some v)
    by_test true agree = absurd (apart (ap Some (view_same u v agree)))
    by_test false agree = refl

-- no view on both sides ends the comparison
end_by : (at : ℕ) (xs ys : List View) → xs ≡ [] → ys ≡ [] → first_difference at xs ys ≡ Same at
unfolding first_difference
end_by at xs ys no_x no_y = ap₂ (first_difference at) no_x no_y

-- after equal views it goes on
go_by : (at : ℕ) (v : View) (xs ys : List View) → first_difference at (v ∷ xs) (v ∷ ys) ≡ first_difference (at + 1) xs
    ys
unfolding first_difference
go_by at v xs ys = ap (λ (b : Bool). if b then first_difference (at + 1) xs ys else Differ at (Some v) (Some v))
    (view_self v)

module _ {cycles : ℕ} {a b : Whole State} {events left_a left_b less_a less_b : ℕ} {x y next_x next_y : Whole State}
  where
    -- a difference
    pub differs : (u v : Option View) → AreAlike cycles a b events left_a left_b x y → Shows left_a x u less_a next_x →
        Shows left_b y v less_b next_y
        → u ≢ v → Differ events u v ≡ twin_of cycles a b
    differs u v alike show_a show_b apart =
        sym (alike.same ∙ ap₂ (first_difference events) (views_are u show_a) (views_are v show_b)
        ∙ differ_by events u v (views_of less_a next_x) (views_of less_b next_y) (views_end u show_a)
        (views_end v show_b) apart)

    -- the end of both
    pub ends : (u v : Option View) → AreAlike cycles a b events left_a left_b x y → Shows left_a x u less_a next_x →
        Shows left_b y v less_b next_y
        → u ≡ v → u ≡ None → Same events ≡ twin_of cycles a b
    ends u v alike show_a show_b same none =
        let none_b : v ≡ None = sym same ∙ none in
        sym (alike.same
        ∙ end_by events (views_of left_a x) (views_of left_b y)
        (views_are u show_a ∙ ap₂ cons_option none (views_end u show_a none))
        (views_are v show_b ∙ ap₂ cons_option none_b (views_end v show_b none_b)))

    -- equal views
    goes_with : (view : View) (u v : Option View) → AreAlike cycles a b events left_a left_b x y → Shows left_a x u
        less_a next_x → Shows left_b y v less_b next_y
        → u ≡ v → u ≡ Some view → AreAlike cycles a b (events + 1) less_a less_b next_x next_y
    goes_with view u v alike show_a show_b same some =
        let some_b : v ≡ Some view = sym same ∙ some in
        record {
          of_a = told_more cycles a events view
              (subst (λ (o : Option View). Shows left_a x o less_a next_x) some show_a) alike.of_a;
          of_b = told_more cycles b events view (subst (λ (o : Option View). Shows left_b y o less_b next_y) some_b
              show_b) alike.of_b;
          same =
              alike.same
              ∙ ap₂ (first_difference events)
              (views_are u show_a ∙ ap (λ (o : Option View). cons_option o (views_of less_a next_x)) some)
              (views_are v show_b ∙ ap (λ (o : Option View). cons_option o (views_of less_b next_y)) some_b)
              ∙ go_by events view (views_of less_a next_x) (views_of less_b next_y);
        }

    -- where both show the same view, the comparison goes on with one event more
    pub goes_on : (u v : Option View) → AreAlike cycles a b events left_a left_b x y → Shows left_a x u less_a next_x →
        Shows left_b y v less_b next_y
        → u ≡ v → IsSome u → AreAlike cycles a b (events + 1) less_a less_b next_x next_y
    goes_on None v alike show_a show_b same some = cc
    goes_on (Some view) v alike show_a show_b same some = goes_with view (Some view) v alike show_a show_b same refl

-- after as many events as the budget has cycles, nothing is left
pub ends_last : (cycles : ℕ) (a b : Whole State) (events left_a left_b : ℕ) (x y : Whole State) → events ≡ cycles →
    AreAlike cycles a b events left_a left_b x y
    → Same cycles ≡ twin_of cycles a b
unfolding drive_from
ends_last cycles a b events left_a left_b x y all alike =
    let none_a : left_a ≡ 0 = omega (arith, alike.of_a.room) in
    let none_b : left_b ≡ 0 = omega (arith, alike.of_b.room) in
    ap Same (sym all)
    ∙ sym (alike.same
    ∙ end_by events (views_of left_a x) (views_of left_b y) (ap (λ (n : ℕ). views_of n x) none_a)
    (ap (λ (n : ℕ). views_of n y) none_b))

-- and the state is that at the end of the story
pub is_left_last : (cycles : ℕ) (start : Whole State) (events left : ℕ) (w : Whole State) → events ≡ cycles → HasTold
    cycles start events left w
    → w ≡ run core_parts start None (told_cycles cycles cycles start)
is_left_last cycles start events left w all has =
    left_spent cycles start events left w (let none : left ≡ 0 = omega (arith, has.room) in none) has
    ∙ ap (λ (n : ℕ). run core_parts start None (told_cycles cycles n start)) all

-- the run of a system that is as it was opened begins at cycle 0
pub new_cycle : (w : Whole State) → IsAsNew w → w.place.cycle ≡ 0
new_cycle w new = ap (λ (v : Whole State). v.place.cycle) new.state
