-- A limit changes no cycle below it, and one step of the list of cycles.
use Rattle.std.proofs.Common.{◌≡◌, ℕ, zero, suc, ◌+◌, ◌-◌, ◌<◌, ◌≤◌, Bool, true, false, List, [], ◌∷◌, length}
use Rattle.std.proofs.Common.{refl, sym, ap, ◌∙◌, arith, nat_lt, if◌then◌else◌}
use Rattle.ibx_isa.specs.declared.event.View.{View}
use Rattle.ibx_time.specs.Search.{first_from}
use Rattle.ibx_time.specs.Settings.{Settings}
use Rattle.ibx_time.specs.Items.{Item, Portions, NoPortion, One, OneBad, Two, TwoBad}
use Rattle.ibx_time.specs.Times.{Times, kind_at, is_ready, admitted, done_of, done_by, stop_of, may_end}
use Rattle.ibx_time.specs.Timeline.{words_for, admission_for, is_dummy, item_for, done_for, pc_after, views_by}
use Rattle.ibx_time.specs.Timeline.{times_by, times_for, cycle_by, cycles_from}
use Rattle.ibx_time.proofs.Timed.{done_after, first_after, more}

-- ---- a limit changes no cycle below it

-- two searches that find something below their limits find the same
agree_by : (n m c : ℕ) (p : ℕ → Bool) (b : Bool)
    → (first_from n p (c + 1) < c + 1 + n → first_from m p (c + 1) < c + 1 + m
    → first_from n p (c + 1) ≡ first_from m p (c + 1)) → (if b then c else first_from n p (c + 1)) < c + suc n
    → (if b then c else first_from m p (c + 1)) < c + suc m
    → (if b then c else first_from n p (c + 1)) ≡ (if b then c else first_from m p (c + 1))
agree_by n m c p true e f g = refl
agree_by n m c p false e f g = e (omega (arith, f)) (omega (arith, g))

-- a search that ends below two limits ends in the same cycle with both
first_agree : (n m c : ℕ) (p : ℕ → Bool) → first_from n p c < c + n → first_from m p c < c + m
    → first_from n p c ≡ first_from m p c
unfolding first_from
first_agree zero m c p f g = absurd (omega (arith, f))
first_agree (suc n) zero c p f g = absurd (omega (arith, g))
first_agree (suc n) (suc m) c p f g = agree_by n m c p (p c) (first_agree n m (c + 1) p) f g

-- the search up to a limit that it comes before
up_to : (a b e : ℕ) (p : ℕ → Bool) → first_from (a - e) p e < a → first_from (b - e) p e < b
    → first_from (a - e) p e ≡ first_from (b - e) p e
up_to a b e p f g =
    let la : e ≤ first_from (a - e) p e = first_after (a - e) p e in
    let lb : e ≤ first_from (b - e) p e = first_after (b - e) p e in
    first_agree (a - e) (b - e) e p (omega (arith, f, la)) (omega (arith, g, lb))

-- so it is for the end of an item, for its done cycle and for an admission
done_by_agree : (k : Settings) (portions : Portions) (n e sa sb a b : ℕ) → (sa < a → sb < b → sa ≡ sb)
    → done_by k.plan.dwaits portions n e sa < a → done_by k.plan.dwaits portions n e sb < b
    → done_by k.plan.dwaits portions n e sa ≡ done_by k.plan.dwaits portions n e sb
unfolding done_by
done_by_agree k NoPortion n e sa sb a b same f g = same f g
done_by_agree k One n e sa sb a b same f g = refl
done_by_agree k OneBad n e sa sb a b same f g = refl
done_by_agree k Two n e sa sb a b same f g = refl
done_by_agree k TwoBad n e sa sb a b same f g = refl

-- an item without a portion that ends below two limits ends in the same cycle with both
stops_agree : (k : Settings) (a b e : ℕ) (i : Item) (x : Times) → stop_of k a i x.ctl e < a → stop_of k b i x.ctl e < b
    → stop_of k a i x.ctl e ≡ stop_of k b i x.ctl e
stops_agree k a b e i x f g = up_to a b e (may_end k i x.ctl e) f g

-- an item that is done below two limits is done in the same cycle with both
pub dones_agree : (k : Settings) (a b t : ℕ) (i : Item) (x : Times) → done_of k a t i x < a → done_of k b t i x < b
    → done_of k a t i x ≡ done_of k b t i x
unfolding done_of
dones_agree k a b t i x f g = done_by_agree k i.portions x.made (t + 1) (stop_of k a i x.ctl (t + 1))
    (stop_of k b i x.ctl (t + 1)) a b (stops_agree k a b (t + 1) i x) f g

-- an item that is admitted below two limits is admitted in the same cycle with both
pub admissions_agree : (k : Settings) (a b done : ℕ) (x : Times) (v : View) → admission_for k a done x v < a
    → admission_for k b done x v < b → admission_for k a done x v ≡ admission_for k b done x v
unfolding admission_for
admissions_agree k a b done x v f g = up_to a b done (λ t. is_ready (kind_at k x t) (words_for k x v t)) f g

-- an item that is done before a limit is admitted before it
pub before_done : (k : Settings) (a t : ℕ) (x : Times) (v : View) → done_for k a t x v < a → t < a
before_done k a t x v f = omega (arith, f, done_after k a t (item_for k t x v) x)

-- ---- one item, with two limits

-- the times after an item that is admitted at t and done at d
abbrev pub times_after : Settings → ℕ → ℕ → Times → View → Bool → ℕ → Times
times_after k t d x v b pc = times_by b k d v (item_for k t x v) pc (admitted (kind_at k x t) t (item_for k t x v) x)

-- the cycles are those of the item, and those of the rest from the times after it
pub item_cycles : (k : Settings) (limit n t d done : ℕ) (x : Times) (v : View) (vs : List View) (pc : ℕ)
    → admission_for k limit done x v ≡ t → done_for k limit t x v ≡ d → nat_lt d limit ≡ true
    → cycles_from k limit (suc n) done x (v ∷ vs) pc
    ≡ cycle_by (is_dummy (kind_at k x t)) d
    (cycles_from k limit n d (times_after k t d x v (is_dummy (kind_at k x t)) (pc_after vs pc))
    (views_by (is_dummy (kind_at k x t)) v vs) pc)
unfolding times_for
item_cycles k limit n t d done x v vs pc at is less =
    more k limit n v vs pc done t d x (times_after k t d x v (is_dummy (kind_at k x t)) (pc_after vs pc))
    (is_dummy (kind_at k x t)) at refl is
    (ap (λ e. times_after k t e x v (is_dummy (kind_at k x t)) (pc_after vs pc)) is) less

-- each view has its cycle
abbrev pub IsFull : Settings → ℕ → ℕ → ℕ → Times → List View → ℕ → Type 0
IsFull k limit n done x vs pc = length (cycles_from k limit n done x vs pc) ≡ length vs

-- without views there are none, and none after an item that isn't done before limit
pub no_cycles : (k : Settings) (limit n done : ℕ) (x : Times) (pc : ℕ) → cycles_from k limit n done x [] pc ≡ []
unfolding cycles_from
no_cycles k limit zero done x pc = refl
no_cycles k limit (suc n) done x pc = refl

-- an item that isn't done before limit ends the list of cycles
stopped : (k : Settings) (limit n done : ℕ) (x : Times) (v : View) (vs : List View) (pc : ℕ)
    → nat_lt (done_for k limit (admission_for k limit done x v) x v) limit ≡ false
    → cycles_from k limit (suc n) done x (v ∷ vs) pc ≡ []
unfolding cycles_from
stopped k limit n done x v vs pc e = rw e refl

-- where there are as many cycles as views, each item is done before limit
none_full : (vs : List View) (v : View) (cycles : List ℕ) → cycles ≡ [] → length cycles ≡ length (v ∷ vs)
    → false ≡ true
none_full vs v cycles e full =
    let no_ : zero ≡ suc (length vs) = sym (ap (λ (l : List ℕ). length l) e) ∙ full in absurd (omega (arith, no_))

-- a test that failed would leave this view without a cycle, so it holds
goes_by : (k : Settings) (limit n done : ℕ) (x : Times) (v : View) (vs : List View) (pc : ℕ) (b : Bool)
    → nat_lt (done_for k limit (admission_for k limit done x v) x v) limit ≡ b
    → IsFull k limit (suc n) done x (v ∷ vs) pc → b ≡ true
goes_by k limit n done x v vs pc true e full = refl
goes_by k limit n done x v vs pc false e full =
    none_full vs v (cycles_from k limit (suc n) done x (v ∷ vs) pc) (stopped k limit n done x v vs pc e) full

-- where each view has its cycle, the next item is done before limit
pub goes_on : (k : Settings) (limit n done : ℕ) (x : Times) (v : View) (vs : List View) (pc : ℕ)
    → IsFull k limit (suc n) done x (v ∷ vs) pc
    → nat_lt (done_for k limit (admission_for k limit done x v) x v) limit ≡ true
goes_on k limit n done x v vs pc full =
    goes_by k limit n done x v vs pc (nat_lt (done_for k limit (admission_for k limit done x v) x v) limit) refl full

-- the cycles that are left are full too
pub rest_full : (b : Bool) (d : ℕ) (cycles : List ℕ) (v : View) (vs : List View)
    → length (cycle_by b d cycles) ≡ length (v ∷ vs) → length cycles ≡ length (views_by b v vs)
rest_full true d cycles v vs e = e
rest_full false d cycles v vs e = omega (arith, e)

-- no items leave no cycles, so there are no views
pub no_full : (k : Settings) (limit done : ℕ) (x : Times) (v : View) (vs : List View) (pc : ℕ)
    → IsFull k limit zero done x (v ∷ vs) pc → false ≡ true
unfolding cycles_from
no_full k limit done x v vs pc full = none_full vs v [] refl full
