-- An item from its enter to its end, in the order in which the program makes its changes.
use Rattle.std.proofs.Common.{◌≡◌, ℕ, zero, suc, ◌+◌, ◌^◌, ◌<◌, ◌≤◌, Bool, true, false, [], ◌∷◌, ◌++◌}
use Rattle.std.proofs.Common.{refl, sym, subst, arith, if◌then◌else◌}
use Rattle.ibx_time.specs.Settings.{Settings}
use Rattle.ibx_time.specs.Controls.{Ctl, enables_cache}
use Rattle.ibx_time.specs.Requests.{Switch}
use Rattle.ibx_time.specs.Streams.{Stream, redirected_to}
use Rattle.ibx_time.specs.Times.{marked, target_if}
use Rattle.ibx_time.proofs.Fences.{switched_by}
use Rattle.ibx_replay.specs.Fetches.{Fetch, fenced_where, redirected_where, entered_where, again_where, end_of}
use Rattle.ibx_replay.specs.Fetches.{finish, request_below}
use Rattle.ibx_replay.proofs.Fetched.{FetchAt, IsSettled, Holds}
use Rattle.ibx_replay.proofs.Keeps.{settled_later, holds_later, flush_keeps}
use Rattle.ibx_replay.proofs.Enters.{AreOld, take_keeps, again_keeps}
use Rattle.ibx_replay.proofs.Ends.{switch_keeps, switch_settled, same_settled, fence_keeps, fence_settled}
use Rattle.ibx_replay.proofs.Ends.{turn_keeps, turn_settled}

-- all that stands of the fetch side between items: so many words are requested, those that are issued before c
pub record IsAt (k : Settings) (reads : ℕ → ℕ → ℕ) (x : Stream) (c : ℕ) (on : Bool) (f : Fetch) : Type 0 where
  pub q : ℕ
  pub fetch : FetchAt k reads x q c f
  pub settled : IsSettled x c on

-- the stream with the enter of an item that takes a last half
abbrev pub enter_where : Bool → ℕ → Stream → Stream
enter_where takes e x = record x { enters = if takes then x.enters ++ e ∷ [] else x.enters }

-- an item's enter keeps what stands of the fetch side, whether it takes a last half or not
enter_keeps : (takes : Bool) (k : Settings) (reads : ℕ → ℕ → ℕ) (x : Stream) (q e : ℕ) (f : Fetch)
    → FetchAt k reads x q e f
    → (takes ≡ true → 0 < f.count) → FetchAt k reads (enter_where takes e x) q e (entered_where takes e f)
enter_keeps true k reads x q e f h some = take_keeps k reads x q e f h (some refl)
enter_keeps false k reads x q e f h some = h

-- the writes of an item, which has some only where it makes a store
store_keeps : (stores : Bool) (k : Settings) (reads new held : ℕ → ℕ → ℕ) (x : Stream) (q c since : ℕ) (f : Fetch)
    → FetchAt k reads x q c f → since ≤ c → AreOld reads new c → Holds held new (since + 1)
    → (stores ≡ false → reads ≡ new) → FetchAt k new x q c (again_where stores since held f)
store_keeps true k reads new held x q c since f h low old m same = again_keeps k reads new held x q c since f h low
    old m
store_keeps false k reads new held x q c since f h low old m same = subst (λ r. FetchAt k r x q c f) (same refl) h

-- ---- the end, by what the event does

-- after an event that doesn't redirect
pub ends_plain : (k : Settings) (reads : ℕ → ℕ → ℕ) (x : Stream) (q d pc : ℕ) (on : Bool) (c : Ctl) (f : Fetch)
    → FetchAt k reads x q (d + 1) f → IsSettled x (d + 1) on
    → IsAt k reads (redirected_to k (marked false c d x) d (target_if false pc)) (d + 1) (enables_cache c) f
ends_plain k reads x q d pc on c f h z =
    let v : Switch = record { time = d; on = enables_cache c } in
    record {
      q = q;
      fetch = switch_keeps k reads x q (d + 1) v f h (omega arith);
      settled = switch_settled x d on (enables_cache c) z;
    }

-- after one that redirects, and leaves icache_enable
pub ends_turned : (k : Settings) (reads : ℕ → ℕ → ℕ) (x : Stream) (q d pc : ℕ) (on : Bool) (c : Ctl) (f : Fetch)
    → FetchAt k reads x q d f → IsSettled x d on → enables_cache c ≡ on → pc < 2 ^ 32
    → IsAt k reads (redirected_to k (marked false c d x) d (target_if true pc)) d (enables_cache c)
    (redirected_where true d pc f)
ends_turned k reads x q d pc on c f h z same small =
    let v : Switch = record { time = d; on = enables_cache c } in
    let y = switched_by x v in
    record {
      q = 0;
      fetch = turn_keeps k reads y q d pc f (switch_keeps k reads x q d v f h (omega arith)) small;
      settled = turn_settled k y d pc (enables_cache c)
          (same_settled x d (enables_cache c) (subst (IsSettled x d) (sym same) z));
    }

-- and after a FENCE.I
pub ends_fenced : (k : Settings) (reads : ℕ → ℕ → ℕ) (x : Stream) (q d pc : ℕ) (on : Bool) (c : Ctl) (f : Fetch)
    → FetchAt k reads x q d f → IsSettled x d on → enables_cache c ≡ on → pc < 2 ^ 32 → 0 < q
    → IsAt k reads (redirected_to k (marked true c d x) d (target_if true pc)) d (enables_cache c)
    (redirected_where true d pc (fenced_where true d f))
ends_fenced k reads x zero d pc on c f h z same small some = absurd (omega (arith, some))
ends_fenced k reads x (suc j) d pc on c f h z same small some =
    let v : Switch = record { time = d; on = enables_cache c } in
    let y = switched_by x v in
    let g = switch_keeps k reads x (suc j) d v f h (omega arith) in
    record {
      q = 0;
      fetch = turn_keeps k reads (marked true c d x) (suc j) d pc (fenced_where true d f)
          (fence_keeps k reads y (suc j) d j f g refl) small;
      settled = turn_settled k (marked true c d x) d pc (enables_cache c) (fence_settled y d (enables_cache c)
          (same_settled x d (enables_cache c) (subst (IsSettled x d) (sym same) z)));
    }

-- an item's end keeps it, whether it is a FENCE.I, another redirect or neither
ends_by : (fences redirects : Bool) (k : Settings) (reads : ℕ → ℕ → ℕ) (x : Stream) (q d pc : ℕ) (on : Bool) (c : Ctl)
    (f : Fetch) → FetchAt k reads x q (end_of redirects d) f → IsSettled x (end_of redirects d) on
    → (fences ≡ true → redirects ≡ true) → (fences ≡ true → 0 < q) → (redirects ≡ true → enables_cache c ≡ on)
    → pc < 2 ^ 32 → IsAt k reads (redirected_to k (marked fences c d x) d (target_if redirects pc))
    (end_of redirects d)
    (enables_cache c) (redirected_where redirects d pc (fenced_where fences d f))
ends_by false false k reads x q d pc on c f h z turns some same small = ends_plain k reads x q d pc on c f h z
ends_by false true k reads x q d pc on c f h z turns some same small =
    ends_turned k reads x q d pc on c f h z (same refl) small
ends_by true true k reads x q d pc on c f h z turns some same small =
    ends_fenced k reads x q d pc on c f h z (same refl) small (some refl)
ends_by true false k reads x q d pc on c f h z turns some same small = let no_ : true ≡ false = sym (turns refl) in cc

-- ---- the whole item

-- what is known of an item: the words that it takes are there, its writes come at its enter or later, a FENCE.I was
-- read
-- and redirects, and an item that redirects leaves icache_enable
pub record IsItem (reads new held : ℕ → ℕ → ℕ) (since e d : ℕ) (takes stores fences redirects : Bool) (pc : ℕ)
    (on after : Bool) (f : Fetch) : Type 0 where
  pub there : takes ≡ true → 0 < f.count
  pub old : AreOld reads new e
  pub holds : Holds held new (since + 1)
  pub same : stores ≡ false → reads ≡ new
  pub before : since < e
  pub ends : e ≤ d
  pub turns : fences ≡ true → redirects ≡ true
  pub some : fences ≡ true → 0 < f.count
  pub leaves : redirects ≡ true → after ≡ on
  pub small : pc < 2 ^ 32

-- the requests before an item's end are those up to its enter, and more
end_late : (redirects : Bool) (e d : ℕ) → e ≤ d → e ≤ end_of redirects d
end_late true e d h = h
end_late false e d h = omega (arith, h)

-- So an item that enters at e and is done at d leaves the fetch side of the story with it.
pub finishes : (k : Settings) (reads new held : ℕ → ℕ → ℕ) (x : Stream) (q since e d : ℕ)
    (takes stores fences redirects : Bool) (pc : ℕ) (on : Bool) (c : Ctl) (f : Fetch) → FetchAt k reads x q e f
    → IsSettled x e on → IsItem reads new held since e d takes stores fences redirects pc on (enables_cache c) f
    → IsAt k new (redirected_to k (marked fences c d (enter_where takes e x)) d (target_if redirects pc))
    (end_of redirects d) (enables_cache c) (finish k on held since e d takes stores fences redirects pc f)
unfolding finish
finishes k reads new held x q since e d takes stores fences redirects pc on c f h z i =
    let y = enter_where takes e x in
    let zy : IsSettled y e on = record { log = z.log; enabled = z.enabled } in
    let g = entered_where takes e f in
    let a = enter_keeps takes k reads x q e f h i.there in
    let b = store_keeps stores k reads new held y q e since g a (omega (arith, i.before)) i.old i.holds i.same in
    let late = end_late redirects e d i.ends in
    let u = flush_keeps 3 k new held y q e (end_of redirects d) on (again_where stores since held g) b zy
    (holds_later held new (since + 1) e (omega (arith, i.before)) i.holds) late (omega arith) in
    ends_by fences redirects k new y u.count d pc on c
    (request_below k on held (end_of redirects d) 3 (again_where stores since held g)) u.fetch
    (settled_later y e (end_of redirects d) on late zy) i.turns
    (λ n. omega (arith, u.more, h.held, i.some n)) i.leaves i.small
