-- The FENCE.Is and the stored lines over time: what a cycle more says of them.
use Rattle.std.proofs.Common.{◌≡◌, ℕ, ◌+◌, ◌*◌, ◌^◌, ◌<◌, ◌≤◌, ◌⊎◌, Bool, true, false, ◌&&◌, ◌||◌, ◌==◌}
use Rattle.std.proofs.Common.{List, [], ◌∷◌, refl, subst, inl, inr, arith, nat_lt, nat_le, if◌then◌else◌}
use Rattle.std.proofs.Common.{Option, Some, None}
use Rattle.std.proofs.lemmas.Bool.{eqb-true, lt-ltb, le-ltb, le-leb, cases_lt, leb-true, ltb-true}
use Rattle.ibx_time.specs.Settings.{Setup}
use Rattle.ibx_time.specs.Requests.{Fill, is_walked, last_fill, none_between, slot_of}
use Rattle.ibx_time_invariant.proofs.Caches.{AreMapped, IsLog, IsOld, starts, tag_of}
use Rattle.ibx_time.proofs.Walks.{between_more, log_more, starts_before}
use Rattle.ibx_time_invariant.proofs.Marks.{broken}
use Rattle.ibx_time_invariant.proofs.Fetches.{is_unmapped}

-- ---- the walk has ended for a request at t

-- the first of two tests
and_left : (a b : Bool) → (a && b) ≡ true → a ≡ true
and_left true b h = refl
and_left false b h = h

-- a cached request at t has the walk ended, with the FENCE.Is up to t
pub walked_till : (fs : List ℕ) (t : ℕ) → IsLog fs (t + 1) → is_walked fs t ≡ true → starts fs + 256 ≤ t
unfolding is_walked
walked_till [] t l e = omega (arith, leb-true 256 t e)
walked_till (f ∷ fs) t l e =
    let low : nat_lt t f ≡ false = le-ltb t f (omega (arith, l.0)) in
    omega (arith, ltb-true (f + 256) t (and_left (nat_lt (f + 256) t) (is_walked fs t) (rw low at e)))

-- ---- the FENCE.Is in a span

-- an empty span has no FENCE.I in it
pub between_none : (fs : List ℕ) (a : ℕ) → none_between fs a a ≡ true
unfolding none_between
between_none [] a = refl
between_none (f ∷ fs) a = rw (between_none fs a) (either (cases_lt f a))
  where
    either : (f < a) ⊎ (a ≤ f) → ((nat_lt f a || nat_le a f) && true) ≡ true
    either (inl h) = rw (lt-ltb f a h) refl
    either (inr h) = rw (le-ltb f a h, le-leb a f h) refl

-- ---- the stored lines

-- a line that there is
pub some_fill : (a b : Fill) → Some a ≡ Some b → a ≡ b
some_fill a b e = cc

-- what is known of a line that is stored
pub record IsStored (s : Setup) (c slot : ℕ) (x : Fill) : Type 0 where
  pub time : x.time < c
  pub grant0 : x.grant0 < x.time
  pub grant1 : x.grant1 < x.time
  pub line : x.line < 2 ^ 29
  pub mapped0 : is_unmapped s (8 * x.line) ≡ false
  pub mapped1 : is_unmapped s (8 * x.line + 4) ≡ false
  pub slot_is : slot_of x.line x.way ≡ slot

-- such is the last line of each place
pub old_fill : (s : Setup) (fills : List Fill) (c slot : ℕ) (x : Fill) → IsOld fills c → AreMapped s fills
    → last_fill fills slot ≡ Some x → IsStored s c slot x
unfolding last_fill
old_fill s [] c slot x l m e = none_fill x e
  where
    none_fill : (x : Fill) {P : Type 0} → None ≡ Some x → P
    none_fill x e = cc
old_fill s (k ∷ fills) c slot x l m e =
    by (slot_of k.line k.way == slot) refl e (λ n. old_fill s fills c slot x l.4 m.2 n)
  where
    by : (b : Bool) → (slot_of k.line k.way == slot) ≡ b → (if b then Some k else last_fill fills slot) ≡ Some x
        → (last_fill fills slot ≡ Some x → IsStored s c slot x) → IsStored s c slot x
    by true at e old =
        subst (λ v. IsStored s c slot v) (some_fill k x e)
        (record {
          time = l.0;
          grant0 = l.1;
          grant1 = l.2;
          line = l.3;
          mapped0 = m.0;
          mapped1 = m.1;
          slot_is = eqb-true (slot_of k.line k.way) slot at;
        })
    by false at e old = old e

-- ---- the tags

-- a cycle more without a FENCE.I changes no tag
pub tag_more : (fs : List ℕ) (c : ℕ) (k : Option Fill) → IsLog fs c → tag_of fs c k ≡ tag_of fs (c + 1) k
tag_more fs c None l = refl
tag_more fs c (Some k) l = rw (between_more fs k.time c l) refl

-- no line stands after a FENCE.I
pub tag_broken : (s : Setup) (fs : List ℕ) (fills : List Fill) (c slot : ℕ) → IsOld fills (c + 1) → AreMapped s fills
    → (k : Option Fill) → last_fill fills slot ≡ k → tag_of (c ∷ fs) (c + 1) k ≡ 0
tag_broken s fs fills c slot l m None e = refl
tag_broken s fs fills c slot l m (Some x) e =
    rw (broken fs x.time c (omega (arith, (old_fill s fills (c + 1) slot x l m e).time))) refl
