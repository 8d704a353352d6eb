-- The FENCE.Is, the last one first: where the last walk through the cache began, when it has ended, and spans without
-- one.
use Rattle.std.proofs.Common.{◌≡◌, ℕ, ◌+◌, ◌<◌, ◌≤◌, true, false, ◌&&◌, ◌||◌, List, [], ◌∷◌, ap, arith, nat_lt}
use Rattle.std.proofs.Common.{refl}
use Rattle.std.proofs.lemmas.Bool.{lt-ltb, le-ltb, le-leb, lt-leb}
use Rattle.ibx_time.specs.Requests.{is_walked, none_between}

-- the FENCE.Is' cycles fall, and are all before c
abbrev pub IsLog : List ℕ → ℕ → Type 0
IsLog [] c = Unit {0}
IsLog (f ∷ fs) c = (f < c) × IsLog fs (f + 1)

-- the cycle after the last FENCE.I, or reset
abbrev pub starts : List ℕ → ℕ
starts [] = 0
starts (f ∷ fs) = f + 1

-- what is before a cycle is before a later one
pub log_more : (fs : List ℕ) (c d : ℕ) → c ≤ d → IsLog fs c → IsLog fs d
log_more [] c d h l = tt
log_more (f ∷ fs) c d h l = (omega (arith, l.0), l.1)

-- the last walk began in this cycle or before it
pub starts_before : (fs : List ℕ) (c : ℕ) → IsLog fs c → starts fs ≤ c
starts_before [] c l = omega arith
starts_before (f ∷ fs) c l = omega (arith, l.0)

-- ---- the walk

-- it has ended from the 256th cycle after its start on
pub walked_old : (fs : List ℕ) (t : ℕ) → starts fs + 256 ≤ t → IsLog fs t → is_walked fs t ≡ true
unfolding is_walked
walked_old [] t h l = le-leb 256 t (omega arith)
walked_old (f ∷ fs) t h l =
    rw (le-ltb t f (omega arith), lt-ltb (f + 256) t (omega arith))
    (walked_old fs t (omega (arith, starts_before fs (f + 1) l.1)) (log_more fs (f + 1) t (omega arith) l.1))

-- it goes on in the 256 cycles from its start on
pub walked_not : (fs : List ℕ) (t : ℕ) → starts fs ≤ t → t < starts fs + 256 → is_walked fs t ≡ false
unfolding is_walked
walked_not [] t b h = lt-leb 256 t (omega arith)
walked_not (f ∷ fs) t b h = rw (le-ltb t f (omega arith), le-ltb (f + 256) t (omega arith)) refl

-- it hasn't ended in the cycle of a FENCE.I
pub walked_fence : (fs : List ℕ) (c : ℕ) → is_walked (c ∷ fs) c ≡ false
unfolding is_walked
walked_fence fs c = rw (le-ltb c c (omega arith), le-ltb (c + 256) c (omega arith)) refl

-- ---- spans

-- one cycle more leaves a span as free of FENCE.Is as it was, where all are before it
pub between_more : (fs : List ℕ) (a c : ℕ) → IsLog fs c → none_between fs a c ≡ none_between fs a (c + 1)
unfolding none_between
between_more [] a c l = refl
between_more (f ∷ fs) a c l =
    rw (lt-leb c f l.0, lt-leb (c + 1) f (omega (arith, l.0)))
    (ap (λ v. (nat_lt f a || false) && v) (between_more fs a c (log_more fs (f + 1) c (omega (arith, l.0)) l.1)))

-- no FENCE.I is at a or later, where all are before it
pub between_old : (fs : List ℕ) (a b : ℕ) → IsLog fs a → none_between fs a b ≡ true
unfolding none_between
between_old [] a b l = refl
between_old (f ∷ fs) a b l = rw (lt-ltb f a l.0) (between_old fs a b (log_more fs (f + 1) a (omega (arith, l.0)) l.1))
