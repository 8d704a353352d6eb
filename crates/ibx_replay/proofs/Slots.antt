-- One cycle stands for the log of FENCE.Is, and the last fill of each place for the log of fills.
use Rattle.std.proofs.Common.{◌≡◌, ℕ, ◌+◌, ◌<◌, ◌≤◌, Bool, true, false, not, ◌&&◌, ◌||◌, ◌==◌, List, [], ◌∷◌}
use Rattle.std.proofs.Common.{◌⊎◌, refl, sym, ap, ap₂, ◌∙◌, arith, inl, inr, nat_lt, nat_le, Option, Some, None}
use Rattle.std.proofs.lemmas.Bool.{lt-ltb, le-ltb, le-leb, lt-leb, eq-eqb, cases_lt}
use Rattle.ibx_time.specs.Requests.{Fill, slot_of, last_fill, victim, victim_by, is_present, none_between, is_walked}
use Rattle.ibx_time.specs.Requests.{holds_line, stands, other_way}

-- the FENCE.Is' cycles fall, and are all before c
abbrev pub IsLog : List ℕ → ℕ → Type 0
IsLog [] c = Unit {0}
IsLog (f ∷ fs) c = (f < c) × IsLog fs (f + 1)

-- the cycle after the last FENCE.I, or 0
abbrev pub starts : List ℕ → ℕ
starts [] = 0
starts (f ∷ fs) = f + 1

-- a log up to a cycle is one up to a later cycle
pub log_more : (fs : List ℕ) (c d : ℕ) → c ≤ d → IsLog fs c → IsLog fs d
log_more [] c d h l = tt
log_more (f ∷ fs) c d h l = (omega (arith, h, l.0), l.1)

-- no FENCE.I is at a or later, where all are before it
pub between_old : (fs : List ℕ) (a b : ℕ) → IsLog fs a → none_between fs a b ≡ true
unfolding none_between
between_old [] a b l = refl
between_old (f ∷ fs) a b l =
    rw (lt-ltb f a l.0) (between_old fs a b (log_more fs (f + 1) a (omega (arith, l.0)) l.1))

-- a span up to now is free of them just where it begins at the cycle after the last, or later
pub free_is : (fs : List ℕ) (a t : ℕ) → IsLog fs (t + 1) → none_between fs a (t + 1) ≡ nat_le (starts fs) a
unfolding none_between
free_is [] a t l = sym (le-leb 0 a (omega arith))
free_is (f ∷ fs) a t l =
    rw (lt-leb (t + 1) f (omega (arith, l.0)))
    (by (cases_lt f a))
  where
    by : (f < a) ⊎ (a ≤ f) → ((nat_lt f a || false) && none_between fs a (t + 1)) ≡ nat_le (f + 1) a
    by (inl h) = rw (lt-ltb f a h, le-leb (f + 1) a (omega (arith, h)))
        (between_old fs a (t + 1) (log_more fs (f + 1) a (omega (arith, h)) l.1))
    by (inr h) = rw (le-ltb f a h, lt-leb (f + 1) a (omega (arith, h))) refl

-- the walk has ended just 256 cycles after that
pub ended_is : (fs : List ℕ) (t : ℕ) → IsLog fs (t + 1) → is_walked fs t ≡ nat_le (starts fs + 256) t
unfolding is_walked
ended_is [] t l = refl
ended_is (f ∷ fs) t l =
    rw (le-ltb t f (omega (arith, l.0)))
    (by (cases_lt (f + 256) t))
  where
    older : (gs : List ℕ) → IsLog gs (f + 1) → f + 256 < t → is_walked gs t ≡ true
    older [] m h = le-leb 256 t (omega (arith, h))
    older (g ∷ gs) m h = rw (le-ltb t g (omega (arith, m.0, h)), lt-ltb (g + 256) t (omega (arith, m.0, h)))
        (older gs (log_more gs (g + 1) (f + 1) (omega (arith, m.0)) m.1) h)

    by : (f + 256 < t) ⊎ (t ≤ f + 256) → (nat_lt (f + 256) t && is_walked fs t) ≡ nat_le (f + 1 + 256) t
    by (inl h) = rw (lt-ltb (f + 256) t h, le-leb (f + 1 + 256) t (omega (arith, h))) (older fs l.1 h)
    by (inr h) = rw (le-ltb (f + 256) t h, lt-leb (f + 1 + 256) t (omega (arith, h))) refl

-- ---- places

-- a place holds this line, by what it holds and the cycle after the last FENCE.I
abbrev pub here : ℕ → ℕ → Option Fill → Bool
here starts line None = false
here starts line (Some x) = x.line == line && nat_le starts x.time

-- a place holds a line at all
abbrev pub filled : ℕ → Option Fill → Bool
filled starts None = false
filled starts (Some x) = nat_le starts x.time

-- a place holds a line just where no FENCE.I came since
pub here_is : (fs : List ℕ) (t line : ℕ) (o : Option Fill) → IsLog fs (t + 1)
    → holds_line fs t line o ≡ here (starts fs) line o
here_is fs t line None l = refl
here_is fs t line (Some x) l = ap (λ b. x.line == line && b) (free_is fs x.time t l)

-- a place is filled just where no FENCE.I came since
pub filled_is : (fs : List ℕ) (t : ℕ) (o : Option Fill) → IsLog fs (t + 1) → stands fs t o ≡ filled (starts fs) o
filled_is fs t None l = refl
filled_is fs t (Some x) l = free_is fs x.time t l

-- the two places of a line and the other way tell what a request finds: whether the line is present, and the victim
pub present_is : (fs : List ℕ) (fills : List Fill) (t line : ℕ) (o u : Option Fill) → IsLog fs (t + 1)
    → last_fill fills (slot_of line false) ≡ o → last_fill fills (slot_of line true) ≡ u
    → is_present fs fills line t ≡ (here (starts fs) line o || here (starts fs) line u)
unfolding is_present
present_is fs fills t line o u l e f =
    ap₂ (λ a b. a || b) (ap (holds_line fs t line) e ∙ here_is fs t line o l)
    (ap (holds_line fs t line) f ∙ here_is fs t line u l)

-- the way for a new line, by what the two places have
pub victim_is : (fs : List ℕ) (fills : List Fill) (t line : ℕ) (o u : Option Fill) → IsLog fs (t + 1)
    → last_fill fills (slot_of line false) ≡ o → last_fill fills (slot_of line true) ≡ u
    → victim fs fills line t ≡ victim_by (not (filled (starts fs) o)) (not (filled (starts fs) u)) (other_way fills)
unfolding victim
victim_is fs fills t line o u l e f =
    ap₂ (λ a b. victim_by (not a) (not b) (other_way fills)) (ap (stands fs t) e ∙ filled_is fs t o l)
    (ap (stands fs t) f ∙ filled_is fs t u l)

-- a fill more changes its own place alone
pub place_own : (x : Fill) (fills : List Fill) → last_fill (x ∷ fills) (slot_of x.line x.way) ≡ Some x
unfolding last_fill
place_own x fills = rw (eq-eqb (slot_of x.line x.way) (slot_of x.line x.way) refl) refl

-- a fill leaves each other place
pub place_other : (x : Fill) (fills : List Fill) (n : ℕ) → (slot_of x.line x.way == n) ≡ false
    → last_fill (x ∷ fills) n ≡ last_fill fills n
unfolding last_fill
place_other x fills n e = rw e refl
