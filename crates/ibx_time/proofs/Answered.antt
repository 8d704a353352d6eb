-- How many parcels an instruction takes, and when the words that have them have answered.
use Rattle.std.proofs.Common.{◌≡◌, ℕ, zero, suc, ◌+◌, ◌<◌, Bool, true, false, not, length, refl, sym, ap, ◌∙◌, arith}
use Rattle.std.proofs.Common.{add-zero, ◌==◌, ◌||◌, ◌&&◌, nat_le}
use Rattle.ibx_time.specs.Settings.{Settings}
use Rattle.ibx_time.specs.Streams.{answer}
use Rattle.ibx_time.specs.Times.{Times, has_answered}

-- how many, by whether the first parcel is sound, it is long, and the second is sound
abbrev pub parcels_by : Bool → Bool → Bool → ℕ
parcels_by false long second = 1
parcels_by true false second = 1
parcels_by true true second = 2

-- the instruction comes, by whether the two parcels are ready, the first is sound, and it is long
abbrev pub comes_by : Bool → Bool → Bool → Bool → Bool
comes_by false ready2 sound long = false
comes_by true ready2 false long = true
comes_by true ready2 true false = true
comes_by true ready2 true true = ready2

-- both are in one word, or in two that follow each other
answered_same : (r a long b : Bool) → (r && true) ≡ comes_by r r a long
answered_same false a long b = refl
answered_same true false long b = refl
answered_same true true false b = refl
answered_same true true true b = refl

-- with a word for each parcel, the second word is waited for only where both parcels are taken
answered_next : (r1 r2 a long b : Bool) → (r1 && (not (parcels_by a long b == 2) || r2)) ≡ comes_by r1 r2 a long
answered_next false r2 a long b = refl
answered_next true r2 false long b = refl
answered_next true r2 true false b = refl
answered_next true r2 true true b = refl

-- so the words have answered just where the pair comes
answered_half : (test : ℕ → Bool) (n half : ℕ) (a long b : Bool) → half < 2
    → (test n && (not (half == 1 && parcels_by a long b == 2) || test (n + 1)))
    ≡ comes_by (test n) (test (n + half)) a long
answered_half test n zero a long b low =
    answered_same (test n) a long b ∙ ap (λ m. comes_by (test n) (test m) a long) (sym (add-zero n))
answered_half test n (suc zero) a long b low = answered_next (test n) (test (n + 1)) a long b
answered_half test n (suc (suc half)) a long b low = absurd (omega arith)

-- so an instruction's words have answered just where the answers for its two parcels let it come
pub answered_is : (k : Settings) (x : Times) (parcels c : ℕ) (a long b : Bool) → x.half < 2
    → parcels ≡ parcels_by a long b → has_answered k x parcels c
    ≡ comes_by (nat_le (answer k x.stream (length x.stream.enters)) c)
    (nat_le (answer k x.stream (length x.stream.enters + x.half)) c) a long
unfolding has_answered
answered_is k x parcels c a long b low e =
    ap (λ n. has_answered k x n c) e
    ∙ answered_half (λ j. nat_le (answer k x.stream j) c) (length x.stream.enters)
    x.half a long b low
