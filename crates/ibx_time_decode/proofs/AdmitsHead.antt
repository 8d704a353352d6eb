-- The two parcels at the head: what comes of them, and whether the words of the instruction have answered.
use Rattle.std.proofs.Common.{◌≡◌, ℕ, ◌+◌, ◌%◌, ◌^◌, ◌<◌, Bool, true, false, refl, sym, ap, ap₂}
use Rattle.std.proofs.Common.{subst, ◌∙◌}
use Rattle.std.specs.Prelude.{if◌then◌else◌}
use Rattle.std.proofs.lemmas.Bool.{eq-eqb}
use Rattle.ibx_isa.specs.Lengths.{is_long}
use Rattle.ibx_arch.specs.declared.fetched.Fetched.TheVariants.{Unsound}
use Rattle.ibx_dummy.specs.declared.unit.Dummy.{Dummy}
use Rattle.ibx_time_invariant.proofs.Stages.{fault_of}
use Rattle.ibx_time_invariant.proofs.ArchSide.{fetched_word}
use Rattle.ibx_time.proofs.Answered.{comes_by, parcels_by}
use Rattle.ibx_time_decode.proofs.Fetches.{fetch_by, next_apart}
use Rattle.ibx_id.specs.Turns.{empty_stage}
use Rattle.ibx_core.specs.Entries.{Entry, completed_by, enters, fetched_by, parcel_by}

-- nothing is admitted, or the instruction of these parcels
pub data Comes (there a long b : Bool) (pc p1 p2 : ℕ) (d counted : Dummy) (e : Entry) : Type 0 where
  nothing_comes : there ≡ false → e.id ≡ empty_stage → e.taken ≡ 0 → e.dummies ≡ d
      → Comes there a long b pc p1 p2 d counted e
  comes : there ≡ true → e.id ≡ enters 0 pc (fetched_word (fetch_by a long b pc p1 p2))
      (fault_of pc (fetch_by a long b pc p1 p2)) → e.taken ≡ parcels_by a long b → e.dummies ≡ counted
      → Comes there a long b pc p1 p2 d counted e

-- the number of the parcel that is unsound
first_fault : (pc : ℕ) → fault_of pc (Unsound pc) ≡ 1
first_fault pc = ap (λ x. if x then 1 else 2) (eq-eqb pc pc refl)

-- a second parcel that is unsound is fault 2, since its address isn't the program counter
second_fault : (pc : ℕ) → pc < 2 ^ 32 → fault_of pc (Unsound ((pc + 2) % 2 ^ 32)) ≡ 2
second_fault pc low = ap (λ x. if x then 1 else 2) (next_apart pc low)

-- a sound first parcel comes alone, or waits for the second
completes : (long r2 b : Bool) (pc p1 p2 : ℕ) (d counted : Dummy) → pc < 2 ^ 32
    → Comes (comes_by true r2 true long) true long b pc p1 p2 d counted
    (completed_by long p1 (parcel_by r2 b p2) pc d counted)
completes false r2 b pc p1 p2 d counted low = comes refl refl refl refl
completes true false b pc p1 p2 d counted low = nothing_comes refl refl refl refl
completes true true false pc p1 p2 d counted low =
    comes refl (ap (λ f. enters 0 pc 0 f) (sym (second_fault pc low))) refl refl
completes true true true pc p1 p2 d counted low = comes refl refl refl refl

-- what is fetched comes so
comes_of : (r1 r2 a b : Bool) (pc p1 p2 : ℕ) (d counted : Dummy) → pc < 2 ^ 32
    → Comes (comes_by r1 r2 a (is_long p1)) a (is_long p1) b pc p1 p2 d counted
    (fetched_by (parcel_by r1 a p1) (parcel_by r2 b p2) pc d counted)
unfolding fetched_by
comes_of false r2 a b pc p1 p2 d counted low = nothing_comes refl refl refl refl
comes_of true r2 false b pc p1 p2 d counted low =
    comes refl (ap (λ f. enters 0 pc 0 f) (sym (first_fault pc))) refl refl
comes_of true r2 true b pc p1 p2 d counted low = completes (is_long p1) r2 b pc p1 p2 d counted low

-- a parcel that isn't ready doesn't show
parcel_same : (r s b : Bool) (f p : ℕ) → (r ≡ true → s ≡ b) → (r ≡ true → f ≡ p) → parcel_by r s f ≡ parcel_by r b p
parcel_same true s b f p h k = ap₂ (parcel_by true) (h refl) (k refl)
parcel_same false s b f p h k = refl

-- so the parcels at the head come as the pair does
pub fetched_comes : (r1 s1 a r2 s2 b : Bool) (pc f1 p1 f2 p2 : ℕ) (d counted : Dummy) → pc < 2 ^ 32
    → (r1 ≡ true → s1 ≡ a) → (r1 ≡ true → f1 ≡ p1) → (r2 ≡ true → s2 ≡ b) → (r2 ≡ true → f2 ≡ p2)
    → Comes (comes_by r1 r2 a (is_long p1)) a (is_long p1) b pc p1 p2 d counted
    (fetched_by (parcel_by r1 s1 f1) (parcel_by r2 s2 f2) pc d counted)
fetched_comes r1 s1 a r2 s2 b pc f1 p1 f2 p2 d counted low h k m n =
    subst (λ e. Comes (comes_by r1 r2 a (is_long p1)) a (is_long p1) b pc p1 p2 d counted e)
    (sym (ap₂ (λ x y. fetched_by x y pc d counted) (parcel_same r1 s1 a f1 p1 h k) (parcel_same r2 s2 b f2 p2 m n)))
    (comes_of r1 r2 a b pc p1 p2 d counted low)
