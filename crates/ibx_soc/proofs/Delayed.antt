-- A delayed pair with one bit changed.
use Rattle.std.proofs.Common.{◌≡◌, ◌≢◌, ℕ, zero, suc, ◌<◌, List, [], ◌∷◌, slice_get, slice_set, Some, ap, ◌∙◌}
use Rattle.std.proofs.Common.{arith}
use Rattle.std.specs.Prelude.{◌==◌, if◌then◌else◌}
use Rattle.ibx_plan.specs.Sites.{slots}
use Rattle.std.proofs.lemmas.Bool.{lt-leb, ne_eqb}
use Rattle.ibx_core.specs.declared.state.State.{State}
use Rattle.ibx_core.specs.Flipped.{wire_flip}
use Rattle.ibx_core.specs.Wires.{InWires as In, OutWires as Out}
use Rattle.ibx_lockstep.specs.Paired.{Paired, with_delayed}
use Rattle.ibx_system.specs.Core.{core_parts}
use Rattle.ibx_system.specs.System.{Place}
use Rattle.ibx_system.specs.Flips.{changed_at, delay_flip}
use Rattle.ibx_soc.specs.Seen.{whole_in}

-- a wire of a pair has as many slots as the delay
pub slot_inside : (delay slot wire : ℕ) → wire < 36 → slot < slots delay wire → slot < delay
slot_inside delay slot wire low lt =
    let more : slots delay wire ≡ delay = ap (λ b. if b then 1 else delay) (lt-leb 36 wire low) in
    omega (arith, lt, more)

-- an entry of a list that is put back changed
changed_is : {A : Type 0} (change : A → A) (xs : List A) (n : ℕ) (x : A) → slice_get xs n ≡ Some x
    → slice_set xs n (change x) ≡ changed_at n change xs
changed_is change [] zero x e = cc
changed_is change [] (suc n) x e = cc
changed_is change (y ∷ ys) zero x e = let same : x ≡ y = cc in ap (λ z. change z ∷ ys) same
changed_is change (y ∷ ys) (suc n) x e = ap (λ zs. y ∷ zs) (changed_is change ys n x e)

-- a delayed pair in a slot is put back with a bit of a wire changed
pub with_wire : (p q : Paired State In Out) (place : Place) (slot wire k : ℕ) (x y : In × Out) → wire ≢ 36 → wire ≢ 37
    → q ≡ with_delayed p slot x → x ≡ wire_flip wire k y → slice_get p.delayed slot ≡ Some y
    → whole_in q place ≡ delay_flip core_parts (wire == 36) (wire == 37) slot wire k (whole_in p place)
unfolding core_parts
with_wire p q place slot wire k x y age told h e there =
    rw (ne_eqb wire 36 age, ne_eqb wire 37 told)
    (ap (λ (r : Paired State In Out). whole_in r place) h
    ∙ ap (λ (z : In × Out). whole_in (record p { delayed = slice_set p.delayed slot z }) place) e
    ∙ ap (λ (l : List (In × Out)). whole_in (record p { delayed = l }) place)
    (changed_is (wire_flip wire k) p.delayed slot y there))
