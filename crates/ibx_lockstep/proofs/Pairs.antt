-- The delayed pairs of a pair: filled, after a push, and after one is set.
use Rattle.std.proofs.Common.{◌≡◌, ℕ, zero, suc, ◌+◌, ◌-◌, ◌<◌, ◌≤◌, min, Bool, false, not, [], ◌∷◌, ◌++◌, drop}
use Rattle.std.proofs.Common.{length, replicate, slice_get, slice_set, Some, refl, ap, sym, ◌∙◌, arith}
use Rattle.std.specs.Prelude.{◌&&◌, nat_le, if◌then◌else◌}
use Rattle.std.proofs.lemmas.Bool.{le-leb, lt-leb}
use Rattle.ibx_lockstep.specs.declared.delay.Delay.{Delay}
use Rattle.ibx_lockstep.specs.declared.delay.Delay.TheVariants.{One, Two, Three, Four}
use Rattle.ibx_lockstep.specs.declared.pair.Pair.{Pair}
use Rattle.ibx_lockstep.specs.declared.ring.Ring.{Ring}
use Rattle.ibx_lockstep.specs.Delays.{cycles_of}
use Rattle.ibx_lockstep.specs.Lockstep.{differs, followed}
use Rattle.ibx_lockstep.specs.Paired.{finds, given, stepped, with_delayed}
use Rattle.ibx_lockstep.specs.Rings.{back_of, fresh, pushed, with_back}
use Rattle.ibx_lockstep.specs.Seen.{delayed_pairs, seen}
use Rattle.ibx_lockstep.proofs.Rings.{here, newest, older, others, value-filled}

-- a delay is from 1 to 4 cycles
pub some_cycles : (delay : Delay) → 1 ≤ cycles_of delay
some_cycles One = omega arith
some_cycles Two = omega arith
some_cycles Three = omega arith
some_cycles Four = omega arith

-- it is at most 4
pub four_cycles : (delay : Delay) → cycles_of delay ≤ 4
four_cycles One = omega arith
four_cycles Two = omega arith
four_cycles Three = omega arith
four_cycles Four = omega arith

-- the pairs of two rings of some depth
module _ {I O : Type 0} (d : ℕ) where
  -- rings that were filled with one input and one output have these in each pair
  pub pairs-fresh : (i : I) (o : O) (k : ℕ) → 1 ≤ d → d ≤ 4
      → delayed_pairs {d = d} (fresh i) (fresh o) k ≡ replicate k (i, o)
  pairs-fresh i o zero some four = refl
  pairs-fresh i o (suc k) some four =
      λ t. (value-filled d i (suc k) some four t, value-filled d o (suc k) some four t)
      ∷ pairs-fresh i o k some four t

  -- there are as many as are asked for
  pub pairs-length : (is : Ring I d) (os : Ring O d) (k : ℕ) → length (delayed_pairs is os k) ≡ k
  pairs-length is os zero = refl
  pairs-length is os (suc k) = ap suc (pairs-length is os k)

  -- after a push the oldest pair is gone, and the pushed one stands behind the others
  pub pairs-pushed : (is : Ring I d) (os : Ring O d) (i : I) (o : O) (k : ℕ) → d ≤ 4 → k < d
      → delayed_pairs (pushed is i) (pushed os o) (suc k) ≡ delayed_pairs is os k ++ (i, o) ∷ []
  pairs-pushed is os i o zero four less =
      λ t. (newest d is.slots i (omega arith) four t, newest d os.slots o (omega arith) four t) ∷ []
  pairs-pushed is os i o (suc k) four less =
      let j : suc (suc k) - 1 ≡ suc k = omega arith in
      let input : back_of (pushed is i) (suc (suc k)) ≡ back_of is (suc k) =
      older d is.slots i (suc (suc k)) four (omega arith) (omega arith) ∙ ap (back_of is) j in
      let output : back_of (pushed os o) (suc (suc k)) ≡ back_of os (suc k) =
      older d os.slots o (suc (suc k)) four (omega arith) (omega arith) ∙ ap (back_of os) j in
      λ t. (input t, output t) ∷ pairs-pushed is os i o k four (omega arith) t

  -- a pair that is set stays out of the newer ones
  pairs-newer : (is : Ring I d) (os : Ring O d) (j : ℕ) (i : I) (o : O) (k : ℕ) → d ≤ 4 → j ≤ d → k < j
      → delayed_pairs (with_back is j i) (with_back os j o) k ≡ delayed_pairs is os k
  pairs-newer is os j i o zero four kept less = refl
  pairs-newer is os j i o (suc k) four kept less =
      let some : 1 ≤ j = omega arith in
      λ t. (
        others d is.slots j (suc k) i four some kept (omega arith) (omega arith) (λ e. omega arith) t,
        others d os.slots j (suc k) o four some kept (omega arith) (omega arith) (λ e. omega arith) t,
      )
      ∷ pairs-newer is os j i o k four kept (omega arith) t

  -- a pair that is set is the one in its slot, and no other pair changes
  pub pairs-set : (is : Ring I d) (os : Ring O d) (j : ℕ) (i : I) (o : O) (k slot : ℕ) → d ≤ 4 → 1 ≤ j → k ≤ d
      → j + slot ≡ k
      → delayed_pairs (with_back is j i) (with_back os j o) k ≡ slice_set (delayed_pairs is os k) slot (i, o)
  pairs-set is os j i o zero slot four some kept e = absurd (omega arith)
  pairs-set is os j i o (suc k) zero four some kept e =
      let same : suc k ≡ j = omega arith in
      let input : back_of (with_back is j i) (suc k) ≡ i =
      ap (back_of (with_back is j i)) same ∙ here d is.slots j i (omega arith) four in
      let output : back_of (with_back os j o) (suc k) ≡ o =
      ap (back_of (with_back os j o)) same ∙ here d os.slots j o (omega arith) four in
      λ t. (input t, output t) ∷ pairs-newer is os j i o k four (omega arith) (omega arith) t
  pairs-set is os j i o (suc k) (suc slot) four some kept e =
      λ t. (
        others d is.slots j (suc k) i four some (omega arith) (omega arith) kept (λ h. omega arith) t,
        others d os.slots j (suc k) o four some (omega arith) (omega arith) kept (λ h. omega arith) t,
      )
      ∷ pairs-set is os j i o k slot four some (omega arith) (omega arith) t

  -- the pair in a slot
  pub pairs-get : (is : Ring I d) (os : Ring O d) (j k slot : ℕ) → 1 ≤ j → j + slot ≡ k
      → slice_get (delayed_pairs is os k) slot ≡ Some (back_of is j, back_of os j)
  pairs-get is os j zero slot some e = absurd (omega arith)
  pairs-get is os j (suc k) zero some e =
      let same : suc k ≡ j = omega arith in ap (λ n. Some (back_of is n, back_of os n)) same
  pairs-get is os j (suc k) (suc slot) some e = pairs-get is os j k slot some (omega arith)

-- the oldest pair of a pair of cores
module _ {S I O : Type 0} (is : Ring I 4) (os : Ring O 4) where
  -- whether it differs
  pub oldest_differs : (gives : S → I → O) (agree : O → O → Bool) (s : S) (k : ℕ) → 1 ≤ k
      → differs gives agree s (delayed_pairs is os k) ≡ not (agree (gives s (back_of is k)) (back_of os k))
  oldest_differs gives agree s zero some = absurd (omega arith)
  oldest_differs gives agree s (suc k) some = refl

  -- what it leaves of a core
  pub oldest_followed : (leaves : S → I → S) (s : S) (k : ℕ) → 1 ≤ k
      → followed leaves s (delayed_pairs is os k) ≡ leaves s (back_of is k)
  oldest_followed leaves s zero some = absurd (omega arith)
  oldest_followed leaves s (suc k) some = refl

  -- and what the core puts out for it
  pub oldest_given : (gives : S → I → O) (s : S) (k : ℕ) (o : O) → 1 ≤ k
      → given gives s (delayed_pairs is os k) o ≡ gives s (back_of is k)
  oldest_given gives s zero o some = absurd (omega arith)
  oldest_given gives s (suc k) o some = refl

-- a pair of cores as its parts
module _ {S I O : Type 0} where
  -- a new pair
  pub seen_new : (main shadow : S) (delay : Delay) (i : I) (o : O)
      → (let p : Pair S I O = record {
        main = main;
        shadow = shadow;
        inputs = fresh i;
        outputs = fresh o;
        delay = delay;
        age = 0;
        told = false;
      } in seen p)
      ≡ record {
        delay = cycles_of delay;
        main = main;
        shadow = shadow;
        delayed = replicate (cycles_of delay) (i, o);
        age = 0;
        told = false;
      }
  seen_new main shadow delay i o =
      λ t. record {
        delay = cycles_of delay;
        main = main;
        shadow = shadow;
        delayed = pairs-fresh 4 i o (cycles_of delay) (omega arith) (omega arith) t;
        age = 0;
        told = false;
      }

  -- the pair with another delayed pair in a slot
  pub set_delayed : (p : Pair S I O) (slot : ℕ) (i : I) (o : O) → slot < cycles_of p.delay
      → seen (record p {
        inputs = with_back p.inputs (cycles_of p.delay - slot) i;
        outputs = with_back p.outputs (cycles_of p.delay - slot) o;
      })
      ≡ with_delayed (seen p) slot (i, o)
  set_delayed p slot i o less =
      let four : cycles_of p.delay ≤ 4 = four_cycles p.delay in
      λ t. record (seen p) {
        delayed = pairs-set 4 p.inputs p.outputs (cycles_of p.delay - slot) i o (cycles_of p.delay) slot (omega arith)
            (omega arith) four (omega arith) t;
      }

  module _ (gives : S → I → O) (agree : O → O → Bool) where
    -- from the age of the delay on, what is found is a difference of the oldest pair
    pub found_is : (p : Pair S I O) → cycles_of p.delay ≤ p.age
        → finds gives agree (seen p)
        ≡ not (agree (gives p.shadow (back_of p.inputs (cycles_of p.delay))) (back_of p.outputs (cycles_of p.delay)))
    unfolding finds
    found_is p full =
        ap (λ b. b && differs gives agree p.shadow (seen p).delayed) (le-leb (cycles_of p.delay) p.age full)
        ∙ oldest_differs p.inputs p.outputs gives agree p.shadow (cycles_of p.delay) (some_cycles p.delay)

    -- before it nothing is found
    pub not_found : (p : Pair S I O) → p.age < cycles_of p.delay → finds gives agree (seen p) ≡ false
    unfolding finds
    not_found p young =
        ap (λ b. b && differs gives agree p.shadow (seen p).delayed) (lt-leb (cycles_of p.delay) p.age young)

    -- the delayed pairs after a cycle
    pairs_moved : (is : Ring I 4) (os : Ring O 4) (i : I) (o : O) (k : ℕ) → 1 ≤ k → k ≤ 4
        → delayed_pairs (pushed is i) (pushed os o) k ≡ drop 1 (delayed_pairs is os k) ++ (i, o) ∷ []
    pairs_moved is os i o zero some four = absurd (omega arith)
    pairs_moved is os i o (suc k) some four = pairs-pushed 4 is os i o k (omega arith) (omega arith)

    -- a pair after a cycle
    pub moved : (leaves : S → I → S) (p : Pair S I O) (i : I) (o : O)
        → seen (record p {
          main = leaves p.main i;
          shadow = (if nat_le (cycles_of p.delay) p.age
              then leaves p.shadow (back_of p.inputs (cycles_of p.delay)) else p.shadow);
          inputs = pushed p.inputs i;
          outputs = pushed p.outputs o;
          age = min (p.age + 1) (cycles_of p.delay);
          told = finds gives agree (seen p);
        })
        ≡ stepped gives agree leaves (seen p) i o
    unfolding stepped
    moved leaves p i o =
        let full = nat_le (cycles_of p.delay) p.age in
        let shadows : (if full then leaves p.shadow (back_of p.inputs (cycles_of p.delay)) else p.shadow)
        ≡ (if full then followed leaves p.shadow (seen p).delayed else p.shadow) =
        ap (λ (s : S). if full then s else p.shadow)
        (sym (oldest_followed p.inputs p.outputs leaves p.shadow (cycles_of p.delay) (some_cycles p.delay))) in
        let pairs = pairs_moved p.inputs p.outputs i o (cycles_of p.delay) (some_cycles p.delay)
        (four_cycles p.delay) in
        λ t. record (stepped gives agree leaves (seen p) i o) { shadow = shadows t; delayed = pairs t }
