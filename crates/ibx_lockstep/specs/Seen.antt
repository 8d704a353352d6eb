-- A pair as its parts.
use Rattle.std.specs.Prelude.{ℕ, zero, suc, List, [], ◌∷◌}
use Rattle.ibx_lockstep.specs.declared.pair.Pair.{Pair}
use Rattle.ibx_lockstep.specs.declared.ring.Ring.{Ring}
use Rattle.ibx_lockstep.specs.Delays.{cycles_of}
use Rattle.ibx_lockstep.specs.Paired.{Paired}
use Rattle.ibx_lockstep.specs.Rings.{back_of}

-- the inputs and outputs of so many cycles up to now, the oldest first
abbrev pub delayed_pairs : {I O : Type 0} {d : ℕ} → Ring I d → Ring O d → ℕ → List (I × O)
delayed_pairs is os zero = []
delayed_pairs is os (suc k) = (back_of is (suc k), back_of os (suc k)) ∷ delayed_pairs is os k

-- the two cores, the inputs and outputs of as many cycles as the delay, the age, and what the cycle before found
abbrev pub seen : {S I O : Type 0} → Pair S I O → Paired S I O
seen p = record {
  delay = cycles_of p.delay;
  main = p.main;
  shadow = p.shadow;
  delayed = delayed_pairs p.inputs p.outputs (cycles_of p.delay);
  age = p.age;
  told = p.told;
}
