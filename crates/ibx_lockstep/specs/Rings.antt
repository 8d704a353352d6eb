-- A ring of the last d values that were pushed, d from 1 to 4, in four slots. Our own rule.
use Rattle.std.specs.Prelude.{ℕ, zero, suc, ◌+◌, ◌-◌, ◌%◌, ◌==◌, if◌then◌else◌, List, [], ◌∷◌}
use Rattle.ibx_lockstep.specs.declared.ring.Ring.{Ring}
use Rattle.ibx_lockstep.specs.declared.slots.Slots.{Slots}

module _ {T : Type 0} where
  -- the value of a slot, numbered from 0
  unfoldable pub slot : Slots T → ℕ → T
  slot s n = if n == 0 then s.first else if n == 1 then s.second else if n == 2 then s.third else s.fourth

  -- the slots with another value in one of them
  unfoldable pub put : Slots T → ℕ → T → Slots T
  put s n x =
      if n == 0 then record s { first = x } else if n == 1 then record s { second = x } else if n == 2
      then record s { third = x } else record s { fourth = x }

  -- the slots with one value in all of them
  abbrev pub filled : T → Slots T
  filled x = record { first = x; second = x; third = x; fourth = x; place = 0 }

  -- the value of the k-th push before now, at depth d
  unfoldable pub value_back : ℕ → Slots T → ℕ → T
  value_back d s k = slot s ((s.place + d - k) % d)

  -- the slots with another value in its place
  unfoldable pub with_value_back : ℕ → Slots T → ℕ → T → Slots T
  with_value_back d s k x = put s ((s.place + d - k) % d) x

  -- the slots after a push
  unfoldable pub after_push : ℕ → Slots T → T → Slots T
  after_push d s x = record (put s (s.place % d) x) { place = (s.place % d + 1) % d }

  -- the values from the k-th push before now on, so many of them
  abbrev pub values_back : ℕ → Slots T → ℕ → ℕ → List T
  values_back d s k zero = []
  values_back d s k (suc n) = value_back d s k ∷ values_back d s (suc k) n

module _ {T : Type 0} {d : ℕ} where
  -- the ring into which `x` alone was ever pushed
  abbrev pub fresh : T → Ring T d
  fresh x = record { slots = filled x }

  -- the value of the k-th push before now
  abbrev pub back_of : Ring T d → ℕ → T
  back_of r k = value_back d r.slots k

  -- the ring with another value in its place
  abbrev pub with_back : Ring T d → ℕ → T → Ring T d
  with_back r k x = record { slots = with_value_back d r.slots k x }

  -- the ring after a push
  abbrev pub pushed : Ring T d → T → Ring T d
  pushed r x = record { slots = after_push d r.slots x }

  -- the ring after a list of pushes, the newest of them first
  unfoldable pub after_pushes : Ring T d → List T → Ring T d
  after_pushes r [] = r
  after_pushes r (x ∷ xs) = pushed (after_pushes r xs) x

  -- the last d values, the newest first
  unfoldable pub recent : Ring T d → List T
  recent r = values_back d r.slots 1 d
