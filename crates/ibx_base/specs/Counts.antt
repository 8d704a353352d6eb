-- A count of faults: a number of 64 bits that stands still at its end.
use Rattle.std.specs.Prelude.{ℕ, ◌+◌, ◌-◌, ◌^◌, ◌≤◌, min, Result, OnErr}

-- the greatest number of 64 bits, at which a count stands still
abbrev pub last_count : ℕ
last_count = 2 ^ 64 - 1

-- one more, as far as the type goes
abbrev pub raised : ℕ → ℕ
raised count = min (count + 1) last_count

-- the count rose, or stands at its last value
abbrev pub Rose : ℕ → ℕ → Type 0
Rose before after = raised before ≤ after

-- the count never falls, and a failure is counted
pub record HasCause {T E : Type 0} (before after : ℕ) (result : Result T E) : Type 0 where
  pub never_falls : before ≤ after
  pub failure : OnErr result (Rose before after)
