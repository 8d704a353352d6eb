-- A pair of cores whose shadow is a chosen delay behind main: its parts, what it finds, and what a cycle leaves. Our
-- own rule, as in the lockstep of dual cores with a delayed checker.
use Rattle.std.specs.Prelude.{ℕ, ◌+◌, min, Bool, nat_le, if◌then◌else◌, List, [], ◌∷◌, ◌++◌, drop, slice_set}
use Rattle.ibx_lockstep.specs.Lockstep.{Lockstep, followed, is_told_after}

-- the shadow is the delay behind main; the delayed pairs are the last inputs, each with main's output for it, as many
-- as the delay and the oldest first; the age counts the cycles since the start, up to the delay; and told says whether
-- the cycle before found a difference
pub record Paired (S I O : Type 0) : Type 0 where
  pub delay : ℕ
  pub main : S
  pub shadow : S
  pub delayed : List (I × O)
  pub age : ℕ
  pub told : Bool

module _ {S I O : Type 0} where
  -- the same as the laws of any delay name it, without what was found
  abbrev pub lockstep_of : Paired S I O → Lockstep S I O
  lockstep_of p = record { main = p.main; shadow = p.shadow; delayed = p.delayed; age = p.age }

  -- a difference is found where the age is at least the delay, and the shadow's output for the oldest input isn't the
  -- same as the oldest output
  unfoldable pub finds : (S → I → O) → (O → O → Bool) → Paired S I O → Bool
  finds gives agree p = is_told_after p.delay gives agree (lockstep_of p)

  -- after a cycle with main's input i and its output o: main has moved by i, the shadow by the oldest input where the
  -- age is at least the delay, the oldest pair is gone, i and o are the newest, the age has risen by one up to the
  -- delay, and what was found is told next
  unfoldable pub stepped : (S → I → O) → (O → O → Bool) → (S → I → S) → Paired S I O → I → O → Paired S I O
  stepped gives agree leaves p i o = record p {
    main = leaves p.main i;
    shadow = if nat_le p.delay p.age then followed leaves p.shadow p.delayed else p.shadow;
    delayed = drop 1 p.delayed ++ (i, o) ∷ [];
    age = min (p.age + 1) p.delay;
    told = finds gives agree p;
  }

  -- the pair with another delayed pair in a slot; slot 0 is the oldest
  abbrev pub with_delayed : Paired S I O → ℕ → I × O → Paired S I O
  with_delayed p slot x = record p { delayed = slice_set p.delayed slot x }

  -- a core's output for the oldest input, or this one where there is none
  abbrev pub given : (S → I → O) → S → List (I × O) → O → O
  given gives s [] o = o
  given gives s (x ∷ xs) o = gives s x.0
