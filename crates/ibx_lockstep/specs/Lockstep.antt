-- Two cores of which the shadow is d cycles behind main, for every core and every d from 1 on, and what its comparator
-- notices.
-- Our own rule, as in the lockstep of dual cores with a delayed checker.
use Rattle.std.specs.Prelude.{◌≡◌, ℕ, zero, suc, ◌+◌, min, Bool, true, false, not, ◌&&◌, nat_le, if◌then◌else◌}
use Rattle.std.specs.Prelude.{List, [], ◌∷◌, ◌++◌, length, map, take, drop, replicate, Option, Some, None}
use Rattle.std.specs.List.{list_any, zip}

-- main and its shadow; the last d inputs, each with main's output for it, the oldest first; and the cycles since the
-- start, up to d
pub record Lockstep (S I O : Type 0) : Type 0 where
  pub main : S
  pub shadow : S
  pub delayed : List (I × O)
  pub age : ℕ

module _ {S I O : Type 0} where
  -- whether a core's output for the oldest input isn't the same as the oldest output
  abbrev pub differs : (S → I → O) → (O → O → Bool) → S → List (I × O) → Bool
  differs gives agree s [] = false
  differs gives agree s (x ∷ xs) = not (agree (gives s x.0) x.1)

  -- what the oldest input leaves of a core
  abbrev pub followed : (S → I → S) → S → List (I × O) → S
  followed leaves s [] = s
  followed leaves s (x ∷ xs) = leaves s x.0

  -- a difference is told where the age is at least d, and the shadow's output for the oldest input isn't the same as
  -- the oldest output
  abbrev pub is_told_after : ℕ → (S → I → O) → (O → O → Bool) → Lockstep S I O → Bool
  is_told_after d gives agree p = nat_le d p.age && differs gives agree p.shadow p.delayed

  -- after a cycle with main's input i and its output o: main has moved by i, the shadow by the oldest input where the
  -- age is at least d, the oldest pair is gone, i and o are the newest, and the age has risen by one up to d
  abbrev pub stepped_after : ℕ → (S → I → S) → Lockstep S I O → I → O → Lockstep S I O
  stepped_after d leaves p i o = record {
    main = leaves p.main i;
    shadow = if nat_le d p.age then followed leaves p.shadow p.delayed else p.shadow;
    delayed = drop 1 p.delayed ++ (i, o) ∷ [];
    age = min (p.age + 1) d;
  }

  -- with another core in main's place, where there is one
  abbrev pub replaced : Lockstep S I O → Option S → Lockstep S I O
  replaced p None = p
  replaced p (Some other) = record p { main = other }

  -- with another shadow, other delayed pairs and another age, where there are any
  abbrev pub disturbed : Lockstep S I O → Option (S × List (I × O) × ℕ) → Lockstep S I O
  disturbed p None = p
  disturbed p (Some x) = record p { shadow = x.0; delayed = x.1; age = x.2 }

-- the inputs of a list of turns; a turn is a change before a cycle, where there is one, and the input of the cycle
abbrev pub inputs : {A I : Type 0} → List (Option A × I) → List I
inputs turns = map (λ t. t.1) turns

-- turns that change nothing
abbrev pub unchanged : {A I : Type 0} → List I → List (Option A × I)
unchanged is = map (λ i. (None, i)) is

-- the outputs of a core that runs alone
abbrev pub outputs_alone : {S I O : Type 0} → (S → I → O) → (S → I → S) → S → List I → List O
outputs_alone gives leaves s [] = []
outputs_alone gives leaves s (i ∷ is) = gives s i ∷ outputs_alone gives leaves (leaves s i) is

-- where two lists of outputs aren't the same, cycle by cycle
abbrev pub differences : {O : Type 0} → (O → O → Bool) → List O → List O → List Bool
differences agree xs ys = map (λ p. not (agree p.0 p.1)) (zip xs ys)

-- the first n outputs are the same
abbrev pub SameFirst : {O : Type 0} → (O → O → Bool) → ℕ → List O → List O → Type 0
SameFirst agree zero xs ys = Unit {0}
SameFirst agree (suc n) (x ∷ xs) (y ∷ ys) = (agree x y ≡ true) × SameFirst agree n xs ys
SameFirst agree (suc n) xs ys = ⊥

-- no cycle tells a difference
abbrev pub IsSilent : List Bool → Type 0
IsSilent findings = list_any (λ told. told) findings ≡ false

module _ {S I O : Type 0} (d : ℕ) (gives : S → I → O) (leaves : S → I → S) where
  -- a cycle with main's own output, where main may be replaced before it
  abbrev pub after_turn : Lockstep S I O → Option S × I → Lockstep S I O
  after_turn p t = stepped_after d leaves (replaced p t.0) t.1 (gives (replaced p t.0).main t.1)

  -- main's outputs
  abbrev pub outputs : Lockstep S I O → List (Option S × I) → List O
  outputs p [] = []
  outputs p (t ∷ ts) = gives (replaced p t.0).main t.1 ∷ outputs (after_turn p t) ts

  -- what each cycle tells
  abbrev pub findings : (O → O → Bool) → Lockstep S I O → List (Option S × I) → List Bool
  findings agree p [] = []
  findings agree p (t ∷ ts) = is_told_after d gives agree (replaced p t.0) ∷ findings agree (after_turn p t) ts

  -- Whatever is put in main's place, and when: the first d cycles tell nothing, and each later one tells a difference
  -- exactly where main's output of d cycles before isn't the same as that of a core that started equal, was never
  -- replaced, and had the same inputs.
  abbrev pub TellsLater : (O → O → Bool) → Lockstep S I O → Type 0
  TellsLater agree p =
      (turns : List (Option S × I))
      → findings agree p turns ≡ take (length turns)
      (replicate d false ++ differences agree (outputs_alone gives leaves p.main (inputs turns)) (outputs p turns))

  -- main's outputs, where the shadow, the delayed pairs and the age may be changed before each cycle
  abbrev pub outputs_disturbed : Lockstep S I O → List (Option (S × List (I × O) × ℕ) × I) → List O
  outputs_disturbed p [] = []
  outputs_disturbed p (t ∷ ts) =
      gives p.main t.1 ∷ outputs_disturbed (stepped_after d leaves (disturbed p t.0) t.1 (gives p.main t.1)) ts

  -- Whatever is put in place of the shadow, the delayed pairs and the age, and when, main's outputs are those of a
  -- core that runs alone.
  abbrev pub KeepsMain : Lockstep S I O → Type 0
  KeepsMain p = (turns : List (Option (S × List (I × O) × ℕ) × I))
      → outputs_disturbed p turns ≡ outputs_alone gives leaves p.main (inputs turns)
