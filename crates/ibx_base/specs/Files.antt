-- What files mean, where they tell it: the bytes of each name, and the file that was begun.
use Rattle.std.specs.Prelude.{⊤, ◌≡◌, ℕ, ◌<◌, ◌≤◌, List, ◌++◌, length, take, drop, Option, Some, None, IsSome}
use Rattle.std.specs.Prelude.{IsSomeAnd, IfSome, MatchOption}
use Rattle.std.specs.Option.{option_map}
use Rattle.ibx_base.specs.Counts.{Rose}

-- the bytes of each name that is there
abbrev pub Contents : Type 0
Contents = List ℕ → Option (List ℕ)

-- the file that was begun, and the bytes of it that are left
pub record Begun : Type 0 where
  pub name : List ℕ
  pub left : List ℕ

-- the file of this name with all its bytes left
abbrev pub whole_file : List ℕ → List ℕ → Begun
whole_file name bytes = record { name = name; left = bytes }

-- where the names are told, the name is there, and its file is begun with all its bytes left
abbrev pub Begins : Option Contents → List ℕ → Option Begun → Type 0
Begins None name begun = begun ≡ None
Begins (Some contents) name begun = IsSome (contents name) × (begun ≡ option_map (whole_file name) (contents name))

-- the count of misses rises exactly where the names are told and this one isn't there
abbrev pub CountsMiss : Option Contents → List ℕ → ℕ → ℕ → Type 0
CountsMiss None name before after = after ≡ before
CountsMiss (Some contents) name before after = MatchOption (contents name) (Rose before after) (λ _. after ≡ before)

-- so many bytes left the front of the file for the front of the buffer, and some where there were any and room for one
pub record Reads (begun : Begun) (buffer : List ℕ) (count : ℕ) (after : Option Begun) (filled : List ℕ) : Type 0 where
  pub left : after ≡ Some (whole_file begun.name (drop count begun.left))
  pub front : filled ≡ take count begun.left ++ drop count buffer
  pub within : count ≤ length begun.left
  pub progress : 0 < length buffer → 0 < length begun.left → 0 < count

-- a read takes the next bytes of the begun file, and none where none is begun
abbrev pub ReadsFrom : Option Begun → List ℕ → ℕ → Option Begun → List ℕ → Type 0
ReadsFrom None buffer count after filled = after ≡ None
ReadsFrom (Some begun) buffer count after filled = Reads begun buffer count after filled

-- where the names are told, these are the bytes of the name
abbrev pub IsContent : Option Contents → List ℕ → List ℕ → Type 0
IsContent told name bytes = MatchOption told ⊤ (λ contents. contents name ≡ Some bytes)

-- where the names are told, the name has more bytes than the limit
abbrev pub IsLonger : Option Contents → List ℕ → ℕ → Type 0
IsLonger told name limit = MatchOption told ⊤ (λ contents. IsSomeAnd (contents name) (λ bytes. limit < length bytes))

-- a begun file has this name
abbrev pub IsBegunAs : List ℕ → Option Begun → Type 0
IsBegunAs name begun = IfSome begun (λ file. file.name ≡ name)

-- what was read since, and what is left
abbrev pub HasRead : Option Begun → List ℕ → Option Begun → Type 0
HasRead None bytes after = after ≡ None
HasRead (Some begun) bytes after =
    (left : List ℕ) × ((after ≡ Some (whole_file begun.name left)) × (begun.left ≡ bytes ++ left))
