-- What is longer than a limit.
use Rattle.std.proofs.Common.{◌≡◌, ℕ, ◌+◌, ◌<◌, List, Option, Some, None, length, replicate, refl, arith}
use Rattle.std.specs.Prelude.{IsSomeAnd}
use Rattle.std.proofs.lemmas.List.{length-replicate}
use Rattle.ibx_base.specs.Files.{Contents, IsContent, IsLonger}

-- there are more bytes than any limit
some_longer : (limit : ℕ) → (bytes : List ℕ) × (limit < length bytes)
some_longer limit = (replicate (limit + 1) 0, omega (arith, length-replicate {A = ℕ} (limit + 1) 0))

-- the content of a told name, where it is longer than a limit
longer_at : (contents : Contents) (name : List ℕ) (limit : ℕ) (content : Option (List ℕ)) → contents name ≡ content →
    IsSomeAnd content (λ bytes. limit < length bytes)
    → (bytes : List ℕ) × (IsContent (Some contents) name bytes × (limit < length bytes))
longer_at contents name limit None e h = absurd h
longer_at contents name limit (Some bytes) e h = (bytes, (e, h))

-- what is told to be longer than a limit has bytes that are
pub longer_content : (told : Option Contents) (name : List ℕ) (limit : ℕ) → IsLonger told name limit → (bytes : List ℕ)
    × (IsContent told name bytes × (limit < length bytes))
longer_content None name limit h = let (bytes, more) = some_longer limit in (bytes, (tt, more))
longer_content (Some contents) name limit h = longer_at contents name limit (contents name) refl h
