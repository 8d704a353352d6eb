-- The words of the cache, the walk and the enable bit, against the stored lines, the FENCE.Is and the switches.
use Rattle.std.proofs.Common.{◌≡◌, ℕ, ◌+◌, ◌-◌, ◌*◌, ◌/◌, ◌^◌, ◌<◌, min, Bool, true, false, List, [], ◌∷◌, length}
use Rattle.std.proofs.Common.{if◌then◌else◌, slice_index, Some, None, All, Option}
use Rattle.ibx_time_invariant.proofs.Fetches.{is_unmapped, word_in}
use Rattle.ibx_time.specs.Settings.{Setup}
pub use Rattle.ibx_time.proofs.Walks.{IsLog, starts}
use Rattle.ibx_time.specs.Requests.{Fill, Switch, enabled_at, last_fill, none_between, other_way}
use Rattle.ibx_time.specs.Memories.{Write}
use Rattle.ibx_secded.specs.Code.{encode_of}

-- ---- the walk through the cache

-- the walk has cleared a set in each cycle since then, up to all 256
pub record WalkAt (fs : List ℕ) (c walk : ℕ) : Type 0 where
  pub log : IsLog fs c
  pub walk_is : walk ≡ min (c - starts fs) 256

-- in cycle c after the done: with a FENCE.I in it, or without
pub data WalkMid (fs : List ℕ) (c : ℕ) (fence : Bool) (walk : ℕ) : Type 0 where
  walks : fence ≡ false → WalkAt fs c walk → WalkMid fs c fence walk
  restarts : (old : List ℕ) → fs ≡ c ∷ old → fence ≡ true → WalkAt old c walk → WalkMid fs c fence walk

-- ---- icache_enable before cycle c, and in it after the done: as the events before left it, and as the next cycle
-- sees it

-- all switches are before c
abbrev pub IsRecent : List Switch → ℕ → Type 0
IsRecent [] c = Unit {0}
IsRecent (w ∷ ss) c = (w.time < c) × IsRecent ss c

-- before cycle c the bit is as the switches left it
pub record EnableAt (ss : List Switch) (c : ℕ) (enable : Bool) : Type 0 where
  pub enabled : enable ≡ enabled_at ss c
  pub recent : IsRecent ss c

-- in cycle c the bit is as before it, and the next one is as the next cycle sees it
pub record EnableMid (ss : List Switch) (c : ℕ) (enable next : Bool) : Type 0 where
  pub enabled : enable ≡ enabled_at ss c
  pub follows : next ≡ enabled_at ss (c + 1)
  pub recent : IsRecent ss (c + 1)

-- ---- the tags and the data words

-- what the tag of a place says: its line where the last fill stands, and else that it is empty
abbrev pub tag_of : List ℕ → ℕ → Option Fill → ℕ
tag_of fs c None = 0
tag_of fs c (Some x) = if none_between fs x.time c then 2 ^ 21 + x.line / 256 else 0

-- the fills were stored before c, their grants before that, and their lines are below 2 ^ 29
abbrev pub IsOld : List Fill → ℕ → Type 0
IsOld [] c = Unit {0}
IsOld (x ∷ fills) c = (x.time < c) × (x.grant0 < x.time) × (x.grant1 < x.time) × (x.line < 2 ^ 29) × IsOld fills c

-- memory answers for both words of each line that was stored
abbrev pub AreMapped : Setup → List Fill → Type 0
AreMapped s [] = Unit {0}
AreMapped s (x ∷ fills) =
    (is_unmapped s (8 * x.line) ≡ false) × (is_unmapped s (8 * x.line + 4) ≡ false) × AreMapped s fills

-- a codeword
pub record IsCode (width check word : ℕ) : Type 0 where
  pub payload : ℕ
  pub low : payload < 2 ^ width
  pub is_code : word ≡ encode_of width check payload

-- In cycle c with the FENCE.Is before it, where the lines were stored before e. The walk has cleared the tags below
-- it, and no line stands while it goes on.
pub record CacheAt (s : Setup) (log : List Write) (fs : List ℕ) (fills : List Fill) (c e walk : ℕ) (alt : Bool)
    (tags lines : List ℕ) : Type 0 where
  pub tag_count : length tags ≡ 512
  pub line_count : length lines ≡ 1024
  pub tag_codes : All (λ w. IsCode 22 6 w) tags
  pub line_codes : All (λ w. IsCode 32 7 w) lines
  pub tag : (n : ℕ) → n < 512 → n < 2 * walk → slice_index tags n ≡ encode_of 22 6 (tag_of fs c (last_fill fills n))
  pub word0 : (n : ℕ) (x : Fill) → n < 512 → last_fill fills n ≡ Some x
      → slice_index lines (2 * n) ≡ encode_of 32 7 (word_in s log x.grant0 (8 * x.line))
  pub word1 : (n : ℕ) (x : Fill) → n < 512 → last_fill fills n ≡ Some x
      → slice_index lines (2 * n + 1) ≡ encode_of 32 7 (word_in s log x.grant1 (8 * x.line + 4))
  pub quiet : walk < 256 → (n : ℕ) → tag_of fs c (last_fill fills n) ≡ 0
  pub old : IsOld fills e
  pub mapped : AreMapped s fills
  pub alt_is : alt ≡ other_way fills

-- the tags of the set that the walk clears in this cycle
pub record Cleared (walk : ℕ) (tags : List ℕ) : Type 0 where
  pub lower : walk < 256 → slice_index tags (2 * walk) ≡ encode_of 22 6 0
  pub upper : walk < 256 → slice_index tags (2 * walk + 1) ≡ encode_of 22 6 0
