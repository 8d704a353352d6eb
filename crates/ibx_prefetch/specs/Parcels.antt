-- The buffer as a queue of parcels, the rule of its requests, and the order of both over a run. Our own rule.
use Rattle.std.specs.Prelude.{◌≡◌, ℕ, ◌+◌, ◌*◌, ◌/◌, ◌%◌, ◌^◌, ◌<◌, ◌≤◌, Bool, true, false, not, ◌&&◌, ◌||◌, ◌==◌}
use Rattle.std.specs.Prelude.{if◌then◌else◌, List, [], ◌∷◌, ◌++◌, take, drop, length, Option, Some, None}
use Rattle.ibx_prefetch.specs.declared.buffer.Prefetch.{Prefetch}
use Rattle.ibx_prefetch.specs.declared.buffer.WordAns.{WordAns}
use Rattle.ibx_prefetch.specs.declared.buffer.Parcel.{Parcel}
use Rattle.ibx_prefetch.specs.declared.buffer.Head.{Head}
use Rattle.ibx_prefetch.specs.Buffer.{entry_of, held_word, is_turn}

-- each field has the bits of its width: 32 for an address, 33 for a word with its error, and 2 for their count
pub record IsWithin (f : Prefetch) : Type 0 where
  pub f_addr : f.f_addr < 2 ^ 32
  pub buf0 : f.buf0 < 2 ^ 33
  pub buf1 : f.buf1 < 2 ^ 33
  pub buf2 : f.buf2 < 2 ^ 33
  pub buf_count : f.buf_count ≤ 3
  pub head_pc : f.head_pc < 2 ^ 32

-- ---- the queue

-- the words that are held, the oldest in front
abbrev pub words_of : Prefetch → List ℕ
words_of f = take f.buf_count (f.buf0 ∷ f.buf1 ∷ f.buf2 ∷ [])

-- a half of a word with its error: 0 is the low half, which is at the lower address
abbrev pub half_of : ℕ → ℕ → Parcel
half_of word half = record { ready = true; err = not (word / 2 ^ 32 == 0); half = word / 2 ^ (16 * half) % 2 ^ 16 }

-- the parcels of words that follow each other
unfoldable pub parcels_in : List ℕ → List Parcel
parcels_in [] = []
parcels_in (word ∷ words) = half_of word 0 ∷ half_of word 1 ∷ parcels_in words

-- the parcels of these words from a byte address in the first of them on
abbrev pub parcels_from : ℕ → List ℕ → List Parcel
parcels_from pc words = drop (pc / 2 % 2) (parcels_in words)

-- the parcels that are held
abbrev pub parcels_of : Prefetch → List Parcel
parcels_of f = parcels_from f.head_pc (words_of f)

-- the word that comes in a cycle: an answer, unless it is dropped
abbrev pub came : Bool → Bool → ℕ → List ℕ
came valid drops entry = if valid && not drops then entry ∷ [] else []

-- the parcels that can be taken in a cycle: of the words held and the one that comes, of which there is room for
-- three; none at a redirect
abbrev pub offered : WordAns → Option ℕ → Prefetch → List Parcel
offered ans None f =
    parcels_from f.head_pc (take 3 (words_of f ++ came ans.valid f.f_drop (entry_of ans.err ans.word)))
offered ans (Some target) f = []

-- a parcel that is ready
abbrev pub ready_of : Parcel → Option Parcel
ready_of p = if p.ready then Some p else None

-- ---- the rule of requests

-- a request is outstanding that isn't answered in this cycle
abbrev pub is_waiting : WordAns → Prefetch → Bool
is_waiting ans f = f.f_busy && not ans.valid

-- the words that are held with the one that comes
abbrev pub filled : WordAns → Prefetch → ℕ
filled ans f = length (words_of f ++ came ans.valid f.f_drop (entry_of ans.err ans.word))

-- Nothing is requested while a request is outstanding. Else the first word after a redirect is the target's, requested
-- at once, and each further one follows the last, where fewer than three words are held.
pub record Issues (ans : WordAns) (redirect : Option ℕ) (f : Prefetch) (request : Option ℕ) : Type 0 where
  pub waits : is_waiting ans f ≡ true → request ≡ None
  pub turns : (target : ℕ) → is_waiting ans f ≡ false → redirect ≡ Some target → request ≡ Some (target / 4 * 4)
  pub begins : is_waiting ans f ≡ false → redirect ≡ None → f.f_fresh ≡ true → request ≡ Some (f.head_pc / 4 * 4)
  pub follows : is_waiting ans f ≡ false → redirect ≡ None → f.f_fresh ≡ false → filled ans f < 3
      → request ≡ Some ((f.f_addr / 4 * 4 + 4) % 2 ^ 32)
  pub full : is_waiting ans f ≡ false → redirect ≡ None → f.f_fresh ≡ false → 3 ≤ filled ans f → request ≡ None

-- ---- the order over a run

-- the address of word k from the one that holds the next parcel
abbrev pub place : Prefetch → ℕ → ℕ
place f k = (f.head_pc / 4 * 4 + 4 * k) % 2 ^ 32

-- the words that are awaited, and those that are held or awaited
abbrev pub awaited : Bool → Bool → ℕ
awaited busy drops = if busy && not drops then 1 else 0

-- how many words are held or awaited
abbrev pub asked : Prefetch → ℕ
asked f = f.buf_count + awaited f.f_busy f.f_drop

-- Each word that is held is what answers for its address, in the order of addresses from the next parcel's on, and the
-- word that was requested last is the last of those held or awaited. `words` is what answers for each address, with
-- its error in bit 32.
pub record IsInOrder (words : ℕ → ℕ) (f : Prefetch) : Type 0 where
  pub held : (k : ℕ) → k < f.buf_count → held_word f k ≡ words (place f k)
  pub room : asked f ≤ 3
  pub fresh : f.f_fresh ≡ true → asked f ≡ 0
  pub last : f.f_fresh ≡ false → (f.f_addr + 4) % 2 ^ 32 ≡ place f (asked f)
  pub drops : f.f_drop ≡ true → f.f_busy ≡ true
  pub aligned : f.f_addr % 4 ≡ 0

-- an answer that isn't dropped is that of the word that is outstanding
abbrev pub AnswersFor : (ℕ → ℕ) → WordAns → Option ℕ → Prefetch → Type 0
AnswersFor words ans redirect f = ans.valid ≡ true → (f.f_drop || is_turn redirect) ≡ false
    → (f.f_busy ≡ true) × (entry_of ans.err ans.word ≡ words f.f_addr)

-- the parcel at an address
abbrev pub parcel_by : (ℕ → ℕ) → ℕ → Parcel
parcel_by words pc = half_of (words (pc / 4 * 4)) (pc / 2 % 2)

-- the parcels that are ready are those at the program counter and after it
pub record OffersFrom (words : ℕ → ℕ) (pc : ℕ) (head : Head) : Type 0 where
  pub first : head.first.ready ≡ true → head.first ≡ parcel_by words pc
  pub second : head.second.ready ≡ true → head.second ≡ parcel_by words ((pc + 2) % 2 ^ 32)

-- whatever answers for each address, the head shows the parcels in order, and a cycle keeps the order
abbrev pub ShowsInOrder : WordAns → Prefetch → Head → Type 0
ShowsInOrder ans f head =
    (words : ℕ → ℕ) → IsWithin f → IsInOrder words f → AnswersFor words ans None f → OffersFrom words f.head_pc head

-- whatever answers for each address, a cycle of ordered words, of which no more parcels are taken than are offered,
-- leaves them in order
abbrev pub KeepsOrder : WordAns → Option ℕ → ℕ → Prefetch → Prefetch → Type 0
KeepsOrder ans redirect taken before after =
    (words : ℕ → ℕ) → IsWithin before → IsInOrder words before → AnswersFor words ans redirect before → taken ≤ 2
    → taken ≤ length (offered ans redirect before) → IsInOrder words after
