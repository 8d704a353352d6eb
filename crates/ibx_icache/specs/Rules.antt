-- The rules of the cache and of its word port, each apart from how a cycle is worked out. A way is way 1 where it is
-- `true`.
-- Our own rule.
use Rattle.std.specs.Prelude.{◌≡◌, ◌≢◌, ℕ, zero, suc, ◌+◌, ◌/◌, ◌%◌, ◌^◌, ◌<◌, ◌≤◌, Bool, true, false}
use Rattle.ibx_isa.specs.declared.bus.Req.{Req}
use Rattle.ibx_secded.specs.Code.{encode_of, payload_of, syndrome_of}
use Rattle.ibx_prefetch.specs.declared.buffer.WordAns.{WordAns}
use Rattle.ibx_icache.specs.declared.lookup.Look.{Look}
use Rattle.ibx_icache.specs.declared.port.WordPort.{WordPort}
use Rattle.ibx_icache.specs.declared.wires.CacheOut.{CacheOut}
use Rattle.ibx_isa.specs.Wires.{fetch_wires, no_request}
use Rattle.ibx_icache.specs.WordPort.{WordIn, answer_of, word_port_next}

-- ---- the lookup

-- the tag of a way, and the word of its line at the address
abbrev pub tag_in : Look → Bool → ℕ
tag_in l false = l.tag0
tag_in l true = l.tag1

-- the data word that was read of a way
abbrev pub word_in_way : Look → Bool → ℕ
word_in_way l false = l.data0
word_in_way l true = l.data1

-- a way matches an address where its payload is a valid bit above bits 31:11 of the address
abbrev pub Matches : Look → ℕ → Bool → Type 0
Matches l addr way = payload_of 22 (tag_in l way) ≡ 2 ^ 21 + addr / 2 ^ 11

-- the lowest way that matches
pub record IsFound (l : Look) (addr : ℕ) (way : Bool) : Type 0 where
  pub matches : Matches l addr way
  pub lowest : way ≡ true → ¬ Matches l addr false

-- a way is bad where its tag has a flipped bit, or where it is the lowest that matches and its word has one
pub data IsBad (l : Look) (addr : ℕ) (way : Bool) : Type 0 where
  by_tag : syndrome_of 22 6 (tag_in l way) ≢ 0 → IsBad l addr way
  by_word : IsFound l addr way → syndrome_of 32 7 (word_in_way l way) ≢ 0 → IsBad l addr way

-- the line is there, in the lowest way that matches, and no way is bad
pub record IsHit (l : Look) (addr : ℕ) (way : Bool) : Type 0 where
  pub found : IsFound l addr way
  pub sound : (other : Bool) → ¬ IsBad l addr other

-- no way is a hit
abbrev pub IsMiss : Look → ℕ → Type 0
IsMiss l addr = (way : Bool) → ¬ IsHit l addr way

-- a way whose valid bit is 0
abbrev pub IsEmpty : Look → Bool → Type 0
IsEmpty l way = payload_of 22 (tag_in l way) < 2 ^ 21

-- a miss fills the lowest way that is bad, else the lowest that is empty, else the other than that of the last stored
-- line
pub data IsVictim (l : Look) (addr : ℕ) (other way : Bool) : Type 0 where
  mends : IsBad l addr way → (way ≡ true → ¬ IsBad l addr false) → IsVictim l addr other way
  fills : ((each : Bool) → ¬ IsBad l addr each) → IsEmpty l way → (way ≡ true → ¬ IsEmpty l false)
      → IsVictim l addr other way
  turns : ((each : Bool) → ¬ IsBad l addr each) → ((each : Bool) → ¬ IsEmpty l each) → way ≡ other
      → IsVictim l addr other way

-- the answer of a hit
abbrev pub hit_answer : ℕ → WordAns
hit_answer word = record { valid = true; err = false; word = word }

-- an answer with a word, and with its error in bit 32
pub record IsGiven (a : WordAns) (entry : ℕ) : Type 0 where
  pub valid : a.valid ≡ true
  pub error : (a.err ≡ true → 2 ^ 32 ≤ entry) × (2 ^ 32 ≤ entry → a.err ≡ true)
  pub word : a.word ≡ entry % 2 ^ 32

-- the word of the line at the address
abbrev pub half_at : WordPort → ℕ → ℕ
half_at w zero = w.c_word0
half_at w (suc n) = w.c_word1

-- ---- the bus

-- no request, or a fetch of a word
pub data IsFetch (r : Req) : Type 0 where
  no_fetch : r ≡ no_request → IsFetch r
  fetch_at : (addr : ℕ) → addr % 4 ≡ 0 → r ≡ fetch_wires addr → IsFetch r

-- ---- the words that are written

-- the wires are within their widths
pub record IsOutput (o : CacheOut) : Type 0 where
  pub ways : o.ways < 2 ^ 2
  pub set : o.set < 2 ^ 8
  pub tag : o.tag < 2 ^ 28
  pub line0 : o.line0 < 2 ^ 39
  pub line1 : o.line1 < 2 ^ 39

-- a line is stored in the cycle of its second answer, where neither of its words is an error, no FENCE.I came after
-- its request, and the cache is empty of what came before the last one
pub record IsStored (w : WordPort) (i : WordIn) : Type 0 where
  pub awaits : w.c_state ≡ 5
  pub comes : i.rsp.valid ≡ true
  pub good : i.rsp.err ≡ false
  pub whole : syndrome_of 32 7 i.rsp.word ≡ 0
  pub first : w.c_word0 < 2 ^ 32
  pub before : w.c_nostore ≡ false
  pub unfenced : i.fence ≡ false
  pub emptied : 256 ≤ w.c_walk

-- the line of the request is written into the way that the miss fills
pub record StoresLine (w : WordPort) (i : WordIn) (o : CacheOut) : Type 0 where
  pub way0 : w.c_way ≡ false → o.ways ≡ 1
  pub way1 : w.c_way ≡ true → o.ways ≡ 2
  pub set : o.set ≡ w.c_addr / 8 % 256
  pub tag : o.tag ≡ encode_of 22 6 (2 ^ 21 + w.c_addr / 2 ^ 11)
  pub word0 : o.line0 ≡ encode_of 32 7 w.c_word0
  pub word1 : o.line1 ≡ encode_of 32 7 (payload_of 32 i.rsp.word)

-- the walk empties a set, and no line is stored
pub record Empties (place : ℕ) (o : CacheOut) : Type 0 where
  pub clears : o.clear ≡ true
  pub set : o.set ≡ place
  pub ways : o.ways ≡ 0

-- the walk goes on by a set a cycle until all 256 are empty, and a FENCE.I begins it anew
pub record WalksOn (fence : Bool) (walk next : ℕ) : Type 0 where
  pub restarts : fence ≡ true → next ≡ 0
  pub goes : fence ≡ false → walk < 256 → next ≡ walk + 1
  pub rests : fence ≡ false → 256 ≤ walk → next ≡ walk

-- ---- over a whole run

-- what comes in each cycle, and whether its request on the bus is granted
pub record Run : Type 0 where
  pub comes : ℕ → WordIn
  pub granted : ℕ → Bool

-- the fields in cycle n
unfoldable pub fields_at : WordPort → Run → ℕ → WordPort
fields_at w run zero = w
fields_at w run (suc n) = word_port_next (fields_at w run n) (run.comes n) (run.granted n)

-- a cached request that is taken up in cycle t didn't answer before cycle c
pub record IsOutstanding (w : WordPort) (run : Run) (t c : ℕ) : Type 0 where
  pub later : t < c
  pub cached : (fields_at w run (suc t)).c_state ≡ 1
  pub silent : (k : ℕ) → t < k → k < c
      → (answer_of (fields_at w run k) (run.comes k).rsp (run.comes k).look).valid ≡ false

-- no line is stored with a FENCE.I in any cycle from its request to its second answer
abbrev pub KeepsFences : WordPort → Type 0
KeepsFences w =
    (run : Run) (t c : ℕ) → IsOutstanding w run t c → IsStored (fields_at w run c) (run.comes c)
    → (k : ℕ) → t ≤ k → k ≤ c → (run.comes k).fence ≡ false

-- the walk empties set n in cycle n, until a FENCE.I comes or all 256 sets are empty
abbrev pub Emptying : WordPort → Type 0
Emptying w =
    (run : Run) (n : ℕ) → n ≤ 256 → ((k : ℕ) → k < n → (run.comes k).fence ≡ false) → (fields_at w run n).c_walk ≡ n
