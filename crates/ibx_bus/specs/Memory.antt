-- The memory behind the two ports. Our own rule.
use Rattle.std.specs.Prelude.{◌≡◌, ◌≢◌, ℕ, ◌+◌, ◌-◌, ◌*◌, ◌/◌, ◌%◌, ◌<◌, ◌≤◌, ◌^◌, ◌==◌, Bool, not, ◌&&◌, ◌||◌, nat_lt}
use Rattle.std.specs.Prelude.{nat_le, if◌then◌else◌, List, All, length, map, slice_index, slice_set, bit_xor}
use Rattle.std.specs.Int.{bit_at}
use Rattle.ibx_bits.specs.Bytes.{word_byte}
use Rattle.ibx_bits.specs.Platform.{host_page, host_page_end, host_page_has}
use Rattle.ibx_isa.specs.declared.bus.Req.{Req}
use Rattle.ibx_secded.specs.Code.{encode_of, payload_of, rewrite_of, syndrome_of}

-- RAM: its lowest byte address, and its words, each of 39 bits
pub record MemoryState : Type 0 where
  pub base : ℕ
  pub words : List ℕ

-- no byte address of this many words from base on lies in the host page
abbrev pub MissesHostPage : ℕ → ℕ → Type 0
MissesHostPage base count = 0 < count → host_page < base + 4 * count → host_page_end ≤ base

-- where RAM may lie
pub record IsMemory (m : MemoryState) : Type 0 where
  pub aligned : m.base % 4 ≡ 0
  pub ends : m.base + 4 * length m.words ≤ 2 ^ 32
  pub apart : MissesHostPage m.base (length m.words)
  pub fits : All (λ w. w < 2 ^ 39) m.words

-- the codewords of the words of an image
abbrev pub coded_memory : List ℕ → ℕ → MemoryState
coded_memory image base = record { base = base; words = map (λ v. encode_of 32 7 v) image }

-- a byte address lies in RAM, whose words have four bytes each
abbrev pub memory_has : MemoryState → ℕ → Bool
memory_has m address = nat_le m.base address && nat_lt address (m.base + 4 * length m.words)

-- the number of the word at an address of RAM
abbrev pub index_of : MemoryState → ℕ → ℕ
index_of m address = (address - m.base) / 4

-- the word at an address of RAM
abbrev pub word_at : MemoryState → ℕ → ℕ
word_at m address = slice_index m.words (index_of m address)

-- a byte of the new word where its enable is set, else of the old word
abbrev pub lane_of : ℕ → ℕ → ℕ → ℕ → ℕ
lane_of place enables old new = word_byte (if bit_at enables place == 1 then new else old) place

-- the enabled bytes of the new word and the other bytes of the old one
unfoldable pub merged : ℕ → ℕ → ℕ → ℕ
merged enables old new =
    lane_of 0 enables old new + 256 * lane_of 1 enables old new + 65536 * lane_of 2 enables old new
    + 16777216 * lane_of 3 enables old new

-- what a store leaves of a word: with four enables the word of the wires as it came, and with fewer the merged bytes
-- under the syndrome that the word had
unfoldable pub stored_word : ℕ → ℕ → ℕ → ℕ
unfolding merged
stored_word enables old new =
    if enables == 15 then new else rewrite_of 32 7 old (merged enables (payload_of 32 old) (payload_of 32 new))

-- whether a transaction stores to RAM
abbrev pub is_store : MemoryState → Req → Bool
is_store m r = r.write && memory_has m r.addr

-- the memory after a transaction
unfoldable pub memory_next : MemoryState → Req → MemoryState
unfolding stored_word
memory_next m r =
    if is_store m r
    then record m { words = slice_set m.words (index_of m r.addr) (stored_word r.be (word_at m r.addr) r.word) }
    else m

-- the memory after a cycle, by whether the transaction is granted in it
abbrev pub memory_after : Bool → MemoryState → Req → MemoryState
memory_after granted m r = if granted then memory_next m r else m

-- What a store to RAM leaves of its word: with four enables the word of the wires, as it came, and with fewer the
-- merged bytes with what was wrong before, so that a flip stays told.
pub record StoresWord (old new : MemoryState) (r : Req) : Type 0 where
  pub whole : r.be ≡ 15 → word_at new r.addr ≡ r.word
  pub bytes : r.be ≢ 15 → payload_of 32 (word_at new r.addr)
      ≡ merged r.be (payload_of 32 (word_at old r.addr)) (payload_of 32 r.word)
  pub syndrome : r.be ≢ 15 → syndrome_of 32 7 (word_at new r.addr) ≡ syndrome_of 32 7 (word_at old r.addr)

-- whether its answer is an error: the word lies neither in RAM nor in the host page
abbrev pub error_of : MemoryState → Req → Bool
error_of m r = not (memory_has m r.addr || host_page_has r.addr)

-- the word of its answer: a load from RAM answers the stored word as it is, and all else the codeword of 0
abbrev pub answered_word : MemoryState → Req → ℕ
answered_word m r = if memory_has m r.addr && not r.write then word_at m r.addr else encode_of 32 7 0

-- one bit of one word is changed
abbrev pub memory_flip : MemoryState → ℕ → ℕ → MemoryState
memory_flip m i bit = record m { words = slice_set m.words i (bit_xor (slice_index m.words i) (2 ^ bit)) }
