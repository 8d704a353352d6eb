-- The prefetch buffer by itself, with the answers of a word port in the cycles of the time equations. Our own rule.
use Rattle.std.specs.Prelude.{◌≡◌, ℕ, zero, suc, ◌+◌, ◌%◌, ◌^◌, ◌<◌, Bool, true, not, ◌&&◌, ◌==◌, nat_le, nat_lt}
use Rattle.std.specs.Prelude.{if◌then◌else◌, List, length}
use Rattle.ibx_arch.specs.Memory.{image_memory, read_bytes}
use Rattle.ibx_prefetch.specs.Buffer.{entry_of, fetch_after_answer, fetch_reset, head_of, prefetch_next, request_of}
use Rattle.ibx_prefetch.specs.declared.buffer.Parcel.{Parcel}
use Rattle.ibx_prefetch.specs.declared.buffer.Prefetch.{Prefetch}
use Rattle.ibx_time.specs.Memories.{Write, memory_at}
use Rattle.ibx_time.specs.Settings.{Setup, settings_of}
use Rattle.ibx_time.specs.Streams.{Stream, answer, last_of, past, requested, word_addr}
use Rattle.ibx_time.specs.Times.{Times, next_pc}
use Rattle.ibx_time_units.specs.Courses.{Course, IsCourse, stream_in, times_at, times_in}
use Rattle.ibx_time_units.specs.Words.{answer_in, is_unmapped, request_in, word_at}

-- the buffer before cycle c, from reset on
unfoldable pub buffer_at : Setup → Course → ℕ → Prefetch
buffer_at s r zero = fetch_reset s.image.entry
buffer_at s r (suc c) =
    prefetch_next (answer_in s r.writes (stream_in s r.moves c) c) (r.moves c).redirect (r.moves c).taken
    (buffer_at s r c)

-- in cycle c, after its redirect and its answer
abbrev pub filled_at : Setup → Course → ℕ → Prefetch
filled_at s r c =
    fetch_after_answer (answer_in s r.writes (stream_in s r.moves c) c) (r.moves c).redirect (buffer_at s r c)

-- word j of a stream, with its error in bit 32
abbrev pub entry_at : Setup → List Write → Stream → ℕ → ℕ
entry_at s log x j =
    entry_of (is_unmapped s (word_addr x j)) (word_at s log (past (settings_of s) x (suc j)).grant (word_addr x j))

-- where q words are requested before cycle c, the last request has not answered before it
abbrev pub is_awaited : Setup → Stream → ℕ → ℕ → Bool
is_awaited s x q c = nat_lt 0 c && nat_le c (past (settings_of s) x q).answer

-- Before cycle c the fields are those of these times: the next program counter, the last request, whether it is
-- outstanding, and from before the last redirect, and the words that have answered and aren't taken, in order.
pub record IsBuffer (s : Setup) (log : List Write) (y : Times) (q c : ℕ) (f : Prefetch) : Type 0 where
  pub head : f.head_pc ≡ next_pc y
  pub addr : f.f_addr ≡ last_of y.stream q
  pub fresh : f.f_fresh ≡ (q == 0)
  pub busy : f.f_busy ≡ is_awaited s y.stream q c
  pub drop : f.f_drop ≡ (f.f_busy && q == 0)
  pub count : f.buf_count + length y.stream.enters + (if f.f_busy && not (q == 0) then 1 else 0) ≡ q
  pub word0 : 0 < f.buf_count → f.buf0 ≡ entry_at s log y.stream (length y.stream.enters)
  pub word1 : 1 < f.buf_count → f.buf1 ≡ entry_at s log y.stream (length y.stream.enters + 1)
  pub word2 : 2 < f.buf_count → f.buf2 ≡ entry_at s log y.stream (length y.stream.enters + 2)

-- A parcel at an address in word j is offered in cycle c just where the word has answered by it, as memory held it in
-- the grant of the transaction that read the word.
pub record IsOffered (s : Setup) (log : List Write) (x : Stream) (j addr c : ℕ) (p : Parcel) : Type 0 where
  pub ready : p.ready ≡ nat_le (answer (settings_of s) x j) c
  pub err : p.ready ≡ true → p.err ≡ is_unmapped s addr
  pub half : p.ready ≡ true
      → p.half ≡ read_bytes (memory_at (image_memory s.image) log (past (settings_of s) x (suc j)).grant) addr 2

-- In cycle c it requests the word that is due and offers the two parcels at the program counter, and its fields are
-- those of the times before it.
pub record RequestsInTime (s : Setup) (r : Course) (c : ℕ) : Type 0 where
  pub requests : request_of (filled_at s r c) ≡ request_in (settings_of s) (stream_in s r.moves c) c
  pub first : IsOffered s r.writes (stream_in s r.moves c) (length (stream_in s r.moves c).enters)
      (next_pc (times_in s r.moves c)) c (head_of (filled_at s r c)).first
  pub second : IsOffered s r.writes (stream_in s r.moves c)
      (length (stream_in s r.moves c).enters + (times_in s r.moves c).half)
      ((next_pc (times_in s r.moves c) + 2) % 2 ^ 32) c (head_of (filled_at s r c)).second
  pub fields : IsBuffer s r.writes (times_at s r.moves c)
      (requested (settings_of s) (times_at s r.moves c).stream c) c (buffer_at s r c)

-- for every course, in every cycle
abbrev pub BufferKeepsTimes : Setup → Type 0
BufferKeepsTimes s = (r : Course) (c : ℕ) → IsCourse s r → RequestsInTime s r c
