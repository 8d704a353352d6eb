-- The prefetch buffer before a cycle: the words that it holds and awaits, against those of the stream.
use Rattle.std.proofs.Common.{◌≡◌, ℕ, zero, suc, ◌+◌, ◌*◌, ◌%◌, ◌^◌, ◌<◌, ◌≤◌, Bool, true, false, not, List, length}
use Rattle.std.proofs.Common.{nat_le}
use Rattle.ibx_time.specs.Settings.{Setup, settings_of}
use Rattle.ibx_time.specs.Streams.{Stream, answer, last_of, past, word_addr}
use Rattle.ibx_time.specs.Memories.{Write, memory_at}
pub use Rattle.ibx_time.proofs.Logs.{word_in}
use Rattle.ibx_prefetch.specs.declared.buffer.Head.{Head}
use Rattle.ibx_prefetch.specs.Buffer.{entry_of}
use Rattle.ibx_prefetch.specs.declared.buffer.Prefetch.{Prefetch}
use Rattle.ibx_prefetch.specs.declared.buffer.Parcel.{Parcel}
use Rattle.ibx_arch.specs.Memory.{image_memory, read_bytes, is_mapped}

-- ---- words as memory held them

-- no memory answers at an address
abbrev pub is_unmapped : Setup → ℕ → Bool
is_unmapped s a = not (is_mapped s.image.ram a)

-- the word at an address in a cycle, and with it in bit 32 whether no memory answers there
abbrev pub entry_in : Setup → List Write → ℕ → ℕ → ℕ
entry_in s log g a = entry_of (is_unmapped s a) (word_in s log g a)

-- word j of a stream, in the grant of the transaction that read it
abbrev pub word_entry : Setup → List Write → Stream → ℕ → ℕ
word_entry s log x j = entry_in s log (past (settings_of s) x (suc j)).grant (word_addr x j)

-- the halfword at an address in word j
abbrev pub parcel_in : Setup → List Write → Stream → ℕ → ℕ → ℕ
parcel_in s log x j addr =
    read_bytes (memory_at (image_memory s.image) log (past (settings_of s) x (suc j)).grant) addr 2

-- ---- the buffer: q words of the stream are requested, and m of them taken

-- no word is on its way, one is coming, or one that will be dropped, with so many words held
pub data Count (q m : ℕ) (busy drop : Bool) (count : ℕ) : Type 0 where
  rest : busy ≡ false → drop ≡ false → count + m ≡ q → Count q m busy drop count
  coming : busy ≡ true → drop ≡ false → count + m + 1 ≡ q → Count q m busy drop count
  dropped : busy ≡ true → drop ≡ true → q ≡ 0 → count ≡ 0 → m ≡ 0 → Count q m busy drop count

-- the entries of the words from word b on, and 0 where there is none
pub record Holds (s : Setup) (log : List Write) (x : Stream) (b : ℕ) (f : Prefetch) : Type 0 where
  pub word0 : 0 < f.buf_count → f.buf0 ≡ word_entry s log x b
  pub word1 : 1 < f.buf_count → f.buf1 ≡ word_entry s log x (b + 1)
  pub word2 : 2 < f.buf_count → f.buf2 ≡ word_entry s log x (b + 2)
  pub none0 : f.buf_count ≤ 0 → f.buf0 ≡ 0
  pub none1 : f.buf_count ≤ 1 → f.buf1 ≡ 0
  pub none2 : f.buf_count ≤ 2 → f.buf2 ≡ 0

-- no word of the stream was requested yet
abbrev pub is_zero : ℕ → Bool
is_zero zero = true
is_zero (suc _) = false

-- the address of the next instruction, which begins in this half of its word
abbrev pub pc_in : Stream → ℕ → ℕ
pc_in x half = (4 * (x.base + length x.enters) + 2 * half) % 2 ^ 32

-- the buffer is that of the stream
pub record FetchAt (s : Setup) (log : List Write) (x : Stream) (half q : ℕ) (f : Prefetch) : Type 0 where
  pub head : f.head_pc ≡ pc_in x half
  pub half_low : half < 2
  pub addr : f.f_addr ≡ last_of x q
  pub fresh : f.f_fresh ≡ is_zero q
  pub count : Count q (length x.enters) f.f_busy f.f_drop f.buf_count
  pub holds : Holds s log x (length x.enters) f

-- ---- the two parcels that the admission of cycle c sees

-- a parcel of word j is ready just where the word has answered, and is then that which memory held
pub record Shows (s : Setup) (log : List Write) (x : Stream) (j addr c : ℕ) (p : Parcel) : Type 0 where
  pub ready : p.ready ≡ nat_le (answer (settings_of s) x j) c
  pub err : p.ready ≡ true → p.err ≡ is_unmapped s addr
  pub half : p.ready ≡ true → p.half ≡ parcel_in s log x j addr

-- the head shows the two parcels at the program counter
pub record HeadIs (s : Setup) (log : List Write) (x : Stream) (half c : ℕ) (h : Head) : Type 0 where
  pub first : Shows s log x (length x.enters) (pc_in x half) c h.first
  pub second : Shows s log x (length x.enters + half) ((pc_in x half + 2) % 2 ^ 32) c h.second
