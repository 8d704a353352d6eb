-- The words of a stream by the time equations: which is requested in a cycle, and which answers in it. Our own rule.
use Rattle.std.specs.Prelude.{ℕ, ◌+◌, Bool, true, false, not, ◌&&◌, ◌==◌, nat_lt, if◌then◌else◌, List, length, Option}
use Rattle.std.specs.Prelude.{Some, None}
use Rattle.ibx_arch.specs.Memory.{image_memory, is_mapped, read_bytes}
use Rattle.ibx_prefetch.specs.declared.buffer.WordAns.{WordAns}
use Rattle.ibx_time.specs.Memories.{Write, memory_at}
use Rattle.ibx_time.specs.Settings.{Settings, Setup, settings_of}
use Rattle.ibx_time.specs.Streams.{Stream, issue, last_of, past, requested, word_addr}

-- no memory answers at an address
abbrev pub is_unmapped : Setup → ℕ → Bool
is_unmapped s a = not (is_mapped s.image.ram a)

-- the word at an address as memory held it in cycle g
abbrev pub word_at : Setup → List Write → ℕ → ℕ → ℕ
word_at s log g a = read_bytes (memory_at (image_memory s.image) log g) a 4

-- where q words of the stream are requested before cycle c, whether the next one is requested in it: three more than
-- are taken can be
abbrev pub is_issued : Settings → Stream → ℕ → ℕ → Bool
is_issued k x q c = nat_lt q (length x.enters + 3) && issue k x q == c

-- the request of cycle c
abbrev pub request_by : Settings → Stream → ℕ → ℕ → Option ℕ
request_by k x q c = if is_issued k x q c then Some (word_addr x q) else None

-- by the time equations, from the count of words that are requested before cycle c
abbrev pub request_in : Settings → Stream → ℕ → Option ℕ
request_in k x c = request_by k x (requested k x c) c

-- whether the last request before cycle c answers in it; before cycle 1 there is none
abbrev pub is_answered : Settings → Stream → ℕ → ℕ → Bool
is_answered k x q c = nat_lt 0 c && (past k x q).answer == c

-- an answer, or none
abbrev pub answer_if : Bool → Bool → ℕ → WordAns
answer_if b err word =
    if b then record { valid = true; err = err; word = word } else record { valid = false; err = false; word = 0 }

-- The answer of cycle c: the word as memory held it in the grant of the transaction that read it. One that was
-- requested
-- before a redirect is among them.
abbrev pub answer_by : Setup → List Write → Stream → ℕ → ℕ → WordAns
answer_by s log x q c =
    answer_if (is_answered (settings_of s) x q c) (is_unmapped s (last_of x q))
    (word_at s log (past (settings_of s) x q).grant (last_of x q))

-- the answer of cycle c by the time equations, to the last request before it
abbrev pub answer_in : Setup → List Write → Stream → ℕ → WordAns
answer_in s log x c = answer_by s log x (requested (settings_of s) x c) c
