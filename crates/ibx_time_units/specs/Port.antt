-- The word port by itself, with its port of the bus and the cache's words, and the requests of a buffer in the cycles
-- of
-- the time equations. Our own rule.
use Rattle.std.specs.Prelude.{◌≡◌, ℕ, zero, suc, ◌+◌, ◌-◌, ◌*◌, ◌/◌, ◌^◌, ◌<◌, min, nat_lt, if◌then◌else◌, List, []}
use Rattle.std.specs.Prelude.{◌∷◌}
use Rattle.std.specs.Prelude.{replicate, slice_index, Option, Some, None}
use Rattle.ibx_bus.specs.Memory.{MemoryState}
use Rattle.ibx_bus.specs.Port.{PortState, answer_wires, grants, new_port, port_next}
use Rattle.ibx_icache.specs.WordPort.{WordIn, answer_of, filling_of, looked, reset_of, wires_of, word_port_next}
use Rattle.ibx_icache.specs.declared.port.WordPort.{WordPort}
use Rattle.ibx_time_machine.specs.Words.{put_lines, put_tags}
use Rattle.ibx_secded.specs.Code.{encode_of}
use Rattle.ibx_time.specs.BusLines.{wires_at}
use Rattle.ibx_time.specs.Controls.{enables_cache}
use Rattle.ibx_time.specs.Memories.{Write}
use Rattle.ibx_time.specs.Requests.{Fill, last_fill, none_between, other_way}
use Rattle.ibx_time.specs.Settings.{Setup, settings_of}
use Rattle.ibx_time.specs.Streams.{past, requested}
use Rattle.ibx_time_units.specs.Courses.{Course, HoldsWrites, IsCourse, is_fence, stream_in, times_at}
use Rattle.ibx_time_machine.specs.Words.{look_at}
use Rattle.ibx_time_units.specs.Words.{answer_in, request_in, word_at}

-- the word port, its port of the bus, and the tag words and data words of the cache
pub record Side : Type 0 where
  pub words : WordPort
  pub port : PortState
  pub tags : List ℕ
  pub lines : List ℕ

-- what the word port is handed in cycle c
abbrev pub input_in : Setup → Course → ℕ → Side → WordIn
input_in s r c v = record {
  request = request_in (settings_of s) (stream_in s r.moves c) c;
  enable = enables_cache (times_at s r.moves c).ctl;
  fence = is_fence (r.moves c).left;
  rsp = answer_wires v.port;
  look = look_at v.tags v.lines (looked v.words);
}

-- after a cycle with this input and memory
abbrev pub side_next : WordIn → MemoryState → Side → Side
side_next i m v = record {
  words = word_port_next v.words i (grants (wires_of v.words i).valid v.port);
  port = port_next v.port m (wires_of v.words i);
  tags = put_tags (filling_of v.words i) v.tags;
  lines = put_lines (filling_of v.words i) v.lines;
}

-- before cycle c, from reset on
unfoldable pub side_at : Setup → Course → (ℕ → MemoryState) → ℕ → Side
side_at s r memory zero = record {
  words = reset_of;
  port = new_port s.plan.iwaits;
  tags = replicate 512 0xa800000;
  lines = replicate 1024 0x2a00000000;
}
side_at s r memory (suc c) =
    side_next (input_in s r c (side_at s r memory c)) (memory c) (side_at s r memory c)

-- the fills that are stored before cycle c
unfoldable pub stored : List Fill → ℕ → List Fill
stored [] c = []
stored (x ∷ fills) c = if nat_lt x.time c then x ∷ stored fills c else stored fills c

-- the cycle from which the walk empties the sets: that after the last FENCE.I, or reset
abbrev pub walk_start : List ℕ → ℕ
walk_start [] = 0
walk_start (f ∷ fences) = f + 1

-- what the tag of a place says before cycle c: the line of its last fill, or that it is empty
abbrev pub tag_by : List ℕ → ℕ → Option Fill → ℕ
tag_by fences c None = 0
tag_by fences c (Some x) = if none_between fences x.time c then 2 ^ 21 + x.line / 256 else 0

-- Before cycle c the walk has emptied a set in each cycle since it began, and below it the tag words, and the data
-- words
-- of each line that was stored, are what these fills left.
pub record IsCache (s : Setup) (log : List Write) (fences : List ℕ) (fills : List Fill) (c : ℕ) (w : WordPort)
    (tags lines : List ℕ) : Type 0 where
  pub walk : w.c_walk ≡ min (c - walk_start fences) 256
  pub other : w.c_alt ≡ other_way fills
  pub tag : (n : ℕ) → n < 512 → n < 2 * w.c_walk
      → slice_index tags n ≡ encode_of 22 6 (tag_by fences c (last_fill fills n))
  pub word0 : (n : ℕ) (x : Fill) → n < 512 → last_fill fills n ≡ Some x
      → slice_index lines (2 * n) ≡ encode_of 32 7 (word_at s log x.grant0 (8 * x.line))
  pub word1 : (n : ℕ) (x : Fill) → n < 512 → last_fill fills n ≡ Some x
      → slice_index lines (2 * n + 1) ≡ encode_of 32 7 (word_at s log x.grant1 (8 * x.line + 4))

-- In cycle c it answers the word that is due and drives the transaction that is, and the cache is what the fills and
-- the
-- walk left.
pub record AnswersInTime (s : Setup) (r : Course) (memory : ℕ → MemoryState) (c : ℕ) : Type 0 where
  pub answers : answer_of (side_at s r memory c).words (input_in s r c (side_at s r memory c)).rsp
      (input_in s r c (side_at s r memory c)).look ≡ answer_in s r.writes (stream_in s r.moves c) c
  pub wires : wires_of (side_at s r memory c).words (input_in s r c (side_at s r memory c))
      ≡ wires_at (past (settings_of s) (stream_in s r.moves c)
      (requested (settings_of s) (stream_in s r.moves c) (c + 1))).sent c
  pub cache : IsCache s r.writes (times_at s r.moves c).stream.fences
      (stored (past (settings_of s) (times_at s r.moves c).stream
      (requested (settings_of s) (times_at s r.moves c).stream c)).fills c) c (side_at s r memory c).words
      (side_at s r memory c).tags (side_at s r memory c).lines

-- for every course, with the memory that its writes leave, in every cycle
abbrev pub PortKeepsTimes : Setup → Type 0
PortKeepsTimes s =
    (r : Course) (memory : ℕ → MemoryState) (c : ℕ) → IsCourse s r → HoldsWrites s r memory
    → AnswersInTime s r memory c
