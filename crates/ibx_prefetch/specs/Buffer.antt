-- The prefetch buffer, phase by phase: a redirect, an answer, a request, and the parcels that are taken. Our own rule.
use Rattle.std.specs.Prelude.{ℕ, zero, suc, ◌+◌, ◌-◌, ◌*◌, ◌/◌, ◌%◌, ◌^◌, Bool, true, false, not, ◌&&◌, ◌||◌, ◌==◌}
use Rattle.std.specs.Prelude.{nat_le, nat_lt, if◌then◌else◌, Option, Some, None}
use Rattle.ibx_prefetch.specs.declared.buffer.Prefetch.{Prefetch}
use Rattle.ibx_prefetch.specs.declared.buffer.WordAns.{WordAns}
use Rattle.ibx_prefetch.specs.declared.buffer.Parcel.{Parcel}
use Rattle.ibx_prefetch.specs.declared.buffer.Head.{Head}

-- at reset nothing is held or outstanding, and the next word is the entry's
unfoldable pub fetch_reset : ℕ → Prefetch
fetch_reset entry = record {
  f_busy = false;
  f_fresh = true;
  f_drop = false;
  f_addr = 0;
  buf0 = 0;
  buf1 = 0;
  buf2 = 0;
  buf_count = 0;
  head_pc = entry;
}

-- a word with its error in bit 32
abbrev pub entry_of : Bool → ℕ → ℕ
entry_of err word = word + (if err then 2 ^ 32 else 0)

-- whether the cycle is redirected
abbrev pub is_turn : Option ℕ → Bool
is_turn None = false
is_turn (Some target) = true

-- a redirect empties the buffer, and the answer that is outstanding is dropped
unfoldable pub turned : Option ℕ → Prefetch → Prefetch
turned None f = f
turned (Some target) f =
    record f { f_fresh = true; f_drop = f.f_busy; buf0 = 0; buf1 = 0; buf2 = 0; buf_count = 0; head_pc = target }

-- a word more; with three words it is lost
unfoldable pub pushed : ℕ → ℕ → Prefetch → Prefetch
pushed zero entry f = record f { buf0 = entry; buf_count = 1 }
pushed (suc zero) entry f = record f { buf1 = entry; buf_count = 2 }
pushed (suc (suc zero)) entry f = record f { buf2 = entry; buf_count = 3 }
pushed (suc (suc (suc n))) entry f = f

-- by whether a word answers, and whether it is dropped; a mark without an outstanding request is lost
unfoldable pub received : Bool → Bool → ℕ → Prefetch → Prefetch
received false drop entry f = record f { f_drop = f.f_drop && f.f_busy }
received true true entry f = record f { f_busy = false; f_drop = false }
received true false entry f = pushed f.buf_count entry (record f { f_busy = false })

-- word k of those that are held, and half h of their halves
abbrev pub held_word : Prefetch → ℕ → ℕ
held_word f k = if k == 0 then f.buf0 else if k == 1 then f.buf1 else f.buf2

-- half h of those that are held, with the error of its word; it is ready where there is such a word
abbrev pub held_parcel : Prefetch → ℕ → Parcel
held_parcel f h = record {
  ready = nat_lt (h / 2) f.buf_count;
  err = not (held_word f (h / 2) / 2 ^ 32 == 0);
  half = held_word f (h / 2) / 2 ^ (16 * (h % 2)) % 2 ^ 16;
}

-- the next two parcels
unfoldable pub head_of : Prefetch → Head
head_of f = record { first = held_parcel f (f.head_pc / 2 % 2); second = held_parcel f (f.head_pc / 2 % 2 + 1) }

-- the word that is requested next, and whether it is: where none is outstanding and there is room
abbrev pub next_addr : Prefetch → ℕ
next_addr f = if f.f_fresh then f.head_pc / 4 * 4 else (f.f_addr / 4 * 4 + 4) % 2 ^ 32

-- the address of the word that is requested, if one is
unfoldable pub request_of : Prefetch → Option ℕ
request_of f = if not f.f_busy && (f.f_fresh || nat_lt f.buf_count 3) then Some (next_addr f) else None

-- a request is outstanding from the cycle in which it is made
unfoldable pub requested : Option ℕ → Prefetch → Prefetch
requested None f = f
requested (Some addr) f = record f { f_busy = true; f_fresh = false; f_addr = addr }

-- the oldest word goes, or not
unfoldable pub popped : Bool → Prefetch → Prefetch
popped false f = f
popped true f = record f { buf0 = f.buf1; buf1 = f.buf2; buf2 = 0; buf_count = f.buf_count - 1 }

-- n parcels are taken, and the oldest word goes with its last one
abbrev pub took : ℕ → Prefetch → Prefetch
took n f = record (popped (nat_le 2 (f.head_pc / 2 % 2 + n)) f) { head_pc = (f.head_pc + 2 * n) % 2 ^ 32 }

-- ---- a cycle, from the parts

-- The answer of the cycle of a redirect is dropped, also where no request is outstanding. An answer in another cycle
-- is held, also where none is.
abbrev pub fetch_after_answer : WordAns → Option ℕ → Prefetch → Prefetch
fetch_after_answer ans redirect f =
    received ans.valid (f.f_drop || is_turn redirect) (entry_of ans.err ans.word) (turned redirect f)

-- the fields after the answer and the request of a cycle
abbrev pub fetch_after_request : WordAns → Option ℕ → Prefetch → Prefetch
fetch_after_request ans redirect f = let g = fetch_after_answer ans redirect f in requested (request_of g) g

-- the fields after a cycle
unfoldable pub prefetch_next : WordAns → Option ℕ → ℕ → Prefetch → Prefetch
prefetch_next ans redirect taken f = took taken (fetch_after_request ans redirect f)
