-- The sink in memory.
use Rattle.std.specs.Prelude.{ℕ, ◌-◌, Bool, List, [], ◌++◌, length, take, min, if◌then◌else◌, ◌||◌, ◌&&◌, ◌==◌, not}
use Rattle.std.specs.List.{list_any}
use Rattle.ibx_base.specs.Counts.{raised}

-- what was taken, the room, the numbers of the writes that fail, how many writes were made, and the count of faults
pub record Store : Type 0 where
  pub bytes : List ℕ
  pub room : ℕ
  pub fails : List ℕ
  pub writes : ℕ
  pub faults : ℕ

-- an empty sink with so many bytes of room, and the numbers of the writes that fail
abbrev pub new_store : ℕ → List ℕ → Store
new_store room fails = record { bytes = []; room = room; fails = fails; writes = 0; faults = 0 }

-- how many more bytes fit
abbrev pub room_left : Store → ℕ
room_left s = s.room - length s.bytes

-- Writes are numbered from 1. One whose number is among those that fail fails, and one of a piece that isn't empty
-- where no room is left.
abbrev pub write_fails : Store → List ℕ → Bool
write_fails s piece = list_any (λ n. n == raised s.writes) s.fails || (not (length piece == 0) && room_left s == 0)

-- how many bytes of a piece are taken: all, or as many as still fit
abbrev pub count_taken : Store → List ℕ → ℕ
count_taken s piece = min (length piece) (room_left s)

-- the sink after a write of a piece: what it took is behind the rest, and a failure is counted
abbrev pub after_write : Store → List ℕ → Store
after_write s piece = record s {
  bytes = if write_fails s piece then s.bytes else s.bytes ++ take (count_taken s piece) piece;
  writes = raised s.writes;
  faults = if write_fails s piece then raised s.faults else s.faults;
}
