-- The begun file by its index in the entries, and how many of its bytes were read.
use Rattle.std.specs.Prelude.{◌≤◌, List, length, Option, Some, None, IsSomeAnd}
use Rattle.std.specs.List.{slice_get}
use Rattle.ibx_base.specs.declared.mem_files.Place.{Place}
use Rattle.ibx_base.specs.Files.{Begun}
use Rattle.ibx_base.specs.MemFiles.{Entry, begun_at}

-- the begun file that a place in the entries stands for
abbrev pub begun_place : List Entry → Option Place → Option Begun
begun_place entries None = None
begun_place entries (Some place) = begun_at entries place.file place.read

-- the index is one of the entries', and no more was read than it has
abbrev pub IsPlace : List Entry → Option Place → Type 0
IsPlace entries None = Unit {0}
IsPlace entries (Some place) = IsSomeAnd (slice_get entries place.file) (λ (e : Entry). place.read ≤ length e.bytes)
