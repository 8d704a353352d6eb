-- The files in memory.
use Rattle.std.specs.Prelude.{◌≡◌, ℕ, Bool, List, length, drop, [], ◌∷◌, ◌++◌, Option, Some, None, true, false, min}
use Rattle.std.specs.Prelude.{◌==◌, find}
use Rattle.std.specs.List.{slice_get, list_any}
use Rattle.std.specs.Option.{option_map}
use Rattle.std.specs.Str.{bytes_eq}
use Rattle.ibx_base.specs.Counts.{raised}
use Rattle.ibx_base.specs.Files.{Begun, whole_file}

-- a file: its name and its bytes
pub record Entry : Type 0 where
  pub name : List ℕ
  pub bytes : List ℕ

-- the entries, the numbers of the calls that fail, how many calls were made, the begun file, and the two counts
pub record Memory : Type 0 where
  pub entries : List Entry
  pub fails : List ℕ
  pub calls : ℕ
  pub begun : Option Begun
  pub faults : ℕ
  pub misses : ℕ

-- whether an entry has a name, byte for byte
abbrev pub is_named : List ℕ → Entry → Bool
is_named name entry = bytes_eq entry.name name

-- of two entries with one name the first counts
unfoldable pub content_of : List Entry → List ℕ → Option (List ℕ)
content_of entries name = option_map (λ (e : Entry). e.bytes) (find (is_named name) entries)

-- the entry at an index, from a place in it on
abbrev pub begun_at : List Entry → ℕ → ℕ → Option Begun
begun_at entries index place =
    option_map (λ (e : Entry). whole_file e.name (drop place e.bytes)) (slice_get entries index)

-- calls are numbered from 1, and the next one's number is among those that fail
abbrev pub next_fails : Memory → Bool
next_fails m = list_any (λ n. n == raised m.calls) m.fails

-- A name that isn't there is a fault and a miss, also where the call fails.
abbrev pub begin_fails_with : Bool → Option (List ℕ) → Bool
begin_fails_with fails None = true
begin_fails_with fails (Some bytes) = fails

-- what a begin leaves, by whether its call fails and what the name has: a call counted, and the file begun or a fault
-- counted
abbrev pub begun_with : Memory → List ℕ → Bool → Option (List ℕ) → Memory
begun_with m name fails None =
    record m { calls = raised m.calls; begun = None; faults = raised m.faults; misses = raised m.misses }
begun_with m name true (Some bytes) = record m { calls = raised m.calls; begun = None; faults = raised m.faults }
begun_with m name false (Some bytes) = record m { calls = raised m.calls; begun = Some (whole_file name bytes) }

-- whether the next call, a begin of this name, gives no file
abbrev pub begin_fails : Memory → List ℕ → Bool
begin_fails m name = begin_fails_with (next_fails m) (content_of m.entries name)

-- the memory after a begin of a name
abbrev pub after_begin : Memory → List ℕ → Memory
after_begin m name = begun_with m name (next_fails m) (content_of m.entries name)

-- as many bytes as are left, or as fit
abbrev pub count_read : Option Begun → ℕ → ℕ
count_read None room = 0
count_read (Some begun) room = min (length begun.left) room

-- what a read leaves: the bytes that it gave are gone from the begun file, or a fault is counted
abbrev pub read_with : Memory → ℕ → Bool → Memory
read_with m room true = record m { calls = raised m.calls; faults = raised m.faults }
read_with m room false = record m {
  calls = raised m.calls;
  begun = option_map (λ (b : Begun). whole_file b.name (drop (count_read m.begun room) b.left)) m.begun;
}

-- the memory after a read into so many bytes of room
abbrev pub after_read : Memory → ℕ → Memory
after_read m room = read_with m room (next_fails m)

-- a memory without entries, in which nothing is begun, was called or fails
abbrev pub no_files : Memory
no_files = record { entries = []; fails = []; calls = 0; begun = None; faults = 0; misses = 0 }

-- one more file, behind the others
abbrev pub with_entry : Memory → List ℕ → List ℕ → Memory
with_entry m name bytes = record m { entries = m.entries ++ (record { name = name; bytes = bytes }) ∷ [] }

-- one more number of a call that fails
abbrev pub with_failure : Memory → ℕ → Memory
with_failure m call = record m { fails = m.fails ++ call ∷ [] }

-- one more call was made, and nothing else came of it
abbrev pub counted : Memory → Memory
counted m = record m { calls = raised m.calls }

-- what a search for a name finds: no content, or the index of the entry that has it
abbrev pub Finds : List Entry → List ℕ → Option ℕ → Type 0
Finds entries name None = content_of entries name ≡ None
Finds entries name (Some index) = (bytes : List ℕ)
    × ((slice_get entries index ≡ Some (record { name = name; bytes = bytes }))
    × (content_of entries name ≡ Some bytes))
