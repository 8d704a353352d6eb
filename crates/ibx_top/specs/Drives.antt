-- What a run of the system prints. The format is our own rule.
use Rattle.std.specs.Prelude.{ℕ, List, ◌++◌, length, flat_map}
use Rattle.ibx_trace.specs.Lines.{line_of, end_line_of}
use Rattle.ibx_compare.specs.Drives.{Drive}

-- one line for each event, then the last line with the number of cycles made and of events
unfoldable pub drive_text : Drive → List ℕ
drive_text d = flat_map line_of d.events ++ end_line_of d.halted d.left.place.cycle (length d.events)
