use Rattle.std.proofs.Common.{◌≡◌, length, map, string_bytes}
use Rattle.ibx_command.specs.Parts.{pieces_of, files_of}
use Rattle.ibx_command.proofs.parts.next_file.Given as goal

abbrev pub invariant-loop-part : goal.invariant-loop-part
invariant-loop-part l = files_of (pieces_of (map string_bytes l.fn.words)) ≡ files_of
    (pieces_of (map string_bytes l.rest))

abbrev pub decreases-loop-part : goal.decreases-loop-part
decreases-loop-part l = length l.rest
