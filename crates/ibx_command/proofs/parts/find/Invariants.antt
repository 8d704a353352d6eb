use Rattle.std.proofs.Common.{◌≡◌, length, map, string_bytes}
use Rattle.ibx_command.specs.Parts.{pieces_of}
use Rattle.ibx_command.specs.Found.{texts_for}
use Rattle.ibx_command.proofs.parts.find.Given as goal

abbrev pub invariant-loop-part : goal.invariant-loop-part
invariant-loop-part l = texts_for l.wanted (pieces_of (map string_bytes l.fn.words)) ≡ texts_for l.wanted
    (pieces_of (map string_bytes l.rest))

abbrev pub decreases-loop-part : goal.decreases-loop-part
decreases-loop-part l = length l.rest
