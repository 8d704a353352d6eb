use Rattle.std.proofs.Common.{◌≡◌, length, map, string_bytes}
use Rattle.ibx_command.specs.Parts.{pieces_of, all_fit}
use Rattle.ibx_command.proofs.parts.all_fit.Given as goal

abbrev pub invariant-loop-part : goal.invariant-loop-part
invariant-loop-part l = all_fit (map (λ name. name.now) l.names) (pieces_of (map string_bytes l.fn.words)) ≡ all_fit
    (map (λ name. name.now) l.names) (pieces_of (map string_bytes l.rest))

abbrev pub decreases-loop-part : goal.decreases-loop-part
decreases-loop-part l = length l.rest
