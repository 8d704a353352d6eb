use Rattle.std.proofs.Common.{◌≡◌, ℕ, ◌<◌, length, get_or}
use Rattle.ibx_secded.specs.Code.{encode_of}
use Rattle.ibx_bus.proofs.memory.Memory.new.Given as goal

-- as many words as the image has, of which those before this one are codewords of the image
abbrev pub invariant-loop-i : goal.invariant-loop-i
invariant-loop-i l = (length l.words ≡ length l.image) × ((k : ℕ) → k < l.i → get_or l.words k 0 ≡ encode_of 32 7
    (get_or l.image k 0))
