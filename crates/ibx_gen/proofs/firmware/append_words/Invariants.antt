use Rattle.std.proofs.Common.{◌≡◌, ◌++◌, take}
use Rattle.ibx_gen.specs.Words.{bytes_of}
use Rattle.ibx_gen.proofs.firmware.append_words.Given as goal

-- the bytes of the words so far
abbrev pub invariant-loop-word : goal.invariant-loop-word
invariant-loop-word l = l.code.items ≡ l.initial.code.items ++ bytes_of (take l.word-index l.words)
