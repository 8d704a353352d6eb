-- The instruction of a word or a halfword, as fetched (Unprivileged ISA, 1.5).
use Rattle.std.specs.Prelude.{ℕ, Option, if◌then◌else◌}
use Rattle.std.specs.Option.{option_and_then}
use Rattle.ibx_isa.specs.declared.insn.Insn.{Insn}
use Rattle.ibx_isa.specs.Lengths.{is_long}
use Rattle.ibx_decoder.specs.Rows.{decode_of}
use Rattle.ibx_decoder.specs.Compressed.{expand_of}

-- the instruction of a word: a halfword stands for its expansion
unfoldable pub instruction_of : ℕ → Option Insn
instruction_of word = if is_long word then decode_of word else option_and_then decode_of (expand_of word)
