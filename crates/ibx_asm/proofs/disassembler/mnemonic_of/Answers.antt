use Rattle.ibx_asm.specs.Dis.{mnemonic_of}
use Rattle.ibx_asm.specs.Held.{pattern_meant, mask_of, exceptions_of}
use Rattle.ibx_asm.proofs.Texts.{short_row}
use Rattle.ibx_asm.proofs.disassembler.mnemonic_of.Goals as goal

pub returns-clause-value : goal.returns-clause-value
unfolding mnemonic_of pattern_meant mask_of exceptions_of
returns-clause-value c = c.mnemonic_in.ensures

pub returns-clause-short : goal.returns-clause-short
returns-clause-short c = short_row c.mnemonic_in.result c.args.word (returns-clause-value c)
