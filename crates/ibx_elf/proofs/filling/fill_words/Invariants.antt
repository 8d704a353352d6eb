use Rattle.ibx_elf.specs.Filling.{FilledBelow}
use Rattle.ibx_elf.proofs.filling.fill_words.Given as goal

abbrev pub invariant-loop-i : goal.invariant-loop-i
invariant-loop-i l = FilledBelow l.file l.ram.base l.words l.i
