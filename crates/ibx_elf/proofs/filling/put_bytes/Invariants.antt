use Rattle.ibx_elf.specs.Filling.{AreWords, HasPut}
use Rattle.ibx_elf.proofs.filling.put_bytes.Given as goal

abbrev pub invariant-loop-i : goal.invariant-loop-i
invariant-loop-i l = record {
  bytes : HasPut l.fn.words l.start l.bytes l.i l.words;
  small : AreWords l.fn.words → AreWords l.words;
}
