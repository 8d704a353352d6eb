use Rattle.std.proofs.Common.{◌≡◌, ◌*◌, ◌≤◌, drop, length, map}
use Rattle.ibx_asm.specs.Denote.{code_of_all}
use Rattle.ibx_asm.specs.Held.{stands}
use Rattle.ibx_asm.proofs.Denoting.{after}
use Rattle.ibx_asm.proofs.assembler.code_of_all.Given as goal

abbrev pub invariant-loop-line : goal.invariant-loop-line
invariant-loop-line l = record {
  size : length l.code.items ≤ 4 * l.line-index;
  so_far : code_of_all l.labels (map stands l.all) ≡ after l.code.items
      (code_of_all l.labels (map stands (drop l.line-index l.all)));
}
