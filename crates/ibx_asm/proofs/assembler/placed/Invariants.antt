use Rattle.std.proofs.Common.{◌≡◌, ◌+◌, ◌*◌, ◌≤◌, ◌++◌, length, map}
use Rattle.std.specs.Str.Lines.{lines}
use Rattle.ibx_asm.specs.Denote.{code_base, placed}
use Rattle.ibx_asm.specs.Held.{stands}
use Rattle.ibx_asm.proofs.assembler.placed.Given as goal

abbrev pub invariant-loop-rest : goal.invariant-loop-rest
invariant-loop-rest l = record {
  few : l.number + length l.rest ≤ length l.text;
  low : l.address ≤ code_base + 4 * l.number;
  all : length l.all.items ≡ l.number;
  so_far : placed 1 code_base (lines l.text) ≡ map stands l.all.items ++ placed (l.number + 1) l.address
      (lines l.rest);
}

abbrev pub decreases-loop-rest : goal.decreases-loop-rest
decreases-loop-rest l = length l.rest
