use Rattle.std.proofs.Common.{refl, sym, ◌∙◌, arith}
use Rattle.ibx_elf.proofs.Overlaps.{all_ascend, not_ascending}
use Rattle.ibx_elf.proofs.checks.are_ascending.Goals as goal

pub returns-in_default : goal.returns-in_default
returns-in_default c = (
  λ never. absurd (cc),
  λ up.
      absurd
      (not_ascending c.args.file.now c.loop-i.i c.loop-i.end c.read.result c.loop-i.invariant (omega arith)
      c.read.ensures
      (sym c.end_after.ensures ∙ c.in_default.is) up),
)

pub returns : goal.returns
returns c = (λ _. all_ascend c.args.file.now c.loop-i.i c.loop-i.end c.loop-i.invariant (omega arith), λ _. refl)
