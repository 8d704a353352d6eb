use Rattle.std.proofs.Common.{◌≡◌, ◌≤◌, length, map}
use Rattle.ibx_plan.proofs.text.Words.of.Given as goal

abbrev pub invariant-loop-word : goal.invariant-loop-word
invariant-loop-word l = (l.words ≡ map (λ x. x.now) l.yielded) × (length l.words ≤ 8)
