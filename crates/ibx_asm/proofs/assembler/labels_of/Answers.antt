use Rattle.std.proofs.Common.{refl, sym, append-nil}
use Rattle.std.proofs.lemmas.List.{map-append}
use Rattle.ibx_asm.specs.Held.{meant}
use Rattle.ibx_asm.proofs.Denoting.{one_label}
use Rattle.ibx_asm.proofs.assembler.labels_of.Goals as goal
use Rattle.ibx_asm.proofs.assembler.labels_of.Goals.{in-Some+in_ok-push, in_default}

pub loop-line-preserved : goal.loop-line-preserved
loop-line-preserved c = elim c.match-label_of.branch [
  | in-Some+in_ok-push w ↦
      let here = rw w.in-Some.is at c.label_of.ensures in
      let more = one_label c.args.all.now c.loop-line.line-index _ _ c.loop-line-test.true here in
      rw (
        w.labels-is,
        w.in_ok-push.ensures.items,
        map-append meant c.loop-line.labels.items _,
        more,
        c.loop-line.invariant,
      ) refl
  | in_default w ↦
      let here = rw w.in_default.is at c.label_of.ensures in
      let more = one_label c.args.all.now c.loop-line.line-index _ _ c.loop-line-test.true here in
      rw (w.labels-is, more, c.loop-line.invariant) (sym (append-nil _))
]
