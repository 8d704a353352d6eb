use Rattle.std.proofs.Common.{Bool, sym, ap, ◌∙◌}
use Rattle.ibx_secret.specs.Marks.{mark_reg}
use Rattle.ibx_secret.proofs.Packed.{clear_takes, not_zero, set_takes}
use Rattle.ibx_secret.proofs.registers.RegisterMarks.put.Goals as goal

pub returns-then-mark : goal.returns-then-mark
returns-then-mark c = λ m are n low.
    set_takes m c.args.self.now.bits c.args.n n c.requires (not_zero c.args.n c.if-n-eq0.false) (are n low)
    ∙ ap (λ (b : Bool). (mark_reg m c.args.n b).reg n) (sym c.if-mark.true)

pub returns-else-mark : goal.returns-else-mark
returns-else-mark c = λ m are n low.
    clear_takes m c.args.self.now.bits c.args.n n c.requires low (not_zero c.args.n c.if-n-eq0.false) (are n low)
    ∙ ap (λ (b : Bool). (mark_reg m c.args.n b).reg n) (sym c.if-mark.false)
