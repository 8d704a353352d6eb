use Rattle.std.proofs.Common.{ap, ◌∙◌, sym, subst, arith}
use Rattle.ibx_csr.specs.Values.{CsrValues, value_of}
use Rattle.ibx_csr.specs.Fields.{values, Complemented}
use Rattle.ibx_csr.proofs.Laws.{write-values, write-others, write-machine}
use Rattle.ibx_csr.proofs.Sound.{write-sound}
use Rattle.ibx_csr.proofs.csrs.Csrs.write.Goals as goal

pub returns-clause-values : goal.returns-clause-values
returns-clause-values c = ap values c.write_at.ensures.fields ∙ write-values _ _ _

pub returns-clause-others : goal.returns-clause-others
returns-clause-others c = λ d lines other.
    ap (λ (v : CsrValues). value_of v d lines) (ap values c.write_at.ensures.fields ∙ write-values _ _ _)
    ∙ write-others (values c.args.self.now) c.args.addr c.args.value d lines (omega (arith, c.ranges.value.fits)) other

pub returns-clause-mode : goal.returns-clause-mode
unfolding values
returns-clause-mode c =
    ap (λ (v : CsrValues). v.machine) (ap values c.write_at.ensures.fields ∙ write-values _ _ _)
    ∙ write-machine (values c.args.self.now) c.args.addr c.args.value

pub returns-clause-sound : goal.returns-clause-sound
returns-clause-sound c = λ h. subst Complemented (sym c.write_at.ensures.fields) (write-sound _ _ _ h)
