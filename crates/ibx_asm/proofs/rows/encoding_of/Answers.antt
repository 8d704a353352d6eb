use Rattle.std.proofs.Common.{◌≤◌, sym, subst, Option, IfSome}
use Rattle.ibx_asm.specs.declared.rows.Encoding.{Encoding}
use Rattle.ibx_asm.specs.Mnemonics.{encoding_of}
use Rattle.ibx_asm.proofs.Finding.{is_short}
use Rattle.ibx_asm.proofs.rows.encoding_of.Goals as goal

pub returns-clause-value : goal.returns-clause-value
unfolding encoding_of
returns-clause-value c = c.encoding_in.ensures

pub returns-clause-short : goal.returns-clause-short
returns-clause-short c = subst (λ (o : Option Encoding). IfSome o (λ e. e.size ≤ 4)) (sym (returns-clause-value c))
    (is_short c.args.name.now)
