use Rattle.std.proofs.Common.{ap, ◌∙◌, sym}
use Rattle.std.specs.Prelude.{Option, is_some, ℕ}
use Rattle.ibx_csr.specs.Fields.{values}
use Rattle.ibx_csr.proofs.Laws.{read-alike}
use Rattle.ibx_csr.proofs.csrs.Csrs.read.Goals as goal

pub returns-clause-known : goal.returns-clause-known
unfolding values
returns-clause-known c = λ v other e. read-alike v (values c.args.self.now) c.args.addr other c.args.lines e
    ∙ ap (λ (o : Option ℕ). is_some o) (sym c.read_at.ensures)
