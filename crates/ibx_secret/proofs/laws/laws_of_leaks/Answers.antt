use Rattle.ibx_secret.proofs.Reasons.{finds_leak, tells_leaks}
use Rattle.ibx_secret.proofs.laws.laws_of_leaks.Goals as goal

pub returns-clause-told : goal.returns-clause-told
returns-clause-told c = tells_leaks

pub returns-clause-first : goal.returns-clause-first
returns-clause-first c = finds_leak
