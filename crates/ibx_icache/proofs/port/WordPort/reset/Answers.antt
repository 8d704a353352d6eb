use Rattle.std.proofs.Common.{refl}
use Rattle.ibx_icache.proofs.Runs.{emptying, keeps_fences}
use Rattle.ibx_icache.proofs.port.WordPort.reset.Goals as goal

pub returns-clause-emptying : goal.returns-clause-emptying
returns-clause-emptying c = emptying _ refl

pub returns-clause-fences : goal.returns-clause-fences
returns-clause-fences c = keeps_fences _
