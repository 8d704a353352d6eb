use Rattle.ibx_time_system.proofs.Reset.{starts}
use Rattle.ibx_time_system.proofs.law.starts.Goals as goal

pub returns : goal.returns
returns c = λ s delay ok. starts s delay ok
