use Rattle.ibx_time_system.proofs.Files.{placed}
use Rattle.ibx_time_system.proofs.law.placed.Goals as goal

pub returns : goal.returns
returns c = λ file ram mul plan range formed bytes masks. placed file ram mul plan range formed bytes masks
