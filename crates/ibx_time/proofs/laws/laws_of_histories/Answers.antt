use Rattle.ibx_time.proofs.Chains.{has_chain}
use Rattle.ibx_time.proofs.Seen.{has_seen}
use Rattle.ibx_time.proofs.laws.laws_of_histories.Goals as goal

pub returns-clause-chained : goal.returns-clause-chained
returns-clause-chained c = has_chain

pub returns-clause-seen : goal.returns-clause-seen
returns-clause-seen c = has_seen
