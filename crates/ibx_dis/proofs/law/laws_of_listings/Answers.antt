use Rattle.ibx_dis.proofs.Stands.{lists_its_file}
use Rattle.ibx_dis.proofs.law.laws_of_listings.Goals as goal

pub returns : goal.returns
returns c = record { lists_its_file = lists_its_file }
