use Rattle.ibx_text.proofs.Tables.{decimal_entry}
use Rattle.ibx_text.proofs.pairs.decimal_pair.Goals as goal

pub returns : goal.returns
returns c = decimal_entry c.args.number c.requires
