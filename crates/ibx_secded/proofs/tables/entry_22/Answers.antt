use Rattle.std.proofs.Common.{refl}
use Rattle.ibx_secded.proofs.Columns.{columns_6}
use Rattle.ibx_secded.proofs.Fours.{by_list, entry-at}
use Rattle.ibx_secded.proofs.tables.entry_22.Goals as goal

pub returns : goal.returns
unfolding by_list
returns c = entry-at 6 22 6 _ _ columns_6 refl c.args.place c.args.four c.requires.place c.requires.four
