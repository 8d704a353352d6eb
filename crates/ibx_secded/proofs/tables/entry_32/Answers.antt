use Rattle.std.proofs.Common.{refl}
use Rattle.ibx_secded.proofs.Columns.{columns_7}
use Rattle.ibx_secded.proofs.Fours.{by_list, entry-at}
use Rattle.ibx_secded.proofs.tables.entry_32.Goals as goal

pub returns : goal.returns
unfolding by_list
returns c = entry-at 7 32 8 _ _ columns_7 refl c.args.place c.args.four c.requires.place c.requires.four
