use Rattle.std.proofs.Common.{Some, None}
use Rattle.ibx_asm.proofs.Finding.{named}
use Rattle.ibx_asm.proofs.rows.encoding_in.Goals as goal

pub returns-in-Some : goal.returns-in-Some
returns-in-Some c = named c.args.rows.now c.args.name.now (Some c.in-Some.field-0.now) c.in-Some.ensures

pub returns-in-None : goal.returns-in-None
returns-in-None c = named c.args.rows.now c.args.name.now None c.in-None.ensures
