use Rattle.ibx_asm.proofs.Texts.{suited}
use Rattle.ibx_asm.proofs.disassembler.mnemonic_in.Goals as goal

pub returns : goal.returns
returns c = suited c.args.rows.now c.args.word c.row_suiting.result c.row_suiting.ensures
