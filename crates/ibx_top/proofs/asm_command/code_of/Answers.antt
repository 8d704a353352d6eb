use Rattle.std.proofs.Common.{sym}
use Rattle.ibx_asm.specs.Denote.{denoted}
use Rattle.ibx_top.proofs.Assembled.{bad_text, text_fault_is}
use Rattle.ibx_top.proofs.asm_command.code_of.Goals as goal

pub returns-in_default-clause-stops : goal.returns-in_default-clause-stops
returns-in_default-clause-stops c =
    sym (bad_text c.args.name.now c.args.text.now c.in-Err.fault c.requires
    (text_fault_is c.in-Err.fault (denoted c.args.text.now) c.in_default.not-Memory c.in-Err.ensures.value))
