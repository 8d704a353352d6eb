use Rattle.std.proofs.Common.{◌∙◌, ap}
use Rattle.ibx_decoder.specs.Table.{none_holds}
use Rattle.ibx_asm.proofs.Texts.{none_is_all}
use Rattle.ibx_asm.proofs.disassembler.no_exception.Goals as goal

pub returns : goal.returns
returns c = c.all_fail.ensures ∙ none_is_all c.args.word c.exceptions_of.result.now ∙ ap (none_holds c.args.word)
    c.exceptions_of.ensures
