use Rattle.std.proofs.Common.{Some, None, refl, ◌∙◌, map, string_bytes}
use Rattle.ibx_command.specs.Parts.{pieces_of}
use Rattle.ibx_command.proofs.Steps.{ram_by}
use Rattle.ibx_command.proofs.options.ram_in.Goals as goal

pub returns-in_err-base-clause-value : goal.returns-in_err-base-clause-value
returns-in_err-base-clause-value c = c.from_residual.ensures ∙ ram_by (pieces_of (map string_bytes c.args.words.now))
    None _ c.in_err-base.ensures.value refl

pub returns-in_err-size-clause-value : goal.returns-in_err-size-clause-value
returns-in_err-size-clause-value c = c.from_residual-in_err-size.ensures ∙ ram_by
    (pieces_of (map string_bytes c.args.words.now)) (Some c.in_ok-base.field-0) None c.in_ok-base.ensures.value
    c.in_err-size.ensures.value

pub returns-clause-value : goal.returns-clause-value
returns-clause-value c = c.checked_ram.ensures.value ∙ ram_by (pieces_of (map string_bytes c.args.words.now))
    (Some c.in_ok-base.field-0) (Some c.in_ok-size.field-0) c.in_ok-base.ensures.value c.in_ok-size.ensures.value
