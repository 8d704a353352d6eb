use Rattle.std.proofs.Common.{refl, ap, ◌∙◌, Err}
use Rattle.ibx_top.proofs.Longer.{longer_content}
use Rattle.ibx_top.proofs.steps.read_bytes.Goals as goal

pub returns-in-Err-TooLong-clause-stops : goal.returns-in-Err-TooLong-clause-stops
returns-in-Err-TooLong-clause-stops g c = (
  refl,
  longer_content (g.F.Files.contents c.args.files.now) c.args.name.now c.args.limit
      (c.read_all.ensures.too_long (c.in-Err-TooLong.is ∙ ap Err c.in-Err-TooLong.field-0-is)),
)
