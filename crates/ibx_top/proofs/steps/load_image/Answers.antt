use Rattle.std.proofs.Common.{sym, subst}
use Rattle.ibx_elf.specs.Image.{Placed}
use Rattle.ibx_time.specs.Runs.{IsPlaced}
use Rattle.ibx_time_system.proofs.Files.{placed}
use Rattle.ibx_top.proofs.steps.load_image.Goals as goal

pub returns-in-Ok-clause-placed : goal.returns-in-Ok-clause-placed
returns-in-Ok-clause-placed c = λ mul plan words.
    subst (λ (image : Placed). IsPlaced (record { image = image; mul = mul; plan = plan })) (sym c.in-Ok.ensures.image)
    (placed c.args.bytes.now c.args.ram mul plan c.requires.range c.in-Ok.ensures.fault c.are_bytes.ensures words)
