use Rattle.ibx_elf.proofs.Laws.{readable}
use Rattle.ibx_elf.proofs.image.Image.segments.Goals as goal

pub count_segments-requires : goal.count_segments-requires
count_segments-requires c = (readable c.self.inside.file.now c.self.inside.ram c.self.invariant.1).headers
