use Rattle.ibx_elf.proofs.Laws.{readable}
use Rattle.ibx_elf.proofs.image.Image.segment.Goals as goal

pub segment_at-requires-clause-readable : goal.segment_at-requires-clause-readable
segment_at-requires-clause-readable c = readable c.self.inside.file.now c.self.inside.ram c.self.invariant.1
