use Rattle.std.proofs.Common.{◌≡◌, None}
use Rattle.ibx_elf.specs.Image.{placed_by}
use Rattle.ibx_elf.specs.Search.{first_below}
use Rattle.ibx_elf.proofs.image.byte_at.Given as goal

abbrev pub invariant-loop-i : goal.invariant-loop-i
invariant-loop-i l = first_below (placed_by l.file l.addr) l.i ≡ None
