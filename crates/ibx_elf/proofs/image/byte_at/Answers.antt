use Rattle.std.proofs.Common.{arith, slice_index, ◌+◌, ◌-◌}
use Rattle.std.proofs.lemmas.Grind.{common_steps}
use Rattle.ibx_elf.specs.Fields.{e_phnum}
use Rattle.ibx_elf.specs.Image.{placed_by, placed_byte}
use Rattle.ibx_elf.proofs.Laws.{segment_within}
use Rattle.ibx_elf.proofs.Searching.{first_below-found}
use Rattle.ibx_elf.proofs.image.byte_at.Goals as goal

pub bounds-file-header : goal.bounds-file-header
bounds-file-header c = grind (arith, segment_within c.args.file.now c.loop-i.i c.args.addr c.requires)

pub returns-then-places : goal.returns-then-places
unfolding placed_byte placed_by
returns-then-places c =
    let header = c.read-header.result in
    grind (
      arith,
      common_steps,
      first_below-found (placed_by c.args.file.now c.args.addr) c.loop-i.i (e_phnum c.args.file.now)
          (slice_index c.args.file.now (header.p_offset + (c.args.addr - header.p_paddr))),
    )
