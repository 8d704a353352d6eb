-- The parts of the file are the headers and the code, and the laws are those of the file around code.
use Rattle.std.proofs.Common.{refl, arith}
use Rattle.ibx_wrap.specs.Wrapped.{wrapped}
use Rattle.ibx_wrap.proofs.Laws.{wrapped-well_formed, image_of-wrapped}
use Rattle.ibx_wrap.proofs.wrap.Goals as goal

bytes : goal.returns-clause-bytes
unfolding wrapped
bytes c =
    rw (
      c.in_ok-extend_from_slice-6.ensures.items,
      c.in_ok-extend_from_slice-5.ensures.items,
      c.in_ok-extend_from_slice-4.ensures.items,
      c.in_ok-extend_from_slice-3.ensures.items,
      c.in_ok-extend_from_slice-2.ensures.items,
      c.in_ok-extend_from_slice.ensures.items,
      c.in_ok-file.ensures.items,
      c.to_le_bytes-count.ensures,
    ) refl

pub returns-clause-bytes : goal.returns-clause-bytes
returns-clause-bytes c = bytes c

pub returns-clause-well_formed : goal.returns-clause-well_formed
returns-clause-well_formed c ram takes =
    rw (bytes c) (wrapped-well_formed c.args.code.now ram (omega arith) takes)

pub returns-clause-image : goal.returns-clause-image
returns-clause-image c ram =
    rw (bytes c) (image_of-wrapped c.args.code.now ram (omega arith))
