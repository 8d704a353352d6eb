use Rattle.std.proofs.Common.{◌≡◌, ◌+◌, ◌∙◌, ℕ, true, false, length, refl, sym, ap, arith, add-zero}
use Rattle.ibx_elf.specs.Fields.{program_header, is_load, e_phnum}
use Rattle.ibx_elf.specs.Faults.{overruns}
use Rattle.ibx_elf.specs.Image.{segments_below}
use Rattle.ibx_elf.proofs.Counted.{no_segments, none_more, count_more, segment_here, within_file}
use Rattle.ibx_elf.proofs.segments.segment_at.Goals as goal
use Rattle.ibx_elf.proofs.segments.segment_at.Goals.{then-is_load+else-left-eq0, else-is_load}

pub loop-i-init : goal.loop-i-init
loop-i-init c = let none : length (segments_below c.args.file.now 0) ≡ 0 = ap length (no_segments c.args.file.now) in
    omega (arith, none)

pub file_bytes-requires-clause-within : goal.file_bytes-requires-clause-within
file_bytes-requires-clause-within c = rw c.read-header.ensures (within_file c.args.file.now c.loop-i.i
    c.requires.readable (omega (arith, c.loop-i-test.true, c.header_count-i-end.ensures)))

pub returns-then-left-eq0 : goal.returns-then-left-eq0
returns-then-left-eq0 c =
    let load : is_load (program_header c.args.file.now c.loop-i.i) ≡ true = rw (← c.read-header.ensures)
    (sym c.is_load.ensures ∙ c.if-is_load.true) in
    let at : c.args.index ≡ length (segments_below c.args.file.now c.loop-i.i) = omega
    (arith, c.loop-i.invariant, c.if-left-eq0.true) in
    rw (c.file_bytes.ensures, c.read-header.ensures) (segment_here c.args.file.now c.loop-i.i c.args.index
    (omega (arith, c.loop-i-test.true, c.header_count-i-end.ensures)) load at)

pub loop-i-preserved : goal.loop-i-preserved
loop-i-preserved c =
    let file = c.args.file.now in
    elim c.if-is_load.branch [
      | then-is_load+else-left-eq0 w ↦
          let load : is_load (program_header file c.loop-i.i) ≡ true = rw (← c.read-header.ensures)
          (sym c.is_load.ensures ∙ w.if-is_load.true) in
          omega (arith, c.loop-i.invariant, w.left-is, w.if-left-eq0.false, count_more file c.loop-i.i load)
      | else-is_load w ↦
          let load : is_load (program_header file c.loop-i.i) ≡ false = rw (← c.read-header.ensures)
          (sym c.is_load.ensures ∙ w.if-is_load.false) in
          omega (arith, c.loop-i.invariant, w.left-is, ap length (none_more file c.loop-i.i load))
    ]
