use Rattle.std.proofs.Common.{◌≡◌, ◌≤◌, ◌+◌, ◌∙◌, length, true, false, refl, sym, ap, arith, lit≤}
use Rattle.ibx_elf.specs.Fields.{program_header, is_load}
use Rattle.ibx_elf.specs.Image.{segments_below}
use Rattle.ibx_elf.proofs.Counted.{no_segments, none_more, count_more}
use Rattle.ibx_elf.proofs.segments.count_segments.Goals as goal
use Rattle.ibx_elf.proofs.segments.count_segments.Goals.{then-is_load, else-is_load}

pub loop-i-init : goal.loop-i-init
loop-i-init c = record { count = rw (no_segments c.args.file.now) refl; few = lit≤ tt }

pub loop-i-preserved : goal.loop-i-preserved
loop-i-preserved c =
    let file = c.args.file.now in
    elim c.if-is_load.branch [
      | then-is_load w ↦
          let load : is_load (program_header file c.loop-i.i) ≡ true = rw (← c.read.ensures)
          (sym c.is_load.ensures ∙ w.if-is_load.true) in
          record {
            count = w.count-is ∙ omega (arith, c.loop-i.invariant.count, count_more file c.loop-i.i load);
            few = omega (arith, w.count-is, c.loop-i.invariant.few);
          }
      | else-is_load w ↦
          let load : is_load (program_header file c.loop-i.i) ≡ false = rw (← c.read.ensures)
          (sym c.is_load.ensures ∙ w.if-is_load.false) in
          record {
            count = w.count-is ∙ c.loop-i.invariant.count ∙ ap length (sym (none_more file c.loop-i.i load));
            few = omega (arith, w.count-is, c.loop-i.invariant.few);
          }
    ]
