use Rattle.std.proofs.Common.{arith}
use Rattle.std.proofs.lemmas.Grind.{common_steps}
use Rattle.ibx_elf.specs.declared.fault.ElfFault.TheVariants.{Segment}
use Rattle.ibx_elf.specs.Faults.{segment_fault}
use Rattle.ibx_elf.specs.Fields.{e_phnum}
use Rattle.ibx_elf.proofs.Searching.{first_below-found}
use Rattle.ibx_elf.proofs.checks.check_segments.Goals as goal

pub returns-then-overruns : goal.returns-then-overruns
unfolding segment_fault
returns-then-overruns c =
    grind (
      arith,
      common_steps,
      first_below-found (segment_fault c.args.file.now) c.loop-i.i (e_phnum c.args.file.now)
          (Segment c.loop-i.i),
    )
