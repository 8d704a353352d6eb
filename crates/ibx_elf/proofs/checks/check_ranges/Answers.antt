use Rattle.std.proofs.Common.{arith}
use Rattle.std.proofs.lemmas.Grind.{common_steps}
use Rattle.ibx_elf.specs.declared.fault.ElfFault.TheVariants.{OutsideRam}
use Rattle.ibx_elf.specs.Faults.{outside_fault}
use Rattle.ibx_elf.specs.Fields.{e_phnum}
use Rattle.ibx_elf.proofs.Searching.{first_below-found}
use Rattle.ibx_elf.proofs.checks.check_ranges.Goals as goal

pub returns-then-leaves : goal.returns-then-leaves
unfolding outside_fault
returns-then-leaves c =
    grind (
      arith,
      common_steps,
      first_below-found (outside_fault c.args.file.now c.args.ram) c.loop-i.i
          (e_phnum c.args.file.now) (OutsideRam c.loop-i.i),
    )
