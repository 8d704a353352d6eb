use Rattle.std.proofs.Common.{◌∙◌, ap, sym, arith}
use Rattle.std.proofs.lemmas.Grind.{common_steps}
use Rattle.ibx_elf.specs.declared.fault.ElfFault.TheVariants.{Overlap}
use Rattle.ibx_elf.specs.Faults.{first_overlap, overlap_fault}
use Rattle.ibx_elf.specs.Fields.{e_phnum, has_file_bytes}
use Rattle.ibx_elf.proofs.Overlaps.{empty_has_none, no_overlap_up_to}
use Rattle.ibx_elf.proofs.Searching.{first_below-found}
use Rattle.ibx_elf.proofs.checks.check_overlaps_of.Goals as goal

pub loop-j-init : goal.loop-j-init
loop-j-init c = no_overlap_up_to c.args.file.now c.args.i

pub returns-then-shares_address : goal.returns-then-shares_address
unfolding first_overlap overlap_fault
returns-then-shares_address c =
    grind (
      arith,
      common_steps,
      first_below-found (overlap_fault c.args.file.now c.args.i) c.loop-j.j
          (e_phnum c.args.file.now) (Overlap c.args.i c.loop-j.j),
    )

pub returns-then-not-has_file_bytes : goal.returns-then-not-has_file_bytes
returns-then-not-has_file_bytes c =
    empty_has_none c.args.file.now c.args.i
    (ap has_file_bytes (sym c.read-first.ensures) ∙ sym c.has_file_bytes.ensures ∙ c.if-not-has_file_bytes.true)
