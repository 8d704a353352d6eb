use Rattle.std.proofs.Common.{rules}
use Rattle.ibx_elf.specs.Faults.{IsWellFormed, first_fault}
use Rattle.ibx_elf.proofs.Laws.{holds_segments, is_zero_elsewhere}
use Rattle.ibx_elf.proofs.image.load.Goals as goal

pub returns-clause-segments : goal.returns-clause-segments
unfolding first_fault
returns-clause-segments c =
    let well : IsWellFormed c.args.file.now c.args.ram = search rules in
    holds_segments c.args.file.now c.args.ram well

pub returns-clause-zero_elsewhere : goal.returns-clause-zero_elsewhere
unfolding first_fault
returns-clause-zero_elsewhere c =
    let well : IsWellFormed c.args.file.now c.args.ram = search rules in
    is_zero_elsewhere c.args.file.now c.args.ram well
