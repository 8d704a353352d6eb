use Rattle.std.proofs.Common.{refl}
use Rattle.ibx_asm.proofs.Texts.{got_mapped, got_at}
use Rattle.ibx_asm.proofs.operand.name_at.Goals as goal

pub returns-in-Some : goal.returns-in-Some
returns-in-Some c =
    let found = c.in-Some.ensures.lookup.3 in
    rw (got_mapped (λ name. name.now) c.args.names.now c.args.number)
    (rw (got_at c.args.names.now c.args.number c.in-Some.name.now found.0 found.1) refl)
