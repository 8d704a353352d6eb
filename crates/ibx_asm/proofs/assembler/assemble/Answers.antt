use Rattle.ibx_asm.specs.Denote.{denoted}
use Rattle.ibx_asm.proofs.assembler.assemble.Goals as goal

pub returns-clause-value : goal.returns-clause-value
unfolding denoted
returns-clause-value c =
    let h = rw (c.in_ok-labels.ensures, c.as_slice.ensures.value, c.as_slice-2.ensures.value, c.in_ok-all.ensures.value) at c.code_of_all.ensures.value in
    h
