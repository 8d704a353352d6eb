use Rattle.std.proofs.Common.{true, ap, sym, ◌∙◌, arith, Bool}
use Rattle.std.specs.Prelude.{count_ones}
use Rattle.ibx_bits.specs.Bytes.{bits_number}
use Rattle.ibx_isa.specs.Portions.{is_held}
use Rattle.ibx_isa.proofs.LaneRows.{enables_first, enables_second, as_many}
use Rattle.ibx_bits.proofs.Bytes.{bits_number-lt}
use Rattle.ibx_isa.proofs.portions.enables.Goals as goal

pub overflow_cast-result : goal.overflow_cast-result
overflow_cast-result c = omega (
  arith,
  enables_second c.args.addr c.args.size c.requires,
  bits_number-lt (is_held c.args.addr c.args.size true) 4,
)

value-second : goal.returns-then-second-clause-value
value-second c = enables_second c.args.addr c.args.size c.requires
    ∙ ap (λ (b : Bool). bits_number (is_held c.args.addr c.args.size b) 4) (sym c.if-second.true)

pub returns-then-second-clause-value : goal.returns-then-second-clause-value
returns-then-second-clause-value c = value-second c

pub returns-then-second-clause-fits : goal.returns-then-second-clause-fits
returns-then-second-clause-fits c =
    rw (value-second c) (bits_number-lt (is_held c.args.addr c.args.size c.args.second) 4)

pub returns-then-second-clause-portion : goal.returns-then-second-clause-portion
returns-then-second-clause-portion c =
    ap count_ones (value-second c) ∙ as_many c.args.addr c.args.size c.args.second c.requires

value-first : goal.returns-else-second-clause-value
value-first c = enables_first c.args.addr c.args.size c.requires
    ∙ ap (λ (b : Bool). bits_number (is_held c.args.addr c.args.size b) 4) (sym c.if-second.false)

pub returns-else-second-clause-value : goal.returns-else-second-clause-value
returns-else-second-clause-value c = value-first c

pub returns-else-second-clause-fits : goal.returns-else-second-clause-fits
returns-else-second-clause-fits c =
    rw (value-first c) (bits_number-lt (is_held c.args.addr c.args.size c.args.second) 4)

pub returns-else-second-clause-portion : goal.returns-else-second-clause-portion
returns-else-second-clause-portion c =
    ap count_ones (value-first c) ∙ as_many c.args.addr c.args.size c.args.second c.requires
