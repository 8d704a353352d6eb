use Rattle.std.proofs.Common.{ℕ, ◌<◌, refl, subst}
use Rattle.ibx_core.specs.Flipped.{out_of, wire_flip}
use Rattle.ibx_core.proofs.OneBit.{flipped_fields, flipped_wires}
use Rattle.ibx_core.proofs.Widths.{width_is}
use Rattle.ibx_system.proofs.laws.one_bit.Goals as goal

pub returns-clause-field : goal.returns-clause-field
returns-clause-field c =
    λ core field bit inside fits.
    flipped_fields core field bit inside (subst (λ (n : ℕ). bit < n) (width_is field) fits)

pub returns-clause-wire : goal.returns-clause-wire
returns-clause-wire c = λ pair wire bit inside fits. flipped_wires pair wire bit inside fits

pub returns-clause-event : goal.returns-clause-event
unfolding wire_flip out_of
returns-clause-event c = λ pair wire bit. refl
