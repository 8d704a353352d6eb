-- Cores with equal fields are equal: the fields give the core back.
use Rattle.std.proofs.Common.{◌≡◌, Bool, true, false, refl, sym, ◌∙◌, ap}
use Rattle.ibx_core.specs.declared.state.State.{State}
use Rattle.ibx_core.specs.Fields.{bit, fields}
use Rattle.ibx_core.specs.Flipped.{core_of, is_set}

-- a bit is its own number's test
pub is_set-bit : (b : Bool) → is_set (bit b) ≡ b
is_set-bit true = refl
is_set-bit false = refl

-- the fields give the core back
pub core_of-fields : (s : State) → core_of (fields s) ≡ s
unfolding core_of fields
core_of-fields s = simp is_set-bit

-- equal fields, equal cores
pub fields_injective : (a b : State) → fields a ≡ fields b → a ≡ b
fields_injective a b e = sym (core_of-fields a) ∙ ap core_of e ∙ core_of-fields b
