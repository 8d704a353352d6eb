-- The tag word that is driven, and the alert of a lookup.
use Rattle.std.proofs.Common.{◌≡◌, ℕ, Bool, sym, ap}
use Rattle.std.specs.Prelude.{◌&&◌}
use Rattle.ibx_secded.specs.Code.{encode_of, payload_of, syndrome_of}
use Rattle.ibx_secded.proofs.Laws.{encode_of-payload}
use Rattle.ibx_icache.specs.WordPort.{has_bad, met_of}
use Rattle.ibx_icache.proofs.States.{is_look-doing}
use Rattle.ibx_core.specs.declared.state.State.{State}
use Rattle.ibx_core.specs.Core.{is_minor}
use Rattle.ibx_core.specs.Inputs.{irsp_of, look_in}
use Rattle.ibx_core.specs.Wires.{InWires}

-- a codeword is that of its payload
pub tag_is : (tag : ℕ) → syndrome_of 22 6 tag ≡ 0 → encode_of 22 6 (payload_of 22 tag) ≡ tag
tag_is tag e = sym (encode_of-payload 22 6 tag e)

-- what the word port meets in a lookup is the core's MINOR
pub bad_is : (x : State) (i : InWires) → (met_of x.words (irsp_of i) (look_in i)).bad ≡ is_minor x i
bad_is x i = ap (λ (b : Bool). b && has_bad (look_in i) x.words.c_addr) (is_look-doing x.words.c_state)
