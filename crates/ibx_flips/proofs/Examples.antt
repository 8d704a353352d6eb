-- Which words of an input are used, worked out by cases: a word with one bit flipped is heard exactly where it is
-- used.
use Rattle.std.proofs.Common.{◌≡◌, ℕ, ◌+◌, ◌/◌, ◌^◌, Bool, true, false, List, [], ◌∷◌, refl}
use Rattle.std.specs.Prelude.{bit_xor}
use Rattle.std.specs.List.{list_all}
use mathlib.Core.Bool.{beq}
use Rattle.ibx_secded.specs.Code.{checks, column, columns, encode_of, numbers_of_weight, syndrome_of, weight}
use Rattle.ibx_icache.specs.WordPort.{reset_of as words_reset}
use Rattle.ibx_core.specs.declared.state.State.{State}
use Rattle.ibx_core.specs.Fields.{reset_of}
use Rattle.ibx_core.specs.Wires.{InWires as In, quiet_in}
use Rattle.ibx_system.specs.Core.{core_parts, hears_bad}

-- a core that rests, and one that looks up the line of this address
line_addr : ℕ
line_addr = 0x100080

-- the core at reset rests
rests : State
unfolding reset_of words_reset
rests = reset_of 0x100080

-- a core that looks the line up
looks_up : State
unfolding reset_of words_reset line_addr
looks_up = let x = reset_of 0x100080 in record x { words = record words_reset { c_state = 1; c_addr = line_addr } }

-- codewords of 0, the tag of the line, and one of another line
zero_word : ℕ
zero_word = encode_of 32 7 0

-- the tag of the line
here : ℕ
unfolding line_addr
here = encode_of 22 6 (2 ^ 21 + line_addr / 2 ^ 11)

-- a tag that is empty
elsewhere : ℕ
elsewhere = encode_of 22 6 0

-- an input whose words are codewords, with these tags
abbrev sound : ℕ → ℕ → In
sound tag0 tag1 = record quiet_in {
  irsp_word = zero_word;
  drsp_word = zero_word;
  rega = zero_word;
  regb = zero_word;
  tag0 = tag0;
  tag1 = tag1;
  data0 = zero_word;
  data1 = zero_word;
}

-- bit 5 of a word
abbrev flipped : ℕ → ℕ
flipped word = bit_xor word 32

-- a core, an input, and whether it hears a flipped bit
record Case : Type 0 where
  core : State
  input : In
  heard : Bool

-- each word with and without a use
cases : List Case
unfolding zero_word here elsewhere rests looks_up
cases =
    -- no flipped bit
    record { core = looks_up; input = sound here here; heard = false } ∷
    -- answers count where they are valid
    record { core = rests; input = record (sound here here) { irsp_word = flipped zero_word }; heard = false } ∷
    record {
      core = rests;
      input =
          record (sound here here) { irsp_valid = true; irsp_word = flipped zero_word };
      heard = true;
    } ∷
    record { core = rests; input = record (sound here here) { drsp_word = flipped zero_word }; heard = false } ∷
    record {
      core = rests;
      input =
          record (sound here here) { drsp_valid = true; drsp_word = flipped zero_word };
      heard = true;
    } ∷
    -- register words always
    record { core = rests; input = record (sound here here) { rega = flipped zero_word }; heard = true } ∷
    record { core = rests; input = record (sound here here) { regb = flipped zero_word }; heard = true } ∷
    -- tags in a lookup
    record { core = rests; input = sound (flipped here) here; heard = false } ∷
    record { core = looks_up; input = sound (flipped here) here; heard = true } ∷
    record { core = rests; input = sound here (flipped elsewhere); heard = false } ∷
    record { core = looks_up; input = sound here (flipped elsewhere); heard = true } ∷
    -- the data word of the lowest matching way of a lookup
    record { core = rests; input = record (sound here here) { data0 = flipped zero_word }; heard = false } ∷
    record { core = looks_up; input = record (sound here here) { data0 = flipped zero_word }; heard = true } ∷
    record { core = looks_up; input = record (sound elsewhere here) { data0 = flipped zero_word }; heard = false } ∷
    record { core = looks_up; input = record (sound here here) { data1 = flipped zero_word }; heard = false } ∷
    record { core = looks_up; input = record (sound elsewhere here) { data1 = flipped zero_word }; heard = true } ∷
    record {
      core = looks_up;
      input = record (sound elsewhere elsewhere) { data1 = flipped zero_word };
      heard =
          false;
    } ∷ []

-- every case comes out as it says
hears : list_all (λ (c : Case). beq (hears_bad core_parts c.core c.input) c.heard) cases ≡ true
unfolding cases core_parts hears_bad zero_word here elsewhere rests looks_up line_addr reset_of words_reset encode_of
    syndrome_of checks column columns numbers_of_weight weight
hears = refl
