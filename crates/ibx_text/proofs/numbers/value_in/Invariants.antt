use Rattle.std.proofs.Common.{◌≡◌, ◌<◌, ◌^◌, drop}
use Rattle.ibx_text.specs.Number.{value_in}
use Rattle.ibx_text.proofs.Reading.{read_on}
use Rattle.ibx_text.proofs.numbers.value_in.Given as goal

abbrev pub invariant-loop-byte : goal.invariant-loop-byte
invariant-loop-byte l =
    (l.value < 16 ^ l.byte-index) × (value_in l.base l.digits ≡ read_on l.base l.value (drop l.byte-index l.digits))
