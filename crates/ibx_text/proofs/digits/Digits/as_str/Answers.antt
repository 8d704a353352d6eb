use Rattle.std.proofs.Common.{◌-◌, drop, arith, take_all, length-drop}
use Rattle.std.proofs.lemmas.Str.{IsUtf8-from_ascii}
use Rattle.ibx_text.proofs.digits.Digits.as_str.Goals as goal

pub from_utf8_unchecked-requires : goal.from_utf8_unchecked-requires
from_utf8_unchecked-requires c =
    let digits = drop c.self.inside.start c.self.inside.bytes in
    IsUtf8-from_ascii _
    (rw (take_all (20 - c.self.inside.start) digits
    (omega (arith, length-drop c.self.inside.start c.self.inside.bytes)))
    c.self.invariant.1)
