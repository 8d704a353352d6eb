use Rattle.std.proofs.Common.{◌≡◌, ◌++◌}
use Rattle.ibx_gen.specs.Draws.{draw_of}
use Rattle.ibx_gen.specs.Words.{body, bytes_of}
use Rattle.ibx_gen.proofs.firmware.append_body.Given as goal

-- the last draw, and the bytes of the words so far
abbrev pub invariant-loop : goal.invariant-loop
invariant-loop l =
    (l.draw ≡ draw_of l.seed l.counter)
    × (l.code.items ≡ l.initial.code.items ++ bytes_of (body l.seed l.counter))
