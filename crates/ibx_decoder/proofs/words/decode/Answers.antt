use Rattle.std.proofs.Common.{◌≡◌, ◌%◌, subst, sym, Option, arith}
use Rattle.std.specs.Prelude.{IfSome, OnSome}
use Rattle.ibx_isa.specs.declared.insn.Insn.{Insn}
use Rattle.ibx_isa.specs.WellFormed.{IsWellFormed}
use Rattle.ibx_decoder.specs.Rows.{rows}
use Rattle.ibx_decoder.specs.Table.{IsRow}
use Rattle.ibx_decoder.proofs.Sound.{decode_of-row, decode_of-sound, decode_of-long}
use Rattle.ibx_decoder.proofs.words.decode.Goals as goal

pub returns-clause-row : goal.returns-clause-row
returns-clause-row c =
    subst (λ (o : Option Insn). IsRow c.args.word rows o) (sym c.decoded.ensures) (decode_of-row c.args.word)

pub returns-clause-sound : goal.returns-clause-sound
returns-clause-sound c = subst (λ (o : Option Insn). IfSome o IsWellFormed) (sym c.decoded.ensures)
    (decode_of-sound c.args.word (omega arith))

pub returns-clause-long : goal.returns-clause-long
returns-clause-long c =
    subst (λ (o : Option Insn). OnSome o (c.args.word % 4 ≡ 3)) (sym c.decoded.ensures) (decode_of-long c.args.word)
