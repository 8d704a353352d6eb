use Rattle.std.proofs.Common.{ℕ, subst, sym, Option, arith}
use Rattle.std.specs.Prelude.{IfSome, OnSome, IsTrue}
use Rattle.ibx_decoder.specs.Rows.{IsInstruction}
use Rattle.ibx_decoder.specs.Compressed.{rows, is_short_of}
use Rattle.ibx_decoder.specs.Table.{IsRow}
use Rattle.ibx_decoder.proofs.Expansions.{expand_of-row, expand_of-fits, expand_of-short}
use Rattle.ibx_decoder.proofs.halves.expand.Goals as goal

pub returns-clause-row : goal.returns-clause-row
returns-clause-row c =
    subst (λ (o : Option ℕ). IsRow c.args.half rows o) (sym c.expanded.ensures) (expand_of-row c.args.half)

pub returns-clause-decodes : goal.returns-clause-decodes
returns-clause-decodes c =
    subst (λ (o : Option ℕ). IfSome o IsInstruction) (sym c.expanded.ensures) (expand_of-fits c.args.half)

pub returns-clause-short : goal.returns-clause-short
returns-clause-short c = subst (λ (o : Option ℕ). OnSome o (IsTrue (is_short_of c.args.half))) (sym c.expanded.ensures)
    (expand_of-short c.args.half (omega arith))
