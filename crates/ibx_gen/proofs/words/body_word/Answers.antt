-- Each arm's sum is that of the fields in the table's row.
use Rattle.std.proofs.Common.{◌≡◌, ◌%◌, arith}
use Rattle.ibx_gen.proofs.Choices.{chosen}
use Rattle.ibx_gen.proofs.words.body_word.Goals as goal

pub returns-in-0 : goal.returns-in-0
returns-in-0 c = rw (chosen c.args.draw 0 c.in-0.is) (omega arith)

pub returns-in-1 : goal.returns-in-1
returns-in-1 c = rw (chosen c.args.draw 1 c.in-1.is) (omega arith)

pub returns-in-2 : goal.returns-in-2
returns-in-2 c = rw (chosen c.args.draw 2 c.in-2.is) (omega arith)

pub returns-in-3 : goal.returns-in-3
returns-in-3 c = rw (chosen c.args.draw 3 c.in-3.is) (omega arith)

pub returns-in-4 : goal.returns-in-4
returns-in-4 c = rw (chosen c.args.draw 4 c.in-4.is) (omega arith)

pub returns-in-5 : goal.returns-in-5
returns-in-5 c = rw (chosen c.args.draw 5 c.in-5.is) (omega arith)

pub returns-in-6 : goal.returns-in-6
returns-in-6 c = rw (chosen c.args.draw 6 c.in-6.is) (omega arith)

pub returns-in_default : goal.returns-in_default
returns-in_default c =
    let last : c.args.draw % 8 ≡ 7 = omega arith in
    rw (chosen c.args.draw 7 last) (omega arith)
