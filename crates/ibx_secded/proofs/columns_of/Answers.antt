use Rattle.std.proofs.Common.{◌≡◌, sym, arith}
use Rattle.ibx_secded.proofs.Columns.{columns_4, columns_5, columns_6, columns_7, columns_8}
use Rattle.ibx_secded.proofs.columns_of.Goals as goal

pub returns-in-4 : goal.returns-in-4
returns-in-4 c = rw c.in-4.is (sym columns_4)

pub returns-in-5 : goal.returns-in-5
returns-in-5 c = rw c.in-5.is (sym columns_5)

pub returns-in-6 : goal.returns-in-6
returns-in-6 c = rw c.in-6.is (sym columns_6)

pub returns-in-7 : goal.returns-in-7
returns-in-7 c = rw c.in-7.is (sym columns_7)

pub returns-in_default : goal.returns-in_default
returns-in_default c =
    let eight : c.args.height ≡ 8 = omega arith in
    rw eight (sym columns_8)
