use Rattle.ibx_muldiv.proofs.Products.{one_more}
use Rattle.ibx_muldiv.proofs.work.Work.multiply.Goals as goal

pub loop-bit-preserved : goal.loop-bit-preserved
loop-bit-preserved c = one_more c.loop-bit._bit c.args.self c.loop-bit.work c.multiply_bit-work.result
    c.multiply_bit-work.ensures c.loop-bit.invariant
