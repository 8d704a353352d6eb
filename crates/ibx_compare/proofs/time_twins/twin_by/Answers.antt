use Rattle.std.proofs.Common.{sym, subst}
use Rattle.ibx_compare.specs.declared.time_twins.Views.{Views}
use Rattle.ibx_compare.specs.TimeTwins.{AgreesInTime}
use Rattle.ibx_compare.proofs.InTime.{full_in_time, time_in_time}
use Rattle.ibx_compare.proofs.time_twins.twin_by.Goals as goal

pub returns-in-Full-clause-in_time : goal.returns-in-Full-clause-in_time
returns-in-Full-clause-in_time c =
    subst (λ (v : Views). AgreesInTime v c.args.cycles c.args.a.now c.args.b.now c.twin.result) (sym c.in-Full.is)
    (full_in_time c.args.cycles c.args.a.now c.args.b.now c.twin.result c.twin.ensures.value)

pub returns-in-Time-clause-in_time : goal.returns-in-Time-clause-in_time
returns-in-Time-clause-in_time c =
    subst (λ (v : Views). AgreesInTime v c.args.cycles c.args.a.now c.args.b.now c.time_twin.result.twin)
    (sym c.in-Time.is)
    (time_in_time c.in-Time.ram c.in-Time.mul c.args.cycles c.args.a.now c.args.b.now c.time_twin.result
    c.time_twin.ensures.value)
