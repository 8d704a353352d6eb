use Rattle.ibx_top.proofs.Sums.{HasRun}
use Rattle.ibx_top.proofs.totals.run_total.Given as goal

-- the events of the cycles so far are summed and counted
abbrev pub invariant-loop : goal.invariant-loop
invariant-loop l = record { run : HasRun l.cycles l.fn.soc l.soc l.counter l.sum l.events }
