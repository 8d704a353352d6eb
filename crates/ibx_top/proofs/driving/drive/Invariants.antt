use Rattle.std.proofs.Common.{◌≤◌}
use Rattle.ibx_top.proofs.Drives.{HasMade}
use Rattle.ibx_top.proofs.driving.drive.Given as goal

abbrev pub invariant-loop-made : goal.invariant-loop-made
invariant-loop-made g l = record {
  run : HasMade l.cycles l.fn.soc (g.K.Sink.taken l.fn.out) (g.K.Sink.taken l.out) l.soc l.made l.events;
  faults : g.K.Sink.faults l.fn.out ≤ g.K.Sink.faults l.out;
}
