-- The statements of the phases of a cycle, together.
use Rattle.ibx_time_invariant.proofs.FetchSide.{FetchAnswers, FetchIssues, FetchMarks, FetchPorts, FetchQuiet, FetchRests}
use Rattle.ibx_time_invariant.proofs.FetchSide.{FetchShows, FetchTakes, FetchTurns, FetchWires}
use Rattle.ibx_time_invariant.proofs.StageSide.{StagePorts, StageQuiet, StageTurns, StageWires}
use Rattle.ibx_time_invariant.proofs.ArchSide.{ArchAccesses, ArchEnds, ArchFetches, ArchQuiet, ArchRests, ArchSees}
use Rattle.ibx_time_invariant.proofs.AdmitSide.{Admits}
use Rattle.ibx_time.specs.Settings.{Setup}

-- each phase of a cycle does what the join asks of it
pub record Phases (s : Setup) : Type 0 where
  pub fetch_rests : FetchRests s
  pub fetch_marks : FetchMarks s
  pub fetch_turns : FetchTurns s
  pub fetch_answers : FetchAnswers s
  pub fetch_issues : FetchIssues s
  pub fetch_ports : FetchPorts s
  pub fetch_wires : FetchWires s
  pub fetch_shows : FetchShows s
  pub fetch_takes : FetchTakes s
  pub fetch_quiet : FetchQuiet s
  pub stage_turns : StageTurns s
  pub stage_ports : StagePorts s
  pub stage_wires : StageWires s
  pub stage_quiet : StageQuiet s
  pub arch_sees : ArchSees s
  pub arch_rests : ArchRests s
  pub arch_ends : ArchEnds s
  pub arch_fetches : ArchFetches s
  pub arch_accesses : ArchAccesses s
  pub arch_quiet : ArchQuiet s
  pub admits : Admits s
