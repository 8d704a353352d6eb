-- What the machine's theorem stands on: the statements that are left, and what follows from them.
use Rattle.ibx_time_invariant.proofs.Ties.{IsPlaced}
use Rattle.ibx_time_invariant.proofs.FetchSide.{FetchAnswers, FetchPorts, FetchShows, FetchTakes}
use Rattle.ibx_time_invariant.proofs.StageSide.{StagePorts}
use Rattle.ibx_time_invariant.proofs.ArchSide.{ArchAccesses, ArchEnds, ArchFetches, ArchQuiet, ArchSees}
use Rattle.ibx_time_invariant.proofs.AdmitSide.{Admits}
use Rattle.ibx_time_invariant.proofs.Phases.{Phases}
use Rattle.ibx_time_invariant.proofs.Runs.{has_events, has_wires, holds_values, is_quiet, shows_history}
use Rattle.ibx_time_invariant.proofs.Quiets.{fetch_quiet, stage_quiet}
use Rattle.ibx_time_invariant.proofs.Rests.{arch_rests}
use Rattle.ibx_time_invariant.proofs.Turns.{fetch_rests, fetch_turns}
use Rattle.ibx_time_invariant.proofs.Accesses.{stage_turns}
use Rattle.ibx_time_invariant.proofs.DataWires.{stage_wires}
use Rattle.ibx_time_invariant.proofs.Marks.{fetch_marks}
use Rattle.ibx_time_invariant.proofs.FetchWiring.{fetch_wired}
use Rattle.ibx_time_invariant.proofs.Issues.{fetch_issues}
use Rattle.ibx_time.specs.Settings.{Setup}
use Rattle.ibx_time_machine.specs.Whole.{HasEvents, HasWires, HoldsValues, IsQuiet, ShowsHistory}

-- the phases that are still to be proved
pub record Remaining (s : Setup) : Type 0 where
  pub fetch_answers : FetchAnswers s
  pub fetch_ports : FetchPorts s
  pub fetch_shows : FetchShows s
  pub fetch_takes : FetchTakes s
  pub stage_ports : StagePorts s
  pub arch_sees : ArchSees s
  pub arch_ends : ArchEnds s
  pub arch_fetches : ArchFetches s
  pub arch_accesses : ArchAccesses s
  pub arch_quiet : ArchQuiet s
  pub admits : Admits s

-- with these the phases are all proved
pub phases : (s : Setup) → Remaining s → Phases s
phases s r = record {
  fetch_rests = fetch_rests s;
  fetch_marks = fetch_marks s;
  fetch_turns = fetch_turns s;
  fetch_answers = r.fetch_answers;
  fetch_issues = fetch_issues s;
  fetch_ports = r.fetch_ports;
  fetch_wires = fetch_wired s;
  fetch_shows = r.fetch_shows;
  fetch_takes = r.fetch_takes;
  fetch_quiet = fetch_quiet s;
  stage_turns = stage_turns s;
  stage_ports = r.stage_ports;
  stage_wires = stage_wires s;
  stage_quiet = stage_quiet s;
  arch_sees = r.arch_sees;
  arch_rests = arch_rests s;
  arch_ends = r.arch_ends;
  arch_fetches = r.arch_fetches;
  arch_accesses = r.arch_accesses;
  arch_quiet = r.arch_quiet;
  admits = r.admits;
}

-- the laws of the system
pub record Laws (s : Setup) : Type 0 where
  pub events : HasEvents s
  pub wires : HasWires s
  pub quiet : IsQuiet s
  pub fields : ShowsHistory s
  pub words : HoldsValues s

-- and with the phases each law of the system
pub laws : (s : Setup) → IsPlaced s → Remaining s → Laws s
laws s ok r =
    let ph : Phases s = phases s r in
    record {
      events = has_events s ph ok;
      wires = has_wires s ph ok;
      quiet = is_quiet s ph ok;
      fields = shows_history s ph ok;
      words = holds_values s ph ok;
    }
