-- The laws of the system: every statement of a cycle is proved.
use Rattle.ibx_time_invariant.proofs.Ties.{IsPlaced}
use Rattle.ibx_time_invariant.proofs.Results.{Laws, Remaining, laws}
use Rattle.ibx_time.specs.Settings.{Setup}
use Rattle.ibx_time_fetch.proofs.Answers.{fetch_answers}
use Rattle.ibx_time_fetch.proofs.Ports.{fetch_ports}
use Rattle.ibx_time_fetch.proofs.Shows.{fetch_shows}
use Rattle.ibx_time_fetch.proofs.Takes.{fetch_takes}
use Rattle.ibx_time_data.proofs.Ports.{stage_ports}
use Rattle.ibx_time_decode.proofs.Accesses.{arch_accesses}
use Rattle.ibx_time_decode.proofs.Admits.{admits}
use Rattle.ibx_time_retire.proofs.Units.{arch_ends}
use Rattle.ibx_time_decode.proofs.Fetches.{arch_fetches}
use Rattle.ibx_time_decode.proofs.Quiet.{arch_quiet}
use Rattle.ibx_time_decode.proofs.Sees.{arch_sees}

-- the statements that the join asks for
pub remaining : (s : Setup) → Remaining s
remaining s = record {
  fetch_answers = fetch_answers s;
  fetch_ports = fetch_ports s;
  fetch_shows = fetch_shows s;
  fetch_takes = fetch_takes s;
  stage_ports = stage_ports s;
  arch_sees = arch_sees s;
  arch_ends = arch_ends s;
  arch_fetches = arch_fetches s;
  arch_accesses = arch_accesses s;
  arch_quiet = arch_quiet s;
  admits = admits s;
}

-- the laws hold for every setup
pub system_laws : (s : Setup) → IsPlaced s → Laws s
system_laws s ok = laws s ok (remaining s)
