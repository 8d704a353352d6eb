use Rattle.std.proofs.Common.{ℕ, ◌∙◌, ap}
use Rattle.ibx_lsu.specs.Turns.{granted_of}
use Rattle.ibx_lsu.proofs.Grants.{granted_after, granted_silent}
use Rattle.ibx_lsu.proofs.unit.Lsu.grant.Goals as goal

pub returns-clause-granted : goal.returns-clause-granted
returns-clause-granted c u want rsp driven old =
    ap (λ (state : ℕ). record { ls_state = state; ls_first = c.args.self.now.ls_first }) c.granted_state-self.ensures
    ∙ ap granted_of old ∙ granted_after u want rsp driven

pub returns-clause-silent : goal.returns-clause-silent
returns-clause-silent c u want rsp quiet = granted_silent u want rsp quiet
