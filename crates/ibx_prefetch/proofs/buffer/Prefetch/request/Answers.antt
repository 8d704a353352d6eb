use Rattle.std.proofs.Common.{◌∙◌, ap, subst, sym}
use Rattle.ibx_prefetch.specs.Buffer.{request_of}
use Rattle.ibx_prefetch.specs.Parcels.{Issues}
use Rattle.ibx_prefetch.proofs.Requests.{request_issues}
use Rattle.ibx_prefetch.proofs.buffer.Prefetch.request.Goals as goal

pub returns-clause-rule : goal.returns-clause-rule
returns-clause-rule c =
    let is = c.next_request.ensures.request ∙ ap request_of c.hear.ensures.fields in
    subst (Issues c.args.ans.now c.args.redirect c.args.self.now) (sym is)
    (request_issues c.args.ans.now c.args.redirect c.args.self.now)
