use Rattle.std.proofs.Common.{◌∙◌, ap, subst, sym}
use Rattle.ibx_prefetch.specs.Buffer.{head_of}
use Rattle.ibx_prefetch.specs.Parcels.{OffersFrom, ready_of}
use Rattle.ibx_prefetch.proofs.Order.{head_offers}
use Rattle.ibx_prefetch.proofs.Queue.{first_shown, second_shown}
use Rattle.ibx_prefetch.proofs.buffer.Prefetch.head.Goals as goal

pub returns-clause-first : goal.returns-clause-first
returns-clause-first c =
    let is = c.held_head.ensures ∙ ap head_of c.hear.ensures.fields in
    ap (λ h. ready_of h.first) is ∙ first_shown c.args.ans.now c.args.self.now

pub returns-clause-second : goal.returns-clause-second
returns-clause-second c =
    let is = c.held_head.ensures ∙ ap head_of c.hear.ensures.fields in
    ap (λ h. ready_of h.second) is ∙ second_shown c.args.ans.now c.args.self.now

pub returns-clause-order : goal.returns-clause-order
returns-clause-order c = λ words within i is.
    subst (OffersFrom words c.args.self.now.head_pc) (sym (c.held_head.ensures ∙ ap head_of c.hear.ensures.fields))
    (head_offers words c.args.ans.now c.args.self.now within i is)
