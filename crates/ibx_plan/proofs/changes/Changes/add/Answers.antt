use Rattle.std.proofs.Common.{◌≡◌, true, List, sym, subst}
use Rattle.ibx_plan.specs.declared.entry.Change.{Change}
use Rattle.ibx_plan.specs.Plan.{follows}
use Rattle.ibx_plan.proofs.Halving.{add_rises}
use Rattle.ibx_plan.proofs.changes.Changes.add.Goals as goal

pub invariant_of-self : goal.invariant_of-self
invariant_of-self c =
    let follows_so_far =
    subst (λ (xs : List Change). follows xs c.args.change ≡ true) (sym c.self.view_is) c.requires in
    add_rises c.self.inside.list.items c.append.new.entries.items c.args.change c.args.line c.append.result
    c.self.invariant follows_so_far c.append.ensures.leaves c.append.ensures.refused
