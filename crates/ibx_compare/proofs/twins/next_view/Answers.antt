use Rattle.std.proofs.Common.{sym, subst}
use Rattle.ibx_compare.specs.Twins.{HasLine}
use Rattle.ibx_compare.proofs.Printed.{has_line}
use Rattle.ibx_compare.proofs.twins.next_view.Goals as goal

pub returns-clause-line : goal.returns-clause-line
returns-clause-line c =
    subst HasLine (sym c.view.ensures) (has_line c.in_ok-event.event c.in_ok-event.ensures.printable)
