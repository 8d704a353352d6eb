use Rattle.std.proofs.Common.{sym, subst}
use Rattle.ibx_compare.specs.Twins.{HasLine}
use Rattle.ibx_compare.proofs.Printed.{has_line}
use Rattle.ibx_compare.proofs.time_twins.next_seen.Goals as goal

pub observe-seen-requires : goal.observe-seen-requires
observe-seen-requires c = (has_line c.in_ok-event.event c.in_ok-event.ensures.printable).halfword

pub returns-clause-line : goal.returns-clause-line
returns-clause-line c =
    subst HasLine (sym c.view.ensures) (has_line c.in_ok-event.event c.in_ok-event.ensures.printable)
