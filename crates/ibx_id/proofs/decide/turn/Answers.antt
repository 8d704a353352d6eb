use Rattle.ibx_id.proofs.Held.{real_fits}
use Rattle.ibx_id.proofs.decide.turn.Goals as goal

pub returns-in-0-clause-widths : goal.returns-in-0-clause-widths
returns-in-0-clause-widths c = λ next e w. real_fits c.args.st.now c.args.i.now c.real.result next c.real.ensures e w
