use Rattle.ibx_top.proofs.PlanWords.{plan_words}
use Rattle.ibx_top.proofs.steps.plan_of_text.Goals as goal

pub returns-in-Ok-clause-words : goal.returns-in-Ok-clause-words
returns-in-Ok-clause-words c =
    plan_words c.args.bounds.now c.args.text.now c.in-Ok.plan c.in-Ok.ensures.value
