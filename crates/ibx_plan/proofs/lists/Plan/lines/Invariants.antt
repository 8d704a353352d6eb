use Rattle.ibx_plan.proofs.lists.Plan.lines.Given as goal

abbrev pub ghosts-lines_over : goal.ghosts-lines_over
ghosts-lines_over a = record { name = a.blank.name; parts = a.blank.parts }
