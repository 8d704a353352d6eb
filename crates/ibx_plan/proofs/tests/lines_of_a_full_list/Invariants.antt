use Rattle.ibx_plan.proofs.tests.lines_of_a_full_list.Given as goal

abbrev pub ghosts-counted : goal.ghosts-counted
ghosts-counted g a = record { name = a.blank.name; parts = a.blank.parts }
