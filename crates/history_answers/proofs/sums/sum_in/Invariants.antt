use Rattle.history_answers.proofs.sums.sum_in.Given as goal

abbrev pub ghosts-sum_of : goal.ghosts-sum_of
ghosts-sum_of a = record { name = a.blank.name; parts = a.blank.parts }
