use Rattle.window_sums.proofs.counts.counts_in.Given as goal

abbrev pub ghosts-read_counts : goal.ghosts-read_counts
ghosts-read_counts a = record { name = a.blank.name; parts = a.blank.parts }
