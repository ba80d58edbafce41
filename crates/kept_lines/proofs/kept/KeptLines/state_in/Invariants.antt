use Rattle.kept_lines.proofs.kept.KeptLines.state_in.Given as goal

abbrev pub ghosts-state_of_line : goal.ghosts-state_of_line
ghosts-state_of_line a = record { name = a.blank.name; parts = a.blank.parts }
