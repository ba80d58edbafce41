use Rattle.kept_lines.proofs.kept.KeptLines.intervals.Given as goal

abbrev pub ghosts-spans_of_line : goal.ghosts-spans_of_line
ghosts-spans_of_line a = record { name = a.blank.name; parts = a.blank.parts }
