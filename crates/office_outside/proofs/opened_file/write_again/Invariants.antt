use Rattle.std.proofs.Common.{◌-◌}
use Rattle.office_outside.proofs.opened_file.write_again.Given as goal

abbrev pub decreases-loop-at : goal.decreases-loop-at
decreases-loop-at l = l.end - l.at
