use Rattle.line_forgetting.proofs.RightLemmas.{right-over-exclusions}
use Rattle.line_forgetting.proofs.right_lines.lines_stay_right_over_exclusions.Goals as goal

pub returns : goal.returns
returns c = right-over-exclusions
