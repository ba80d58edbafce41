use Rattle.line_forgetting.proofs.RightLemmas.{right-alike}
use Rattle.line_forgetting.proofs.right_lines.lines_stay_right_where_minutes_are_alike.Goals as goal

pub returns : goal.returns
returns c = right-alike
