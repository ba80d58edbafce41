use Rattle.alert_line.proofs.LineLemmas.{Agrees-marked}
use Rattle.alert_line.proofs.laws.marked_lines_agree.Goals as goal

pub returns : goal.returns
returns c = Agrees-marked
