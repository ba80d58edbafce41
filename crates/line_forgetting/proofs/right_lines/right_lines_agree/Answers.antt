use Rattle.line_forgetting.proofs.RightLemmas.{agree-right, right-agree}
use Rattle.line_forgetting.proofs.right_lines.right_lines_agree.Goals as goal

pub returns-clause-agree : goal.returns-clause-agree
returns-clause-agree c = right-agree

pub returns-clause-right : goal.returns-clause-right
returns-clause-right c = agree-right
