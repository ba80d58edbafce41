use Rattle.line_forgetting.proofs.NearLemmas.{agree-again}
use Rattle.line_forgetting.proofs.laws.lines_agree_again.Goals as goal

pub returns : goal.returns
returns c = agree-again
