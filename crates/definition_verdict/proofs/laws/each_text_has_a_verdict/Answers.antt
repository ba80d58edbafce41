use Rattle.definition_verdict.proofs.SomeLemmas.{has_verdict}
use Rattle.definition_verdict.proofs.laws.each_text_has_a_verdict.Goals as goal

pub returns : goal.returns
returns c = has_verdict
