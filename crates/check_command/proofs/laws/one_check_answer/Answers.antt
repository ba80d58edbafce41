use Rattle.check_command.proofs.CheckLemmas.{check-some, check-unique}
use Rattle.check_command.proofs.laws.one_check_answer.Goals as goal

pub returns-clause-one : goal.returns-clause-one
returns-clause-one c = check-unique

pub returns-clause-some : goal.returns-clause-some
returns-clause-some c = check-some c.each_text_has_a_verdict.ensures
