use Rattle.office_counter.proofs.Steps.{step_extends}
use Rattle.office_counter.proofs.laws.steps_extend.Goals as goal

pub returns : goal.returns
returns c = step_extends
