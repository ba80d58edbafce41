use Rattle.office_counter.proofs.Steps.{comes_to_its_outcome}
use Rattle.office_counter.proofs.laws.what_it_comes_to_is_the_outcome.Goals as goal

pub returns : goal.returns
returns c = comes_to_its_outcome
