use Rattle.burn_core.proofs.BudgetLaws.{remaining-law}
use Rattle.burn_core.proofs.laws.remaining_and_burn_are_one.Goals as goal

pub returns : goal.returns
returns c = remaining-law
