use Rattle.burn_core.proofs.BudgetLaws.{burn-law}
use Rattle.burn_core.proofs.laws.burn_times_allowance_is_error.Goals as goal

pub returns : goal.returns
returns c = burn-law
