use Rattle.catalog_measures.proofs.ByName.{rules}
use Rattle.catalog_measures.proofs.laws.rules_are_in_range.Goals as goal

pub returns-clause-rule : goal.returns-clause-rule
returns-clause-rule c = λ members policy rule e. (rules members policy rule e).rule

pub returns-clause-lookback : goal.returns-clause-lookback
returns-clause-lookback c = λ members policy rule e. (rules members policy rule e).looks_back
