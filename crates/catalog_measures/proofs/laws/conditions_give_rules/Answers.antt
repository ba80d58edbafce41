use Rattle.catalog_measures.proofs.ByName.{condition_rule}
use Rattle.catalog_measures.proofs.laws.conditions_give_rules.Goals as goal

pub returns-clause-rule : goal.returns-clause-rule
returns-clause-rule c = λ condition. (condition_rule condition).rule

pub returns-clause-lookback : goal.returns-clause-lookback
returns-clause-lookback c = λ condition. (condition_rule condition).looks_back
