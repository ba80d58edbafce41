use Rattle.catalog_changes.proofs.LegalLemmas.{begins_legally, each_may_follow}
use Rattle.catalog_changes.proofs.laws.a_history_begins_legally.Goals as goal

pub returns-clause-begins : goal.returns-clause-begins
returns-clause-begins c = begins_legally

pub returns-clause-each : goal.returns-clause-each
returns-clause-each c = each_may_follow
