use Rattle.slo_catalog.proofs.HistoryLemmas.{no_changes, all_defined, removed_kept}
use Rattle.slo_catalog.proofs.laws.a_catalog_follows_its_history.Goals as goal

pub returns-clause-empty : goal.returns-clause-empty
returns-clause-empty c = no_changes

pub returns-clause-defined : goal.returns-clause-defined
returns-clause-defined c = λ changes os objects h. all_defined objects os changes h

pub returns-clause-removed : goal.returns-clause-removed
returns-clause-removed c = removed_kept
