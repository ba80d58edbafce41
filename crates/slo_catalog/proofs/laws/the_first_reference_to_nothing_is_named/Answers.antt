use Rattle.slo_catalog.proofs.LegalLemmas.{all_resolved}
use Rattle.slo_catalog.proofs.SearchLemmas.{found_among_all, resolved_in_none}
use Rattle.slo_catalog.proofs.laws.the_first_reference_to_nothing_is_named.Goals as goal

pub returns-clause-first : goal.returns-clause-first
returns-clause-first c = found_among_all

pub returns-clause-none : goal.returns-clause-none
returns-clause-none c members legal = resolved_in_none members members legal

pub returns-clause-legal : goal.returns-clause-legal
returns-clause-legal c members none = all_resolved members members none
