use Rattle.yaml_subset.proofs.FaultLemmas.{either, never_both, one_fault, first_of_text}
use Rattle.yaml_subset.proofs.laws.lines_are_a_text_or_have_one_fault.Goals as goal

pub returns-clause-either : goal.returns-clause-either
returns-clause-either c = either

pub returns-clause-never_both : goal.returns-clause-never_both
returns-clause-never_both c = never_both

pub returns-clause-one : goal.returns-clause-one
returns-clause-one c = one_fault

pub returns-clause-first : goal.returns-clause-first
returns-clause-first c = first_of_text
