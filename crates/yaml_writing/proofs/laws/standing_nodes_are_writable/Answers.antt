use Rattle.yaml_writing.proofs.StandingText.{standing, writable_inside, standing_inside}
use Rattle.yaml_writing.proofs.laws.standing_nodes_are_writable.Goals as goal

pub returns-clause-documents : goal.returns-clause-documents
returns-clause-documents c = standing

pub returns-clause-inside : goal.returns-clause-inside
returns-clause-inside c = writable_inside

pub returns-clause-at_any_depth : goal.returns-clause-at_any_depth
returns-clause-at_any_depth c = standing_inside
