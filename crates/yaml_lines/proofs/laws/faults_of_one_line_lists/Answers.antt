use Rattle.yaml_lines.proofs.FlowFaultsLaw.{fault_met, one_list_fault}
use Rattle.yaml_lines.proofs.laws.faults_of_one_line_lists.Goals as goal

pub returns-clause-met : goal.returns-clause-met
returns-clause-met c = fault_met

pub returns-clause-one : goal.returns-clause-one
returns-clause-one c = one_list_fault
