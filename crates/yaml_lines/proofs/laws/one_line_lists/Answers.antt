use Rattle.yaml_lines.proofs.FlowListLemmas.{list-words, list-bytes, list-taken, list-only}
use Rattle.yaml_lines.proofs.laws.one_line_lists.Goals as goal

pub returns-clause-read : goal.returns-clause-read
returns-clause-read c = λ line items. (list-words line items, list-bytes line items)

pub returns-clause-taken : goal.returns-clause-taken
returns-clause-taken c = list-taken

pub returns-clause-only : goal.returns-clause-only
returns-clause-only c = list-only
