use Rattle.yaml_subset.proofs.CountLemmas.{few_documents, few_lines}
use Rattle.yaml_subset.proofs.laws.lines_and_documents_are_few.Goals as goal

pub returns-clause-lines : goal.returns-clause-lines
returns-clause-lines c = few_lines

pub returns-clause-documents : goal.returns-clause-documents
returns-clause-documents c = few_documents
