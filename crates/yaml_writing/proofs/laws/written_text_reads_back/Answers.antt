use Rattle.yaml_writing.proofs.Writing.{reads_back, stands_alone, told_apart}
use Rattle.yaml_writing.proofs.laws.written_text_reads_back.Goals as goal

pub returns-clause-stands : goal.returns-clause-stands
returns-clause-stands c = reads_back

pub returns-clause-alone : goal.returns-clause-alone
returns-clause-alone c = stands_alone

pub returns-clause-told_apart : goal.returns-clause-told_apart
returns-clause-told_apart c = told_apart
