use Rattle.definition_verdict.proofs.VerdictLemmas.{no_refusal, one_definition, one_refusal}
use Rattle.definition_verdict.proofs.laws.one_verdict.Goals as goal

pub returns-clause-refusal : goal.returns-clause-refusal
returns-clause-refusal c = one_refusal

pub returns-clause-definition : goal.returns-clause-definition
returns-clause-definition c = one_definition

pub returns-clause-either : goal.returns-clause-either
returns-clause-either c = no_refusal
