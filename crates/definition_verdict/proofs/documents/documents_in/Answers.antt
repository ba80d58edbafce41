use Rattle.std.proofs.Common.{subst}
use Rattle.yaml_terms.specs.NamedFault.{NamesFault}
use Rattle.definition_verdict.proofs.Few.{documents_are_few, line_is_short}
use Rattle.definition_verdict.proofs.documents.documents_in.Goals as goal

pub form_fault-requires : goal.form_fault-requires
form_fault-requires c =
    line_is_short c.args.text.now c.in-Err-Form.line c.in-Err-Form.which
    (subst (NamesFault c.args.text.now) c.in-Err-Form.field-0-is c.in-Err-Form.ensures.fault)

pub returns-in-Ok-clause-few : goal.returns-in-Ok-clause-few
returns-in-Ok-clause-few c =
    documents_are_few c.args.text.now c.in-Ok.nodes.items c.in-Ok.ensures.found
