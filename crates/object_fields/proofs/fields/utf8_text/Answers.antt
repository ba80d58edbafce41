use Rattle.object_fields.proofs.TextLemmas.{utf8_found, utf8_not_found}
use Rattle.object_fields.proofs.fields.utf8_text.Goals as goal

pub returns-in-Ok : goal.returns-in-Ok
returns-in-Ok c =
    utf8_found c.args.bytes.now c.in-Ok.text.now c.in-Ok.ensures.cases.0 c.in-Ok.ensures.cases.1

pub returns-in-Err : goal.returns-in-Err
returns-in-Err c = utf8_not_found c.args.bytes.now c.in-Err.ensures.cases.0
