use Rattle.std.proofs.Common.{◌≡◌, Ok, Err, ap, rules, subst}
use Rattle.std.specs.List.{All}
use Rattle.yaml_terms.specs.NodeView.{nodes_view}
use Rattle.object_terms.specs.Document.{IsOfDocument}
use Rattle.record_form.specs.declared.Refusal.{Refusal}
use Rattle.record_form.specs.declared.Refusal.TheVariants.{Yaml}
use Rattle.definition_verdict.specs.declared.definition.VerdictError.TheVariants.{Refused}
use Rattle.office_history.specs.Documents.{objects_in}
use Rattle.office_history.specs.Definitions.{IsRefused, defined_over, known, no_text}
use Rattle.definition_verdict.proofs.DocumentLemmas.{all_of_documents}
use Rattle.definition_verdict.proofs.VerdictLemmas.{refused_documents, refused_objects}
use Rattle.definition_verdict.proofs.VerdictLemmas.{same_refused}
use Rattle.definition_verdict.proofs.definition.judge_definition.Goals as goal

-- the text stands for no documents
pub returns-in-Err-Fault-clause-refused : goal.returns-in-Err-Fault-clause-refused
returns-in-Err-Fault-clause-refused c = λ refusal e.
    let office = known c.args.catalog.now c.args.zones.now c.args.book.now.rows c.args.horizon in
    let P : Refusal → Type 0 = λ r. IsRefused office c.args.text.now r in
    let told = rw c.in-Err-Fault.field-0-is at e in
    let first = Yaml c.in-Err-Fault.line c.in-Err-Fault.word in
    let is : first ≡ refusal = same_refused first refusal told in
    let fault = c.in-Err-Fault.ensures.fault c.in-Err-Fault.line c.in-Err-Fault.word
    (ap Err c.in-Err-Fault.field-0-is) in
    subst P is (no_text fault)

-- a document stands for no objects
pub returns-in-Err-Refused-clause-refused : goal.returns-in-Err-Refused-clause-refused
returns-in-Err-Refused-clause-refused c = λ refusal e.
    let office = known c.args.catalog.now c.args.zones.now c.args.book.now.rows c.args.horizon in
    let P : Refusal → Type 0 = λ r. IsRefused office c.args.text.now r in
    let nodes = nodes_view c.in-Ok.nodes.items in
    let first = c.in-Err-Refused.refusal in
    let told = rw c.in-Err-Refused.field-0-is at e in
    let is : first ≡ refusal = same_refused first refusal told in
    let broken = c.in-Err-Refused.ensures.refused first (ap Err c.in-Err-Refused.field-0-is) in
    let whole : objects_in nodes ≡ Err first = search (rules, broken) in
    subst P is (refused_documents office c.args.text.now nodes first c.in-Ok.ensures.ok whole)

-- objects of documents alone are judged
pub judge_objects-requires-clause-documents : goal.judge_objects-requires-clause-documents
judge_objects-requires-clause-documents c =
    let nodes = nodes_view c.in-Ok.nodes.items in
    let objects = c.in-Ok-objects_in.objects in
    let whole : objects_in nodes ≡ Ok objects = search rules in
    let all : All IsOfDocument objects =
    all_of_documents nodes objects c.in-Ok.ensures.writable whole in
    search (rules, all)

-- the objects can't be defined
pub returns-in-Err-clause-refused : goal.returns-in-Err-clause-refused
returns-in-Err-clause-refused c = λ refusal e.
    let office = known c.args.catalog.now c.args.zones.now c.args.book.now.rows c.args.horizon in
    let nodes = nodes_view c.in-Ok.nodes.items in
    let objects = c.in-Ok-objects_in.objects in
    let whole : objects_in nodes ≡ Ok objects = search rules in
    let is : c.in-Err.error ≡ Refused refusal = cc e in
    let why : defined_over office objects ≡ Err refusal =
    c.in-Err.ensures.refused refusal (ap Err is) in
    refused_objects office c.args.text.now nodes objects refusal c.in-Ok.ensures.ok whole why
