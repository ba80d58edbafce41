use Rattle.std.proofs.Common.{Result, List, subst}
use Rattle.std.specs.Prelude.{IfOk}
use Rattle.std.specs.List.{All}
use Rattle.object_terms.specs.declared.ReadError.{ReadError}
use Rattle.object_terms.specs.declared.Object.{Object}
use Rattle.object_terms.specs.Document.{IsOfDocument}
use Rattle.document_tests.proofs.documents.objects_of_document.Goals as goal

pub returns : goal.returns
returns g c =
    subst (λ (r : Result (List Object) ReadError). IfOk r (All IsOfDocument)) c.expect.ensures
    (c.read_object.ensures.origin c.requires)
