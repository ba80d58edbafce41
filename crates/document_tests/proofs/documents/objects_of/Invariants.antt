use Rattle.std.specs.List.{All}
use Rattle.object_terms.specs.Document.{IsOfDocument}
use Rattle.document_tests.proofs.documents.objects_of.Given as goal

abbrev pub invariant-loop-node : goal.invariant-loop-node
invariant-loop-node g l = All IsOfDocument l.objects
